use Rattle.std.proofs.Common.{◌≡◌, false, true, refl, sym, ap, subst}
use Rattle.automata_hybrid.proofs.Words.{is_quit, known_of, Names, Powerset, quits_on}
use Rattle.automata_hybrid.specs.Private.Searches.Units.{IsRead}
use Rattle.automata_hybrid.proofs.Searches.Reads.{at_err, at_quit, unit_left, unit_quits, unit_read}
use Rattle.automata_hybrid.proofs.Searches.PassState.{false_true}
use Rattle.automata_hybrid.proofs.Searches.KnownPasses.{clean_unit}
use Rattle.automata_hybrid.proofs.Storage.Sound.{sound_searched, sound_still}
use Rattle.automata_hybrid.proofs.search.read_peeked.Goals as goal

pub returns-in_err-next-clause-read : goal.returns-in_err-next-clause-read
returns-in_err-next-clause-read c =
    at_err c.from_residual.result _
    (IsRead c.args.dfa.now c.args.id c.args.unit c.args.quit_at c.args.at c.args.cache.now c.step.new.cache)
    c.from_residual.ensures.1
    (unit_left c.args.dfa.now c.args.id c.args.unit c.args.at c.args.cache.now
    (c.requires.sound.table.alive c.args.id)
    c.args.quit_at c.step.new.cache c.in_err-next.field-0.0 c.in_err-next.ensures.step)

pub returns-in-None-clause-read : goal.returns-in-None-clause-read
returns-in-None-clause-read c =
    let clean : quits_on c.args.dfa.now c.args.unit ≡ false =
    subst (λ u. quits_on c.args.dfa.now u ≡ false) (sym c.in-None.is) refl in
    unit_read c.args.dfa.now c.args.id c.args.unit c.args.at c.args.cache.now
    (c.requires.sound.table.alive c.args.id)
    c.in_ok-next.next c.step.new.cache (record { clean = clean; named = c.in_ok-next.ensures.step.answer.named clean })
    c.in_ok-next.ensures.step

pub returns-then-is_quit-clause-read : goal.returns-then-is_quit-clause-read
returns-then-is_quit-clause-read c =
    let quits : (q : Powerset) → Names c.args.cache.now.store.table c.args.id q
    → is_quit c.args.dfa.now.quits c.in-Some.byte ≡ true =
    at_quit c.args.dfa.now c.args.id c.args.unit c.in-Some.byte c.args.cache.now c.step.new.cache c.in_ok-next.next
    c.in-Some.is c.in_ok-next.ensures.step.answer c.in_ok-next.ensures.sound.store.small
    (λ p. c.in_ok-next.ensures.sound.table.low c.in_ok-next.next p) (c.if-is_quit.ensures.0 refl) in
    unit_quits c.args.dfa.now c.args.id c.args.unit c.args.at c.args.cache.now
    (c.requires.sound.table.alive c.args.id) c.args.quit_at c.in-Some.byte c.in_ok-next.next c.step.new.cache
    c.end_search.new.self c.quit.result c.in-Some.is (quits c.requires.valid.0 c.requires.valid.1) c.quit.ensures
    c.in_ok-next.ensures.step (ap known_of c.end_search.ensures.value)

pub returns-else-is_quit-clause-read : goal.returns-else-is_quit-clause-read
returns-else-is_quit-clause-read c =
    let clean : quits_on c.args.dfa.now c.args.unit ≡ false =
    clean_unit c.args.dfa.now c.step.new.cache.store.table c.in_ok-next.next c.args.unit c.in_ok-next.ensures.sound.of
    c.in_ok-next.ensures.sound.store.small
    (λ b. false_true (c.if-is_quit.ensures.1 b))
    (c.in_ok-next.ensures.step.answer.quit
    (c.requires.sound.table.low c.args.id c.requires.valid.0 c.requires.valid.1)) in
    unit_read c.args.dfa.now c.args.id c.args.unit c.args.at c.args.cache.now
    (c.requires.sound.table.alive c.args.id)
    c.in_ok-next.next c.step.new.cache (record { clean = clean; named = c.in_ok-next.ensures.step.answer.named clean })
    c.in_ok-next.ensures.step

pub returns-then-is_quit-clause-sound : goal.returns-then-is_quit-clause-sound
returns-then-is_quit-clause-sound c =
    sound_still c.end_search.ensures.value (sound_searched _ c.in_ok-next.ensures.sound)
