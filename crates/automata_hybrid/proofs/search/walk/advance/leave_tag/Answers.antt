use Rattle.std.proofs.Common.{◌<◌, sym, subst, refl, arith}
use Rattle.automata_hybrid.proofs.Words.{class_in, Machine}
use Rattle.automata_hybrid.proofs.Fast.Runs.{peeked_at, no_tag}
use Rattle.automata_hybrid.proofs.Searches.Traces.{pass_is_trace}
use Rattle.automata_hybrid.proofs.search.walk.advance.leave_tag.Goals as goal

pub returns-then-has_only-2-clause-followed : goal.returns-then-has_only-2-clause-followed
returns-then-has_only-2-clause-followed c =
    let only = c.if-has_only-2.ensures.0 refl in
    let peeked =
    peeked_at c.args.way c.args.dfa.now c.args.cache.now.store c.args.input.now c.args.start c.args.from
    c.known_step-next.result c.byte_at.result
    (omega (arith, c.last_place.ensures.place)) c.byte_at.ensures c.known_step-next.ensures.value
    (subst (λ (m : Machine). class_in c.args.dfa.now.classes c.byte_at.result < m.stride) (sym c.requires.sound.of)
    c.known_step-next.ensures.below)
    c.known_step-next.ensures.quit (λ clean low q named. (c.known_step-next.ensures.answer low).named clean q named)
    (record { trace = pass_is_trace c.args.way c.args.dfa.now c.args.input.now; named = c.requires.named }) in
    ((peeked (omega (arith, only.below))).run 0 no_tag only).followed

pub returns-clause-peeked : goal.returns-clause-peeked
returns-clause-peeked c =
    peeked_at c.args.way c.args.dfa.now c.args.cache.now.store c.args.input.now c.args.start c.args.from
    c.known_step-next.result c.byte_at.result
    (omega (arith, c.last_place.ensures.place)) c.byte_at.ensures c.known_step-next.ensures.value
    (subst (λ (m : Machine). class_in c.args.dfa.now.classes c.byte_at.result < m.stride) (sym c.requires.sound.of)
    c.known_step-next.ensures.below)
    c.known_step-next.ensures.quit (λ clean low q named. (c.known_step-next.ensures.answer low).named clean q named)
    (record { trace = pass_is_trace c.args.way c.args.dfa.now c.args.input.now; named = c.requires.named })
