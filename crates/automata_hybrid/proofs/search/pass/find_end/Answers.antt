use Rattle.std.proofs.Common.{ℕ, ◌≡◌, ◌∙◌, ◌-◌, sym, ap, subst}
use Rattle.automata_hybrid.proofs.Words.{Direction, given_up_offset, known_of, Leads, match_kind_of, next, offset_in}
use Rattle.automata_hybrid.proofs.Words.{Powerset, Rows, state_in, successor, tape_in, unit_offset}
use Rattle.automata_hybrid.proofs.Searches.Directions.{units_in}
use Rattle.automata_hybrid.proofs.Searches.PassContracts.{last_answer}
use Rattle.automata_hybrid.proofs.Searches.Goes.{ended_here, left_here, taken_here}
use Rattle.automata_hybrid.proofs.Storage.Sound.{sound_searched, sound_still}
use Rattle.automata_hybrid.proofs.search.pass.find_end.Goals as goal
use Rattle.automata_hybrid.proofs.search.pass.find_end.Goals.{After-unit_at-unit}

-- the unit is the one that follows the span
unit :
    (c : After-unit_at-unit)
    → next (tape_in c.args.way c.args.input.now) (c.args.input.now.end - c.args.input.now.start) ≡ c.unit_at-unit.result
unit c =
    sym (c.unit_at-unit.ensures ∙ ap (next (tape_in c.args.way c.args.input.now)) c.last_place-last.ensures.place)

-- the "gave up" error of the step on it has this offset
given :
    (c : After-unit_at-unit)
    → given_up_offset c.args.way c.args.input.now (c.args.input.now.end - c.args.input.now.start)
    ≡ c.span_offset-at.result
given c =
    sym (c.span_offset-at.ensures.value
    ∙ ap (given_up_offset c.args.way c.args.input.now) c.last_place-last.ensures.place)

pub read-requires-clause-valid : goal.read-requires-clause-valid
read-requires-clause-valid c = (_, c.requires.at.at.named)

pub found_at-requires-clause-leads : goal.found_at-requires-clause-leads
found_at-requires-clause-leads c =
    let q : Powerset =
    state_in c.args.way c.args.dfa.now c.args.input.now (c.args.input.now.end - c.args.input.now.start) in
    let after : Powerset =
    successor c.args.dfa.now.nfa (match_kind_of c.args.dfa.now.config) q c.unit_at-unit.result in (
      after,
      subst (λ (t : Rows). Leads t c.in-Ok.next after) (sym c.end_search.ensures.table)
          (c.in-Ok.ensures.read.answer.named q c.requires.at.at.named),
    )

pub returns-clause-last : goal.returns-clause-last
returns-clause-last c =
    let d : Direction = c.args.way in
    let at = (goal.at.returns-clause-last c).After-unit_at-unit in
    let k : ℕ = c.args.input.now.end - c.args.input.now.start in
    let place : c.place_offset.result ≡ offset_in d c.args.input.now k =
    c.place_offset.ensures.value ∙ ap (offset_in d c.args.input.now) c.last_place-last.ensures.place in
    record {
      answer =
          last_answer d c.args.dfa.now c.args.input.now k c.args.id c.unit_at-unit.result c.args.found
          c.args.cache.now c.read.new.cache c.requires.at (unit at) c.in-Ok.next c.found_at.result
          c.in-Ok.ensures.read.answer c.place_offset.result place
          (λ q l. c.found_at.ensures q
          (subst (λ (t : Rows). Leads t c.in-Ok.next q) (sym c.end_search.ensures.table) l))
          (units_in d c.args.input.now c.requires.at.undone c.last_place-last.ensures.valid.within.1);
      mid = known_of c.read.new.cache;
      read =
          taken_here d c.args.dfa.now c.args.input.now k c.args.id c.span_offset-at.result c.unit_at-unit.result
          c.args.cache.now c.read.new.cache (unit at) (given at) c.requires.at.at.named c.in-Ok.ensures.read.taken;
      ended =
          ended_here d c.args.input.now k c.span_offset-at.result c.read.new.cache c.end_search.new.self (given at)
          c.end_search.ensures.value;
    }

pub returns-clause-alive : goal.returns-clause-alive
returns-clause-alive c = c.in-Ok.ensures.read.alive

pub returns-in-Err-clause-alive : goal.returns-in-Err-clause-alive
returns-in-Err-clause-alive c = c.in-Err.ensures.read.alive

pub returns-in-Err-clause-last : goal.returns-in-Err-clause-last
returns-in-Err-clause-last c =
    let d : Direction = c.args.way in
    let at = (goal.at.returns-in-Err-clause-last c).After-unit_at-unit in
    let k : ℕ = c.args.input.now.end - c.args.input.now.start in
    let quits : c.unit_offset.result ≡ unit_offset d c.args.input.now k =
    c.unit_offset.ensures ∙ ap (unit_offset d c.args.input.now) c.last_place-last.ensures.place in
    left_here d c.args.dfa.now c.args.input.now k c.args.id c.span_offset-at.result c.unit_at-unit.result
    c.args.cache.now c.read.new.cache (unit at) (given at) c.requires.at.at.named c.unit_offset.result c.in-Err.error
    (sym quits) c.in-Err.ensures.read.fails

pub returns-clause-sound : goal.returns-clause-sound
returns-clause-sound c =
    sound_still c.end_search.ensures.value (sound_searched _ c.in-Ok.ensures.sound)

pub found_at-requires-clause-sound : goal.found_at-requires-clause-sound
found_at-requires-clause-sound c =
    sound_still c.end_search.ensures.value (sound_searched _ c.in-Ok.ensures.sound)
