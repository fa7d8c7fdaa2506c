use Rattle.std.proofs.Common.{ℕ, ◌∙◌, ◌<◌, ◌≤◌, ◌^◌, length, subst, sym, refl, arith}
use Rattle.std.proofs.lemmas.Grind.{common_steps}
use Rattle.automata_hybrid.proofs.Words.{Direction, tape_in}
use Rattle.automata_hybrid.specs.Private.Searches.PassContracts.{IsKnownUpto, MayContinue}
use Rattle.automata_hybrid.proofs.Searches.Directions.{units_in}
use Rattle.automata_hybrid.proofs.Searches.KnownPasses.{known_dead, known_first, known_last, known_leads}
use Rattle.automata_hybrid.proofs.Searches.PassState.{false_true, some_is}
use Rattle.automata_hybrid.proofs.Steps.Ids.{dead_clear}
use Rattle.automata_hybrid.proofs.Searches.Traces.{pass_is_trace}
use Rattle.automata_hybrid.proofs.search.pass.known_pass.Goals as goal
use Rattle.automata_hybrid.proofs.search.pass.known_pass.Goals.{After-run_to_match-run}

-- cached transitions led the pass there
upto :
    (c : After-run_to_match-run)
    → IsKnownUpto c.args.way c.args.dfa.now c.args.cache.now.store c.args.input.now c.run_to_match-run.result.at
    c.run_to_match-run.result.id c.run_to_match-run.result.found
upto c = record {
  within = c.run_to_match-run.ensures.runs.run.within;
  at = record { undone = c.requires.at.undone; may = c.requires.at.may; at = c.run_to_match-run.ensures.runs.at };
  known = λ j below. c.run_to_match-run.ensures.runs.run.known j (omega arith) below;
}

-- no unit is read after the last place of the span
few :
    (c : After-run_to_match-run)
    → c.run_to_match-run.result.at ≤ length (tape_in c.args.way c.args.input.now).bytes
few c =
    let u = units_in c.args.way c.args.input.now c.requires.at.undone c.last_place-last.ensures.valid.within.1 in
    omega (arith, u, (upto c).within)

-- the rest of the pass can continue there
left :
    (c : After-run_to_match-run)
    → MayContinue c.args.way c.args.dfa.now c.args.cache.now.store c.args.input.now c.run_to_match-run.result.at
    c.run_to_match-run.result.id
left c = record {
  found = c.run_to_match-run.result.found;
  upto = upto c;
  there = c.run_to_match-run.ensures.there refl refl;
}

pub found_at-found-requires-clause-leads : goal.found_at-found-requires-clause-leads
found_at-found-requires-clause-leads c =
    let d : Direction = c.args.way in
    let k : ℕ = c.run_to_match-run.result.at in
    let low : c.known_next-next.result < 2 ^ 31 = grind (arith, common_steps, c.if-is_unknown.ensures.size) in
    let past = (goal.at.found_at-found-requires-clause-leads c).After-run_to_match-run in
    let upto = upto past in
    let few = few past in (
      _,
      known_leads d c.args.dfa.now c.args.input.now k c.run_to_match-run.result.id c.args.cache.now
          c.run_to_match-run.result.found
          c.known_next-next.result c.requires.sound.of c.requires.sound.table upto few
          (subst (λ n. n < 2 ^ 31) (c.known_next-next.ensures.value low) low) (c.known_next-next.ensures.answer low)
          (c.known_next-next.ensures.below low) (λ b. false_true (c.if-is_quit.ensures.1 b)),
    )

pub returns-then-is_dead-clause-stop : goal.returns-then-is_dead-clause-stop
returns-then-is_dead-clause-stop c =
    let d : Direction = c.args.way in
    let k : ℕ = c.run_to_match-run.result.at in
    let low : c.known_next-next.result < 2 ^ 31 = grind (arith, common_steps, c.if-is_unknown.ensures.size) in
    let past = (goal.at.returns-then-is_dead-clause-stop c).After-run_to_match-run in
    let upto = upto past in
    let few = few past in
    let end =
    known_dead d c.args.dfa.now c.args.input.now k c.run_to_match-run.result.id c.args.cache.now
    c.run_to_match-run.result.found
    c.known_next-next.result c.requires.sound.of c.requires.sound.table upto few
    (subst (λ n. n < 2 ^ 31) (c.known_next-next.ensures.value low) low) (c.known_next-next.ensures.answer low)
    (c.known_next-next.ensures.below low)
    (dead_clear c.args.cache.now c.known_next-next.result (c.known_next-next.ensures.answer low).row
    (c.requires.sound.table.low c.known_next-next.result) c.requires.sound.store.small
    (c.if-is_dead.ensures.0 refl)) (c.if-is_dead.ensures.0 refl) in
    (c.run_to_match-run.result.id, end)

pub returns-then-run-last-clause-stop : goal.returns-then-run-last-clause-stop
returns-then-run-last-clause-stop c =
    let d : Direction = c.args.way in
    let k : ℕ = c.run_to_match-run.result.at in
    let low : c.known_next-next.result < 2 ^ 31 = grind (arith, common_steps, c.if-is_unknown.ensures.size) in
    let past = (goal.at.returns-then-run-last-clause-stop c).After-run_to_match-run in
    let upto = upto past in
    let few = few past in
    let end =
    known_last d c.args.dfa.now c.args.input.now k c.run_to_match-run.result.id c.args.cache.now
    c.run_to_match-run.result.found
    c.known_next-next.result c.requires.sound.of c.requires.sound.table upto few
    (subst (λ n. n < 2 ^ 31) (c.known_next-next.ensures.value low) low) (c.known_next-next.ensures.answer low)
    (c.known_next-next.ensures.below low) (λ b. false_true (c.if-is_quit.ensures.1 b)) c.found_at-found.result
    c.place_offset-offset.result c.place_offset-offset.ensures.value c.found_at-found.ensures
    (let u = units_in d c.args.input.now c.requires.at.undone c.last_place-last.ensures.valid.within.1 in
    omega (arith, u, upto.within, c.if-run-last.true, c.last_place-last.ensures.place)) in
    (c.run_to_match-run.result.id, end)

pub returns-then-is_some-clause-stop : goal.returns-then-is_some-clause-stop
returns-then-is_some-clause-stop c =
    let d : Direction = c.args.way in
    let k : ℕ = c.run_to_match-run.result.at in
    let low : c.known_next-next.result < 2 ^ 31 = grind (arith, common_steps, c.if-is_unknown.ensures.size) in
    let past = (goal.at.returns-then-is_some-clause-stop c).After-run_to_match-run in
    let upto = upto past in
    let few = few past in
    let end =
    known_first d c.args.dfa.now c.args.input.now k c.run_to_match-run.result.id c.args.cache.now
    c.run_to_match-run.result.found
    c.known_next-next.result c.requires.sound.of c.requires.sound.table upto few
    (subst (λ n. n < 2 ^ 31) (c.known_next-next.ensures.value low) low) (c.known_next-next.ensures.answer low)
    (c.known_next-next.ensures.below low) (λ b. false_true (c.if-is_quit.ensures.1 b)) c.found_at-found.result
    c.place_offset-offset.result c.place_offset-offset.ensures.value c.found_at-found.ensures
    (sym c.get_earliest.ensures ∙ c.if-get_earliest.true) (some_is c.found_at-found.result c.if-is_some.ensures) in
    (c.run_to_match-run.result.id, end)

pub returns-clause-stop : goal.returns-clause-stop
returns-clause-stop c = left (goal.at.returns-clause-stop c).After-run_to_match-run

pub returns-then-is_unknown-clause-stop : goal.returns-then-is_unknown-clause-stop
returns-then-is_unknown-clause-stop c = left (goal.at.returns-then-is_unknown-clause-stop c).After-run_to_match-run

pub returns-then-is_quit-clause-stop : goal.returns-then-is_quit-clause-stop
returns-then-is_quit-clause-stop c = left (goal.at.returns-then-is_quit-clause-stop c).After-run_to_match-run

pub run_to_match-run-requires : goal.run_to_match-run-requires
run_to_match-run-requires c =
    let trace = pass_is_trace c.args.way c.args.dfa.now c.args.input.now in (
      c.requires.sound,
      (
        record {
          on = record { trace = trace; named = c.requires.at.at.named };
          undone = c.requires.at.undone;
          within = omega arith;
          upto = omega (arith, c.min.ensures, c.last_place-last.ensures.place);
        },
        c.requires.at.at,
      ),
    )
