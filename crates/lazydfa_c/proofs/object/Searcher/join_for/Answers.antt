use Rattle.std.proofs.Common.{◌∙◌, ap, false, replicate, subst, sym, true≢false}
use Rattle.std.specs.Prelude.{IsAscii, MatchBool}
use Rattle.std.specs.Str.{IsNotAscii}
use Rattle.lazydfa_c.specs.Sets.{JoinsAfterFailure, JoinsByDfa, JoinsBySimulation, SimulatesSet}
use Rattle.lazydfa_c.proofs.object.Searcher.join_for.Goals as goal

pub returns-then-not-can_list : goal.returns-then-not-can_list
returns-then-not-can_list c =
    JoinsByDfa c.join.ensures
    (λ can. absurd (true≢false (sym can ∙ sym c.can_list.ensures ∙ c.if-not-can_list.true)))

pub returns-then-not-has_ascii : goal.returns-then-not-has_ascii
returns-then-not-has_ascii c =
    let hay = c.args.input.now.haystack in
    JoinsBySimulation (sym c.can_list.ensures ∙ c.if-not-can_list.false)
    (subst (λ b. MatchBool b (IsAscii hay) (IsNotAscii hay)) c.if-not-has_ascii.true c.has_ascii.ensures)
    (subst (λ set. SimulatesSet set c.args.input.now c.args.self.now c.join_by_programs.new.self
    c.join_by_programs.result) (sym c.requires) c.join_by_programs.ensures)

pub returns-then-is_failure : goal.returns-then-is_failure
returns-then-is_failure c =
    let hay = c.args.input.now.haystack in let asked = c.join_by_programs-then-is_failure in
    JoinsAfterFailure (sym c.can_list.ensures ∙ c.if-not-can_list.false)
    (subst (λ b. MatchBool b (IsAscii hay) (IsNotAscii hay)) c.if-not-has_ascii.false c.has_ascii.ensures)
    c.join-status.new.self c.join-status.result c.join-status.ensures
    (c.is_failure.ensures.0 c.if-is_failure.true)
    (subst (λ set. SimulatesSet set c.args.input.now c.join-status.new.self asked.new.self asked.result)
    (ap (λ n. replicate n false) c.join-status.ensures.returned.capacity ∙ sym c.requires) asked.ensures)

pub returns : goal.returns
returns c =
    let hay = c.args.input.now.haystack in
    JoinsByDfa c.join-status.ensures
    (λ can. (
      subst (λ b. MatchBool b (IsAscii hay) (IsNotAscii hay)) c.if-not-has_ascii.false c.has_ascii.ensures,
      λ fails. absurd (true≢false (sym (c.is_failure.ensures.1 fails) ∙ c.if-is_failure.false)),
    ))
