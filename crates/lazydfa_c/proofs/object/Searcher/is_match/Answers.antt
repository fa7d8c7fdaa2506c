use Rattle.std.proofs.Common.{◌∙◌, subst, sym, true≢false}
use Rattle.std.specs.Prelude.{IsAscii, MatchBool}
use Rattle.std.specs.Str.{IsNotAscii}
use Rattle.lazydfa_c.specs.Words.{AfterFailure, ByDfas, BySimulation, SimulatesTest}
use Rattle.lazydfa_c.proofs.Simulating.{test_keeps}
use Rattle.lazydfa_c.proofs.object.Searcher.is_match.Goals as goal

pub returns-then-not-can_test : goal.returns-then-not-can_test
returns-then-not-can_test c =
    ByDfas c.test_by_dfas.ensures
    (λ can. absurd (true≢false (sym can ∙ sym c.can_test.ensures ∙ c.if-not-can_test.true)))

pub returns-then-not-has_ascii : goal.returns-then-not-has_ascii
returns-then-not-has_ascii c =
    let hay = c.args.input.now.haystack in
    BySimulation (sym c.can_test.ensures ∙ c.if-not-can_test.false)
    (subst (λ b. MatchBool b (IsAscii hay) (IsNotAscii hay)) c.if-not-has_ascii.true c.has_ascii.ensures)
    c.test_by_programs.ensures.means c.test_by_programs.ensures.keeps

pub returns-then-is_failure : goal.returns-then-is_failure
returns-then-is_failure c =
    let hay = c.args.input.now.haystack in let asked = c.test_by_programs-then-is_failure in
    AfterFailure (sym c.can_test.ensures ∙ c.if-not-can_test.false)
    (subst (λ b. MatchBool b (IsAscii hay) (IsNotAscii hay)) c.if-not-has_ascii.false c.has_ascii.ensures)
    tt c.test_by_dfas-status.new.self c.test_by_dfas-status.result c.test_by_dfas-status.ensures
    (c.is_failure.ensures.0 c.if-is_failure.true)
    (subst (λ shared. SimulatesTest c.args.input.now shared asked.result)
    (test_keeps _ _ _ _ c.test_by_dfas-status.ensures) asked.ensures.means)
    asked.ensures.keeps

pub returns : goal.returns
returns c =
    let hay = c.args.input.now.haystack in
    ByDfas c.test_by_dfas-status.ensures
    (λ can. (
      subst (λ b. MatchBool b (IsAscii hay) (IsNotAscii hay)) c.if-not-has_ascii.false c.has_ascii.ensures,
      λ fails. absurd (true≢false (sym (c.is_failure.ensures.1 fails) ∙ c.if-is_failure.false)),
    ))
