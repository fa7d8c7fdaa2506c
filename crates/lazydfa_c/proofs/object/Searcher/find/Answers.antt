use Rattle.std.proofs.Common.{◌∙◌, subst, sym, true≢false}
use Rattle.std.specs.Prelude.{IsAscii, MatchBool}
use Rattle.std.specs.Str.{IsNotAscii}
use Rattle.lazydfa_c.specs.Words.{AfterFailure, ByDfas, BySimulation, SimulatesMatch}
use Rattle.lazydfa_c.proofs.Simulating.{match_keeps}
use Rattle.lazydfa_c.proofs.object.Searcher.find.Goals as goal

pub returns-then-not-can_simulate-clause-found : goal.returns-then-not-can_simulate-clause-found
returns-then-not-can_simulate-clause-found c =
    ByDfas c.find_by_dfas.ensures.found
    (λ can. absurd (true≢false (sym can ∙ sym c.can_simulate.ensures ∙ c.if-not-can_simulate.true)))

pub returns-then-not-has_ascii-clause-found : goal.returns-then-not-has_ascii-clause-found
returns-then-not-has_ascii-clause-found c =
    let hay = c.args.input.now.haystack in
    BySimulation (sym c.can_simulate.ensures ∙ c.if-not-can_simulate.false)
    (subst (λ b. MatchBool b (IsAscii hay) (IsNotAscii hay)) c.if-not-has_ascii.true c.has_ascii.ensures)
    c.find_by_programs.ensures.means c.find_by_programs.ensures.keeps

pub returns-then-is_failure-clause-found : goal.returns-then-is_failure-clause-found
returns-then-is_failure-clause-found c =
    let hay = c.args.input.now.haystack in let asked = c.find_by_programs-then-is_failure in
    AfterFailure (sym c.can_simulate.ensures ∙ c.if-not-can_simulate.false)
    (subst (λ b. MatchBool b (IsAscii hay) (IsNotAscii hay)) c.if-not-has_ascii.false c.has_ascii.ensures)
    c.find_by_dfas-status.new.found c.find_by_dfas-status.new.self c.find_by_dfas-status.result
    c.find_by_dfas-status.ensures.found
    (c.is_failure.ensures.0 c.if-is_failure.true)
    (subst (λ shared. SimulatesMatch asked.new.found c.args.input.now shared asked.result)
    (match_keeps _ _ _ _ _ c.find_by_dfas-status.ensures.found) asked.ensures.means)
    asked.ensures.keeps

pub returns-clause-found : goal.returns-clause-found
returns-clause-found c =
    let hay = c.args.input.now.haystack in
    ByDfas c.find_by_dfas-status.ensures.found
    (λ can. (
      subst (λ b. MatchBool b (IsAscii hay) (IsNotAscii hay)) c.if-not-has_ascii.false c.has_ascii.ensures,
      λ fails. absurd (true≢false (sym (c.is_failure.ensures.1 fails) ∙ c.if-is_failure.false)),
    ))
