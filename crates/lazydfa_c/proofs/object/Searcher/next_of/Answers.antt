use Rattle.std.proofs.Common.{◌∙◌, refl, subst, sym, true≢false}
use Rattle.lazydfa_c.specs.Words.{AfterFailure, ByDfas, BySimulation, IsMarkedIf, SimulatesNext, with_mark}
use Rattle.lazydfa_c.specs.Calls.{NarrowedNext}
use Rattle.lazydfa_c.specs.declared.iterate.Iteration.{Iteration}
use Rattle.lazydfa_c.specs.declared.object.Shared.{Shared}
use Rattle.lazydfa_c.proofs.Simulating.{marks_other, next_keeps}
use Rattle.lazydfa_c.proofs.object.Searcher.next_of.Goals as goal

pub returns-then-not-can_simulate-clause-found : goal.returns-then-not-can_simulate-clause-found
returns-then-not-can_simulate-clause-found c =
    let not = sym c.can_simulate.ensures ∙ c.if-not-can_simulate.true in record {
      mark = c.args.at.now.left.reserved;
      is_marked =
          subst (λ can. IsMarkedIf can c.args.input.now.haystack c.args.at.now.left.reserved
          c.args.at.now.left.reserved) (sym not) refl;
      answered = ByDfas c.go_on.ensures.found (λ can. absurd (true≢false (sym can ∙ not)));
    }

pub returns-then-not-is_ascii-clause-found : goal.returns-then-not-is_ascii-clause-found
returns-then-not-is_ascii-clause-found c =
    let can = sym c.can_simulate.ensures ∙ c.if-not-can_simulate.false in
    let hay = c.args.input.now.haystack in let old = c.args.at.now in let at = c.mark.new.self in record {
      mark = at.left.reserved;
      is_marked = subst (λ can. IsMarkedIf can hay old.left.reserved at.left.reserved) (sym can) c.mark.ensures.mark;
      answered =
          BySimulation can
          (marks_other hay old.left.reserved at.left.reserved c.mark.ensures.mark
          (λ is. absurd (true≢false (sym (c.is_ascii.ensures.1 is) ∙ c.if-not-is_ascii.true))))
          (subst (λ (v : Iteration). SimulatesNext c.next_by_programs.new.found v c.next_by_programs.new.at
          c.args.input.now c.args.self.now.shared c.next_by_programs.result) c.mark.ensures.rest
          c.next_by_programs.ensures.means) c.next_by_programs.ensures.keeps;
    }

pub returns-then-is_failure-clause-found : goal.returns-then-is_failure-clause-found
returns-then-is_failure-clause-found c =
    let can = sym c.can_simulate.ensures ∙ c.if-not-can_simulate.false in
    let asked = c.next_by_programs-then-is_failure in
    let hay = c.args.input.now.haystack in let old = c.args.at.now in let at = c.mark.new.self in record {
      mark = at.left.reserved;
      is_marked = subst (λ can. IsMarkedIf can hay old.left.reserved at.left.reserved) (sym can) c.mark.ensures.mark;
      answered =
          AfterFailure can (c.is_ascii.ensures.0 c.if-not-is_ascii.false)
          (c.go_on-status.new.found, c.go_on-status.new.at) c.go_on-status.new.self c.go_on-status.result
          (subst (λ (v : Iteration). NarrowedNext c.go_on-status.new.found v c.go_on-status.new.at c.args.input.now
          c.args.self.now c.go_on-status.new.self c.go_on-status.result) c.mark.ensures.rest
          c.go_on-status.ensures.found)
          (c.is_failure.ensures.0 c.if-is_failure.true)
          (subst (λ (shared : Shared). SimulatesNext asked.new.found (with_mark at.left.reserved old) asked.new.at
          c.args.input.now shared asked.result) (next_keeps _ _ _ _ _ _ _ c.go_on-status.ensures.found)
          (subst (λ (v : Iteration). SimulatesNext asked.new.found v asked.new.at
          c.args.input.now c.go_on-status.new.self.shared asked.result) c.mark.ensures.rest
          asked.ensures.means)) asked.ensures.keeps;
    }

pub returns-clause-found : goal.returns-clause-found
returns-clause-found c =
    let can = sym c.can_simulate.ensures ∙ c.if-not-can_simulate.false in
    let hay = c.args.input.now.haystack in let old = c.args.at.now in let at = c.mark.new.self in record {
      mark = at.left.reserved;
      is_marked = subst (λ can. IsMarkedIf can hay old.left.reserved at.left.reserved) (sym can) c.mark.ensures.mark;
      answered =
          ByDfas
          (subst (λ (v : Iteration). NarrowedNext c.go_on-status.new.found v c.go_on-status.new.at c.args.input.now
          c.args.self.now c.go_on-status.new.self c.go_on-status.result) c.mark.ensures.rest
          c.go_on-status.ensures.found)
          (λ yes. (
            c.is_ascii.ensures.0 c.if-not-is_ascii.false,
            λ fails. absurd (true≢false (sym (c.is_failure.ensures.1 fails) ∙ c.if-is_failure.false)),
          ));
    }
