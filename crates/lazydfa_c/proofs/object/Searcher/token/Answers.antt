use Rattle.std.proofs.Common.{◌∙◌, refl, subst, sym, true≢false}
use Rattle.regex_automata.specs.Promises.{Input}
use Rattle.lazydfa_c.specs.Calls.{TakesToken}
use Rattle.lazydfa_c.specs.Tokens.{SimulatesToken, marked_as}
use Rattle.lazydfa_c.specs.Words.{AfterFailure, ByDfas, BySimulation, IsMarkedIf}
use Rattle.lazydfa_c.specs.declared.input.Request.{Request}
use Rattle.lazydfa_c.specs.declared.object.Shared.{Shared}
use Rattle.lazydfa_c.proofs.Simulating.{marks_other}
use Rattle.lazydfa_c.proofs.object.Searcher.token.Goals as goal

pub returns-then-not-can_lex-clause-found : goal.returns-then-not-can_lex-clause-found
returns-then-not-can_lex-clause-found c =
    let not = sym c.can_lex.ensures ∙ c.if-not-can_lex.true in record {
      mark = c.args.left.now.reserved;
      is_marked =
          subst (λ can. IsMarkedIf can c.args.input.now.haystack c.args.left.now.reserved c.args.left.now.reserved)
          (sym not) refl;
      answered =
          ByDfas
          (subst (λ (i : Input). TakesToken c.token_by_dfa.new.found c.args.left.now c.token_by_dfa.new.left i
          c.args.self.now c.token_by_dfa.new.self c.token_by_dfa.result) c.copied.ensures.same
          c.token_by_dfa.ensures.found)
          (λ can. absurd (true≢false (sym can ∙ not)));
    }

pub returns-then-not-is_ascii-clause-found : goal.returns-then-not-is_ascii-clause-found
returns-then-not-is_ascii-clause-found c =
    let can = sym c.can_lex.ensures ∙ c.if-not-can_lex.false in
    let hay = c.args.input.now.haystack in let old = c.args.left.now in let left = c.mark.new.self in record {
      mark = left.reserved;
      is_marked = subst (λ can. IsMarkedIf can hay old.reserved left.reserved) (sym can) c.mark.ensures.mark;
      answered =
          BySimulation can
          (marks_other hay old.reserved left.reserved c.mark.ensures.mark
          (λ is. absurd (true≢false (sym (c.is_ascii.ensures.1 is) ∙ c.if-not-is_ascii.true))))
          (subst (λ (v : Request). SimulatesToken c.token_by_programs.new.found v c.token_by_programs.new.left
          c.args.input.now c.args.self.now.shared c.token_by_programs.result) c.mark.ensures.rest
          c.token_by_programs.ensures.means) c.token_by_programs.ensures.keeps;
    }

pub returns-then-is_failure-clause-found : goal.returns-then-is_failure-clause-found
returns-then-is_failure-clause-found c =
    let can = sym c.can_lex.ensures ∙ c.if-not-can_lex.false in
    let asked = c.token_by_programs-then-is_failure in let did = c.token_by_dfa-status in
    let hay = c.args.input.now.haystack in let old = c.args.left.now in let left = c.mark.new.self in record {
      mark = left.reserved;
      is_marked = subst (λ can. IsMarkedIf can hay old.reserved left.reserved) (sym can) c.mark.ensures.mark;
      answered =
          AfterFailure can (c.is_ascii.ensures.0 c.if-not-is_ascii.false) (did.new.found, did.new.left) did.new.self
          did.result
          (subst (λ (v : Request). TakesToken did.new.found v did.new.left c.args.input.now c.args.self.now
          did.new.self did.result) c.mark.ensures.rest
          (subst (λ (i : Input). TakesToken did.new.found left did.new.left i c.args.self.now did.new.self did.result)
          c.copied-2.ensures.same did.ensures.found))
          (c.is_failure.ensures.0 c.if-is_failure.true)
          (subst (λ (shared : Shared). SimulatesToken asked.new.found (marked_as left.reserved old) asked.new.left
          c.args.input.now shared asked.result) did.ensures.found.same
          (subst (λ (v : Request). SimulatesToken asked.new.found v asked.new.left c.args.input.now
          did.new.self.shared asked.result) c.mark.ensures.rest asked.ensures.means)) asked.ensures.keeps;
    }

pub returns-clause-found : goal.returns-clause-found
returns-clause-found c =
    let can = sym c.can_lex.ensures ∙ c.if-not-can_lex.false in let did = c.token_by_dfa-status in
    let hay = c.args.input.now.haystack in let old = c.args.left.now in let left = c.mark.new.self in record {
      mark = left.reserved;
      is_marked = subst (λ can. IsMarkedIf can hay old.reserved left.reserved) (sym can) c.mark.ensures.mark;
      answered =
          ByDfas
          (subst (λ (v : Request). TakesToken did.new.found v did.new.left c.args.input.now c.args.self.now
          did.new.self did.result) c.mark.ensures.rest
          (subst (λ (i : Input). TakesToken did.new.found left did.new.left i c.args.self.now did.new.self did.result)
          c.copied-2.ensures.same did.ensures.found))
          (λ yes. (
            c.is_ascii.ensures.0 c.if-not-is_ascii.false,
            λ fails. absurd (true≢false (sym (c.is_failure.ensures.1 fails) ∙ c.if-is_failure.false)),
          ));
    }
