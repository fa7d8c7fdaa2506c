use Rattle.std.proofs.Common.{◌≡◌, ◌∙◌, ap, arith, rules, subst, suc, Some}
use Rattle.automata_base.specs.Answers.Spans.{FindsLater, from}
use Rattle.regex_automata.specs.Promises.{Input}
use Rattle.lazydfa_c.specs.Programs.{programs_of}
use Rattle.lazydfa_c.specs.Words.{IsMeantMatch}
use Rattle.lazydfa_c.proofs.Simulating.{none_past}
use Rattle.lazydfa_c.proofs.object.Searcher.simulate_next.Goals as goal

pub returns-then-start-end-2-clause-meant : goal.returns-then-start-end-2-clause-meant
returns-then-start-end-2-clause-meant c =
    λ programs res is finds.
    let it = c.in-Some.it in
    let empty : it.start ≡ it.end = omega (arith, c.end.ensures.ordered, c.if-start-end.false) in
    let last : c.args.last ≡ Some it.end = search rules in
    FindsLater it (c.in-Some.ensures.meant programs res is finds) (empty, last)
    (none_past programs.utf8 res c.args.input.now.haystack _ (omega arith))

pub returns-clause-meant : goal.returns-clause-meant
returns-clause-meant c =
    λ programs res is finds.
    let it = c.in-Some.it in
    let empty : it.start ≡ it.end = omega (arith, c.end.ensures.ordered, c.if-start-end.false) in
    let later : c.set_start.new.self ≡ from (suc c.args.input.now.start) c.args.input.now = search rules in
    let last : c.args.last ≡ Some it.end = search rules in
    FindsLater it (c.in-Some.ensures.meant programs res is finds) (empty, last)
    (subst (λ (i : Input). IsMeantMatch programs.utf8 res i c.simulate-2.result) later
    (c.simulate-2.ensures.meant programs res (ap programs_of c.simulate.ensures.keeps.same ∙ is) finds))
