use Rattle.std.proofs.Common.{subst, sym}
use Rattle.regex_hir.specs.Meaning.{meaning}
use Rattle.regex_extract.specs.Needles.{AreFilled, needles_of}
use Rattle.match_facts.specs.Facts.{ContainsAll}
use Rattle.match_facts.specs.declared.literals.Run.{Run}
use Rattle.match_facts.proofs.Runs.{are_filled, contains_all}
use Rattle.match_facts.proofs.literals.literals_of.Goals as goal

pub returns-clause-contains : goal.returns-clause-contains
returns-clause-contains c =
    let run : Run = record { literals = c.new.result; last = c.new-2.result } in
    subst (λ v. ContainsAll (meaning c.args.hir.now) (needles_of v)) (sym c.replace.ensures.value)
    (contains_all (meaning c.args.hir.now) run c.walk.new.run c.end.new.self c.new.ensures.items c.new-2.ensures.items
    c.in_ok-walk.ensures c.in_ok-end.ensures)

pub returns-clause-filled : goal.returns-clause-filled
returns-clause-filled c =
    let run : Run = record { literals = c.new.result; last = c.new-2.result } in
    subst (λ v. AreFilled (needles_of v)) (sym c.replace.ensures.value)
    (are_filled (meaning c.args.hir.now) run c.walk.new.run c.end.new.self c.new.ensures.items c.in_ok-walk.ensures
    c.in_ok-end.ensures)
