use Rattle.std.proofs.Common.{map, take}
use Rattle.regex_hir.specs.Meaning.{cat_all, meaning}
use Rattle.match_facts.specs.Runs.{ExtendsRun}
use Rattle.match_facts.proofs.literals.+walk.Given as goal

abbrev pub invariant-walk_all-loop-i : goal.invariant-walk_all-loop-i
invariant-walk_all-loop-i l = ExtendsRun (cat_all (map meaning (take l.i l.subs))) l.initial.run l.run
