use Rattle.std.proofs.Common.{ℕ, ◌<◌, get_or}
use Rattle.regex_hir.specs.Meaning.{meaning}
use Rattle.regex_hir.specs.declared.hir.Hir.{Hir}
use Rattle.prefilters.specs.Bytes.{KeepsBytes}
use Rattle.prefilters.specs.Heads.{ConsistsOf}
use Rattle.prefilters.proofs.heads.+trees.Given as goal

abbrev pub invariant-add_trees-loop-i : goal.invariant-add_trees-loop-i
invariant-add_trees-loop-i l =
    KeepsBytes l.initial.table l.table
    × ((n : ℕ) (d : Hir) → n < l.i → ConsistsOf (meaning (get_or l.subs n d)) l.table)
