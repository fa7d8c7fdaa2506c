use Rattle.std.proofs.Common.{refl}
use Rattle.regex_hir.specs.Meaning.{meaning}
use Rattle.meta.proofs.compile.add.Goals as goal

pub returns-then-is_none-clause-refused : goal.returns-then-is_none-clause-refused
returns-then-is_none-clause-refused c =
    let is = c.in_ok-program.ensures.compiled in (meaning is.tree, (is.tree, _, is.reads, refl))
