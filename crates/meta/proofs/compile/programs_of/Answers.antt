use Rattle.std.proofs.Common.{arith}
use Rattle.patterns.specs.Patterns.{config_of}
use Rattle.meta.proofs.Compiled.{first_fault, programs_next}
use Rattle.meta.proofs.compile.programs_of.Goals as goal

pub loop-text-preserved : goal.loop-text-preserved
loop-text-preserved c = (
  programs_next (config_of c.args.options.now) c.args.texts.now c.loop-text.text-index _
      c.loop-text.programs.items c.add.new.programs.items c.loop-text-test.true c.loop-text.invariant.0
      c.in-Ok.ensures.added,
  c.in-Ok.ensures.few,
)

pub returns-in-Err-clause-refused : goal.returns-in-Err-clause-refused
returns-in-Err-clause-refused c =
    first_fault c.args.options.now c.args.texts.now c.loop-text.text-index _ c.loop-text.programs.items
    c.len-number.result c.in-Err.fault c.loop-text-test.true c.loop-text.invariant.0
    (omega (arith, c.len-number.ensures, c.loop-text.programs.ok.0))
    c.in-Err.ensures.refused
