use Rattle.std.proofs.Common.{arith}
use Rattle.patterns.proofs.Drafting.{draft_empty, draft_next, first_fault}
use Rattle.patterns.proofs.compile.Draft.read.Goals as goal

pub loop-text-init : goal.loop-text-init
loop-text-init c = draft_empty c.args.options.now c.args.self.now c.requires.states c.requires.starts c.requires.room

pub loop-text-preserved : goal.loop-text-preserved
loop-text-preserved c =
    draft_next c.args.options.now c.args.texts.now c.loop-text.text-index _ c.loop-text.self c.read_one.new.self
    c.loop-text-test.true
    c.loop-text.invariant c.in-Ok.ensures.read

pub returns-in-Err-clause-refused : goal.returns-in-Err-clause-refused
returns-in-Err-clause-refused c =
    first_fault c.args.options.now c.args.texts.now c.loop-text.text-index _ c.loop-text.self c.len-number.result
    c.in-Err.fault
    c.loop-text-test.true c.loop-text.invariant (omega (arith, c.len-number.ensures, c.loop-text.self.starts.ok.0))
    c.in-Err.ensures.refused
