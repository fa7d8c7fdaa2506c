use Rattle.automata_transform.proofs.Nfas.Folds.Led.{AreFree}
use Rattle.automata_transform.proofs.folding.free_of.Given as goal

abbrev pub invariant-loop-i : goal.invariant-loop-i
invariant-loop-i l = AreFree l.states l.led.items l.free.items l.i
