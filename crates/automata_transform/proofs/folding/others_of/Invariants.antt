use Rattle.std.proofs.Common.{take}
use Rattle.automata_transform.proofs.Nfas.Folds.Parts.{AreOthers}
use Rattle.automata_transform.proofs.folding.others_of.Given as goal

abbrev pub invariant-loop-id : goal.invariant-loop-id
invariant-loop-id l = AreOthers l.states (take l.id-index l.ids) l.others.items
