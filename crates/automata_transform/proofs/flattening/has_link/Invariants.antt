use Rattle.automata_transform.specs.Nfas.FlattenedNfas.{IsNoLink}
use Rattle.automata_base.proofs.Powersets.KeptClosures.{Tested}
use Rattle.automata_transform.proofs.flattening.has_link.Given as goal

abbrev pub invariant-loop-i : goal.invariant-loop-i
invariant-loop-i l = Tested (IsNoLink l.links) l.ids l.i
