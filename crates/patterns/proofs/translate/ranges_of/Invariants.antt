use Rattle.std.proofs.Common.{◌≡◌, take}
use Rattle.automata_base.specs.Nfas.Nodes as nodes
use Rattle.meaning.specs.Translated as translated
use Rattle.patterns.proofs.translate.ranges_of.Given as goal

abbrev pub invariant-loop-t : goal.invariant-loop-t
invariant-loop-t l = nodes.ranges_of l.ranges.items ≡ translated.ranges_of l.origin.base (take l.t-index l.own)
