use Rattle.std.proofs.Common.{refl, sym, ap, ◌∙◌}
use Rattle.automata_transform.specs.Retraced.ReversedEdges.{alternates_in, IsUnionOfAll}
use Rattle.automata_transform.proofs.turn.head.Goals as goal

pub returns-in-Empty : goal.returns-in-Empty
returns-in-Empty c = IsUnionOfAll c.new.result refl (c.new.ensures.items ∙ sym (ap alternates_in c.in-Empty.is))

pub returns-in-Several : goal.returns-in-Several
returns-in-Several c = IsUnionOfAll c.in-Several.alternates refl (sym (ap alternates_in c.in-Several.is))
