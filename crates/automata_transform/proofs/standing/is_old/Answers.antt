use Rattle.std.proofs.Common.{ap, sym, ◌∙◌}
use Rattle.automata_transform.specs.Nfas.Merges.{MergesUnion}
use Rattle.automata_base.specs.Nfas.Nfa.{Split}
use Rattle.automata_base.specs.Nfas.Nodes.{node_of}
use Rattle.automata_transform.proofs.Nfas.Standing.{ok_of}
use Rattle.automata_transform.proofs.standing.is_old.Goals as goal

pub returns-in-Union : goal.returns-in-Union
returns-in-Union c =
    ok_of _ _ _ c.shows.result
    (λ b shows t.
    MergesUnion c.as_slice.result.now (ap node_of c.in-Union.«is» ∙ ap Split (sym c.as_slice.ensures.value)) (shows t))
    c.shows.ensures
