-- Computable tests of an NFA and of a tape.
use Rattle.std.specs.Prelude.{ℕ, Bool, true, ◌&&◌, ltb, List, [], ◌∷◌, length}
use Rattle.automata_base.specs.Lists.{all_below}
use Rattle.automata_base.specs.Nfas.Nfa.{Nfa, Node, Split, Assert, Read, Accept, Range}

abbrev pub ranges_below : ℕ → List Range → Bool
ranges_below N [] = true
ranges_below N (r ∷ rs) = ltb r.next N && ranges_below N rs

abbrev pub node_below : ℕ → Node → Bool
node_below N (Split alternates) = all_below N alternates
node_below N (Assert look next) = ltb next N
node_below N (Read ranges) = ranges_below N ranges
node_below N (Accept p) = true

abbrev pub nodes_below : ℕ → List Node → Bool
nodes_below N [] = true
nodes_below N (x ∷ xs) = node_below N x && nodes_below N xs

-- Each edge leads to a state.
abbrev pub is_in_range : Nfa → Bool
is_in_range n = nodes_below (length n.nodes) n.nodes
