use Rattle.std.proofs.Common.{◌≡◌, ◌≤◌, ◌+◌, ◌++◌, ◌||◌, eqb, drop, length, vec_capacity}
use Rattle.automata_base.specs.Lists.{pick}
use Rattle.automata_base.specs.Nfas.Nfa.{keep}
use Rattle.automata_base.specs.Retraced.Computed.{any_state}
use Rattle.automata_base.specs.Haystacks.Looks.{look_index}
use Rattle.automata_base.specs.Nfas.Nodes.{nfa_of}
use Rattle.automata_base.specs.Haystacks.LookSets.{truth_of}
use Rattle.automata_base.specs.Haystacks.Looks.{Look}
use Rattle.automata_base.proofs.nfa.thompson.keeping.append_kept.Given as goal

abbrev pub invariant-loop-i : goal.invariant-loop-i
invariant-loop-i l =
    (l.kept.items ++ pick (keep (nfa_of l.nfa)) (drop l.i l.states) ≡ l.fn.kept.items
    ++ pick (keep (nfa_of l.nfa)) l.states)
    × (length l.kept.items ≤ length l.fn.kept.items + l.i)
    × ((other : Look)
    → (truth_of l.all other
    || any_state (λ look. eqb (look_index look) (look_index other)) (nfa_of l.nfa) (drop l.i l.states))
    ≡ (truth_of l.fn.looks other
    || any_state (λ look. eqb (look_index look) (look_index other)) (nfa_of l.nfa) l.states))
    × (vec_capacity l.fn.kept ≤ vec_capacity l.kept)
