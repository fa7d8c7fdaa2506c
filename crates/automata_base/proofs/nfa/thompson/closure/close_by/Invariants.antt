use Rattle.std.proofs.Common.{◌≡◌, ◌≤◌, ◌∷◌, length, reverse, vec_capacity}
use Rattle.automata_base.proofs.Powersets.Walking.{Walking, work}
use Rattle.automata_base.proofs.nfa.thompson.closure.close_by.Given as goal

abbrev pub invariant-visit : goal.invariant-visit
invariant-visit l =
    Walking l.nfa l.looks l.fn.set.items l.fn.start l.set.items (l.id ∷ reverse l.stack.items)
    × (l.set.capacity ≡ length l.nfa.states)
    × (vec_capacity l.fn.stack ≤ vec_capacity l.stack)

abbrev pub decreases-visit : goal.decreases-visit
decreases-visit l = work l.nfa l.set.items (l.id ∷ reverse l.stack.items)
