-- The states that lead to neither of two states.
use Rattle.std.specs.Prelude.{ℕ, ◌||◌, ◌&&◌, Bool, true, false, not, eqb, List, [], ◌∷◌}
use Rattle.automata_base.specs.declared.nfa.thompson.state.State.{State}
use Rattle.automata_base.specs.declared.nfa.thompson.state.State.TheVariants as is
use Rattle.automata_base.specs.declared.nfa.thompson.state.Transition.{Transition}

-- Whether the state is one of the two.
abbrev pub is_either : (one two q : ℕ) → Bool
is_either one two q = eqb q one || eqb q two

-- Whether none of these states is one of the two.
abbrev pub are_others : (one two : ℕ) → List ℕ → Bool
are_others one two [] = true
are_others one two (q ∷ qs) = not (is_either one two q) && are_others one two qs

-- Whether none of these edges leads to one of the two.
abbrev pub lead_elsewhere : (one two : ℕ) → List Transition → Bool
lead_elsewhere one two [] = true
lead_elsewhere one two (t ∷ ts) = not (is_either one two t.next) && lead_elsewhere one two ts

-- Whether no edge of the state leads to one of the two. It is false for a dense state, whose edges are not read.
abbrev pub leads_elsewhere : (one two : ℕ) → State → Bool
leads_elsewhere one two (is.ByteRange lo hi next) = not (is_either one two next)
leads_elsewhere one two (is.Sparse ts) = lead_elsewhere one two ts.items
leads_elsewhere one two (is.Dense targets) = false
leads_elsewhere one two (is.Look look next) = not (is_either one two next)
leads_elsewhere one two (is.Union alternates) = are_others one two alternates.items
leads_elsewhere one two (is.BinaryUnion alt1 alt2) = not (is_either one two alt1) && not (is_either one two alt2)
leads_elsewhere one two (is.Capture next pattern index slot) = not (is_either one two next)
leads_elsewhere one two is.Fail = true
leads_elsewhere one two (is.Match pattern) = true
