-- Membership in a list, and the looks among the states of a list, as functions.
use Rattle.std.specs.Prelude.{ℕ, Bool, false, ◌||◌, eqb, List, [], ◌∷◌}
use Rattle.automata_base.specs.Haystacks.Looks.{Look}
use Rattle.automata_base.specs.Nfas.Nfa.{Nfa, node, looks_at}

-- Whether a number is in the list.
abbrev pub is_in : ℕ → List ℕ → Bool
is_in x [] = false
is_in x (y ∷ ys) = eqb x y || is_in x ys

-- Whether a state of the list is a look that passes the test.
abbrev pub any_state : (Look → Bool) → Nfa → List ℕ → Bool
any_state f n [] = false
any_state f n (q ∷ qs) = looks_at f (node n q) || any_state f n qs
