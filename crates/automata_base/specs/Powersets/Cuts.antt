-- Lists of NFA states, cut and read.
use Rattle.std.specs.Prelude.{ℕ, ◌≡◌, List, [], ◌∷◌, Option, Some, None, Bool, false, ◌||◌, is_some}
use Rattle.automata_base.specs.Lists.{IsListOf, From, pick}
use Rattle.automata_base.specs.Nfas.Nfa.{Nfa, takes, accepts}
pub use Rattle.automata_base.specs.declared.util.search.MatchKind.{MatchKind}
pub use Rattle.automata_base.specs.declared.util.search.MatchKind.TheVariants.{All, LeftmostFirst}

-- A state and what comes after it, which is dropped if the state matches a pattern.
abbrev pub cut_after : Option ℕ → ℕ → List ℕ → List ℕ
cut_after None q rest = q ∷ rest
cut_after (Some p) q rest = q ∷ []

-- The part of a list up to and including the first match state.
abbrev pub cut : Nfa → List ℕ → List ℕ
cut n [] = []
cut n (q ∷ xs) = cut_after (accepts n q) q (cut n xs)

-- The part of a list of states that counts: all of it under `MatchKind::All`, and the part up to the first match state
-- under `MatchKind::LeftmostFirst`.
abbrev pub cut_for : MatchKind → Nfa → List ℕ → List ℕ
cut_for All n xs = xs
cut_for LeftmostFirst n xs = cut n xs

-- Whether some state of the list matches.
abbrev pub has_match : Nfa → List ℕ → Bool
has_match n [] = false
has_match n (q ∷ xs) = is_some (accepts n q) || has_match n xs

-- Whether a list is cut at one of its states, so that what would come after the list does not count.
abbrev pub is_cut : MatchKind → Nfa → List ℕ → Bool
is_cut All n xs = false
is_cut LeftmostFirst n xs = has_match n xs

-- The elements of a list, each once, in the order of their first occurrences.
abbrev pub IsOnce : List ℕ → List ℕ → Type 0
IsOnce xs ys = IsListOf (From (λ root path q. (root ≡ q) × (path ≡ [])) xs) ys

-- The targets of the byte states of a list that take the unit, which is a byte or the end.
abbrev pub targets : Nfa → Option ℕ → List ℕ → List ℕ
targets n None xs = []
targets n (Some u) xs = pick (λ b. takes n b u) xs
