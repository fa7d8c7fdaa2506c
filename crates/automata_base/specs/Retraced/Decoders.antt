-- The product of an NFA with a UTF-8 decoder, an automaton over classes of bytes.
use Rattle.std.specs.Prelude.{ℕ, ◌≡◌, ◌+◌, ◌*◌, ◌/◌, ◌%◌, ◌&&◌, Bool, true, cond, leb, List, [], ◌∷◌, ◌++◌, map}
use Rattle.std.specs.Prelude.{slice_index}
use Rattle.automata_base.specs.declared.nfa.thompson.utf8.Class.{Class}
use Rattle.automata_base.specs.declared.nfa.thompson.state.State.{State}
use Rattle.automata_base.specs.Lists.{all_below}
use Rattle.automata_base.specs.Nfas.Nfa.{Node, Range, Split, Assert, Read, Accept}
use Rattle.automata_base.specs.Paths.Paths.{all_true}
use Rattle.automata_base.specs.Retraced.Reach.{node_in, IsReachedBy, IsMatchAt}
use Rattle.automata_base.specs.Powersets.Closure.{children_at}

-- Each class leads to states of a decoder.
abbrev pub classes_below : List Class → Bool
classes_below [] = true
classes_below (c ∷ cs) = all_below 11 c.to && classes_below cs

-- The number of a pair: a state of the NFA and a state of the decoder.
abbrev pub pair : ℕ → ℕ → ℕ
pair q s = q * 11 + s

-- A range and a class have a byte in common.
abbrev pub meets : Class → Range → Bool
meets c r = leb c.first r.hi && leb r.lo c.last

-- The pair that a range leads to by one class: its target, with the decoder's state after the class from `s`.
abbrev pub pairs_in : ℕ → Range → Class → List ℕ
pairs_in s r c = cond (meets c r) (pair r.next (slice_index c.to s) ∷ []) []

-- The pairs that a range leads to by all classes.
abbrev pub range_pairs : List Class → ℕ → Range → List ℕ
range_pairs [] s r = []
range_pairs (c ∷ cs) s r = pairs_in s r c ++ range_pairs cs s r

-- The pairs that several ranges lead to by all classes.
abbrev pub ranges_pairs : List Class → ℕ → List Range → List ℕ
ranges_pairs classes s [] = []
ranges_pairs classes s (r ∷ rs) = range_pairs classes s r ++ ranges_pairs classes s rs

-- The pairs that a state of the NFA leads to by reading a byte, with this state of the decoder.
abbrev pub byte_pairs : List Class → ℕ → Node → List ℕ
byte_pairs classes s (Split alternates) = []
byte_pairs classes s (Assert look next) = []
byte_pairs classes s (Read ranges) = ranges_pairs classes s ranges
byte_pairs classes s (Accept p) = []

-- States of the NFA, each with this state of the decoder.
abbrev pub pairs_at : ℕ → List ℕ → List ℕ
pairs_at s ids = map (λ q. pair q s) ids

-- The pairs that a pair leads to, with every look taken as true.
abbrev pub node_pairs : List Class → ℕ → Node → List ℕ
node_pairs classes s x = pairs_at s (children_at x all_true) ++ byte_pairs classes s x

-- The pairs that the pair with this number leads to, with every look taken as true.
abbrev pub pairs_of : List Class → List State → ℕ → List ℕ
pairs_of classes states x = node_pairs classes (x % 11) (node_in states (x / 11))

-- The pair is not at a match state, or it is between two characters.
abbrev pub IsBoundary : List State → ℕ → Type 0
IsBoundary states x = IsMatchAt (node_in states (x / 11)) → x % 11 ≡ 0

-- Every pair at a match state that is reached from the starts is between two characters.
abbrev pub EndsAtBoundaries : List Class → List State → List ℕ → Type 0
EndsAtBoundaries classes states starts =
    (x : ℕ) → IsReachedBy (pairs_of classes states) (pairs_at 0 starts) x → IsBoundary states x
