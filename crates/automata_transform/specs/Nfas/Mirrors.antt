-- A reversed NFA: the edges that it has, so that it accepts backward what the other NFA accepts.
use Rattle.std.specs.Prelude.{ℕ, ◌≡◌, ◌<◌, ◌≤◌, ◌+◌, ◌-◌, ◌*◌, ◌↔◌, ◌⊎◌, not, List, [], ◌∷◌, length, Some, slice_get}
use Rattle.automata_base.specs.declared.nfa.thompson.state.Flags.{Flags}
use Rattle.automata_base.specs.Lists.{In, Distinct}
use Rattle.automata_base.specs.declared.util.look.Look.{Look}
use Rattle.automata_base.specs.declared.util.look.Look.TheVariants.{Start, End, StartLF, EndLF, StartCRLF, EndCRLF}
use Rattle.automata_base.specs.declared.util.look.Look.TheVariants.{WordAscii, WordAsciiNegate, WordUnicode}
use Rattle.automata_base.specs.declared.util.look.Look.TheVariants.{WordUnicodeNegate}
use Rattle.automata_base.specs.declared.util.look.Look.TheVariants.{WordStartAscii, WordEndAscii, WordStartUnicode}
use Rattle.automata_base.specs.declared.util.look.Look.TheVariants.{WordEndUnicode}
use Rattle.automata_base.specs.declared.util.look.Look.TheVariants.{WordStartHalfAscii, WordEndHalfAscii}
use Rattle.automata_base.specs.declared.util.look.Look.TheVariants.{WordStartHalfUnicode}
use Rattle.automata_base.specs.declared.util.look.Look.TheVariants.{WordEndHalfUnicode}
use Rattle.automata_base.specs.Nfas.Nfa.{Nfa, Node, Range, Split, Assert, Read, Accept, node, accepts}
use Rattle.automata_base.specs.declared.util.search.MatchKind.{MatchKind}
use Rattle.automata_base.specs.declared.util.search.MatchKind.TheVariants.{All}
use Rattle.automata_base.specs.Nfas.Engines.{MatchesEmpty, engine_of}
use Rattle.automata_base.specs.Nfas.Getters.{SkipsLazily}
use Rattle.automata_base.specs.Nfas.Nodes.{Automaton, nfa_of, stack_room}
use Rattle.automata_transform.specs.Nfas.ReversedSizes.{most_alternates}
use Rattle.automata_transform.specs.Retraced.DenseRuns.{ranged_nfa}
use Rattle.automata_base.specs.Nfas.Accepted.{IsChecked}
use Rattle.automata_base.specs.Paths.Paths.{Tape}
use Rattle.automata_base.specs.Paths.Selections.{Accepts}
use Rattle.automata_base.specs.Powersets.Passes.{Occurs}
use Rattle.automata_base.specs.Haystacks.Tapes.{forward_tape, reverse_tape}
use Rattle.automata_base.specs.Answers.TruePairs.{IsTruePair}

-- The look that holds if the bytes on the two sides are exchanged and the reverse flag is flipped.
abbrev pub flip : Look → Look
flip Start = End
flip End = Start
flip StartLF = EndLF
flip EndLF = StartLF
flip StartCRLF = EndCRLF
flip EndCRLF = StartCRLF
flip WordAscii = WordAscii
flip WordAsciiNegate = WordAsciiNegate
flip WordUnicode = WordUnicode
flip WordUnicodeNegate = WordUnicodeNegate
flip WordStartAscii = WordEndAscii
flip WordEndAscii = WordStartAscii
flip WordStartUnicode = WordEndUnicode
flip WordEndUnicode = WordStartUnicode
flip WordStartHalfAscii = WordEndHalfAscii
flip WordEndHalfAscii = WordStartHalfAscii
flip WordStartHalfUnicode = WordEndHalfUnicode
flip WordEndHalfUnicode = WordStartHalfUnicode

-- What an edge requires: nothing, that a look holds, or a byte from the first to the second.
pub data Label : Type 0 where
  Free : Label
  Asks : Look → Label
  Reads : ℕ → ℕ → Label

-- One of the ranges is this one.
abbrev pub HasRange : List Range → (lo hi next : ℕ) → Type 0
HasRange ranges lo hi next = (k : ℕ) × (slice_get ranges k ≡ Some (record { lo = lo; hi = hi; next = next }))

-- The node has an edge with that label to `next`.
abbrev pub HasArcAt : Node → Label → ℕ → Type 0
HasArcAt (Split alternates) Free next = In next alternates
HasArcAt (Split alternates) (Asks look) next = ⊥
HasArcAt (Split alternates) (Reads lo hi) next = ⊥
HasArcAt (Assert asked to) Free next = ⊥
HasArcAt (Assert asked to) (Asks look) next = (asked ≡ look) × (to ≡ next)
HasArcAt (Assert asked to) (Reads lo hi) next = ⊥
HasArcAt (Read ranges) Free next = ⊥
HasArcAt (Read ranges) (Asks look) next = ⊥
HasArcAt (Read ranges) (Reads lo hi) next = HasRange ranges lo hi next
HasArcAt (Accept p) Free next = ⊥
HasArcAt (Accept p) (Asks look) next = ⊥
HasArcAt (Accept p) (Reads lo hi) next = ⊥

-- The state has an edge with that label to `next`.
abbrev pub HasArc : Nfa → ℕ → Label → ℕ → Type 0
HasArc n q l next = HasArcAt (node n q) l next

-- The state stands for a reversed edge with that label, which leads to `next`. For a free edge, that is `next` itself.
abbrev pub IsReversedArc : Nfa → ℕ → Label → ℕ → Type 0
IsReversedArc m x Free next = x ≡ next
IsReversedArc m x (Asks look) next = node m x ≡ Assert (flip look) next
IsReversedArc m x (Reads lo hi) next = node m x ≡ Read (record { lo = lo; hi = hi; next = next } ∷ [])

-- Edges lead from `q` over the states of the way to `z`.
abbrev pub IsLed : Nfa → (q : ℕ) → (way : List ℕ) → (z : ℕ) → Type 0
IsLed n q [] z = q ≡ z
IsLed n q (r ∷ way) z = ((l : Label) × HasArc n q l r) × IsLed n r way z

-- Edges lead from `q` to `z`, over any number of states.
abbrev pub LeadsTo : Nfa → (q z : ℕ) → Type 0
LeadsTo n q z = (way : List ℕ) × IsLed n q way z

-- The state is useful for the pattern `p`: edges lead from `first` to it, and from it to a match of the pattern. The
-- part for the pattern keeps these states.
abbrev pub IsUseful : Nfa → (first p q : ℕ) → Type 0
IsUseful n first p q = LeadsTo n first q × ((z : ℕ) × LeadsTo n q z × (accepts n z ≡ Some p))

-- The edge reads a byte or tests a look.
abbrev pub IsAsking : Label → Type 0
IsAsking Free = ⊥
IsAsking (Asks look) = Unit {0}
IsAsking (Reads lo hi) = Unit {0}

-- The edge may be of any kind.
abbrev pub IsAnyLabel : Label → Type 0
IsAnyLabel l = Unit {0}

-- The node is a union, or a capture or a fail state, which paths see as unions.
abbrev pub IsUnion : Node → Type 0
IsUnion (Split alternates) = Unit {0}
IsUnion (Assert look next) = ⊥
IsUnion (Read ranges) = ⊥
IsUnion (Accept p) = ⊥

-- The state stands for an edge to `t`, or for the match where paths begin. `Kind` says which edges are meant.
pub data IsEdgeTo (n m : Nfa) (first p : ℕ) (place : ℕ → ℕ) (Kind : Label → Type 0) (t x : ℕ) : Type 0 where
  -- it stands for an edge of that kind, from a useful state to `t`
  TurnsArc :
      (s : ℕ) (l : Label) → IsUseful n first p s → HasArc n s l t → Kind l → IsReversedArc m x l (place s)
      → IsEdgeTo n m first p place Kind t x
  -- paths begin at `t`, and it is a match of the pattern
  EndsPath : t ≡ first → node m x ≡ Accept p → IsEdgeTo n m first p place Kind t x

-- How the state for `t` stands for the edges to `t`, which are reversed to the states `xs`.
pub data StandsForEdges (n m : Nfa) (first p : ℕ) (place : ℕ → ℕ) (t : ℕ) (xs : List ℕ) : Type 0 where
  -- it is the union of these states
  JoinsEdges : node m (place t) ≡ Split xs → StandsForEdges n m first p place t xs
  -- it is the only one of them
  IsOnlyEdge :
      xs ≡ place t ∷ [] → IsEdgeTo n m first p place IsAsking t (place t) → StandsForEdges n m first p place t xs

-- Among the states for the pattern `p`, where `place q` stands for `q`: the state that stands for `t` is the union of
-- the reversed edges to `t`, and of a match where paths begin at `t`; or it is the only one of these itself. None of
-- them repeats, and no two of them that read, test or match do the same and lead to the same state.
pub record IsReversedAt (n m : Nfa) (first p : ℕ) (place : ℕ → ℕ) (t : ℕ) (xs : List ℕ) : Type 0 where
  -- the state for `t` is the union of these states, or is the only one of them
  pub stands : StandsForEdges n m first p place t xs
  -- each of them is a reversed edge to `t`, or a match if paths begin at `t`
  pub sound : (x : ℕ) → In x xs → IsEdgeTo n m first p place IsAnyLabel t x
  -- each edge to `t` from a useful state is reversed to one of them
  pub arcs :
      (s : ℕ) (l : Label) → IsUseful n first p s → HasArc n s l t
      → (x : ℕ) × In x xs × IsReversedArc m x l (place s)
  -- if paths begin at `t`, one of them is a match of the pattern
  pub reported : t ≡ first → (x : ℕ) × In x xs × (node m x ≡ Accept p)
  -- none of them repeats
  pub distinct : Distinct xs
  -- no two of them that read, test or match do the same and lead to the same state
  pub once : (x y : ℕ) → In x xs → In y xs → node m x ≡ node m y → IsUnion (node m x) ⊎ (x ≡ y)

-- The entry leads to the states that stand for the matches of the pattern.
pub record IsEntry (n m : Nfa) (first p entry : ℕ) (place : ℕ → ℕ) (xs : List ℕ) : Type 0 where
  -- the entry is the union of these states
  pub union : node m entry ≡ Split xs
  -- each of them stands for a useful match state of the pattern
  pub sound : (x : ℕ) → In x xs → (q : ℕ) × IsUseful n first p q × (accepts n q ≡ Some p) × (x ≡ place q)
  -- each match state of the pattern that edges reach from the first state has its state among them
  pub matches : (q : ℕ) → LeadsTo n first q → accepts n q ≡ Some p → In (place q) xs
  -- none of them repeats
  pub distinct : Distinct xs

-- The part for the pattern `p` has a state for each useful state of `n`. Its backward paths begin at `entry`.
pub record IsPart (n m : Nfa) (first p entry : ℕ) (place : ℕ → ℕ) : Type 0 where
  -- backward paths begin at the entry, which leads to the states for the matches
  pub enters : (xs : List ℕ) × IsEntry n m first p entry place xs
  -- each useful state has its state, with the reversed edges
  pub turned : (t : ℕ) → IsUseful n first p t → (xs : List ℕ) × IsReversedAt n m first p place t xs

-- What a state of the part for the pattern `p` is.
pub data IsOfPart (n m : Nfa) (first p entry : ℕ) (place : ℕ → ℕ) (x : ℕ) : Type 0 where
  -- the entry
  IsEntryOf : x ≡ entry → IsOfPart n m first p entry place x
  -- the one that stands for a useful state
  IsPlaceOf : (t : ℕ) → IsUseful n first p t → x ≡ place t → IsOfPart n m first p entry place x
  -- an alternate of one that does
  IsAlternateOf :
      (t : ℕ) (xs : List ℕ) → IsUseful n first p t → node m (place t) ≡ Split xs → In x xs
      → IsOfPart n m first p entry place x

-- What a state of a reversed NFA is. `place p q` is the state for `q` in the part for the pattern `p`.
pub data IsOfMirror (n m : Nfa) (first : ℕ) (entries : List ℕ) (root : ℕ) (place : (p q : ℕ) → ℕ) (x : ℕ) :
    Type 0 where
  -- the root
  IsRootOf : x ≡ root → IsOfMirror n m first entries root place x
  -- a state of the part for a pattern
  IsInPart :
      (p entry : ℕ) → slice_get entries p ≡ Some entry → IsOfPart n m first p entry (place p) x
      → IsOfMirror n m first entries root place x

-- `m` is `n` reversed. It has a part for each pattern. The paths of a part begin at its entry, and the paths of all
-- parts also begin at the root. `place p q` is the state for `q` in the part for the pattern `p`. There are no other
-- states.
pub record IsMirror (n m : Nfa) (first : ℕ) (entries : List ℕ) (root : ℕ) : Type 0 where
  -- lines end at the same byte
  pub terminator : m.terminator ≡ n.terminator
  -- the reverse flag is flipped
  pub reverse : m.reverse ≡ not n.reverse
  -- the root is the union of the entries
  pub roots : node m root ≡ Split entries
  -- each pattern has an entry of its own
  pub distinct : Distinct entries
  -- the state that stands for a state in the part for a pattern
  pub place : (p q : ℕ) → ℕ
  -- each pattern has a part, whose backward paths begin at its entry
  pub parts : (p entry : ℕ) → slice_get entries p ≡ Some entry → IsPart n m first p entry (place p)
  -- there are no other states than the root and those of the parts
  pub only : (x : ℕ) → x < length m.nodes → IsOfMirror n m first entries root place x

-- The flags of the reversed NFA.
abbrev pub reversed_flags : Flags → Flags
reversed_flags f = record { utf8 = f.utf8; reverse = not f.reverse; line_terminator = f.line_terminator }

-- The NFA `b` is `a` reversed. Anchored and unanchored searches of it begin at the same state.
pub record IsReversed (a b : Automaton) : Type 0 where
  -- they have the same number of patterns
  pub patterns : length b.start_pattern ≡ length a.start_pattern
  -- both or neither are in UTF-8 mode
  pub utf8 : b.flags.utf8 ≡ a.flags.utf8
  -- anchored and unanchored searches of it begin at the same state
  pub one_start : b.start_unanchored ≡ b.start_anchored
  -- its states are the reversed states of the other NFA, with the edges of dense states as ranges
  pub mirror : IsMirror (ranged_nfa a) (nfa_of b) a.start_anchored b.start_pattern b.start_anchored

-- Searches of the NFA begin at the state.
pub data BeginsAt (a : Automaton) (start : ℕ) : Type 0 where
  -- anchored ones
  BeginsHere : start ≡ a.start_anchored → BeginsAt a start
  -- unanchored ones
  BeginsAnywhere : start ≡ a.start_unanchored → BeginsAt a start
  -- those for one pattern
  BeginsByPattern : In start a.start_pattern → BeginsAt a start

-- A path accepts the pattern at place `i` of the tape.
abbrev pub AcceptsFrom : Automaton → Tape → (start i pattern : ℕ) → Type 0
AcceptsFrom a t start i pattern = (path : List ℕ) × Accepts (nfa_of a) t start i pattern path

-- The NFAs have the same starts and flags, and from each start the same patterns are accepted at the same places. Their
-- states may differ.
pub record ReadsAlike (a b : Automaton) : Type 0 where
  -- they have the same flags
  pub flags : b.flags ≡ a.flags
  -- anchored searches begin at the same state
  pub anchored : b.start_anchored ≡ a.start_anchored
  -- unanchored searches begin at the same state
  pub unanchored : b.start_unanchored ≡ a.start_unanchored
  -- searches for each pattern begin at the same state
  pub patterns : b.start_pattern ≡ a.start_pattern
  -- from each start, both accept the same
  pub accepts :
      (start : ℕ) → BeginsAt a start → (t : Tape) (i pattern : ℕ)
      → AcceptsFrom a t start i pattern ↔ AcceptsFrom b t start i pattern
  -- both or neither have the empty match, with every look taken as true
  pub empty : MatchesEmpty (nfa_of a) a.start_pattern ↔ MatchesEmpty (nfa_of b) b.start_pattern

-- The NFA `b` reads like `a` reversed.
pub record ReadsReversed (a b : Automaton) : Type 0 where
  -- `a` reversed, state by state
  pub mirror : Automaton
  -- it is the reversed NFA of `a`
  pub reversed : IsReversed a mirror
  -- `b` reads like the reversed NFA
  pub alike : ReadsAlike mirror b

-- The NFA `b` is a reversal of `a`: it reads like `a` reversed, has no more states or looks, and a closure needs at
-- most four times the room.
pub record IsReversalOf (a b : Automaton) : Type 0 where
  -- it reads like `a` reversed
  pub reads : ReadsReversed a b
  -- it has as many states as `a` reversed state by state
  pub states : length b.states ≡ length reads.mirror.states
  -- each look of it is a look of `a` reversed state by state
  pub looks : (look : Look) → Occurs (nfa_of b) look → Occurs (nfa_of reads.mirror) look
  -- each look of it is a look of `a`, flipped
  pub flips : (look : Look) → Occurs (nfa_of b) look → Occurs (nfa_of a) (flip look)
  -- the stack of a closure needs at most four times the room that it needs in `a` reversed state by state
  pub room : stack_room b.states ≤ 4 * stack_room reads.mirror.states
  -- in `a` reversed state by state, that room is at most one more than the most alternates
  pub alternates : stack_room reads.mirror.states ≤ most_alternates a + 1

-- The empty match is reached from some pattern's start exactly if it is reached from the anchored start.
abbrev pub BeginsAlike : Automaton → Type 0
BeginsAlike a = MatchesEmpty (nfa_of a) a.start_pattern ↔ MatchesEmpty (nfa_of a) (a.start_anchored ∷ [])

-- From the start of a pattern, the reversed NFA accepts what the other NFA accepts by that pattern from its anchored
-- start.
abbrev pub IsReversedByPattern : Automaton → Automaton → Type 0
IsReversedByPattern a b =
    (k entry : ℕ) → slice_get b.start_pattern k ≡ Some entry
    → (h : List ℕ) (i j pattern : ℕ) → i ≤ j → j ≤ length h
    → ((path : List ℕ) × Accepts (nfa_of b) (reverse_tape h i j) entry (j - i) pattern path)
    ↔ ((pattern ≡ k)
    × ((path : List ℕ) × Accepts (nfa_of a) (forward_tape h i j) a.start_anchored (j - i) pattern path))

-- From the start of each pattern, every NFA that reads like another one reversed accepts what that one accepts by the
-- pattern.
abbrev pub PatternsAreReversed : Type 0
PatternsAreReversed = (a b : Automaton) → IsChecked a → ReadsReversed a b → IsReversedByPattern a b

-- An NFA that begins alike and skips lazily is a true pair with its reversed NFA.
abbrev pub ReversedIsTrue : Type 0
ReversedIsTrue =
    (a b : Automaton) (kind : MatchKind) → IsChecked a → ReadsReversed a b → BeginsAlike a → SkipsLazily a
    → IsTruePair (engine_of a kind) (engine_of b All)
