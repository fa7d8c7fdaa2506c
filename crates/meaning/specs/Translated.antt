-- The NFAs to which the kit's compiler compiles patterns, joined into one NFA of this library.
use Rattle.std.specs.Prelude.{ℕ, suc, ◌+◌, Bool, false, List, [], ◌∷◌, ◌++◌, length, slice_range}
use Rattle.regex_hir.specs.declared.look.Look as kit_look
use Rattle.regex_hir.specs.declared.look.Look.TheVariants as is
use Rattle.regex_nfa.specs.declared.state.State as kit_state
use Rattle.regex_nfa.specs.declared.state.State.TheVariants as kit
use Rattle.regex_nfa.specs.declared.state.Transition.{Transition}
use Rattle.regex_nfa.specs.declared.nfa.Nfa as kit_nfa
use Rattle.automata_base.specs.declared.util.look.Look as our_look
use Rattle.automata_base.specs.declared.util.look.Look.TheVariants as our
use Rattle.automata_base.specs.declared.util.search.MatchKind.TheVariants.{LeftmostFirst}
use Rattle.automata_base.specs.Nfas.Engines.{Engine, any_byte}
use Rattle.automata_base.specs.Nfas.Nfa.{Nfa, Node, Range, Split, Assert, Read, Accept}

-- The look of this library for a look of the kit.
abbrev pub look_of : kit_look.Look → our_look.Look
look_of is.Start = our.Start
look_of is.End = our.End
look_of is.StartLf = our.StartLF
look_of is.EndLf = our.EndLF
look_of is.StartCrlf = our.StartCRLF
look_of is.EndCrlf = our.EndCRLF
look_of is.WordAscii = our.WordAscii
look_of is.WordAsciiNegate = our.WordAsciiNegate
look_of is.WordUnicode = our.WordUnicode
look_of is.WordUnicodeNegate = our.WordUnicodeNegate
look_of is.WordStartAscii = our.WordStartAscii
look_of is.WordEndAscii = our.WordEndAscii
look_of is.WordStartUnicode = our.WordStartUnicode
look_of is.WordEndUnicode = our.WordEndUnicode
look_of is.WordStartHalfAscii = our.WordStartHalfAscii
look_of is.WordEndHalfAscii = our.WordEndHalfAscii
look_of is.WordStartHalfUnicode = our.WordStartHalfUnicode
look_of is.WordEndHalfUnicode = our.WordEndHalfUnicode

-- The nodes of one pattern's states. They come after `base` others, so `base` is added to each target.
module _ (base : ℕ) where
  -- A transition as a range.
  abbrev pub range_of : Transition → Range
  range_of t = record { lo = t.start; hi = t.end; next = base + t.next }

  -- The ranges of a sparse state.
  abbrev pub ranges_of : List Transition → List Range
  ranges_of [] = []
  ranges_of (t ∷ ts) = range_of t ∷ ranges_of ts

  -- The node of a state. What a capture writes is ignored.
  abbrev pub node_of : (pattern : ℕ) → List Transition → kit_state.State → Node
  node_of p ts (kit.ByteRange t) = Read (range_of t ∷ [])
  node_of p ts (kit.Sparse from to) = Read (ranges_of (slice_range ts from to))
  node_of p ts (kit.Split first second) = Split ((base + first) ∷ (base + second) ∷ [])
  node_of p ts (kit.Save slot next) = Split ((base + next) ∷ [])
  node_of p ts (kit.Look l next) = Assert (look_of l) (base + next)
  node_of p ts kit.Match = Accept p
  node_of p ts kit.Fail = Split []

  -- The nodes of the states of one pattern.
  abbrev pub nodes_of : (pattern : ℕ) → List Transition → List kit_state.State → List Node
  nodes_of p ts [] = []
  nodes_of p ts (x ∷ xs) = node_of p ts x ∷ nodes_of p ts xs

-- The number of states of the patterns.
abbrev pub size_of : List kit_nfa.Nfa → ℕ
size_of [] = 0
size_of (k ∷ ks) = length k.states.items + size_of ks

-- The nodes of patterns that are numbered from `p` on, one pattern after another.
abbrev pub nodes_of_all : (base p : ℕ) → List kit_nfa.Nfa → List Node
nodes_of_all base p [] = []
nodes_of_all base p (k ∷ ks) =
    nodes_of base p k.transitions.items k.states.items ++ nodes_of_all (base + length k.states.items) (suc p) ks

-- The state where each pattern begins.
abbrev pub starts_of : (base : ℕ) → List kit_nfa.Nfa → List ℕ
starts_of base [] = []
starts_of base (k ∷ ks) = (base + k.start) ∷ starts_of (base + length k.states.items) ks

-- The NFA that joins patterns: after their states come a union of their starts, and a loop that tries it and then skips
-- a byte.
abbrev pub joined_nfa : List kit_nfa.Nfa → Nfa
joined_nfa ks = let union = size_of ks in record {
  nodes = nodes_of_all 0 0 ks
      ++ Split (starts_of 0 ks) ∷ Split (union ∷ (union + 2) ∷ []) ∷ any_byte (union + 1) ∷ [];
  terminator = 10;
  reverse = false;
  keeps_unions = false;
}

-- The joined NFA as it is searched: leftmost-first, over text if `utf8` is true, otherwise over bytes.
abbrev pub joined_engine : (utf8 : Bool) → List kit_nfa.Nfa → Engine
joined_engine utf8 ks = record {
  nfa = joined_nfa ks;
  anchored = size_of ks;
  unanchored = size_of ks + 1;
  starts = starts_of 0 ks;
  utf8 = utf8;
  kind = LeftmostFirst;
}
