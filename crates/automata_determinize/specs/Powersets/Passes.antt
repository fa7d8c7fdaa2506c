-- Powerset states, and the pass over them: matches are delayed by one byte, and looks are decided when the next unit is
-- known.
use Rattle.std.specs.Prelude.{ℕ, zero, suc, ◌≡◌, ◌<◌, Bool, true, false, not, ◌&&◌, ◌||◌, List, [], ◌∷◌, ◌↔◌}
use Rattle.std.specs.Prelude.{Option, Some, None}
use Rattle.automata_base.specs.declared.util.look.Look.{Look}
use Rattle.automata_base.specs.declared.util.look.Look.TheVariants.{Start, End, StartLF, EndLF, StartCRLF, EndCRLF}
use Rattle.automata_base.specs.declared.util.look.Look.TheVariants.{WordAscii}
use Rattle.automata_base.specs.declared.util.look.Look.TheVariants.{WordAsciiNegate}
use Rattle.automata_base.specs.declared.util.look.Look.TheVariants.{WordUnicode, WordUnicodeNegate, WordStartAscii}
use Rattle.automata_base.specs.declared.util.look.Look.TheVariants.{WordEndAscii}
use Rattle.automata_base.specs.declared.util.look.Look.TheVariants.{WordStartUnicode}
use Rattle.automata_base.specs.declared.util.look.Look.TheVariants.{WordEndUnicode, WordStartHalfAscii}
use Rattle.automata_base.specs.declared.util.look.Look.TheVariants.{WordEndHalfAscii}
use Rattle.automata_base.specs.declared.util.look.Look.TheVariants.{WordStartHalfUnicode}
use Rattle.automata_base.specs.declared.util.look.Look.TheVariants.{WordEndHalfUnicode}
use Rattle.automata_base.specs.Haystacks.Looks.{holds, is_absent, is_byte, is_word, differ}
use Rattle.automata_base.specs.Haystacks.Looks.{first_half}
use Rattle.automata_base.specs.Haystacks.Looks.{second_half}
use Rattle.automata_base.specs.Lists.{In, pick}
use Rattle.automata_base.specs.Nfas.Nfa.{Nfa, Assert, Truth, node, accepts, keep}
use Rattle.automata_base.specs.Paths.Paths.{Tape, next, IsClosure}
use Rattle.automata_base.specs.declared.util.search.MatchKind.{MatchKind}
use Rattle.automata_base.specs.Powersets.Cuts.{cut_for, IsOnce, targets}
use Rattle.automata_base.specs.Powersets.Powerset.{Powerset}
use Rattle.automata_base.specs.Haystacks.LookSets.{truth_of, IsLookSet}
use Rattle.automata_base.specs.Powersets.Passes.{Occurs, is_word_look, is_crlf_look}

-- The unit is a byte, or none.
abbrev pub IsUnit : Option ℕ → Type 0
IsUnit None = Unit {0}
IsUnit (Some u) = u < 256

-- Every unit that the tape gives is a byte or none.
abbrev pub IsTape : Tape → Type 0
IsTape t = (i : ℕ) → IsUnit (next t i)

-- A look of the NFA that holds after `prev` whatever comes next.
abbrev pub IsKnownLook : Nfa → Option ℕ → Look → Type 0
IsKnownLook n prev look =
    Occurs n look × ((next : Option ℕ) → IsUnit next → holds n.terminator n.reverse look prev next ≡ true)

-- Some state of the list is this look.
abbrev pub IsNeeded : Nfa → List ℕ → Look → Type 0
IsNeeded n xs look = (q next : ℕ) × In q xs × (node n q ≡ Assert look next)

-- The powerset state is made of a closure after a unit.
pub record IsMake (n : Nfa) (matched C : List ℕ) (prev : Option ℕ) (Q : Powerset) : Type 0 where
  -- its NFA states are what the NFA keeps of the closure, in order
  pub nfa : Q.nfa ≡ pick (keep n) C
  -- it has these patterns
  pub patterns : Q.patterns ≡ matched
  -- it needs the looks of its NFA states
  pub needed : (look : Look) → (truth_of Q.needed look ≡ true) ↔ IsNeeded n Q.nfa look
  -- if it needs a look, it knows those that are known after the unit
  pub known :
      (look : Look)
      → (truth_of Q.known look ≡ true) ↔ (((other : Look) × IsNeeded n Q.nfa other) × IsKnownLook n prev look)
  -- it has the flag for a word byte exactly if it has states, the NFA has a word look, and the unit is a word byte
  pub word :
      (Q.word ≡ true)
      ↔ ((Q.nfa ≡ [] → ⊥) × ((look : Look) × Occurs n look × (is_word_look look ≡ true)) × (is_word prev ≡ true))
  -- it has the flag for half a CRLF exactly if it has states, the NFA has a CRLF look, and the unit is the byte of
  -- `\r\n` that is read first
  pub half :
      (Q.half ≡ true)
      ↔ ((Q.nfa ≡ [] → ⊥) × ((look : Look) × Occurs n look × (is_crlf_look look ≡ true))
      × (is_byte (first_half n.reverse) prev ≡ true))
  -- what it knows is a set of looks
  pub known_set : IsLookSet Q.known
  -- what it needs is a set of looks
  pub needed_set : IsLookSet Q.needed

-- Whether the next unit decides that a look is true, with the flags for the previous byte.
abbrev pub decided : (terminator : ℕ) (reverse word half : Bool) → Look → (unit : Option ℕ) → Bool
decided t r w h Start u = false
decided t r w h End u = is_absent u
decided t r w h StartLF u = false
decided t r w h EndLF u = is_absent u || is_byte t u
decided t r w h StartCRLF u = h && not (is_byte (second_half r) u)
decided t r w h EndCRLF u = is_absent u || is_byte (first_half r) u || (is_byte (second_half r) u && not h)
decided t r w h WordAscii u = differ w (is_word u)
decided t r w h WordAsciiNegate u = not (differ w (is_word u))
decided t r w h WordUnicode u = differ w (is_word u)
decided t r w h WordUnicodeNegate u = not (differ w (is_word u))
decided t r w h WordStartAscii u = not w && is_word u
decided t r w h WordEndAscii u = w && not (is_word u)
decided t r w h WordStartUnicode u = not w && is_word u
decided t r w h WordEndUnicode u = w && not (is_word u)
decided t r w h WordStartHalfAscii u = not w
decided t r w h WordEndHalfAscii u = not (is_word u)
decided t r w h WordStartHalfUnicode u = not w
decided t r w h WordEndHalfUnicode u = not (is_word u)

-- The looks that are true when a powerset state reads a unit: known before, or decided by it.
abbrev pub true_looks : Nfa → Powerset → Option ℕ → Truth
true_looks n Q u look = truth_of Q.known look || decided n.terminator n.reverse Q.word Q.half look u

-- A needed look is true and was not known before.
abbrev pub IsNews : Nfa → Powerset → Option ℕ → Type 0
IsNews n Q u =
    (look : Look) × (truth_of Q.needed look ≡ true) × (true_looks n Q u look ≡ true) × (truth_of Q.known look ≡ false)

-- The list of NFA states once the looks of the powerset state are decided.
pub data IsDecided (n : Nfa) (Q : Powerset) (u : Option ℕ) (L : List ℕ) : Type 0 where
  -- a needed look has become true: the closure of the states under the looks that are true
  HasNews : IsNews n Q u → IsClosure n (true_looks n Q u) Q.nfa L → IsDecided n Q u L
  -- none has: the states themselves
  HasNoNews : (IsNews n Q u → ⊥) → L ≡ Q.nfa → IsDecided n Q u L

-- The powerset state is made of the closure of the roots under the looks known after `prev`.
pub record IsClosureOf (n : Nfa) (patterns roots : List ℕ) (prev : Option ℕ) (Q : Powerset) : Type 0 where
  -- which looks are taken as true
  pub truth : Truth
  -- they are those known after the unit
  pub known : (look : Look) → (truth look ≡ true) ↔ IsKnownLook n prev look
  -- the closure
  pub list : List ℕ
  -- it is the closure of the roots
  pub closure : IsClosure n truth roots list
  -- the powerset state is made of it
  pub made : IsMake n patterns list prev Q

-- The powerset state that a search begins with.
abbrev pub IsStart : Nfa → ℕ → Option ℕ → Powerset → Type 0
IsStart n start prev Q = IsClosureOf n [] (start ∷ []) prev Q

-- The powerset state that another leads to on a unit: its looks are decided by the unit; its patterns are the patterns
-- of the list's match states, where the list is cut after the first match state under `MatchKind::LeftmostFirst`; and
-- the new list is the closure of the targets of the byte states.
abbrev pub IsSuccessor : Nfa → MatchKind → Powerset → Option ℕ → Powerset → Type 0
IsSuccessor n kind Q u Q' =
    (L patterns : List ℕ) × IsDecided n Q u L × IsOnce (pick (accepts n) (cut_for kind n L)) patterns
    × IsClosureOf n patterns (targets n u (cut_for kind n L)) u Q'

-- The state after `k` units.
abbrev pub IsPass : Nfa → MatchKind → ℕ → Tape → ℕ → Powerset → Type 0
IsPass n kind start t zero Q = IsStart n start t.before Q
IsPass n kind start t (suc k) Q = (P : Powerset) × IsPass n kind start t k P × IsSuccessor n kind P (next t k) Q
