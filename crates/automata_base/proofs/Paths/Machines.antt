-- The looks of a list of states, computed.
use Rattle.std.proofs.Common.{ℕ, zero, suc, ◌≡◌, Bool, true, false, ◌&&◌, eqb, List, [], ◌∷◌, ◌⊎◌}
use Rattle.std.proofs.Common.{Option, Some, inl, inr, refl, sym, ap, ◌∙◌}
use Rattle.std.proofs.Common.{true≢false}
use Rattle.std.proofs.lemmas.Bool.{eqb-true}
use Rattle.automata_base.specs.Haystacks.Looks.{Look, Start, End, StartLF, EndLF, StartCRLF, EndCRLF, WordAscii}
use Rattle.automata_base.specs.Haystacks.Looks.{WordAsciiNegate, WordUnicode, WordUnicodeNegate, WordStartAscii}
use Rattle.automata_base.specs.Haystacks.Looks.{WordEndAscii, WordStartUnicode, WordEndUnicode, WordStartHalfAscii}
use Rattle.automata_base.specs.Haystacks.Looks.{WordEndHalfAscii, WordStartHalfUnicode, WordEndHalfUnicode}
use Rattle.std.specs.Prelude.{slice_get}
use Rattle.automata_base.specs.Nfas.Nfa.{Node, Split, Assert, Read, Accept, node_or_fail}
use Rattle.automata_base.specs.Nfas.Nfa.{looks_at, any_node}
use Rattle.automata_base.specs.Paths.Paths.{next}
use Rattle.automata_base.specs.Haystacks.Looks.{look_index}
use Rattle.std.proofs.lemmas.Bool.{or_cases}
use Rattle.automata_base.proofs.Paths.Truths.{or_left}
use Rattle.automata_base.proofs.Paths.Truths.{or_right}

pub and_true : (a b : Bool) → a ≡ true → b ≡ true → a && b ≡ true
and_true true b e f = f
and_true false b e f = absurd (true≢false (sym e))

-- The looks in the order of their numbers.
abbrev pub looks : List Look
looks =
    Start ∷ End ∷ StartLF ∷ EndLF ∷ StartCRLF ∷ EndCRLF ∷ WordAscii ∷ WordAsciiNegate ∷ WordUnicode ∷ WordUnicodeNegate
    ∷ WordStartAscii ∷ WordEndAscii ∷ WordStartUnicode ∷ WordEndUnicode ∷ WordStartHalfAscii ∷ WordEndHalfAscii
    ∷ WordStartHalfUnicode ∷ WordEndHalfUnicode ∷ []

look_of : (a : Look) → slice_get looks (look_index a) ≡ Some a
look_of Start = refl
look_of End = refl
look_of StartLF = refl
look_of EndLF = refl
look_of StartCRLF = refl
look_of EndCRLF = refl
look_of WordAscii = refl
look_of WordAsciiNegate = refl
look_of WordUnicode = refl
look_of WordUnicodeNegate = refl
look_of WordStartAscii = refl
look_of WordEndAscii = refl
look_of WordStartUnicode = refl
look_of WordEndUnicode = refl
look_of WordStartHalfAscii = refl
look_of WordEndHalfAscii = refl
look_of WordStartHalfUnicode = refl
look_of WordEndHalfUnicode = refl

some_look : {x y : Look} → ◌≡◌ {A = Option Look} (Some x) (Some y) → x ≡ y
some_look e = cc

pub code_one : (a b : Look) → eqb (look_index a) (look_index b) ≡ true → a ≡ b
code_one a b e =
    some_look (sym (look_of a) ∙ (ap (λ v. slice_get looks v) (eqb-true (look_index a) (look_index b) e) ∙ look_of b))

pub looks_at_true :
    (f : Look → Bool) (x : Node) → looks_at f x ≡ true → (look : Look) × (next : ℕ) × (x ≡ Assert look next)
    × (f look ≡ true)
looks_at_true f (Split alternates) e = absurd (true≢false (sym e))
looks_at_true f (Assert look next) e = (look, next, refl, e)
looks_at_true f (Read ranges) e = absurd (true≢false (sym e))
looks_at_true f (Accept p) e = absurd (true≢false (sym e))

pub any_node_true :
    (f : Look → Bool) (xs : List Node) → any_node f xs ≡ true
    → (q : ℕ) × (look : Look) × (next : ℕ) × (node_or_fail (slice_get xs q) ≡ Assert look next) × (f look ≡ true)
any_node_true f [] e = absurd (true≢false (sym e))
any_node_true f (x ∷ xs) e = go (or_cases (looks_at f x) (any_node f xs) e) (any_node_true f xs)
  where
    go :
        (looks_at f x ≡ true) ⊎ (any_node f xs ≡ true)
        → (any_node f xs ≡ true
        → (q : ℕ) × (look : Look) × (next : ℕ) × (node_or_fail (slice_get xs q) ≡ Assert look next) × (f look ≡ true))
        → (q : ℕ) × (look : Look) × (next : ℕ) × (node_or_fail (slice_get (x ∷ xs) q) ≡ Assert look next)
        × (f look ≡ true)
    go (inl h) ih = let w = looks_at_true f x h in (0, w.0, w.1, w.2, w.3)
    go (inr h) ih = let w = ih h in (suc w.0, w.1, w.2, w.3, w.4)

pub any_node_from :
    (f : Look → Bool) (xs : List Node) (q : ℕ) (look : Look) (next : ℕ)
    → node_or_fail (slice_get xs q) ≡ Assert look next → f look ≡ true → any_node f xs ≡ true
any_node_from f [] q look next e t = absurd (apart e)
  where
    apart : Split [] ≡ Assert look next → ⊥
    apart e = cc
any_node_from f (x ∷ xs) zero look next e t = or_left (looks_at f x) (any_node f xs) (ap (λ v. looks_at f v) e ∙ t)
any_node_from f (x ∷ xs) (suc q) look next e t =
    or_right (looks_at f x) (any_node f xs) (any_node_from f xs q look next e t)
