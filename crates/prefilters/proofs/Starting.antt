-- The beginnings of patterns.
use Rattle.std.proofs.Common.{ℕ, zero, suc, ◌≡◌, ◌∙◌, ◌+◌, ◌<◌, List, [], ◌∷◌, ◌++◌, inl, inr}
use Rattle.std.proofs.Common.{ap, arith, get_or, length, map, refl, subst, sym, take}
use Rattle.std.proofs.lemmas.List.{map-append}
use Rattle.regex_extract.proofs.LanguageLemmas.{meanings_more}
use Rattle.regex_hir.specs.Meaning.{alt_all, cat_all, meaning}
use Rattle.regex_hir.specs.Re.{Re}
use Rattle.regex_hir.specs.declared.hir.Hir.{Hir}
use Rattle.regex_hir.proofs.MatchesLemmas.{Matches-IsSpan}
use Rattle.prefilters.specs.Beginnings.{AreBeginnings, BeginsWithOneOf}

-- a match of a sequence begins with one of its first parts
pub front : (hs : List Hir) (n : ℕ) → BeginsWithOneOf (cat_all (map meaning hs)) (cat_all (map meaning (take n hs)))
front hs zero hay i j m = (i, (Matches-IsSpan hay (cat_all (map meaning hs)) i j m).0, refl)
front [] (suc n) hay i j m = (j, omega arith, m)
front (h ∷ hs) (suc n) hay i j m =
    let w = front hs n hay m.0 j m.2 in (w.0, w.1, (m.0, m.1, w.2))

pub of_branches : (res firsts : List Re) → AreBeginnings res firsts → BeginsWithOneOf (alt_all res) (alt_all firsts)
of_branches [] [] are hay i j m = (j, omega arith, m)
of_branches [] (first ∷ firsts) are hay i j m = absurd are
of_branches (re ∷ res) [] are hay i j m = absurd are
of_branches (re ∷ res) (first ∷ firsts) are hay i j (inl m) =
    let w = are.0 hay i j m in (w.0, w.1, inl w.2)
of_branches (re ∷ res) (first ∷ firsts) are hay i j (inr m) =
    let w = of_branches res firsts are.1 hay i j m in (w.0, w.1, inr w.2)

one_more :
    (res firsts : List Re) (re first : Re) → AreBeginnings res firsts → BeginsWithOneOf re first
    → AreBeginnings (res ++ re ∷ []) (firsts ++ first ∷ [])
one_more [] [] re first are is = (is, tt)
one_more [] (f ∷ firsts) re first are is = absurd are
one_more (r ∷ res) [] re first are is = absurd are
one_more (r ∷ res) (f ∷ firsts) re first are is = (are.0, one_more res firsts re first are.1 is)

pub all_more :
    (hs : List Hir) (i : ℕ) (h first : Hir) (old new : List Hir) → i < length hs → h ≡ get_or hs i h
    → new ≡ old ++ first ∷ [] → AreBeginnings (map meaning (take i hs)) (map meaning old)
    → BeginsWithOneOf (meaning h) (meaning first) → AreBeginnings (map meaning (take (i + 1) hs)) (map meaning new)
all_more hs i h first old new lt is more are begins =
    subst (λ res. AreBeginnings res (map meaning new)) (sym (meanings_more hs i h lt is))
    (subst (AreBeginnings (map meaning (take i hs) ++ meaning h ∷ []))
    (sym (ap (map meaning) more ∙ map-append meaning old (first ∷ [])))
    (one_more (map meaning (take i hs)) (map meaning old) (meaning h) (meaning first) are begins))
