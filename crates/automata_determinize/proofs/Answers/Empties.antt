-- The computed test for the empty match is correct.
use Rattle.std.proofs.Common.{ℕ, ◌≡◌, ◌<◌, Bool, true, false, ◌&&◌, ◌||◌, List, [], ◌∷◌, ◌⊎◌, length, Option, Some}
use Rattle.std.proofs.Common.{None, inl, inr, refl, sym, ap, ◌∙◌, subst, arith, ⊎_elim, true≢false}
use Rattle.std.proofs.lemmas.Bool.{cases_order}
use Rattle.automata_base.specs.Lists.{In, From}
use Rattle.std.specs.Prelude.{slice_get}
use Rattle.automata_base.specs.Nfas.Nfa.{Nfa, hop, accepts}
use Rattle.automata_base.specs.Paths.Paths.{IsPathAt, all_true, Run, IsClosure}
use Rattle.automata_determinize.specs.Retraced.Computed.{closure_of}
use Rattle.automata_base.proofs.Paths.Walks.{walk_run}
use Rattle.automata_base.proofs.Paths.Sets.{HasWalk, walk_then, in_nth, nth_in}
use Rattle.automata_base.proofs.Paths.Readings.{sorted_has}
use Rattle.automata_determinize.proofs.Paths.Fuels.{AllBelow, closure_right}
use Rattle.automata_base.specs.Nfas.Engines.{Engine, HasEmptyMatch, IsSkipping}
use Rattle.automata_base.specs.declared.util.search.Anchored.TheVariants.{Pattern}
use Rattle.automata_base.specs.Answers.Answers.{IsSound}

abbrev pub is_match_state : Option ℕ → Bool
is_match_state None = false
is_match_state (Some p) = true

abbrev pub any_match : Nfa → List ℕ → Bool
any_match n [] = false
any_match n (q ∷ qs) = is_match_state (accepts n q) || any_match n qs

abbrev pub has_empty : Engine → Bool
has_empty d = any_match d.nfa (closure_of d.nfa all_true d.starts)

abbrev pub is_skipping : Engine → Bool
is_skipping d = d.utf8 && has_empty d

-- An edge followed by a walk gives a walk.
walk_on : (n : Nfa) (q e r z : ℕ) → hop n all_true q e ≡ Some r → HasWalk n all_true r z → HasWalk n all_true q z
walk_on n q e r z h w = go (cases_order r q)
  where
    past : (r ≡ q → ⊥) → HasWalk n all_true q z
    past f =
        walk_then n all_true [] q (e ∷ []) r z
        (r, h, (λ i. ⊎_elim (λ (s : r ≡ q). f s) (λ (b : ⊥). b) i), refl) w

    go : (r ≡ q) ⊎ ((r < q) ⊎ (q < r)) → HasWalk n all_true q z
    go (inl e) = subst (λ v. HasWalk n all_true v z) e w
    go (inr (inl l)) = past (λ e. omega (arith, l, e))
    go (inr (inr l)) = past (λ e. omega (arith, l, e))

pub run_walk : (n : Nfa) (q : ℕ) (path : List ℕ) (z : ℕ) → Run n q path z → HasWalk n all_true q z
run_walk n q [] z r = ([], r)
run_walk n q (e ∷ path) z r = walk_on n q e r.0 z r.1 (run_walk n r.0 path z r.2)

any_here : (n : Nfa) (xs : List ℕ) (q p : ℕ) → In q xs → accepts n q ≡ Some p → any_match n xs ≡ true
any_here n [] q p i a = absurd i
any_here n (x ∷ xs) q p (inl i) a =
    ap (λ v. is_match_state v || any_match n xs) (ap (λ v. accepts n v) (sym i) ∙ a)
any_here n (x ∷ xs) q p (inr i) a = go (is_match_state (accepts n x)) (any_here n xs q p i a)
  where
    go : (b : Bool) → any_match n xs ≡ true → (b || any_match n xs) ≡ true
    go true e = refl
    go false e = e

any_there :
    (n : Nfa) (xs : List ℕ) → any_match n xs ≡ true → (q p : ℕ) × In q xs × (accepts n q ≡ Some p)
any_there n [] e = absurd (true≢false (sym e))
any_there n (x ∷ xs) e = go (accepts n x) refl e (any_there n xs)
  where
    go :
        (o : Option ℕ) → accepts n x ≡ o → (is_match_state o || any_match n xs) ≡ true
        → (any_match n xs ≡ true → (q p : ℕ) × In q xs × (accepts n q ≡ Some p))
        → (q p : ℕ) × In q (x ∷ xs) × (accepts n q ≡ Some p)
    go None a e ih = let w = ih e in (w.0, w.1, inr w.2, w.3)
    go (Some p) a e ih = (x, p, inl refl, a)

starts_closure : (d : Engine) → IsSound d → IsClosure d.nfa all_true d.starts (closure_of d.nfa all_true d.starts)
starts_closure d s = closure_right d.nfa all_true d.starts s.0 below
  where
    below : AllBelow (length d.nfa.nodes) d.starts
    below y i = let k = in_nth d.starts y i in s.2 (Pattern k.0) y k.1

pub empty_there : (d : Engine) → IsSound d → HasEmptyMatch d → has_empty d ≡ true
empty_there d s e = any_here d.nfa (closure_of d.nfa all_true d.starts) e.1 e.2 reached e.5
  where
    k : (k : ℕ) × (slice_get d.starts k ≡ Some e.0)
    k = in_nth d.starts e.0 e.3

    w : HasWalk d.nfa all_true e.0 e.1
    w = run_walk d.nfa e.0 e.4.0 e.1 e.4.1

    reached : In e.1 (closure_of d.nfa all_true d.starts)
    reached = (starts_closure d s).0 e.1 (k.0 ∷ w.0) (e.0, k.1, w.1)

pub empty_here : (d : Engine) → IsSound d → has_empty d ≡ true → HasEmptyMatch d
empty_here d s e = go key.0 key.1
  where
    q : (q p : ℕ) × In q (closure_of d.nfa all_true d.starts) × (accepts d.nfa q ≡ Some p)
    q = any_there d.nfa (closure_of d.nfa all_true d.starts) e

    key : (key : List ℕ) × From (λ root path q. IsPathAt d.nfa all_true [] root path q) d.starts q.0 key
    key =
        sorted_has (From (λ root path q. IsPathAt d.nfa all_true [] root path q) d.starts)
        (closure_of d.nfa all_true d.starts) q.0 (starts_closure d s).1 q.2

    go :
        (key : List ℕ) → From (λ root path q. IsPathAt d.nfa all_true [] root path q) d.starts q.0 key → HasEmptyMatch d
    go [] f = absurd f
    go (k ∷ path) f =
        (f.0, q.0, q.1, nth_in d.starts k f.0 f.1, (path, walk_run d.nfa all_true [] f.0 path q.0 f.2), q.3)

-- The computed flag is true exactly if offsets inside a character are skipped.
pub skipping_tests :
    (d : Engine) → IsSound d → (is_skipping d ≡ true → IsSkipping d) × (is_skipping d ≡ false → IsSkipping d → ⊥)
skipping_tests d s = (there d.utf8 refl, back)
  where
    there : (b : Bool) → d.utf8 ≡ b → (b && has_empty d) ≡ true → IsSkipping d
    there true e h = (e, empty_here d s h)
    there false e h = absurd (true≢false (sym h))

    back : is_skipping d ≡ false → IsSkipping d → ⊥
    back e z = true≢false (sym (both z.0 (empty_there d s z.1)) ∙ e)
      where
        both : d.utf8 ≡ true → has_empty d ≡ true → (d.utf8 && has_empty d) ≡ true
        both a b = ap (λ v. v && has_empty d) a ∙ b

pub skips_or_not : (d : Engine) → IsSound d → IsSkipping d ⊎ (IsSkipping d → ⊥)
skips_or_not d s = go (is_skipping d) refl
  where
    go : (b : Bool) → is_skipping d ≡ b → IsSkipping d ⊎ (IsSkipping d → ⊥)
    go true e = inl ((skipping_tests d s).0 e)
    go false e = inr ((skipping_tests d s).1 e)
