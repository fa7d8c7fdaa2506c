-- Walks that stay at a place, and their parts.
use Rattle.std.proofs.Common.{ℕ, zero, suc, ◌≡◌, List, [], ◌∷◌, ◌++◌, ◌⊎◌}
use Rattle.std.proofs.Common.{Some, inl, inr, sym, ap, ◌∙◌, subst, ⊎_elim}
use Rattle.automata_base.specs.Lists.{In}
use Rattle.std.specs.Prelude.{slice_get}
use Rattle.automata_base.specs.Nfas.Nfa.{Nfa, Truth, hop}
use Rattle.automata_base.specs.Paths.Paths.{IsPathAt}
use Rattle.automata_base.proofs.Paths.Orders.{some_inj, none_some}
use Rattle.automata_base.proofs.Paths.Walks.{walk_forget, in_either}
use Rattle.std.proofs.lemmas.Bool.{cases_eq}

abbrev pub HasWalk : Nfa → Truth → ℕ → ℕ → Type 0
HasWalk n A q z = (path : List ℕ) × IsPathAt n A [] q path z

-- A walk either passes `q`, and then there is a walk from `q`, or it avoids `q`.
abbrev pub Split2 : Nfa → Truth → List ℕ → ℕ → ℕ → List ℕ → ℕ → Type 0
Split2 n A seen q r path z = HasWalk n A q z ⊎ (IsPathAt n A (seen ++ (q ∷ [])) r path z × (r ≡ q → ⊥))

suffix :
    (n : Nfa) (A : Truth) (seen : List ℕ) (q r : ℕ) (path : List ℕ) (z : ℕ) → IsPathAt n A seen r path z
    → Split2 n A seen q r path z
suffix n A seen q r [] z w = ⊎_elim
    (λ (e : r ≡ q). inl ([], sym e ∙ w)) (λ (f : r ≡ q → ⊥). inr (w, f)) (cases_eq r q)
suffix n A seen q r (e ∷ path) z w = go (cases_eq r q) (suffix n A (r ∷ seen) q w.0 path z w.3)
  where
    go : (r ≡ q) ⊎ (r ≡ q → ⊥) → Split2 n A (r ∷ seen) q w.0 path z → Split2 n A seen q r (e ∷ path) z
    go (inl s) h =
        inl (e ∷ path, subst (λ v. IsPathAt n A [] v (e ∷ path) z) s (walk_forget n A [] seen r (e ∷ path) z w))
    go (inr f) (inl h) = inl h
    go (inr f) (inr h) = inr ((w.0, w.1, fresh, h.0), f)
      where
        fresh : In w.0 (r ∷ (seen ++ (q ∷ []))) → ⊥
        fresh i = ⊎_elim (λ (k : In w.0 (r ∷ seen)). w.2 k)
            (λ (k : In w.0 (q ∷ [])). ⊎_elim (λ (s : w.0 ≡ q). h.1 s) (λ (b : ⊥). b) k)
            (in_either w.0 (r ∷ seen) (q ∷ []) i)

pub walk_cons : (n : Nfa) (A : Truth) (q e r z : ℕ) → hop n A q e ≡ Some r → HasWalk n A r z → HasWalk n A q z
walk_cons n A q e r z h w = go (suffix n A [] q r w.0 z w.1)
  where
    go : Split2 n A [] q r w.0 z → HasWalk n A q z
    go (inl k) = k
    go (inr k) = (e ∷ w.0, (r, h, (λ i. ⊎_elim (λ (s : r ≡ q). k.1 s) (λ (b : ⊥). b) i), k.0))

pub walk_then :
    (n : Nfa) (A : Truth) (seen : List ℕ) (q : ℕ) (p : List ℕ) (y z : ℕ) → IsPathAt n A seen q p y → HasWalk n A y z
    → HasWalk n A q z
walk_then n A seen q [] y z w h = subst (λ v. HasWalk n A v z) (sym w) h
walk_then n A seen q (e ∷ p) y z w h = walk_cons n A q e w.0 z w.1 (walk_then n A (q ∷ seen) w.0 p y z w.3 h)

pub nth_in : (xs : List ℕ) (k r : ℕ) → slice_get xs k ≡ Some r → In r xs
nth_in [] k r e = none_some e
nth_in (x ∷ xs) zero r e = inl (sym (some_inj e))
nth_in (x ∷ xs) (suc k) r e = inr (nth_in xs k r e)

pub in_nth : (xs : List ℕ) (r : ℕ) → In r xs → (k : ℕ) × (slice_get xs k ≡ Some r)
in_nth [] r i = absurd i
in_nth (x ∷ xs) r (inl e) = (0, ap Some (sym e))
in_nth (x ∷ xs) r (inr i) = let w = in_nth xs r i in (suc w.0, w.1)
