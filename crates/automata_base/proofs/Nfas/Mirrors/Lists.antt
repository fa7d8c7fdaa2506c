-- Lists of lists, and what is added to one of them.
use Rattle.std.proofs.Common.{ℕ, zero, suc, ◌≡◌, ◌<◌, ◌+◌, ◌-◌}
use Rattle.std.proofs.Common.{List, [], ◌∷◌, ◌++◌, length, get_or, Vec, refl, sym, ap, ◌∙◌, arith}
use Rattle.std.proofs.Math.ListN.{set}
use Rattle.std.specs.declared.alloc.Global.{Global}
use Rattle.automata_base.specs.Retraced.ReversedEdges.{lists_of, list_at, push_at}
use Rattle.automata_base.specs.Retraced.ReversedEdges.{no_lists}

pub lists_length : (vs : List (Vec ℕ Global)) → length (lists_of vs) ≡ length vs
lists_length [] = refl
lists_length (v ∷ vs) = ap suc (lists_length vs)

pub lists_append : (vs : List (Vec ℕ Global)) (v : Vec ℕ Global) → lists_of (vs ++ v ∷ []) ≡ lists_of vs ++ v.items ∷ []
lists_append [] v = refl
lists_append (w ∷ vs) v = ap (λ z. w.items ∷ z) (lists_append vs v)

pub none_more : (n : ℕ) → no_lists (n + 1) ≡ no_lists n ++ [] ∷ []
none_more n = ap no_lists (next n) ∙ go n
  where
    next : (n : ℕ) → n + 1 ≡ suc n
    next n = omega arith

    go : (n : ℕ) → no_lists (suc n) ≡ no_lists n ++ [] ∷ []
    go zero = refl
    go (suc n) = ap (λ z. [] ∷ z) (go n)

pub lists_push :
    (vs : List (Vec ℕ Global)) (k : ℕ) (old new d : Vec ℕ Global) (x : ℕ) → k < length vs → old ≡ get_or vs k d
    → new.items ≡ old.items ++ x ∷ [] → lists_of (set vs k new) ≡ push_at (lists_of vs) k x
lists_push [] k old new d x l e f = absurd (omega (arith, l))
lists_push (v ∷ vs) zero old new d x l e f =
    ap (λ z. z ∷ lists_of vs) (f ∙ ap (λ (z : Vec ℕ Global). z.items ++ x ∷ []) e)
lists_push (v ∷ vs) (suc k) old new d x l e f =
    ap (λ z. v.items ∷ z) (lists_push vs k old new d x (omega (arith, l)) e f)

-- The list at an index.
pub list_item :
    (vs : List (Vec ℕ Global)) (k : ℕ) (v : Vec ℕ Global) → k < length vs → v ≡ get_or vs k v
    → list_at (lists_of vs) k ≡ v.items
list_item [] k v l e = absurd (omega (arith, l))
list_item (w ∷ ws) zero v l e = ap (λ (z : Vec ℕ Global). z.items) (sym e)
list_item (w ∷ ws) (suc k) v l e = list_item ws k v (omega (arith, l)) e

pub none_at : (n k : ℕ) → list_at (no_lists n) k ≡ []
none_at zero k = refl
none_at (suc n) zero = refl
none_at (suc n) (suc k) = none_at n k

pub push_same : (xs : List (List ℕ)) (k x : ℕ) → k < length xs → list_at (push_at xs k x) k ≡ list_at xs k ++ x ∷ []
push_same [] k x l = absurd (omega (arith, l))
push_same (y ∷ ys) zero x l = refl
push_same (y ∷ ys) (suc k) x l = push_same ys k x (omega (arith, l))

pub push_other : (xs : List (List ℕ)) (j k x : ℕ) → (j ≡ k → ⊥) → list_at (push_at xs j x) k ≡ list_at xs k
push_other [] j k x f = refl
push_other (y ∷ ys) zero zero x f = absurd (f refl)
push_other (y ∷ ys) zero (suc k) x f = refl
push_other (y ∷ ys) (suc j) zero x f = refl
push_other (y ∷ ys) (suc j) (suc k) x f = push_other ys j k x (λ e. f (ap suc e))
