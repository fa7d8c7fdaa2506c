-- The made states replace the free states.
use Rattle.std.proofs.Common.{ℕ, zero, suc, ◌≡◌, ◌<◌, ◌≤◌, ◌+◌, List, [], ◌∷◌, ◌++◌, ◌⊎◌, Some, inl, inr, refl, sym, ap}
use Rattle.std.proofs.Common.{◌∙◌, subst}
use Rattle.std.proofs.Common.{arith, length, length-append, append_assoc}
use Rattle.std.specs.Prelude.{slice_get}
use Rattle.std.proofs.Math.ListN.{set}
use Rattle.std.proofs.lemmas.Bool.{cases_eq}
use Rattle.std.proofs.lemmas.Option.{slice_get_within}
use Rattle.automata_base.specs.declared.nfa.thompson.state.State.{State}
use Rattle.automata_base.specs.Lists.{In, Distinct}
use Rattle.automata_transform.specs.Retraced.Folds.{IsNotFree}
use Rattle.automata_base.proofs.Paths.Orders.{none_some, some_inj}
use Rattle.automata_base.proofs.Paths.Sets.{nth_in}

pub set_here : (xs : List State) (k : ℕ) (v : State) → k < length xs → slice_get (set xs k v) k ≡ Some v
set_here [] k v l = absurd (omega (arith, l))
set_here (x ∷ xs) zero v l = refl
set_here (x ∷ xs) (suc k) v l = set_here xs k v (omega (arith, l))

pub set_other : (xs : List State) (k q : ℕ) (v : State) → (q ≡ k → ⊥) → slice_get (set xs k v) q ≡ slice_get xs q
set_other [] k q v f = refl
set_other (x ∷ xs) zero zero v f = absurd (f refl)
set_other (x ∷ xs) zero (suc q) v f = refl
set_other (x ∷ xs) (suc k) zero v f = refl
set_other (x ∷ xs) (suc k) (suc q) v f = set_other xs k q v (λ e. f (ap suc e))

pub set_length : (xs : List State) (k : ℕ) (v : State) → length (set xs k v) ≡ length xs
set_length [] k v = refl
set_length (x ∷ xs) zero v = refl
set_length (x ∷ xs) (suc k) v = ap suc (set_length xs k v)

once : (xs : List ℕ) (k j x : ℕ) → Distinct xs → slice_get xs k ≡ Some x → slice_get xs j ≡ Some x → k ≡ j
once [] k j x d a b = absurd (none_some a)
once (y ∷ xs) zero zero x d a b = refl
once (y ∷ xs) zero (suc j) x d a b = absurd (d.0 (subst (λ v. In v xs) (sym (some_inj a)) (nth_in xs j x b)))
once (y ∷ xs) (suc k) zero x d a b = absurd (d.0 (subst (λ v. In v xs) (sym (some_inj b)) (nth_in xs k x a)))
once (y ∷ xs) (suc k) (suc j) x d a b = ap suc (once xs k j x d.1 a b)

nth_mid : (xs ys : List State) (a : State) → slice_get (xs ++ a ∷ ys) (length xs) ≡ Some a
nth_mid [] ys a = refl
nth_mid (x ∷ xs) ys a = nth_mid xs ys a

-- The state that was popped is one of all.
pub popped_at :
    (all rest left : List State) (state : State) (more : List State) → all ≡ rest ++ more → rest ≡ left ++ state ∷ []
    → slice_get all (length left) ≡ Some state
popped_at all rest left state more whole popped =
    ap (λ (z : List State). slice_get z (length left))
    (whole ∙ (ap (λ (z : List State). z ++ more) popped ∙ append_assoc left (state ∷ []) more))
    ∙ nth_mid left more state

states_nil : (xs : List State) → xs ≡ xs ++ []
states_nil [] = refl
states_nil (x ∷ xs) = ap (λ (z : List State). x ∷ z) (states_nil xs)

-- The made states after `rest` have replaced their free states.
pub record Placing (free : List ℕ) (old now : List State) (all rest : List State) : Type 0 where
  pub more : List State
  pub whole : all ≡ rest ++ more
  pub kept : (x : ℕ) → IsNotFree free x → slice_get now x ≡ slice_get old x
  pub done :
      (k x : ℕ) (s : State) → length rest ≤ k → slice_get free k ≡ Some x → slice_get all k ≡ Some s
      → slice_get now x ≡ Some s
  pub same : length now ≡ length old
  pub few : length rest ≤ length free

pub place_begin : (free : List ℕ) (old all : List State) → length all ≤ length free → Placing free old old all all
place_begin free old all few = record {
  more = [];
  whole = states_nil all;
  kept = λ x k. refl;
  done = λ k x s l a b. let c = slice_get_within all k s b in absurd (omega (arith, l, c));
  same = refl;
  few = few;
}

pub place_step :
    (free : List ℕ) (old now new all rest left : List State) (state : State) (k x : ℕ) → rest ≡ left ++ state ∷ []
    → new ≡ set now x state → k ≡ length left → slice_get free k ≡ Some x → x < length now → Distinct free
    → Placing free old now all rest → Placing free old new all left
place_step free old now new all rest left state k x popped e at here low distinct p =
    subst (λ (z : List State). Placing free old z all left) (sym e) record {
      more = state ∷ p.more;
      whole = whole;
      kept =
          λ y f. set_other now x y state (λ g. f (subst (λ v. In v free) (sym g) (nth_in free k x here))) ∙ p.kept y f;
      done = λ j y s l a b. go j y s l a b (cases_eq j k);
      same = set_length now x state ∙ p.same;
      few = let f = p.few in omega (arith, f, longer);
    }
  where
    longer : length rest ≡ length left + 1
    longer = ap (λ (z : List State). length z) popped ∙ length-append left (state ∷ [])

    whole : all ≡ left ++ (state ∷ p.more)
    whole =
        p.whole ∙ (ap (λ (z : List State). z ++ p.more) popped ∙ append_assoc left (state ∷ []) p.more)

    go :
        (j y : ℕ) (s : State) → length left ≤ j → slice_get free j ≡ Some y → slice_get all j ≡ Some s → (j ≡ k)
        ⊎ (j ≡ k → ⊥)
        → slice_get (set now x state) y ≡ Some s
    go j y s l a b (inl f) =
        let y-is : y ≡ x = some_inj (sym a ∙ (ap (λ v. slice_get free v) f ∙ here)) in
        let s-is : s ≡ state =
        some_inj
        (sym b
        ∙ (ap (λ (z : List State). slice_get z j) whole
        ∙ (ap (λ v. slice_get (left ++ (state ∷ p.more)) v) (f ∙ at) ∙ nth_mid left p.more state))) in
        ap (λ v. slice_get (set now x state) v) y-is
        ∙ (set_here now x state low ∙ ap (λ (v : State). Some v) (sym s-is))
    go j y s l a b (inr f) =
        set_other now x y state (λ g. f (once free j k y distinct a (here ∙ ap (λ v. Some v) (sym g))))
        ∙ p.done j y s (omega (arith, l, f, at, longer)) a b
