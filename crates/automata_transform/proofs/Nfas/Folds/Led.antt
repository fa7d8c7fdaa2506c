-- Which states are targets, and which are free.
use Rattle.std.proofs.Common.{ℕ, ◌≡◌, ◌<◌, ◌≤◌, ◌+◌, true, false, List, [], ◌∷◌, ◌++◌, ◌⊎◌, Option, Some, inl, inr}
use Rattle.std.proofs.Common.{refl, sym}
use Rattle.std.proofs.Common.{ap, ◌∙◌, subst, arith, length, get_or}
use Rattle.std.specs.Prelude.{IfSome}
use Rattle.std.proofs.lemmas.Bool.{cases_lt}
use Rattle.std.proofs.lemmas.Option.{slice_get_past}
use Rattle.automata_base.specs.declared.nfa.thompson.state.State.{State}
use Rattle.automata_base.specs.declared.nfa.thompson.state.Transition.{Transition}
use Rattle.automata_base.specs.declared.nfa.thompson.reach.Edges.TheVariants.{Every}
use Rattle.automata_base.specs.Lists.{In, Distinct}
use Rattle.automata_base.specs.Nfas.Errors.{state_below}
use Rattle.automata_base.specs.Nfas.Nfa.{node_or_fail}
use Rattle.automata_base.specs.Nfas.Nodes.{node_of, nodes_of}
use Rattle.automata_transform.specs.Retraced.Folds.{is_large, IsUnionOf, ReadsRange}
use Rattle.automata_base.specs.Retraced.Once.{once_from}
use Rattle.automata_base.specs.Retraced.Reach.{node_in, targets_at, targets_of}
use Rattle.automata_base.proofs.Nfas.Reach.Adding.{once_keeps, once_has}
use Rattle.automata_base.proofs.Paths.Checked.{below_in}
use Rattle.automata_base.proofs.Paths.Walks.{in_either}
use Rattle.automata_base.proofs.Powersets.Walking.{node_at, nodes_length}

pub some_is : {A : Type 0} (P : A → Type 0) (o : Option A) (x : A) → IfSome o P → o ≡ Some x → P x
some_is P o x h e = subst (λ v. IfSome v P) e h

-- The targets of the states before `count` are in `led`, except those of large unions.
abbrev pub Leads : List State → (led : List ℕ) → (count : ℕ) → Type 0
Leads states led count =
    (q t : ℕ) → q < count → is_large (node_in states q) ≡ false → In t (targets_of Every states q) → In t led

pub leads_next :
    (states : List State) (i : ℕ) (s : State) (old new : List ℕ) → i < length states → s ≡ get_or states i s
    → new ≡ once_from old (targets_at Every (node_of s)) → Leads states old i → Leads states new (i + 1)
leads_next states i s old new l e n h q t a b k = subst (λ v. In t v) (sym n) (go (cases_lt q i))
  where
    go : (q < i) ⊎ (i ≤ q) → In t (once_from old (targets_at Every (node_of s)))
    go (inl c) = once_keeps t old (targets_at Every (node_of s)) (h q t c b k)
    go (inr c) =
        let here : q ≡ i = omega (arith, a, c) in
        once_has t old (targets_at Every (node_of s))
        (subst (λ v. In t (targets_at Every v)) (ap (λ v. node_in states v) here ∙ node_at states i s s l e) k)

pub leads_large :
    (states : List State) (i : ℕ) (s : State) (led : List ℕ) → i < length states → s ≡ get_or states i s
    → is_large (node_of s) ≡ true → Leads states led i → Leads states led (i + 1)
leads_large states i s led l e large h q t a b k = go (cases_lt q i)
  where
    go : (q < i) ⊎ (i ≤ q) → In t led
    go (inl c) = h q t c b k
    go (inr c) =
        let here : q ≡ i = omega (arith, a, c) in
        let f : false ≡ true =
        sym b ∙ (ap (λ v. is_large v) (ap (λ v. node_in states v) here ∙ node_at states i s s l e) ∙ large) in
        absurd cc

pub leads_done :
    (states : List State) (led : List ℕ) (i : ℕ) → length states ≤ i → Leads states led i → (q t : ℕ)
    → is_large (node_in states q) ≡ false → In t (targets_of Every states q) → In t led
leads_done states led i all h q t b k = go (cases_lt q i)
  where
    go : (q < i) ⊎ (i ≤ q) → In t led
    go (inl c) = h q t c b k
    go (inr c) =
        absurd
        (subst (λ v. In t (targets_at Every v))
        (ap node_or_fail (slice_get_past (nodes_of states) q (omega (arith, c, all, nodes_length states)))) k)

-- The alternates of a union are states.
pub union_below :
    (n : ℕ) (s : State) (list : List ℕ) → state_below n s ≡ true → IsUnionOf s list → (x : ℕ) → In x list → x < n
union_below n s list b u x i =
    below_in n u.0.items x (ap (λ v. state_below n v) (sym u.1) ∙ b) (subst (λ (z : List ℕ). In x z) u.2 i)

-- The free states.
pub record AreFree (states : List State) (led free : List ℕ) (count : ℕ) : Type 0 where
  pub reads : (x : ℕ) → In x free → (range : Transition) × ReadsRange states x range
  pub new : (x : ℕ) → In x free → In x led → ⊥
  pub below : (x : ℕ) → In x free → x < count
  pub distinct : Distinct free

pub free_none : (states : List State) (led free : List ℕ) → free ≡ [] → AreFree states led free 0
free_none states led free e = subst (λ (z : List ℕ). AreFree states led z 0) (sym e) record {
  reads = λ x i. absurd i;
  new = λ x i. absurd i;
  below = λ x i. absurd i;
  distinct = tt;
}

pub free_skip :
    (states : List State) (led free : List ℕ) (i : ℕ) → AreFree states led free i → AreFree states led free (i + 1)
free_skip states led free i f = record {
  reads = f.reads;
  new = f.new;
  below = λ x k. let b = f.below x k in omega (arith, b);
  distinct = f.distinct;
}

distinct_last : (xs : List ℕ) (i : ℕ) → Distinct xs → ((x : ℕ) → In x xs → x < i) → Distinct (xs ++ i ∷ [])
distinct_last [] i d b = ((λ k. k), tt)
distinct_last (y ∷ xs) i d b = (fresh, distinct_last xs i d.1 (λ x k. b x (inr k)))
  where
    fresh : In y (xs ++ i ∷ []) → ⊥
    fresh k = go (in_either y xs (i ∷ []) k)
      where
        go : In y xs ⊎ In y (i ∷ []) → ⊥
        go (inl a) = d.0 a
        go (inr (inl a)) = let l = b y (inl refl) in omega (arith, a, l)
        go (inr (inr a)) = a

pub free_more :
    (states : List State) (led free new : List ℕ) (i id : ℕ) (range : Transition) → new ≡ free ++ id ∷ [] → id ≡ i
    → ReadsRange states i range → (In id led → ⊥) → AreFree states led free i → AreFree states led new (i + 1)
free_more states led free new i id range e same reads fresh f =
    subst (λ (z : List ℕ). AreFree states led z (i + 1)) (sym (e ∙ ap (λ v. free ++ v ∷ []) same)) record {
      reads = λ x k. reads' x (in_either x free (i ∷ []) k);
      new = λ x k. new' x (in_either x free (i ∷ []) k);
      below = λ x k. below' x (in_either x free (i ∷ []) k);
      distinct = distinct_last free i f.distinct f.below;
    }
  where
    reads' : (x : ℕ) → In x free ⊎ In x (i ∷ []) → (range : Transition) × ReadsRange states x range
    reads' x (inl k) = f.reads x k
    reads' x (inr (inl k)) = (range, subst (λ v. ReadsRange states v range) (sym k) reads)
    reads' x (inr (inr k)) = absurd k

    new' : (x : ℕ) → In x free ⊎ In x (i ∷ []) → In x led → ⊥
    new' x (inl k) m = f.new x k m
    new' x (inr (inl k)) m = fresh (subst (λ v. In v led) (k ∙ sym same) m)
    new' x (inr (inr k)) m = k

    below' : (x : ℕ) → In x free ⊎ In x (i ∷ []) → x < i + 1
    below' x (inl k) = let b = f.below x k in omega (arith, b)
    below' x (inr (inl k)) = omega (arith, k)
    below' x (inr (inr k)) = absurd k
