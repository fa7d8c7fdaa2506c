-- The heads of the nodes of a tree, and the states that stand for others.
use Rattle.std.proofs.Common.{ℕ, zero, suc, ◌≡◌, ◌<◌, ◌≤◌, ◌+◌, ◌/◌, ◌↔◌, List, [], ◌∷◌, ◌++◌, ◌⊎◌, Option, Some, None}
use Rattle.std.proofs.Common.{inl, inr, refl}
use Rattle.std.proofs.Common.{sym, ap, ◌∙◌, subst, arith, length, append_assoc, get_or, length-append}
use Rattle.std.specs.Prelude.{slice_get}
use Rattle.std.proofs.lemmas.Bool.{cases_lt}
use Rattle.std.proofs.lemmas.Option.{slice_get_read}
use Rattle.automata_base.specs.declared.nfa.thompson.state.State.{State}
use Rattle.automata_base.specs.Nfas.Nodes.{nodes_of}
use Rattle.automata_base.proofs.Powersets.Walking.{nodes_length}
use Rattle.automata_base.specs.Lists.{In, cons_some}
use Rattle.automata_base.specs.Nfas.Nfa.{Node, Split}
use Rattle.automata_transform.specs.Retraced.Folds.{AreTreeHeads, AreTargetsOf, IsNotFree, IsMade, StandsFor}
use Rattle.automata_transform.specs.Retraced.Folds.{StandsIfAny}
use Rattle.automata_transform.specs.Retraced.Folds.{IsTheTarget, JoinsStandIns}
use Rattle.automata_base.specs.Retraced.ReversedEdges.{list_at}
use Rattle.automata_transform.specs.Retraced.Segments.{above, IsOnWay, head_or_none}
use Rattle.automata_transform.proofs.Nfas.Mirrors.Copies.{nth_more, nth_last}
use Rattle.automata_base.proofs.Paths.FirstVisits.{in_right}
use Rattle.automata_base.proofs.Paths.Walks.{in_either, in_left}

-- A made state stays in place when more states are made.
pub made_more :
    (free : List ℕ) (made more : List Node) (z : ℕ) (x : Node) → IsMade free made z x → IsMade free (made ++ more) z x
made_more free made more z x m = (m.0, m.1, nth_more made more m.0 x m.2)

targets_more :
    (S T : ℕ → List ℕ → Type 0) (xs ts : List ℕ) → ((x : ℕ) (own : List ℕ) → S x own → T x own) → AreTargetsOf S xs ts
    → AreTargetsOf T xs ts
targets_more S T [] ts f h = h
targets_more S T (x ∷ xs) ts f h = (h.0, h.1, f x h.0 h.2, targets_more S T xs h.1 f h.3, h.4)

pub stands_more :
    (free : List ℕ) (made more : List Node) (d z : ℕ) (ts : List ℕ) → StandsFor free made d z ts
    → StandsFor free (made ++ more) d z ts
stands_more free made more zero z ts (IsTheTarget k e) = IsTheTarget k e
stands_more free made more zero z ts (JoinsStandIns xs m h) = absurd h
stands_more free made more (suc d) z ts (IsTheTarget k e) = IsTheTarget k e
stands_more free made more (suc d) z ts (JoinsStandIns xs m h) =
    JoinsStandIns xs (made_more free made more z (Split xs) m)
    (targets_more (StandsFor free made d) (StandsFor free (made ++ more) d) xs ts
    (λ x own k. stands_more free made more d x own k) h)

pub any_more :
    (free : List ℕ) (made more : List Node) (o : Option ℕ) (ts : List ℕ) → StandsIfAny free made o ts
    → StandsIfAny free (made ++ more) o ts
any_more free made more None ts h = h
any_more free made more (Some z) ts h = (h.0, stands_more free made more h.0 z ts h.1)

-- A kept state stands for itself.
kept_stands : (free : List ℕ) (made : List Node) (d z : ℕ) → IsNotFree free z → StandsFor free made d z (z ∷ [])
kept_stands free made zero z k = IsTheTarget k refl
kept_stands free made (suc d) z k = IsTheTarget k refl

-- A list of kept states followed by `rest` stands for the kept states followed by the targets of `rest`.
kept_then :
    (free : List ℕ) (made : List Node) (d : ℕ) (list rest ts : List ℕ) → ((t : ℕ) → In t list → IsNotFree free t)
    → AreTargetsOf (StandsFor free made d) rest ts → AreTargetsOf (StandsFor free made d) (list ++ rest) (list ++ ts)
kept_then free made d [] rest ts k h = h
kept_then free made d (x ∷ list) rest ts k h = (
  x ∷ [],
  list ++ ts,
  kept_stands free made d x (k x (inl refl)),
  kept_then free made d list rest ts (λ t i. k t (inr i)) h,
  refl,
)

append-nil : (xs : List ℕ) → xs ++ [] ≡ xs
append-nil [] = refl
append-nil (x ∷ xs) = ap (λ (z : List ℕ). x ∷ z) (append-nil xs)

-- A list of kept states and the head above it stand for the targets of both.
pub joined_targets :
    (free : List ℕ) (made : List Node) (list : List ℕ) (o : Option ℕ) (ts : List ℕ)
    → ((t : ℕ) → In t list → IsNotFree free t) → StandsIfAny free made o ts
    → (d : ℕ) × AreTargetsOf (StandsFor free made d) (list ++ cons_some o []) (list ++ ts)
joined_targets free made list None ts k h = (0, kept_then free made 0 list [] ts k h)
joined_targets free made list (Some z) ts k h =
    (h.0, kept_then free made h.0 list (z ∷ []) ts k (ts, [], h.1, refl, sym (append-nil ts)))

-- A union of the states stands for their targets.
pub union_stands :
    (free : List ℕ) (made new : List Node) (x : Node) (d id : ℕ) (xs ts : List ℕ) → new ≡ made ++ x ∷ [] → x ≡ Split xs
    → IsMade free new id x → AreTargetsOf (StandsFor free made d) xs ts → StandsIfAny free new (Some id) ts
union_stands free made new x d id xs ts e s m h = (
  suc d,
  JoinsStandIns xs (subst (λ v. IsMade free new id v) s m)
      (subst (λ v. AreTargetsOf (StandsFor free v d) xs ts) (sym e)
      (targets_more (StandsFor free made d) (StandsFor free (made ++ x ∷ []) d) xs ts
      (λ y own k. stands_more free made (x ∷ []) d y own k) h)),
)

-- The node `s` steps above a node's parent is `suc s` steps above the node.
above_half : (s k : ℕ) → above s (k / 2) ≡ above (suc s) k
above_half zero k = refl
above_half (suc s) k = ap (λ v. v / 2) (above_half s k)

way_splits : (lists : List (List ℕ)) (k t : ℕ) → IsOnWay lists k t → In t (list_at lists k) ⊎ IsOnWay lists (k / 2) t
way_splits lists k t (zero, i) = inl i
way_splits lists k t (suc s, i) = inr (s, subst (λ v. In t (list_at lists v)) (sym (above_half s k)) i)

way_joins : (lists : List (List ℕ)) (k t : ℕ) → In t (list_at lists k) ⊎ IsOnWay lists (k / 2) t → IsOnWay lists k t
way_joins lists k t (inl i) = (0, i)
way_joins lists k t (inr w) = (suc w.0, subst (λ v. In t (list_at lists v)) (above_half w.0 k) w.1)

above_zero : (s : ℕ) → above s 0 ≡ 0
above_zero zero = refl
above_zero (suc s) = ap (λ v. v / 2) (above_zero s)

nth_front : {A : Type 0} (xs : List A) (y : A) (k : ℕ) → k < length xs → slice_get (xs ++ y ∷ []) k ≡ slice_get xs k
nth_front [] y k l = absurd (omega (arith, l))
nth_front (x ∷ xs) y zero l = refl
nth_front (x ∷ xs) y (suc k) l = nth_front xs y k (omega (arith, l))

-- The head above a node stands for targets on the node's way. Together with the node's own list these are all of them.
pub record IsAbove (free : List ℕ) (made : List Node) (lists : List (List ℕ)) (o : Option ℕ) (node : ℕ) : Type 0 where
  pub targets : List ℕ
  pub stands : StandsIfAny free made o targets
  pub sound : (t : ℕ) → In t targets → IsOnWay lists node t
  pub all : (t : ℕ) → IsOnWay lists node t → In t (list_at lists node) ⊎ In t targets

pub above_root :
    (free : List ℕ) (made : List Node) (lists : List (List ℕ)) → IsAbove free made lists None 0
above_root free made lists = record {
  targets = [];
  stands = refl;
  sound = λ t i. absurd i;
  all = λ t w. inl (subst (λ v. In t (list_at lists v)) (above_zero w.0) w.1);
}

pub above_node :
    (free : List ℕ) (made : List Node) (lists : List (List ℕ)) (heads : List (Option ℕ)) (node : ℕ)
    → AreTreeHeads free made lists heads node → 0 < node
    → IsAbove free made lists (head_or_none (slice_get heads (node / 2))) node
above_node free made lists heads node h l =
    let k = h (node / 2) (omega (arith, l)) in
    record {
      targets = k.0;
      stands = k.1;
      sound = λ t i. way_joins lists node t (inr ((k.2 t).0 i));
      all = λ t w. later t k.0 (λ v. (k.2 t).1 v) (way_splits lists node t w);
    }
  where
    later :
        (t : ℕ) (ts : List ℕ) → (IsOnWay lists (node / 2) t → In t ts)
        → In t (list_at lists node) ⊎ IsOnWay lists (node / 2) t → In t (list_at lists node) ⊎ In t ts
    later t ts f (inl i) = inl i
    later t ts f (inr i) = inr (f i)

pub above_any :
    (free : List ℕ) (made : List Node) (lists : List (List ℕ)) (heads given : List (Option ℕ)) (node : ℕ) (o : Option ℕ)
    → given ≡ heads → (node ≡ 0 → o ≡ None) → (0 < node → o ≡ head_or_none (slice_get given (node / 2)))
    → AreTreeHeads free made lists heads node → IsAbove free made lists o node
above_any free made lists heads given node o same root other h = go (cases_lt 0 node)
  where
    go : (0 < node) ⊎ (node ≤ 0) → IsAbove free made lists o node
    go (inl l) =
        subst (λ v. IsAbove free made lists v node)
        (sym (other l ∙ ap (λ (z : List (Option ℕ)). head_or_none (slice_get z (node / 2))) same))
        (above_node free made lists heads node h l)
    go (inr l) =
        let e : node ≡ 0 = omega (arith, l) in
        subst (λ v. IsAbove free made lists v node) (sym (root e))
        (subst (λ v. IsAbove free made lists None v) (sym e) (above_root free made lists))

pub nodes_nil : (xs : List Node) → xs ≡ xs ++ []
nodes_nil [] = refl
nodes_nil (x ∷ xs) = ap (λ (z : List Node). x ∷ z) (nodes_nil xs)

pub grows_on :
    (old mid new more next : List Node) → mid ≡ old ++ more → new ≡ mid ++ next → new ≡ old ++ (more ++ next)
grows_on old mid new more next e f = f ∙ (ap (λ (z : List Node). z ++ next) e ∙ append_assoc old more next)

-- One more head.
pub heads_next :
    (free : List ℕ) (made new more : List Node) (lists : List (List ℕ)) (heads after : List (Option ℕ)) (node : ℕ)
    (o head : Option ℕ) (list : List ℕ) → length heads ≡ node → list ≡ list_at lists node → new ≡ made ++ more
    → after ≡ heads ++ head ∷ [] → IsAbove free made lists o node
    → ((targets : List ℕ) → StandsIfAny free made o targets → StandsIfAny free new head (list ++ targets))
    → AreTreeHeads free made lists heads node → AreTreeHeads free new lists after (node + 1)
heads_next free made new more lists heads after node o head list count is grows pushed up stands h k l =
    subst
    (λ (z : List (Option ℕ)). (targets : List ℕ) × StandsIfAny free new (head_or_none (slice_get z k)) targets
    × ((t : ℕ) → In t targets ↔ IsOnWay lists k t))
    (sym pushed) (go (cases_lt k node))
  where
    go :
        (k < node) ⊎ (node ≤ k)
        → (targets : List ℕ) × StandsIfAny free new (head_or_none (slice_get (heads ++ head ∷ []) k)) targets
        × ((t : ℕ) → In t targets ↔ IsOnWay lists k t)
    go (inl b) =
        let r = h k b in (
          r.0,
          subst (λ v. StandsIfAny free new (head_or_none v) r.0)
              (sym (nth_front heads head k (omega (arith, b, count))))
              (subst (λ v. StandsIfAny free v (head_or_none (slice_get heads k)) r.0) (sym grows)
              (any_more free made more (head_or_none (slice_get heads k)) r.0 r.1)),
          r.2,
        )
    go (inr b) = (
      list ++ up.targets,
      subst (λ v. StandsIfAny free new (head_or_none v) (list ++ up.targets))
          (sym (ap (λ v. slice_get (heads ++ head ∷ []) v) same ∙ nth_last heads head)) (stands up.targets up.stands),
      λ t. (
        (λ i. forth t (in_either t list up.targets i)),
        λ w. back t
            (up.all t (subst (λ v. IsOnWay lists v t) here w)),
      ),
    )
      where
        same : k ≡ length heads
        same = omega (arith, b, l, count)

        here : k ≡ node
        here = omega (arith, b, l)

        forth : (t : ℕ) → In t list ⊎ In t up.targets → IsOnWay lists k t
        forth t (inl i) =
            subst (λ v. IsOnWay lists v t) (sym here)
            (way_joins lists node t (inl (subst (λ (v : List ℕ). In t v) is i)))
        forth t (inr i) = subst (λ v. IsOnWay lists v t) (sym here) (up.sound t i)

        back : (t : ℕ) → In t (list_at lists node) ⊎ In t up.targets → In t (list ++ up.targets)
        back t (inl i) = in_left t list up.targets (subst (λ (v : List ℕ). In t v) (sym is) i)
        back t (inr i) = in_right t list up.targets i

-- The state that was just made is in place.
pub made_last :
    (free : List ℕ) (old : List State) (new : List Node) (x : Node) (at id : ℕ) → at ≡ length old → at < length free
    → id ≡ get_or free at id → new ≡ nodes_of old ++ x ∷ [] → IsMade free new id x
made_last free old new x at id a l e n = (
  at,
  slice_get_read free (length free) at id refl l e,
  subst (λ (z : List Node). slice_get z at ≡ Some x) (sym n)
      (ap (λ v. slice_get (nodes_of old ++ x ∷ []) v) (a ∙ sym (nodes_length old)) ∙ nth_last (nodes_of old) x),
)

pub pushed_length : (xs : List (Option ℕ)) (x : Option ℕ) (n : ℕ) → length xs ≡ n → length (xs ++ x ∷ []) ≡ n + 1
pushed_length xs x n e = omega (arith, e, length-append xs (x ∷ []))
