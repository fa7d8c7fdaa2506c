-- The steps of a depth-first search.
use Rattle.std.proofs.Common.{ℕ, zero, suc, ◌≡◌, ◌<◌, ◌+◌, ◌⊎◌, Bool, true, false, List, [], ◌∷◌, ◌++◌, length, get_or}
use Rattle.std.proofs.Common.{take, Some, None, inl, inr, refl, sym, ap, ◌∙◌, subst, arith}
use Rattle.std.specs.Prelude.{IsTrue, IsFalse, reverse, slice_get}
use Rattle.std.proofs.lemmas.List.{reverse-append}
use Rattle.automata_base.specs.declared.nfa.thompson.state.State.{State}
use Rattle.automata_base.specs.declared.nfa.thompson.finishing.Frame.{Frame}
use Rattle.automata_base.specs.declared.nfa.thompson.reach.Edges.TheVariants.{Epsilon}
use Rattle.automata_base.specs.Retraced.DepthFirst.{LeadsBy, states_in, AreFollowed, IsUnderSearch, IsWholeOrder}
use Rattle.automata_base.specs.Lists.{In}
use Rattle.automata_base.specs.Nfas.Nodes.{node_of}
use Rattle.automata_base.specs.Paths.Paths.{all_true}
use Rattle.automata_base.specs.Retraced.Reach.{targets_of, Route}
use Rattle.automata_base.specs.Powersets.Closure.{children_at}
use Rattle.automata_base.proofs.Powersets.Walking.{node_at}
use Rattle.automata_base.proofs.Paths.Orders.{some_inj, none_some}
use Rattle.automata_base.proofs.Paths.Walks.{in_left}
use Rattle.automata_base.proofs.Paths.FirstVisits.{in_right}
use Rattle.automata_base.proofs.Paths.Walks.{in_either}
use Rattle.automata_base.proofs.Paths.Sets.{nth_in}

route_then :
    (G : ℕ → List ℕ) (q : ℕ) (way : List ℕ) (r : ℕ) (more : List ℕ) (z : ℕ) → Route G q way r → Route G r more z
    → Route G q (way ++ more) z
route_then G q [] r more z w m = subst (λ v. Route G v more z) (sym w) m
route_then G q (s ∷ way) r more z w m = (w.0, route_then G s way r more z w.1 m)

pub leads_edge : (G : ℕ → List ℕ) (p r : ℕ) → In r (G p) → LeadsBy G p r
leads_edge G p r i = (r, [], i, refl)

pub leads_then : (G : ℕ → List ℕ) (p q z : ℕ) → LeadsBy G p q → LeadsBy G q z → LeadsBy G p z
leads_then G p q z a b = (a.0, a.1 ++ (b.0 ∷ b.1), a.2, route_then G a.0 a.1 q (b.0 ∷ b.1) z a.3 (b.2, b.3))

take_suc : (xs : List ℕ) (k x r : ℕ) → slice_get xs k ≡ Some x → In r (take (suc k) xs) → In r (take k xs) ⊎ (r ≡ x)
take_suc [] k x r e i = absurd (none_some e)
take_suc (y ∷ ys) zero x r e (inl i) = inr (i ∙ some_inj e)
take_suc (y ∷ ys) zero x r e (inr i) = absurd i
take_suc (y ∷ ys) (suc k) x r e (inl i) = inl (inl i)
take_suc (y ∷ ys) (suc k) x r e (inr i) = go (take_suc ys k x r e i)
  where
    go : In r (take k ys) ⊎ (r ≡ x) → In r (y ∷ take k ys) ⊎ (r ≡ x)
    go (inl j) = inl (inr j)
    go (inr j) = inr j

pub take_next :
    (xs : List ℕ) (k x r : ℕ) → slice_get xs k ≡ Some x → In r (take (k + 1) xs) → In r (take k xs) ⊎ (r ≡ x)
take_next xs k x r e i = let m : k + 1 ≡ suc k = omega arith in take_suc xs k x r e (subst (λ z. In r (take z xs)) m i)

pub nth_none : (xs : List ℕ) (k : ℕ) → slice_get xs k ≡ None → take k xs ≡ xs
nth_none [] zero e = refl
nth_none [] (suc k) e = refl
nth_none (y ∷ ys) zero e = absurd (none_some (sym e))
nth_none (y ∷ ys) (suc k) e = ap (λ z. y ∷ z) (nth_none ys k e)

-- The state that was read, and its edges.
pub read_at : (states : List State) (at q : ℕ) (s : State) → at ≡ q → s ≡ get_or states at s → s ≡ get_or states q s
read_at states at q s e is = is ∙ ap (λ z. get_or states z s) e

pub edges_at :
    (states : List State) (at q : ℕ) (s : State) → q < length states → at ≡ q → s ≡ get_or states at s
    → targets_of Epsilon states q ≡ children_at (node_of s) all_true
edges_at states at q s l e is = ap (λ x. children_at x all_true) (node_at states q s s l (read_at states at q s e is))

-- The stack after a push and before a pop.
pub stack_top : (xs ys : List Frame) (x : Frame) → xs ≡ ys ++ x ∷ [] → reverse xs ≡ x ∷ reverse ys
stack_top xs ys x e = ap reverse e ∙ reverse-append ys (x ∷ [])

pub stack_two :
    (xs ys zs : List Frame) (x y : Frame) → ys ≡ xs ++ x ∷ [] → zs ≡ ys ++ y ∷ [] → reverse zs ≡ y ∷ x ∷ reverse xs
stack_two xs ys zs x y e f = stack_top zs ys y f ∙ ap (λ z. y ∷ z) (stack_top ys xs x e)

-- The last element, or one before it.
nth_last :
    (xs : List ℕ) (p i q : ℕ) → slice_get (xs ++ p ∷ []) i ≡ Some q
    → ((slice_get xs i ≡ Some q) × (take i (xs ++ p ∷ []) ≡ take i xs)) ⊎ ((q ≡ p) × (take i (xs ++ p ∷ []) ≡ xs))
nth_last [] p zero q e = inr (sym (some_inj e), refl)
nth_last [] p (suc i) q e = absurd (none_some e)
nth_last (x ∷ xs) p zero q e = inl (e, refl)
nth_last (x ∷ xs) p (suc i) q e = go (nth_last xs p i q e)
  where
    go :
        ((slice_get xs i ≡ Some q) × (take i (xs ++ p ∷ []) ≡ take i xs)) ⊎ ((q ≡ p) × (take i (xs ++ p ∷ []) ≡ xs))
        → ((slice_get xs i ≡ Some q) × (x ∷ take i (xs ++ p ∷ []) ≡ x ∷ take i xs))
        ⊎ ((q ≡ p) × (x ∷ take i (xs ++ p ∷ []) ≡ x ∷ xs))
    go (inl h) = inl (h.0, ap (λ z. x ∷ z) h.1)
    go (inr h) = inr (h.0, ap (λ z. x ∷ z) h.1)

followed_more :
    (n : ℕ) (G : ℕ → List ℕ) (visited more : List ℕ) (frames : List Frame)
    → AreFollowed n G visited frames → AreFollowed n G (visited ++ more) frames
followed_more n G visited more [] w = tt
followed_more n G visited more (f ∷ fs) w =
    (w.0, λ r i. in_left r visited more (w.1 r i), followed_more n G visited more fs w.2)

module _ (n : ℕ) (G : ℕ → List ℕ) (visited finished : List ℕ) where
  -- A state that was not visited is pushed on an empty stack.
  pub search_starts :
      (frame : Frame) (id : ℕ) → frame.state ≡ id → frame.edge ≡ 0 → id < n → IsUnderSearch n G visited finished []
      → IsUnderSearch n G (visited ++ id ∷ []) finished (frame ∷ [])
  search_starts frame id same first below w = record {
    visits = λ q i. visits q (in_either q visited (id ∷ []) i);
    follows = (
      subst (λ z. z < n) (sym same) below,
      λ r i. absurd (subst (λ k. In r (take k (G frame.state))) first i),
      tt,
    );
    chain = (λ q i. absurd i, tt);
    closed = λ p r i j. closed p r (w.closed p r i j);
    cyclic = w.cyclic;
    order = w.order;
  }
    where
      visits : (q : ℕ) → In q visited ⊎ In q (id ∷ []) → In q finished ⊎ In q (frame.state ∷ [])
      visits q (inl i) = closed q q (w.visits q i)
        where
          closed : (p r : ℕ) → In r finished ⊎ In r [] → In r finished ⊎ In r (frame.state ∷ [])
          closed p r (inl i) = inl i
          closed p r (inr i) = absurd i
      visits q (inr (inl e)) = inr (inl (e ∙ sym same))
      visits q (inr (inr i)) = absurd i

      closed : (p r : ℕ) → In r finished ⊎ In r [] → In r finished ⊎ In r (frame.state ∷ [])
      closed p r (inl i) = inl i
      closed p r (inr i) = absurd i

  module _ (frame : Frame) (below : List Frame) (w : IsUnderSearch n G visited finished (frame ∷ below)) where
    -- An edge leads to a state that was not visited: it is pushed.
    pub search_enters :
        (again next : Frame) (edge id : ℕ) → again.state ≡ frame.state → again.edge ≡ edge + 1 → next.state ≡ id
        → next.edge ≡ 0
        → id < n → slice_get (G frame.state) edge ≡ Some id
        → ((r : ℕ) → In r (take edge (G frame.state)) → In r visited)
        → IsUnderSearch n G (visited ++ id ∷ []) finished (next ∷ again ∷ below)
    search_enters again next edge id same more to first small at before = record {
      visits = λ q i. visits q (in_either q visited (id ∷ []) i);
      follows = (
        subst (λ z. z < n) (sym to) small,
        λ r i. absurd (subst (λ k. In r (take k (G next.state))) first i),
        (
          subst (λ z. z < n) (sym same) w.follows.0,
          λ r i. follows r
              (subst (λ z. In r (take z (G frame.state))) more (subst (λ z. In r (take again.edge (G z))) same i)),
          followed_more n G visited (id ∷ []) below w.follows.2,
        ),
      );
      chain = (λ q i. leads q i, (λ q i. subst (LeadsBy G q) (sym same) (w.chain.0 q i), w.chain.1));
      closed = λ p r i j. deeper r (w.closed p r i j);
      cyclic = w.cyclic;
      order = w.order;
    }
      where
        deeper :
            (r : ℕ) → In r finished ⊎ In r (frame.state ∷ states_in below) → In r finished
            ⊎ In r (next.state ∷ again.state ∷ states_in below)
        deeper r (inl i) = inl i
        deeper r (inr (inl e)) = inr (inr (inl (e ∙ sym same)))
        deeper r (inr (inr i)) = inr (inr (inr i))

        visits :
            (q : ℕ) → In q visited ⊎ In q (id ∷ []) → In q finished ⊎ In q (next.state ∷ again.state ∷ states_in below)
        visits q (inl i) = deeper q (w.visits q i)
        visits q (inr (inl e)) = inr (inl (e ∙ sym to))
        visits q (inr (inr i)) = absurd i

        follows : (r : ℕ) → In r (take (edge + 1) (G frame.state)) → In r (visited ++ id ∷ [])
        follows r i = go (take_next (G frame.state) edge id r at i)
          where
            go : In r (take edge (G frame.state)) ⊎ (r ≡ id) → In r (visited ++ id ∷ [])
            go (inl j) = in_left r visited (id ∷ []) (before r j)
            go (inr e) = in_right r visited (id ∷ []) (inl e)

        step : LeadsBy G frame.state next.state
        step = subst (LeadsBy G frame.state) (sym to) (leads_edge G frame.state id (nth_in (G frame.state) edge id at))

        leads : (q : ℕ) → In q (again.state ∷ states_in below) → LeadsBy G q next.state
        leads q (inl e) = subst (λ z. LeadsBy G z next.state) (sym (e ∙ same)) step
        leads q (inr i) = leads_then G q frame.state next.state (w.chain.0 q i) step

    -- A state whose edges were all followed is finished: it leads to an unfinished state only through one below it on
    -- the stack, which leads back to it.
    search_leaves :
        (new : List ℕ) → ((r : ℕ) → In r (G frame.state) → In r visited) → (In frame.state finished → ⊥)
        → new ≡ finished ++ frame.state ∷ [] → IsUnderSearch n G visited new below
    search_leaves new all fresh e = subst (λ z. IsUnderSearch n G visited z below) (sym e) (record {
      visits = λ q i. leaves q (w.visits q i);
      follows = w.follows.2;
      chain = w.chain.1;
      closed = λ p r i j. leaves r (shut p r (in_either p finished (frame.state ∷ []) i) j);
      cyclic = λ p q i out h. cyclic p q (in_either p finished (frame.state ∷ []) i) out h;
      order = λ i q p at j. order i q p (nth_last finished frame.state i q at) j;
    })
      where
        done : List ℕ
        done = finished ++ frame.state ∷ []

        leaves : (q : ℕ) → In q finished ⊎ In q (frame.state ∷ states_in below) → In q done ⊎ In q (states_in below)
        leaves q (inl i) = inl (in_left q finished (frame.state ∷ []) i)
        leaves q (inr (inl f)) = inl (in_right q finished (frame.state ∷ []) (inl f))
        leaves q (inr (inr i)) = inr i

        shut :
            (p r : ℕ) → In p finished ⊎ In p (frame.state ∷ []) → In r (G p) → In r finished
            ⊎ In r (frame.state ∷ states_in below)
        shut p r (inl i) j = w.closed p r i j
        shut p r (inr (inl f)) j = w.visits r (all r (subst (λ z. In r (G z)) f j))
        shut p r (inr (inr i)) j = absurd i

        back :
            (c : ℕ) (way : List ℕ) (q : ℕ) → LeadsBy G frame.state c → In c finished
            ⊎ In c (frame.state ∷ states_in below)
            → Route G c way q → (In q done → ⊥) → LeadsBy G frame.state frame.state
        back c way q h (inr (inl f)) m out = subst (LeadsBy G frame.state) f h
        back c way q h (inr (inr i)) m out = leads_then G frame.state c frame.state h (w.chain.0 c i)
        back c [] q h (inl i) m out =
            absurd (out (in_left q finished (frame.state ∷ []) (subst (λ z. In z finished) m i)))
        back c (d ∷ way) q h (inl i) m out =
            back d way q (leads_then G frame.state c d h (leads_edge G c d m.0)) (w.closed c d i m.0) m.1 out

        cyclic : (p q : ℕ) → In p finished ⊎ In p (frame.state ∷ []) → (In q done → ⊥) → LeadsBy G p q → LeadsBy G p p
        cyclic p q (inl i) out h = w.cyclic p q i (λ j. out (in_left q finished (frame.state ∷ []) j)) h
        cyclic p q (inr (inl f)) out h =
            subst (λ z. LeadsBy G z z) (sym f) (go (subst (λ z. LeadsBy G z q) f h))
          where
            go : LeadsBy G frame.state q → LeadsBy G frame.state frame.state
            go m = back m.0 m.1 q (leads_edge G frame.state m.0 m.2) (w.visits m.0 (all m.0 m.2)) m.3 out
        cyclic p q (inr (inr i)) out h = absurd i

        order :
            (i q p : ℕ) → ((slice_get finished i ≡ Some q) × (take i done ≡ take i finished))
            ⊎ ((q ≡ frame.state) × (take i done ≡ finished))
            → In p (take i done) → (p ≡ q → ⊥) × (LeadsBy G p q → LeadsBy G p p)
        order i q p (inl h) j = w.order i q p h.0 (subst (λ z. In p z) h.1 j)
        order i q p (inr h) j =
            let old : In p finished = subst (λ z. In p z) h.1 j in (
              λ f. fresh (subst (λ z. In z finished) (f ∙ h.0) old),
              λ m. w.cyclic p frame.state old fresh (subst (LeadsBy G p) h.0 m),
            )

    -- A state that is already finished is dropped.
    search_drops : (new : List ℕ) → In frame.state finished → new ≡ finished → IsUnderSearch n G visited new below
    search_drops new had e = subst (λ z. IsUnderSearch n G visited z below) (sym e) (record {
      visits = λ q i. leaves q (w.visits q i);
      follows = w.follows.2;
      chain = w.chain.1;
      closed = λ p r i j. leaves r (w.closed p r i j);
      cyclic = w.cyclic;
      order = w.order;
    })
      where
        leaves : (q : ℕ) → In q finished ⊎ In q (frame.state ∷ states_in below) → In q finished ⊎ In q (states_in below)
        leaves q (inl i) = inl i
        leaves q (inr (inl f)) = inl (subst (λ z. In z finished) (sym f) had)
        leaves q (inr (inr i)) = inr i

    pub search_done :
        (new : List ℕ) (b : Bool) → ((r : ℕ) → In r (G frame.state) → In r visited)
        → (IsTrue b → In frame.state finished → ⊥) → (IsTrue b → new ≡ finished ++ frame.state ∷ [])
        → (IsFalse b → In frame.state finished) → (IsFalse b → new ≡ finished) → IsUnderSearch n G visited new below
    search_done new true all fresh added had kept =
        search_leaves new all (fresh refl) (added refl)
    search_done new false all fresh added had kept = search_drops new (had refl) (kept refl)

pub search_whole :
    (n : ℕ) (G : ℕ → List ℕ) (visited finished : List ℕ) → IsUnderSearch n G visited finished []
    → ((q : ℕ) → q < n → In q visited) → ((q : ℕ) → In q finished → q < n) → IsWholeOrder n G finished
search_whole n G visited finished w all small = record {
  order = w.order;
  whole = λ q l. go q (w.visits q (all q l));
  below = small;
}
  where
    go : (q : ℕ) → In q finished ⊎ In q [] → In q finished
    go q (inl i) = i
    go q (inr i) = absurd i
