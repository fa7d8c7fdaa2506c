-- Reversing the edges one by one gives exactly the alternates that stand for them.
use Rattle.std.proofs.Common.{ℕ, zero, suc, ◌≡◌, ◌<◌, ◌+◌, List, [], ◌∷◌, ◌++◌, ◌⊎◌, length, Some, inl}
use Rattle.std.proofs.Common.{inr, refl, sym, ap, ap₂, ◌∙◌, subst, arith, ⊎_elim}
use Rattle.automata_base.specs.declared.nfa.thompson.state.State.{State}
use Rattle.automata_base.specs.declared.nfa.thompson.state.State.TheVariants as is
use Rattle.automata_base.specs.declared.nfa.thompson.state.Transition.{Transition}
use Rattle.automata_base.specs.Lists.{In}
use Rattle.automata_transform.specs.Nfas.Mirrors.{flip, Label, Free, Asks, Reads, HasArcAt}
use Rattle.automata_base.specs.declared.util.look.Look.{Look}
use Rattle.automata_base.specs.Nfas.Nfa.{Node, Range, Split, Assert, Read, Accept}
use Rattle.automata_base.specs.Nfas.Nodes.{ranges_of}
use Rattle.automata_base.specs.Nfas.Errors.{state_below, transitions_below}
use Rattle.automata_base.specs.Lists.{all_below}
use Rattle.automata_transform.specs.Retraced.DenseRuns.{runs_from, ranged}
use Rattle.automata_transform.specs.Retraced.ReversedEdges.{Turns, ends_in, put_at, turn_free}
use Rattle.automata_base.specs.Retraced.ReversedEdges.{no_lists, list_at, push_at}
use Rattle.automata_transform.specs.Retraced.ReversedEdges.{turn_by, turn_all}
use Rattle.automata_transform.specs.Retraced.ReversedEdges.{turn_ranges, turn_state, turn_states}
use Rattle.automata_transform.proofs.Nfas.Mirrors.Lists.{push_length, put_length, ends_member}
use Rattle.automata_transform.proofs.Nfas.Mirrors.Runs.{runs_below}
use Rattle.automata_base.proofs.Paths.Orders.{none_some, some_inj}
use Rattle.automata_base.proofs.Paths.Walks.{in_left, in_either}
use Rattle.std.proofs.lemmas.Bool.{ltb-true}
use Rattle.std.specs.Prelude.{Bool, true, false, cond, ltb, ◌&&◌, slice_index_or, slice_get}
use Rattle.std.proofs.lemmas.Bool.{and_parts}
use Rattle.automata_transform.proofs.Nfas.Mirrors.Copies.{nth_more}
use Rattle.automata_transform.proofs.Nfas.Mirrors.Copies.{nth_last}

-- `x` is among the alternates of `k`.
abbrev pub InAt : List (List ℕ) → ℕ → ℕ → Type 0
InAt [] k x = ⊥
InAt (xs ∷ rest) zero x = In x xs
InAt (xs ∷ rest) (suc k) x = InAt rest k x

push_old : (lists : List (List ℕ)) (to y k x : ℕ) → InAt lists k x → InAt (push_at lists to y) k x
push_old [] to y k x i = i
push_old (xs ∷ rest) zero y zero x i = in_left x xs (y ∷ []) i
push_old (xs ∷ rest) zero y (suc k) x i = i
push_old (xs ∷ rest) (suc to) y zero x i = i
push_old (xs ∷ rest) (suc to) y (suc k) x i = push_old rest to y k x i

in_last : (y : ℕ) (xs : List ℕ) → In y (xs ++ y ∷ [])
in_last y [] = inl refl
in_last y (x ∷ xs) = inr (in_last y xs)

push_new : (lists : List (List ℕ)) (to y : ℕ) → to < length lists → InAt (push_at lists to y) to y
push_new [] to y l = absurd (omega (arith, l))
push_new (xs ∷ rest) zero y l = in_last y xs
push_new (xs ∷ rest) (suc to) y l = push_new rest to y (omega (arith, l))

pub in_push :
    (lists : List (List ℕ)) (to y k x : ℕ) → InAt (push_at lists to y) k x → InAt lists k x ⊎ ((k ≡ to) × (x ≡ y))
in_push [] to y k x i = absurd i
in_push (xs ∷ rest) zero y zero x i = ⊎_elim (λ (j : In x xs). inl j)
    (λ (j : In x (y ∷ [])). ⊎_elim (λ (e : x ≡ y). inr (refl, e)) (λ (b : ⊥). absurd b) j) (in_either x xs (y ∷ []) i)
in_push (xs ∷ rest) zero y (suc k) x i = inl i
in_push (xs ∷ rest) (suc to) y zero x i = inl i
in_push (xs ∷ rest) (suc to) y (suc k) x i = go (in_push rest to y k x i)
  where
    go : InAt rest k x ⊎ ((k ≡ to) × (x ≡ y)) → InAt rest k x ⊎ ((suc k ≡ suc to) × (x ≡ y))
    go (inl j) = inl j
    go (inr e) = inr (ap suc e.0, e.1)

-- `put_at` adds `y` to the alternates of a state and nothing else; the other alternates stay.
put_old : (lists : List (List ℕ)) (to y k x : ℕ) → InAt lists k x → InAt (put_at lists to y) k x
put_old [] to y k x i = i
put_old (xs ∷ rest) zero y zero x i = go (ends_in xs y)
  where
    go : (b : Bool) → In x (cond b xs (xs ++ y ∷ []))
    go true = i
    go false = in_left x xs (y ∷ []) i
put_old (xs ∷ rest) zero y (suc k) x i = i
put_old (xs ∷ rest) (suc to) y zero x i = i
put_old (xs ∷ rest) (suc to) y (suc k) x i = put_old rest to y k x i

put_new : (lists : List (List ℕ)) (to y : ℕ) → to < length lists → InAt (put_at lists to y) to y
put_new [] to y l = absurd (omega (arith, l))
put_new (xs ∷ rest) zero y l = go (ends_in xs y) refl
  where
    go : (b : Bool) → ends_in xs y ≡ b → In y (cond b xs (xs ++ y ∷ []))
    go true e = ends_member xs y e
    go false e = in_last y xs
put_new (xs ∷ rest) (suc to) y l = put_new rest to y (omega (arith, l))

pub in_put :
    (lists : List (List ℕ)) (to y k x : ℕ) → InAt (put_at lists to y) k x → InAt lists k x ⊎ ((k ≡ to) × (x ≡ y))
in_put [] to y k x i = absurd i
in_put (xs ∷ rest) zero y zero x i = go (ends_in xs y) i
  where
    go : (b : Bool) → In x (cond b xs (xs ++ y ∷ [])) → In x xs ⊎ (◌≡◌ {A = ℕ} 0 0 × (x ≡ y))
    go true i = inl i
    go false i = in_push (xs ∷ rest) 0 y 0 x i
in_put (xs ∷ rest) zero y (suc k) x i = inl i
in_put (xs ∷ rest) (suc to) y zero x i = inl i
in_put (xs ∷ rest) (suc to) y (suc k) x i = go (in_put rest to y k x i)
  where
    go : InAt rest k x ⊎ ((k ≡ to) × (x ≡ y)) → InAt rest k x ⊎ ((suc k ≡ suc to) × (x ≡ y))
    go (inl j) = inl j
    go (inr e) = inr (ap suc e.0, e.1)

-- `InAt` is membership in the list at an index.
pub at_list : (lists : List (List ℕ)) (k x : ℕ) → InAt lists k x → In x (list_at lists k)
at_list [] k x i = i
at_list (xs ∷ rest) zero x i = i
at_list (xs ∷ rest) (suc k) x i = at_list rest k x i

pub list_in : (lists : List (List ℕ)) (k x : ℕ) → In x (list_at lists k) → InAt lists k x
list_in [] k x i = i
list_in (xs ∷ rest) zero x i = i
list_in (xs ∷ rest) (suc k) x i = list_in rest k x i

-- The ID of a helper.
abbrev pub IsHelper : Turns → ℕ → State → Type 0
IsHelper t x h = (j : ℕ) × (x ≡ length t.lists + j) × (slice_get t.helpers j ≡ Some h)

-- The state `x` stands for an edge from `s` with this label.
abbrev pub Stand : Turns → ℕ → Label → ℕ → Type 0
Stand t x Free s = x ≡ s
Stand t x (Asks look) s = IsHelper t x (is.Look (flip look) s)
Stand t x (Reads lo hi) s = IsHelper t x (is.ByteRange lo hi s)

-- The lists hold the reversed edges of `P` and no others, and the states of `M` go on to a match.
pub record IsGraph (P : ℕ → Label → ℕ → Type 0) (M : ℕ → Type 0) (size : ℕ) (t : Turns) : Type 0 where
  pub whole : length t.lists ≡ size
  pub sound :
      (k x : ℕ) → InAt t.lists k x
      → ((s : ℕ) × (l : Label) × P s l k × Stand t x l s) ⊎ (M k × IsHelper t x (is.Match 0))
  pub arcs : (s k : ℕ) (l : Label) → P s l k → (x : ℕ) × InAt t.lists k x × Stand t x l s
  pub reported : (k : ℕ) → M k → (x : ℕ) × InAt t.lists k x × IsHelper t x (is.Match 0)

-- The same graph for the same edges.
pub graph_same :
    (P Q : ℕ → Label → ℕ → Type 0) (M : ℕ → Type 0) (size : ℕ) (t : Turns)
    → ((s k : ℕ) (l : Label) → P s l k → Q s l k) → ((s k : ℕ) (l : Label) → Q s l k → P s l k)
    → IsGraph P M size t → IsGraph Q M size t
graph_same P Q M size t f g i = record {
  whole = i.whole;
  sound = λ k x m. go k x (i.sound k x m);
  arcs = λ s k l q. i.arcs s k l (g s k l q);
  reported = i.reported;
}
  where
    go :
        (k x : ℕ) → ((s : ℕ) × (l : Label) × P s l k × Stand t x l s) ⊎ (M k × IsHelper t x (is.Match 0))
        → ((s : ℕ) × (l : Label) × Q s l k × Stand t x l s) ⊎ (M k × IsHelper t x (is.Match 0))
    go k x (inl h) = inl (h.0, h.1, f h.0 k h.1 h.2, h.3)
    go k x (inr h) = inr h

stand_free : (t : Turns) (y to x s : ℕ) (l : Label) → Stand t x l s → Stand (turn_free t y to) x l s
stand_free t y to x s Free h = h
stand_free t y to x s (Asks look) h = (h.0, h.1 ∙ ap (λ n. n + h.0) (sym (put_length t.lists to y)), h.2)
stand_free t y to x s (Reads lo hi) h = (h.0, h.1 ∙ ap (λ n. n + h.0) (sym (put_length t.lists to y)), h.2)

helper_by : (t : Turns) (g : State) (to x : ℕ) (h : State) → IsHelper t x h → IsHelper (turn_by t g to) x h
helper_by t g to x h k = (
  k.0,
  k.1 ∙ ap (λ n. n + k.0) (sym (push_length t.lists to (length t.lists + length t.helpers))),
  nth_more t.helpers (g ∷ []) k.0 h k.2,
)

stand_by : (t : Turns) (g : State) (to x s : ℕ) (l : Label) → Stand t x l s → Stand (turn_by t g to) x l s
stand_by t g to x s Free h = h
stand_by t g to x s (Asks look) h = helper_by t g to x (is.Look (flip look) s) h
stand_by t g to x s (Reads lo hi) h = helper_by t g to x (is.ByteRange lo hi s) h

-- The ID of the next helper.
abbrev pub next_of : Turns → ℕ
next_of t = length t.lists + length t.helpers

helper_new : (t : Turns) (g : State) (to : ℕ) → IsHelper (turn_by t g to) (length t.lists + length t.helpers) g
helper_new t g to = (
  length t.helpers,
  ap (λ n. n + length t.helpers) (sym (push_length t.lists to (length t.lists + length t.helpers))),
  nth_last t.helpers g,
)

-- One more edge.
abbrev pub And : (ℕ → Label → ℕ → Type 0) → ℕ → Label → ℕ → ℕ → Label → ℕ → Type 0
And P from label to s l k = P s l k ⊎ ((s ≡ from) × (l ≡ label) × (k ≡ to))

step_free :
    (P : ℕ → Label → ℕ → Type 0) (M : ℕ → Type 0) (size : ℕ) (t : Turns) (from to : ℕ) → to < size
    → IsGraph P M size t → IsGraph (And P from Free to) M size (turn_free t from to)
step_free P M size t from to small i = record {
  whole = put_length t.lists to from ∙ i.whole;
  sound = λ k x m. go k x (in_put t.lists to from k x m);
  arcs = on;
  reported = λ k m.
      let w = i.reported k m in (
        w.0,
        put_old t.lists to from k w.0 w.1,
        (w.2.0, w.2.1 ∙ ap (λ n. n + w.2.0) (sym (put_length t.lists to from)), w.2.2),
      );
}
  where
    old :
        (k x : ℕ) → ((s : ℕ) × (l : Label) × P s l k × Stand t x l s) ⊎ (M k × IsHelper t x (is.Match 0))
        → ((s : ℕ) × (l : Label) × And P from Free to s l k × Stand (turn_free t from to) x l s)
        ⊎ (M k × IsHelper (turn_free t from to) x (is.Match 0))
    old k x (inl h) = inl (h.0, h.1, inl h.2, stand_free t from to x h.0 h.1 h.3)
    old k x (inr h) = inr (h.0, (h.1.0, h.1.1 ∙ ap (λ n. n + h.1.0) (sym (put_length t.lists to from)), h.1.2))

    go :
        (k x : ℕ) → InAt t.lists k x ⊎ ((k ≡ to) × (x ≡ from))
        → ((s : ℕ) × (l : Label) × And P from Free to s l k × Stand (turn_free t from to) x l s)
        ⊎ (M k × IsHelper (turn_free t from to) x (is.Match 0))
    go k x (inl m) = old k x (i.sound k x m)
    go k x (inr e) = inl (from, Free, inr (refl, refl, e.0), e.1)

    on :
        (s k : ℕ) (l : Label) → And P from Free to s l k
        → (x : ℕ) × InAt (put_at t.lists to from) k x × Stand (turn_free t from to) x l s
    on s k l (inl p) =
        let w = i.arcs s k l p in (w.0, put_old t.lists to from k w.0 w.1, stand_free t from to w.0 s l w.2)
    on s k l (inr e) = (
      from,
      subst (λ v. InAt (put_at t.lists to from) v from) (sym e.2)
          (put_new t.lists to from (subst (λ v. to < v) (sym i.whole) small)),
      subst (λ v. Stand (turn_free t from to) from v s) (sym e.1) (sym e.0),
    )

step_by :
    (P : ℕ → Label → ℕ → Type 0) (M : ℕ → Type 0) (size : ℕ) (t : Turns) (from to : ℕ) (label : Label) (g : State)
    → to < size → ((t : Turns) (x : ℕ) → IsHelper t x g → Stand t x label from)
    → IsGraph P M size t → IsGraph (And P from label to) M size (turn_by t g to)
step_by P M size t from to label g small stands i = record {
  whole = push_length t.lists to (next_of t) ∙ i.whole;
  sound = λ k x m. go k x (in_push t.lists to (next_of t) k x m);
  arcs = on;
  reported =
      λ k m. let w =
      i.reported k m in (w.0, push_old t.lists to (next_of t) k w.0 w.1, helper_by t g to w.0 (is.Match 0) w.2);
}
  where
    old :
        (k x : ℕ) → ((s : ℕ) × (l : Label) × P s l k × Stand t x l s) ⊎ (M k × IsHelper t x (is.Match 0))
        → ((s : ℕ) × (l : Label) × And P from label to s l k × Stand (turn_by t g to) x l s)
        ⊎ (M k × IsHelper (turn_by t g to) x (is.Match 0))
    old k x (inl h) = inl (h.0, h.1, inl h.2, stand_by t g to x h.0 h.1 h.3)
    old k x (inr h) = inr (h.0, helper_by t g to x (is.Match 0) h.1)

    go :
        (k x : ℕ) → InAt t.lists k x ⊎ ((k ≡ to) × (x ≡ (next_of t)))
        → ((s : ℕ) × (l : Label) × And P from label to s l k × Stand (turn_by t g to) x l s)
        ⊎ (M k × IsHelper (turn_by t g to) x (is.Match 0))
    go k x (inl m) = old k x (i.sound k x m)
    go k x (inr e) =
        inl (
          from,
          label,
          inr (refl, refl, e.0),
          stands (turn_by t g to) x
              (subst (λ v. IsHelper (turn_by t g to) v g) (sym e.1) (helper_new t g to)),
        )

    on :
        (s k : ℕ) (l : Label) → And P from label to s l k
        → (x : ℕ) × InAt (push_at t.lists to (next_of t)) k x × Stand (turn_by t g to) x l s
    on s k l (inl p) =
        let w = i.arcs s k l p in (w.0, push_old t.lists to (next_of t) k w.0 w.1, stand_by t g to w.0 s l w.2)
    on s k l (inr e) = (
      (next_of t),
      subst (λ v. InAt (push_at t.lists to (next_of t)) v (next_of t)) (sym e.2)
          (push_new t.lists to (next_of t) (subst (λ v. to < v) (sym i.whole) small)),
      subst (λ v. Stand (turn_by t g to) (next_of t) v s) (sym e.1)
          (subst (λ v. Stand (turn_by t g to) (next_of t) label v) (sym e.0)
          (stands (turn_by t g to) (next_of t) (helper_new t g to))),
    )

-- The edges of one more node.
abbrev pub From : (ℕ → Label → ℕ → Type 0) → ℕ → Node → ℕ → Label → ℕ → Type 0
From P from x s l k = P s l k ⊎ ((s ≡ from) × HasArcAt x l k)

module _ (M : ℕ → Type 0) (size from : ℕ) where
  none_more : (P : ℕ → Label → ℕ → Type 0) (t : Turns) (x : Node) → ((l : Label) (k : ℕ) → HasArcAt x l k → ⊥)
      → IsGraph P M size t → IsGraph (From P from x) M size t
  none_more P t x f i = graph_same P (From P from x) M size t (λ s k l p. inl p) back i
    where
      back : (s k : ℕ) (l : Label) → From P from x s l k → P s l k
      back s k l (inl p) = p
      back s k l (inr h) = absurd (f l k h.1)

  one_more :
      (P : ℕ → Label → ℕ → Type 0) (t : Turns) (x y : Node) (label : Label) (to : ℕ)
      → ((l : Label) (k : ℕ) → HasArcAt y l k → HasArcAt x l k ⊎ ((l ≡ label) × (k ≡ to)))
      → ((l : Label) (k : ℕ) → HasArcAt x l k → HasArcAt y l k)
      → HasArcAt y label to
      → IsGraph (From (And P from label to) from x) M size t → IsGraph (From P from y) M size t
  one_more P t x y label to f g h i =
      graph_same (From (And P from label to) from x) (From P from y) M size t there back i
    where
      there : (s k : ℕ) (l : Label) → From (And P from label to) from x s l k → From P from y s l k
      there s k l (inl (inl p)) = inl p
      there s k l (inl (inr e)) =
          inr (e.0, subst (λ v. HasArcAt y v k) (sym e.1) (subst (λ v. HasArcAt y label v) (sym e.2) h))
      there s k l (inr a) = inr (a.0, g l k a.1)

      split :
          (s k : ℕ) (l : Label) → s ≡ from → HasArcAt x l k ⊎ ((l ≡ label) × (k ≡ to))
          → From (And P from label to) from x s l k
      split s k l e (inl a) = inr (e, a)
      split s k l e (inr a) = inl (inr (e, a.0, a.1))

      back : (s k : ℕ) (l : Label) → From P from y s l k → From (And P from label to) from x s l k
      back s k l (inl p) = inl (inl p)
      back s k l (inr a) = split s k l a.0 (f l k a.1)

  -- A node with one edge.
  only :
      (P : ℕ → Label → ℕ → Type 0) (t : Turns) (y : Node) (label : Label) (to : ℕ)
      → ((l : Label) (k : ℕ) → HasArcAt y l k → (l ≡ label) × (k ≡ to)) → HasArcAt y label to
      → IsGraph (And P from label to) M size t → IsGraph (From P from y) M size t
  only P t y label to f h i =
      one_more P t (Split []) y label to (λ l k a. inr (f l k a)) (λ l k a. absurd (no_split l k a)) h
      (none_more (And P from label to) t (Split []) no_split i)
    where
      no_split : (l : Label) (k : ℕ) → HasArcAt (Split []) l k → ⊥
      no_split Free k h = h
      no_split (Asks look) k h = h
      no_split (Reads lo hi) k h = h

  graph_all :
      (xs : List ℕ) (P : ℕ → Label → ℕ → Type 0) (t : Turns) → all_below size xs ≡ true → IsGraph P M size t
      → IsGraph (From P from (Split xs)) M size (turn_all t from xs)
  graph_all [] P t b i = none_more P t (Split []) none i
    where
      none : (l : Label) (k : ℕ) → HasArcAt (Split []) l k → ⊥
      none Free k h = h
      none (Asks look) k h = h
      none (Reads lo hi) k h = h
  graph_all (x ∷ xs) P t b i =
      one_more P (turn_all (turn_free t from x) from xs) (Split xs) (Split (x ∷ xs)) Free x apart more (inl refl)
      (graph_all xs (And P from Free x) (turn_free t from x) c.1 (step_free P M size t from x (ltb-true x size c.0) i))
    where
      c : (ltb x size ≡ true) × (all_below size xs ≡ true)
      c = and_parts (ltb x size) (all_below size xs) b

      apart : (l : Label) (k : ℕ) → HasArcAt (Split (x ∷ xs)) l k → HasArcAt (Split xs) l k ⊎ ((l ≡ Free) × (k ≡ x))
      apart Free k (inl e) = inr (refl, e)
      apart Free k (inr j) = inl j
      apart (Asks look) k h = absurd h
      apart (Reads lo hi) k h = absurd h

      more : (l : Label) (k : ℕ) → HasArcAt (Split xs) l k → HasArcAt (Split (x ∷ xs)) l k
      more Free k h = inr h
      more (Asks look) k h = h
      more (Reads lo hi) k h = h

  no_read : (l : Label) (k : ℕ) → HasArcAt (Read []) l k → ⊥
  no_read Free k h = h
  no_read (Asks look) k h = h
  no_read (Reads lo hi) k h = none_some h.1

  read_apart :
      (a b next : ℕ) (rs : List Range) (l : Label) (k : ℕ)
      → HasArcAt (Read (record { lo = a; hi = b; next = next } ∷ rs)) l k
      → HasArcAt (Read rs) l k ⊎ ((l ≡ Reads a b) × (k ≡ next))
  read_apart a b next rs Free k h = absurd h
  read_apart a b next rs (Asks look) k h = absurd h
  read_apart a b next rs (Reads lo hi) k (zero, e) =
      let r = some_inj e in
      inr (
        ap₂ Reads (sym (ap (λ (v : Range). v.lo) r)) (sym (ap (λ (v : Range). v.hi) r)),
        sym (ap (λ (v : Range). v.next) r),
      )
  read_apart a b next rs (Reads lo hi) k (suc x, e) = inl (x, e)

  read_more :
      (a b next : ℕ) (rs : List Range) (l : Label) (k : ℕ) → HasArcAt (Read rs) l k
      → HasArcAt (Read (record { lo = a; hi = b; next = next } ∷ rs)) l k
  read_more a b next rs Free k h = h
  read_more a b next rs (Asks look) k h = h
  read_more a b next rs (Reads lo hi) k h = (suc h.0, h.1)

  step_read :
      (P : ℕ → Label → ℕ → Type 0) (t : Turns) (lo hi to : ℕ) → to < size → IsGraph P M size t
      → IsGraph (And P from (Reads lo hi) to) M size (turn_by t (is.ByteRange lo hi from) to)
  step_read P t lo hi to l i = step_by P M size t from to (Reads lo hi) (is.ByteRange lo hi from) l (λ t x h. h) i

  graph_ranges :
      (ts : List Transition) (P : ℕ → Label → ℕ → Type 0) (t : Turns) → transitions_below size ts ≡ true
      → IsGraph P M size t
      → IsGraph (From P from (Read (ranges_of ts))) M size (turn_ranges t from ts)
  graph_ranges [] P t b i = none_more P t (Read []) no_read i
  graph_ranges (r ∷ rs) P t b i =
      one_more P (turn_ranges (turn_by t (is.ByteRange r.lo r.hi from) r.next) from rs) (Read (ranges_of rs))
      (Read (ranges_of (r ∷ rs))) (Reads r.lo r.hi) r.next (read_apart r.lo r.hi r.next (ranges_of rs))
      (read_more r.lo r.hi r.next (ranges_of rs)) (0, refl)
      (graph_ranges rs (And P from (Reads r.lo r.hi) r.next) (turn_by t (is.ByteRange r.lo r.hi from) r.next) c.1
      (step_read P t r.lo r.hi r.next (ltb-true r.next size c.0) i))
    where
      c : (ltb r.next size ≡ true) × (transitions_below size rs ≡ true)
      c = and_parts (ltb r.next size) (transitions_below size rs) b

  no_accept : (p : ℕ) (l : Label) (k : ℕ) → HasArcAt (Accept p) l k → ⊥
  no_accept p Free k h = h
  no_accept p (Asks look) k h = h
  no_accept p (Reads lo hi) k h = h

  look_only :
      (look : Look) (next : ℕ) (l : Label) (k : ℕ) → HasArcAt (Assert look next) l k → (l ≡ Asks look) × (k ≡ next)
  look_only look next Free k h = absurd h
  look_only look next (Asks other) k h = (ap Asks (sym h.0), sym h.1)
  look_only look next (Reads lo hi) k h = absurd h

  -- Reverses each edge of a state.
  graph_state :
      (state : State) (P : ℕ → Label → ℕ → Type 0) (t : Turns) → state_below size state ≡ true → IsGraph P M size t
      → IsGraph (From P from (ranged state)) M size (turn_state t from state)
  graph_state (is.ByteRange lo hi next) P t b i =
      only P (turn_by t (is.ByteRange lo hi from) next) (Read (record { lo = lo; hi = hi; next = next } ∷ []))
      (Reads lo hi) next
      (λ l k a. ⊎_elim (λ (h : HasArcAt (Read []) l k). absurd (no_read l k h))
      (λ (h : (l ≡ Reads lo hi) × (k ≡ next)). h) (read_apart lo hi next [] l k a))
      (0, refl) (step_read P t lo hi next (ltb-true next size b) i)
  graph_state (is.Sparse ts) P t b i = graph_ranges ts.items P t b i
  graph_state (is.Dense targets) P t b i =
      graph_ranges (runs_from 0 0 targets.value) P t (runs_below size targets.value 0 0 b) i
  graph_state (is.Look look next) P t b i =
      only P (turn_by t (is.Look (flip look) from) next) (Assert look next) (Asks look) next (look_only look next)
      (refl, refl)
      (step_by P M size t from next (Asks look) (is.Look (flip look) from) (ltb-true next size b) (λ t x h. h) i)
  graph_state (is.Union alternates) P t b i = graph_all alternates.items P t b i
  graph_state (is.BinaryUnion alt1 alt2) P t b i =
      let c = and_parts (ltb alt1 size) (ltb alt2 size) b in
      graph_all (alt1 ∷ alt2 ∷ []) P t
      (ap (λ v. v && (ltb alt2 size && true)) c.0 ∙ ap (λ v. v && true) c.1) i
  graph_state (is.Capture next pattern index slot) P t b i = graph_all (next ∷ []) P t (ap (λ v. v && true) b) i
  graph_state is.Fail P t b i = graph_all [] P t refl i
  graph_state (is.Match pattern) P t b i = none_more P t (Accept pattern) (no_accept pattern) i

-- The edges of the states of a list.
abbrev pub Of : (ℕ → Label → ℕ → Type 0) → List State → List ℕ → ℕ → Label → ℕ → Type 0
Of P states ids s l k = P s l k ⊎ (In s ids × HasArcAt (ranged (slice_index_or states s is.Fail)) l k)

pub graph_states :
    (M : ℕ → Type 0) (size : ℕ) (states : List State) (ids : List ℕ) (P : ℕ → Label → ℕ → Type 0) (t : Turns)
    → ((q : ℕ) → state_below size (slice_index_or states q is.Fail) ≡ true) → IsGraph P M size t
    → IsGraph (Of P states ids) M size (turn_states t states ids)
graph_states M size states [] P t b i = graph_same P (Of P states []) M size t (λ s k l p. inl p) back i
  where
    back : (s k : ℕ) (l : Label) → Of P states [] s l k → P s l k
    back s k l (inl p) = p
    back s k l (inr h) = absurd h.0
graph_states M size states (q ∷ qs) P t b i =
    graph_same (Of P' states qs) (Of P states (q ∷ qs)) M size
    (turn_states (turn_state t q (slice_index_or states q is.Fail)) states qs) there back
    (graph_states M size states qs P' (turn_state t q (slice_index_or states q is.Fail)) b
    (graph_state M size q (slice_index_or states q is.Fail) P t (b q) i))
  where
    P' : ℕ → Label → ℕ → Type 0
    P' = From P q (ranged (slice_index_or states q is.Fail))

    there : (s k : ℕ) (l : Label) → Of P' states qs s l k → Of P states (q ∷ qs) s l k
    there s k l (inl (inl p)) = inl p
    there s k l (inl (inr a)) =
        inr (inl a.0, subst (λ v. HasArcAt (ranged (slice_index_or states v is.Fail)) l k) (sym a.0) a.1)
    there s k l (inr a) = inr (inr a.0, a.1)

    on :
        (s k : ℕ) (l : Label) → In s (q ∷ qs) → HasArcAt (ranged (slice_index_or states s is.Fail)) l k
        → Of P' states qs s l k
    on s k l (inl e) a = inl (inr (e, subst (λ v. HasArcAt (ranged (slice_index_or states v is.Fail)) l k) e a))
    on s k l (inr j) a = inr (j, a)

    back : (s k : ℕ) (l : Label) → Of P states (q ∷ qs) s l k → Of P' states qs s l k
    back s k l (inl p) = inl (inl p)
    back s k l (inr a) = on s k l a.0 a.1

-- Initially there are no edges.
pub graph_none : (n : ℕ) → IsGraph (λ s l k. ⊥) (λ k. ⊥) n (record { lists = no_lists n; helpers = [] })
graph_none n = record {
  whole = long n;
  sound = λ k x m. absurd (none n k x m);
  arcs = λ s k l p. absurd p;
  reported = λ k m. absurd m;
}
  where
    long : (n : ℕ) → length (no_lists n) ≡ n
    long zero = refl
    long (suc n) = ap suc (long n)

    none : (n k x : ℕ) → InAt (no_lists n) k x → ⊥
    none zero k x i = i
    none (suc n) zero x i = i
    none (suc n) (suc k) x i = none n k x i

-- Finally, the first state goes on to a match.
pub graph_report :
    (P : ℕ → Label → ℕ → Type 0) (size : ℕ) (t : Turns) (first : ℕ) → first < size → IsGraph P (λ k. ⊥) size t
    → IsGraph P (λ k. k ≡ first) size (turn_by t (is.Match 0) first)
graph_report P size t first small i = record {
  whole = push_length t.lists first (next_of t) ∙ i.whole;
  sound = λ k x m. go k x (in_push t.lists first (next_of t) k x m);
  arcs = λ s k l p.
      let w = i.arcs s k l p in
      (w.0, push_old t.lists first (next_of t) k w.0 w.1, stand_by t (is.Match 0) first w.0 s l w.2);
  reported = λ k e. (
    next_of t,
    subst (λ v. InAt (push_at t.lists first (next_of t)) v (next_of t)) (sym e)
        (push_new t.lists first (next_of t) (subst (λ v. first < v) (sym i.whole) small)),
    helper_new t (is.Match 0) first,
  );
}
  where
    old :
        (k x : ℕ) → ((s : ℕ) × (l : Label) × P s l k × Stand t x l s) ⊎ (⊥ × IsHelper t x (is.Match 0))
        → ((s : ℕ) × (l : Label) × P s l k × Stand (turn_by t (is.Match 0) first) x l s)
        ⊎ ((k ≡ first) × IsHelper (turn_by t (is.Match 0) first) x (is.Match 0))
    old k x (inl h) = inl (h.0, h.1, h.2, stand_by t (is.Match 0) first x h.0 h.1 h.3)
    old k x (inr h) = absurd h.0

    go :
        (k x : ℕ) → InAt t.lists k x ⊎ ((k ≡ first) × (x ≡ next_of t))
        → ((s : ℕ) × (l : Label) × P s l k × Stand (turn_by t (is.Match 0) first) x l s)
        ⊎ ((k ≡ first) × IsHelper (turn_by t (is.Match 0) first) x (is.Match 0))
    go k x (inl m) = old k x (i.sound k x m)
    go k x (inr e) =
        inr (
          e.0,
          subst (λ v. IsHelper (turn_by t (is.Match 0) first) v (is.Match 0)) (sym e.1)
              (helper_new t (is.Match 0) first),
        )
