-- Unions are folded one after another.
use Rattle.std.proofs.Common.{ℕ, ◌≡◌, ◌<◌, ◌≤◌, ◌+◌, List, [], ◌++◌, ◌⊎◌, Option, Some, None, inl, inr, refl, sym}
use Rattle.std.proofs.Common.{ap, ◌∙◌, subst, arith, length}
use Rattle.std.specs.Prelude.{slice_get}
use Rattle.std.proofs.lemmas.Bool.{cases_lt}
use Rattle.std.proofs.lemmas.Option.{slice_get_past}
use Rattle.automata_base.specs.declared.nfa.thompson.state.State.{State}
use Rattle.automata_base.specs.declared.nfa.thompson.state.Transition.{Transition}
use Rattle.automata_base.specs.Nfas.Nfa.{Node, takes_in}
use Rattle.automata_base.specs.Nfas.Nodes.{node_of}
use Rattle.automata_transform.specs.Retraced.Folds.{IsFoldOf, IsFoldedState, StaysState, FoldsState, IsUnionOf}
use Rattle.automata_transform.specs.Retraced.Folds.{ReadsRange}
use Rattle.automata_transform.specs.Retraced.Folds.{SomeReads, StaysOrReads, KeepsAlternate, ReadsARange}
use Rattle.automata_transform.specs.Retraced.Folds.{is_large_state, range_read}
use Rattle.automata_transform.proofs.Nfas.Folds.Heads.{made_more, any_more, nodes_nil}
use Rattle.automata_base.proofs.Paths.Orders.{none_some, some_inj}

-- A fold stays a fold if the same ranges are read and when more states are made.
module _ (A B : List State) (free : List ℕ) (made more new : List Node) (grows : new ≡ made ++ more)
    (forth : (x : ℕ) (range : Transition) → ReadsRange A x range → ReadsRange B x range)
    (back : (x : ℕ) (range : Transition) → ReadsRange B x range → ReadsRange A x range) where
  fold_later : (xs : List ℕ) (folded : Node) → IsFoldOf A free made xs folded → IsFoldOf B free new xs folded
  fold_later xs folded o = subst (λ (z : List Node). IsFoldOf B free z xs folded) (sym grows) record {
    stay = o.stay;
    reader = o.reader;
    ranges = o.ranges;
    union = o.union;
    reads = made_more free made more o.reader _ o.reads;
    sound = λ x i. let k = o.sound x i in (k.0, λ range r. k.1 range (back x range r));
    alternates = λ x i. all x (o.alternates x i);
    stands = λ u. (
      (o.stands u).0,
      any_more free made more (takes_in o.ranges u) (o.stands u).0 (o.stands u).1,
      λ t. ((λ i. some A B forth u t xs (((o.stands u).2 t).0 i)), λ w. ((o.stands u).2 t).1 (some B A back u t xs w)),
    );
  }
    where
      all : (x : ℕ) → StaysOrReads A o.stay x → StaysOrReads B o.stay x
      all x (KeepsAlternate i) = KeepsAlternate i
      all x (ReadsARange range k) = ReadsARange range (forth x range k)

      some :
          (C D : List State) → ((x : ℕ) (range : Transition) → ReadsRange C x range → ReadsRange D x range)
          → (u t : ℕ) (xs : List ℕ)
          → SomeReads C xs u t → SomeReads D xs u t
      some C D f u t xs k = record {
        state = k.state;
        range = k.range;
        among = k.among;
        reads = f k.state k.range k.reads;
        leads = k.leads;
        begins = k.begins;
        ends = k.ends;
      }

  pub state_later : (o n : Option State) → IsFoldedState A free made o n → IsFoldedState B free new o n
  state_later o n (StaysState same small) = StaysState same small
  state_later o n (FoldsState v folded union to fold none) =
      FoldsState v folded union to (fold_later v.items (node_of folded) fold) none

-- The unions before `count` are folded.
pub record Folding (old now : List State) (free : List ℕ) (made : List Node) (count : ℕ) : Type 0 where
  pub each : (x : ℕ) → x < count → IsFoldedState old free made (slice_get old x) (slice_get now x)
  pub rest : (x : ℕ) → count ≤ x → slice_get now x ≡ slice_get old x
  pub same : length now ≡ length old

pub folding_begin : (old : List State) (free : List ℕ) (made : List Node) → Folding old old free made 0
folding_begin old free made = record {
  each = λ x l. absurd (omega (arith, l));
  rest = λ x l. refl;
  same = refl;
}

module _ (old now : List State) (free : List ℕ) (made : List Node) (count : ℕ)
    (f : Folding old now free made count) where
  pub reads_back : (x : ℕ) (range : Transition) → ReadsRange now x range → ReadsRange old x range
  reads_back x range r = go (cases_lt x count)
    where
      at : IsFoldedState old free made (slice_get old x) (slice_get now x) → ReadsRange old x range
      at (StaysState same small) = (r.0, sym same ∙ r.1, r.2)
      at (FoldsState v folded union to fold none) =
          absurd (none_some (sym (ap (λ v. range_read v) (some_inj (sym r.1 ∙ to)) ∙ none) ∙ r.2))

      go : (x < count) ⊎ (count ≤ x) → ReadsRange old x range
      go (inl l) = at (f.each x l)
      go (inr l) = (r.0, sym (f.rest x l) ∙ r.1, r.2)

  pub reads_forth : (x : ℕ) (range : Transition) → ReadsRange old x range → ReadsRange now x range
  reads_forth x range r = go (cases_lt x count)
    where
      at : IsFoldedState old free made (slice_get old x) (slice_get now x) → ReadsRange now x range
      at (StaysState same small) = (r.0, same ∙ r.1, r.2)
      at (FoldsState v folded union to fold none) =
          absurd (none_some (sym (ap (λ v. range_read v) (some_inj (sym r.1 ∙ union))) ∙ r.2))

      go : (x < count) ⊎ (count ≤ x) → ReadsRange now x range
      go (inl l) = at (f.each x l)
      go (inr l) = (r.0, f.rest x l ∙ r.1, r.2)

  pub folding_next :
      (after : List State) (new more : List Node) → new ≡ made ++ more
      → IsFoldedState now free new (slice_get now count) (slice_get after count)
      → ((x : ℕ) → (x ≡ count → ⊥) → slice_get after x ≡ slice_get now x) → length after ≡ length now
      → Folding old after free new (count + 1)
  folding_next after new more grows folded others same = record {
    each = λ x l. each x (cases_lt x count) l;
    rest = λ x l. others x (λ e. omega (arith, l, e)) ∙ f.rest x (omega (arith, l));
    same = same ∙ f.same;
  }
    where
      each :
          (x : ℕ) → (x < count) ⊎ (count ≤ x) → x < count + 1
          → IsFoldedState old free new (slice_get old x) (slice_get after x)
      each x (inl a) l =
          subst (λ v. IsFoldedState old free new (slice_get old x) v) (sym (others x (λ e. omega (arith, a, e))))
          (state_later old old free made more new grows (λ x range r. r) (λ x range r. r) (slice_get old x)
          (slice_get now x) (f.each x a))
      each x (inr a) l =
          let here : count ≡ x = omega (arith, a, l) in
          subst (λ v. IsFoldedState old free new (slice_get old v) (slice_get after v)) here
          (subst (λ v. IsFoldedState old free new v (slice_get after count)) (f.rest count (omega arith))
          (state_later now old free new [] new (nodes_nil new) reads_back reads_forth (slice_get now count)
          (slice_get after count) folded))

  pub folding_done : length old ≤ count → (x : ℕ) → IsFoldedState old free made (slice_get old x) (slice_get now x)
  folding_done all x = go (cases_lt x count)
    where
      go : (x < count) ⊎ (count ≤ x) → IsFoldedState old free made (slice_get old x) (slice_get now x)
      go (inl l) = f.each x l
      go (inr l) = StaysState (f.rest x l) (ap (λ v. is_large_state v) (slice_get_past old x (omega (arith, l, all))))

-- A large union at an index, and its fold.
pub folded_here :
    (states new : List State) (free : List ℕ) (made : List Node) (x : ℕ) (s folded : State) (list : List ℕ)
    → slice_get states x ≡ Some s → slice_get new x ≡ Some folded → IsUnionOf s list
    → IsFoldOf states free made list (node_of folded)
    → range_read folded ≡ None → IsFoldedState states free made (slice_get states x) (slice_get new x)
folded_here states new free made x s folded list at to u o none =
    FoldsState u.0 folded (at ∙ ap (λ (v : State). Some v) u.1) to
    (subst (λ (z : List ℕ). IsFoldOf states free made z (node_of folded)) u.2 o) none
