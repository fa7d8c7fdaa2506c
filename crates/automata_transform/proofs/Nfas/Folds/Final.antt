-- Folding the unions of a list of states gives the states of a folded NFA.
use Rattle.std.proofs.Common.{ℕ, zero, suc, ◌≡◌, ◌≤◌, leb, Bool, true, false, cond, List, [], ◌∷◌, Option, Some}
use Rattle.std.proofs.Common.{None, inl, inr, refl}
use Rattle.std.proofs.Common.{sym, ap, ◌∙◌, subst}
use Rattle.std.specs.Prelude.{slice_get}
use Rattle.std.proofs.lemmas.Bool.{leb-true, and_parts}
use Rattle.automata_base.specs.declared.nfa.thompson.state.Flags.{Flags}
use Rattle.automata_base.specs.declared.nfa.thompson.state.State.{State}
use Rattle.automata_base.specs.declared.nfa.thompson.state.State.TheVariants as is
use Rattle.automata_base.specs.declared.nfa.thompson.state.Transition.{Transition}
use Rattle.automata_base.specs.declared.nfa.thompson.reach.Edges.TheVariants.{Every}
use Rattle.automata_base.specs.Haystacks.Looks.{within}
use Rattle.automata_base.specs.Lists.{In}
use Rattle.automata_base.specs.Nfas.Automata.{automaton}
use Rattle.automata_base.specs.Nfas.Nfa.{Nfa, Node, Range, Split, Assert, Read, Accept, Truth, node, hop_at, takes_at}
use Rattle.automata_base.specs.Nfas.Nfa.{takes_in}
use Rattle.automata_base.specs.Nfas.Nodes.{nfa_of, node_of, nodes_of, range_of}
use Rattle.automata_base.specs.Paths.Paths.{all_true}
use Rattle.automata_base.specs.Powersets.Closure.{children_at}
use Rattle.automata_transform.specs.Retraced.Folds.{AreFolded, IsFolded, IsFoldedFrom, IsFoldedNode, StaysNode}
use Rattle.automata_transform.specs.Retraced.Folds.{FoldsNode}
use Rattle.automata_transform.specs.Retraced.Folds.{IsFoldedAlternate, StaysAlternate, FoldsAlternate}
use Rattle.automata_transform.specs.Retraced.Folds.{IsFoldedState, StaysState, FoldsState}
use Rattle.automata_transform.specs.Retraced.Folds.{IsFoldedUnion, IsFoldOf, StaysOrReads, KeepsAlternate, ReadsARange}
use Rattle.automata_transform.specs.Retraced.Folds.{IsNotFree, ReadsRange, SomeReads, SomeTakes, is_large}
use Rattle.automata_transform.specs.Retraced.Folds.{is_large_state}
use Rattle.automata_transform.specs.Retraced.Folds.{range_read}
use Rattle.automata_base.specs.Retraced.Once.{once_from}
use Rattle.automata_base.specs.Retraced.Reach.{node_in, nexts, byte_targets, targets_at, targets_of}
use Rattle.automata_transform.proofs.Nfas.Folds.Ranges.{within_is}
use Rattle.automata_base.proofs.Nfas.Reach.Adding.{once_keeps, once_has}
use Rattle.automata_base.proofs.Paths.Orders.{none_some, some_inj}
use Rattle.automata_base.proofs.Paths.Sets.{nth_in}
use Rattle.automata_base.proofs.Paths.Walks.{in_left}

-- The node of a state; for no state, a node without edges.
option_node : Option State → Node
option_node None = Split []
option_node (Some s) = node_of s

node_is : (states : List State) (x : ℕ) → node_in states x ≡ option_node (slice_get states x)
unfolding option_node
node_is [] x = refl
node_is (s ∷ states) zero = refl
node_is (s ∷ states) (suc x) = node_is states x

node_some : (states : List State) (x : ℕ) (s : State) → slice_get states x ≡ Some s → node_in states x ≡ node_of s
unfolding option_node
node_some states x s e = node_is states x ∙ ap option_node e

large_is : (o : Option State) → is_large_state o ≡ is_large (option_node o)
unfolding option_node
large_is None = refl
large_is (Some s) = refl

range_node : (s : State) (range : Transition) → range_read s ≡ Some range → node_of s ≡ Read (range_of range ∷ [])
range_node (is.ByteRange lo hi next) range e = ap (λ (r : Transition). Read (range_of r ∷ [])) (some_inj e)
range_node (is.Sparse ts) range e = absurd (none_some e)
range_node (is.Dense targets) range e = absurd (none_some e)
range_node (is.Look look next) range e = absurd (none_some e)
range_node (is.Union alternates) range e = absurd (none_some e)
range_node (is.BinaryUnion alt1 alt2) range e = absurd (none_some e)
range_node (is.Capture next pattern index slot) range e = absurd (none_some e)
range_node is.Fail range e = absurd (none_some e)
range_node (is.Match pattern) range e = absurd (none_some e)

read_node :
    (states : List State) (x : ℕ) (range : Transition) → ReadsRange states x range
    → node_in states x ≡ Read (range_of range ∷ [])
read_node states x range r = node_some states x r.0 r.1 ∙ range_node r.0 range r.2

-- A state that reads a range leads to a state that is not free.
pub range_kept :
    (states : List State) (free : List ℕ)
    → ((q t : ℕ) → is_large (node_in states q) ≡ false → In t (targets_of Every states q) → IsNotFree free t)
    → (q : ℕ) (range : Transition)
    → ReadsRange states q range → IsNotFree free range.next
range_kept states free led q range r =
    let e = read_node states q range r in
    led q range.next (ap (λ v. is_large v) e) (subst (λ v. In range.next (targets_at Every v)) (sym e) (inl refl))

hop_child : (x : Node) (A : Truth) (e y : ℕ) → hop_at x A e ≡ Some y → In y (children_at x all_true)
hop_child (Split xs) A e y h = nth_in xs e y h
hop_child (Assert look next) A zero y h = go (A look) h
  where
    go : (b : Bool) → cond b (Some next) None ≡ Some y → In y (next ∷ [])
    go true g = inl (sym (some_inj g))
    go false g = absurd (none_some g)
hop_child (Assert look next) A (suc e) y h = absurd (none_some h)
hop_child (Read ranges) A e y h = absurd (none_some h)
hop_child (Accept p) A e y h = absurd (none_some h)

taken_next : (ranges : List Range) (u y : ℕ) → takes_in ranges u ≡ Some y → In y (nexts ranges)
taken_next [] u y h = absurd (none_some h)
taken_next (r ∷ ranges) u y h = go (within r.lo r.hi u) h (λ g. taken_next ranges u y g)
  where
    go :
        (b : Bool) → cond b (Some r.next) (takes_in ranges u) ≡ Some y
        → (takes_in ranges u ≡ Some y → In y (nexts ranges)) → In y (nexts (r ∷ ranges))
    go true g f = inl (sym (some_inj g))
    go false g f = inr (f g)

take_child : (x : Node) (u y : ℕ) → takes_at x u ≡ Some y → (is_large x ≡ false) × In y (targets_at Every x)
take_child (Split xs) u y h = absurd (none_some h)
take_child (Assert look next) u y h = absurd (none_some h)
take_child (Read ranges) u y h = (refl, taken_next ranges u y h)
take_child (Accept p) u y h = absurd (none_some h)

-- A single range takes the bytes within its bounds.
one_takes :
    (range : Transition) (u t : ℕ) → range.next ≡ t → range.lo ≤ u → u ≤ range.hi
    → takes_in (range_of range ∷ []) u ≡ Some t
one_takes range u t e a b =
    ap (λ w. cond w (Some range.next) None) (within_is range.lo range.hi u a b) ∙ ap (λ (v : ℕ). Some v) e

one_taken :
    (range : Transition) (u t : ℕ) → takes_in (range_of range ∷ []) u ≡ Some t → (range.next ≡ t) × (range.lo ≤ u)
    × (u ≤ range.hi)
one_taken range u t h = go (within range.lo range.hi u) refl h
  where
    go :
        (w : Bool) → within range.lo range.hi u ≡ w → cond w (Some range.next) None ≡ Some t
        → (range.next ≡ t) × (range.lo ≤ u) × (u ≤ range.hi)
    go true e g =
        let k = and_parts (leb range.lo u) (leb u range.hi) e in
        (some_inj g, leb-true range.lo u k.0, leb-true u range.hi k.1)
    go false e g = absurd (none_some g)

module _ (old new : List State) (root : ℕ) (entries : List ℕ) (flags : Flags) (free : List ℕ) (made : List Node)
    (a : AreFolded old new free made) where
  abbrev Plain : Nfa
  Plain = nfa_of (automaton old root root entries flags)

  abbrev Folded : Nfa
  Folded = nfa_of (automaton new root root entries flags)

  union_of :
      (xs : List ℕ) (x : ℕ) (folded : Node) → node Folded x ≡ folded → IsFoldOf old free made xs folded
      → IsFoldedUnion Plain free made xs (node Folded x)
  union_of xs x folded e o = record {
    stay = o.stay;
    reader = o.reader;
    ranges = o.ranges;
    union = e ∙ o.union;
    reads = o.reads;
    kept = λ y i. let k = o.sound y i in (k.0, λ f. let r = a.reads y f in k.1 r.0 r.1);
    targets = λ u. (o.stands u).0;
    stands = λ u. (o.stands u).1;
    sound = λ u t i. takes' u t (((o.stands u).2 t).0 i);
    alternates = λ y i. all y i (o.alternates y i);
  }
    where
      takes' : (u t : ℕ) → SomeReads old xs u t → SomeTakes Plain xs u t
      takes' u t k = (
        k.state,
        k.among,
        ap (λ v. takes_at v u) (read_node old k.state k.range k.reads) ∙ one_takes k.range u t k.leads k.begins k.ends,
      )

      all :
          (y : ℕ) → In y xs → StaysOrReads old o.stay y
          → IsFoldedAlternate Plain o.stay (λ u. (o.stands u).0) y
      all y i (KeepsAlternate k) = StaysAlternate k
      all y i (ReadsARange range reads) =
          FoldsAlternate (range_of range ∷ []) (read_node old y range reads)
          (λ u t h.
          let g = one_taken range u t h in
          ((o.stands u).2 t).1 (record {
            state = y;
            range = range;
            among = i;
            reads = reads;
            leads = g.0;
            begins = g.1;
            ends = g.2;
          }))

  each_of :
      (x : ℕ) → IsFoldedState old free made (slice_get old x) (slice_get new x)
      → IsFoldedNode Plain free made (node Plain x) (node Folded x)
  each_of x (StaysState same small) =
      StaysNode (node_is new x ∙ (ap option_node same ∙ sym (node_is old x)))
      (λ A e y h.
      a.led x y (ap (λ v. is_large v) (node_is old x) ∙ (sym (large_is (slice_get old x)) ∙ small))
      (in_left y (children_at (node Plain x) all_true) (byte_targets (node Plain x))
      (hop_child (node Plain x) A e y h)))
  each_of x (FoldsState v folded union to fold none) =
      FoldsNode v.items (node_some old x (is.Union v) union)
      (union_of v.items x (node_of folded) (node_some new x folded to) fold)

  pub whole_folded : IsFolded Plain Folded free made
  whole_folded = record {
    each = λ x k. each_of x (a.each x k);
    more = a.more;
    moves = λ x u y h. let k = take_child (node Plain x) u y h in a.led x y k.0 k.1;
  }

nodes_get :
    (xs : List State) (k : ℕ) (n : Node) → slice_get (nodes_of xs) k ≡ Some n → (s : State) × (slice_get xs k ≡ Some s)
    × (node_of s ≡ n)
nodes_get [] k n e = absurd (none_some e)
nodes_get (x ∷ xs) zero n e = (x, refl, some_inj e)
nodes_get (x ∷ xs) (suc k) n e = nodes_get xs k n e

-- The steps of the folding together give a folded NFA.
pub folded_from :
    (old mid new made : List State) (led0 led1 led2 free entries : List ℕ) (root : ℕ)
    → ((q t : ℕ) → is_large (node_in old q) ≡ false → In t (targets_of Every old q) → In t led0)
    → led1 ≡ once_from led0 (root ∷ []) → led2 ≡ once_from led1 entries
    → ((x : ℕ) → In x free → (range : Transition) × ReadsRange old x range) → ((x : ℕ) → In x free → In x led2 → ⊥)
    → ((x : ℕ) → IsFoldedState old free (nodes_of made) (slice_get old x) (slice_get mid x))
    → ((x : ℕ) → IsNotFree free x → slice_get new x ≡ slice_get mid x)
    → ((k x : ℕ) (s : State) → slice_get free k ≡ Some x → slice_get made k ≡ Some s → slice_get new x ≡ Some s)
    → IsFoldedFrom old new root entries
folded_from old mid new made led0 led1 led2 free entries root led e f reads fresh each kept done = record {
  free = free;
  made = nodes_of made;
  folded = record {
    each = λ x k. subst (λ v. IsFoldedState old free (nodes_of made) (slice_get old x) v) (sym (kept x k)) (each x);
    more = λ x n m.
        let s = nodes_get made m.0 n m.2 in node_some new x s.0 (done m.0 x s.0 m.1 s.1) ∙ s.2;
    led = λ q t l i k. fresh t k (keep t (led q t l i));
    reads = reads;
  };
  rooted = λ k.
      fresh root k
      (keep1 root (subst (λ (v : List ℕ). In root v) (sym e) (once_has root led0 (root ∷ []) (inl refl))));
  entered = λ x i k. fresh x k (subst (λ (v : List ℕ). In x v) (sym f) (once_has x led1 entries i));
}
  where
    keep1 : (t : ℕ) → In t led1 → In t led2
    keep1 t i = subst (λ (v : List ℕ). In t v) (sym f) (once_keeps t led1 entries i)

    keep : (t : ℕ) → In t led0 → In t led2
    keep t i = keep1 t (subst (λ (v : List ℕ). In t v) (sym e) (once_keeps t led0 (root ∷ []) i))
