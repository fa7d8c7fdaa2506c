-- An NFA whose unanchored start is a lazy loop that was added last skips lazily.
use Rattle.std.proofs.Common.{ℕ, zero, suc, ◌≡◌, ◌<◌, ◌+◌, List, [], ◌∷◌, ◌++◌, length, map, Some}
use Rattle.std.proofs.Common.{refl, sym, ap, ◌∙◌, subst, arith}
use Rattle.std.specs.Prelude.{slice_get}
use Rattle.std.proofs.lemmas.List.{map-append, length-map}
use Rattle.automata_base.specs.declared.nfa.thompson.state.State.{State}
use Rattle.automata_base.specs.declared.nfa.thompson.state.State.TheVariants as is
use Rattle.automata_base.specs.Nfas.Accepted.{IsChecked}
use Rattle.automata_base.specs.Nfas.Drafts.{Outline, PrefixesSkipLazily, prefix_of}
use Rattle.automata_base.specs.Nfas.Engines.{ByteEdge, FreeEdge, HasEdge, LazyLoop, Road, Reaches, any_byte}
use Rattle.automata_base.specs.Nfas.Getters.{SkipsLazily}
use Rattle.automata_base.specs.Nfas.Nfa.{Node, Split, Assert, Read, Accept, node, node_or_fail, hop_at, takes_at}
use Rattle.automata_base.specs.Nfas.Nodes.{Automaton, nfa_of, node_of, nodes_of, ranges_of, dense_from}
use Rattle.automata_base.specs.Paths.Paths.{all_true}
use Rattle.automata_base.specs.Nfas.Shapes.{Shape, EmptyShape, RangeShape, SparseShape, DenseShape, LookShape}
use Rattle.automata_base.specs.Nfas.Shapes.{UnionShape, UnionReverseShape, BinaryUnionShape, CaptureShape, FailShape}
use Rattle.automata_base.specs.Nfas.Shapes.{MatchShape, shape_of, built_of}
use Rattle.automata_base.specs.Powersets.Closure.{children}
use Rattle.automata_base.proofs.Paths.FirstVisits.{hop_children}
use Rattle.automata_base.proofs.Paths.Sets.{nth_in}

abbrev shape_node : Shape → Node
shape_node (EmptyShape next) = Split []
shape_node (RangeShape lo hi next) = Read (record { lo = lo; hi = hi; next = next } ∷ [])
shape_node (SparseShape ts) = Read (ranges_of ts)
shape_node (DenseShape targets) = Read (dense_from 0 targets)
shape_node (LookShape look next) = Assert look next
shape_node (UnionShape alternates) = Split alternates
shape_node (UnionReverseShape alternates) = Split []
shape_node (BinaryUnionShape alt1 alt2) = Split (alt1 ∷ alt2 ∷ [])
shape_node (CaptureShape next pattern index slot) = Split (next ∷ [])
shape_node FailShape = Split []
shape_node (MatchShape pattern) = Accept pattern

node_shaped : (s : State) → node_of s ≡ shape_node (shape_of s)
node_shaped (is.ByteRange lo hi next) = refl
node_shaped (is.Sparse ts) = refl
node_shaped (is.Dense targets) = refl
node_shaped (is.Look look next) = refl
node_shaped (is.Union alternates) = refl
node_shaped (is.BinaryUnion alt1 alt2) = refl
node_shaped (is.Capture next pattern index slot) = refl
node_shaped is.Fail = refl
node_shaped (is.Match pattern) = refl

nodes_shaped : (xs : List State) → nodes_of xs ≡ map shape_node (map shape_of xs)
nodes_shaped [] = refl
nodes_shaped (x ∷ xs) =
    ap (λ z. z ∷ nodes_of xs) (node_shaped x) ∙ ap (λ z. shape_node (shape_of x) ∷ z) (nodes_shaped xs)

nth_front :
    (xs ys : List Shape) (q : ℕ) → q < length xs
    → slice_get (map shape_node (xs ++ ys)) q ≡ slice_get (map shape_node xs) q
nth_front [] ys q l = absurd (omega (arith, l))
nth_front (x ∷ xs) ys zero l = refl
nth_front (x ∷ xs) ys (suc q) l = nth_front xs ys q (omega (arith, l))

nth_after :
    (xs ys : List Shape) (y : Shape) → slice_get (map shape_node (xs ++ y ∷ ys)) (length xs) ≡ Some (shape_node y)
nth_after [] ys y = refl
nth_after (x ∷ xs) ys y = nth_after xs ys y

nth_last :
    (xs : List Shape) (y z : Shape)
    → slice_get (map shape_node (xs ++ y ∷ z ∷ [])) (suc (length xs)) ≡ Some (shape_node z)
nth_last [] y z = refl
nth_last (x ∷ xs) y z = nth_last xs y z

module _
    (shapes : List Shape) (start : ℕ) (before after : Automaton) (checked : IsChecked before)
    (was : map shape_of before.states ≡ shapes) (within : start < length shapes)
    (now : map shape_of after.states ≡ shapes ++ BinaryUnionShape start (length shapes + 1)
    ∷ RangeShape 0 255 (length shapes) ∷ [])
  where
    abbrev last : List Shape
    last = BinaryUnionShape start (length shapes + 1) ∷ RangeShape 0 255 (length shapes) ∷ []

    nodes_now : nodes_of after.states ≡ map shape_node (shapes ++ last)
    nodes_now = nodes_shaped after.states ∙ ap (map shape_node) now

    nodes_was : nodes_of before.states ≡ map shape_node shapes
    nodes_was = nodes_shaped before.states ∙ ap (map shape_node) was

    few : length (nfa_of before).nodes ≡ length shapes
    few = ap length nodes_was ∙ length-map shapes shape_node

    union_is : node (nfa_of after) (length shapes) ≡ Split (start ∷ (length shapes + 1) ∷ [])
    union_is =
        ap (λ z. node_or_fail (slice_get z (length shapes))) nodes_now
        ∙ ap node_or_fail
        (nth_after shapes (RangeShape 0 255 (length shapes) ∷ []) (BinaryUnionShape start (length shapes + 1)))

    skip_is : node (nfa_of after) (length shapes + 1) ≡ any_byte (length shapes)
    skip_is =
        let behind : length shapes + 1 ≡ suc (length shapes) = omega arith in
        ap (λ z. node_or_fail (slice_get z (length shapes + 1))) nodes_now
        ∙ (ap (λ k. node_or_fail (slice_get (map shape_node (shapes ++ last)) k)) behind
        ∙ ap node_or_fail
        (nth_last shapes (BinaryUnionShape start (length shapes + 1)) (RangeShape 0 255 (length shapes))))

    node_same : (q : ℕ) → q < length shapes → node (nfa_of after) q ≡ node (nfa_of before) q
    node_same q l =
        ap (λ z. node_or_fail (slice_get z q)) nodes_now
        ∙ (ap node_or_fail (nth_front shapes last q l) ∙ sym (ap (λ z. node_or_fail (slice_get z q)) nodes_was))

    edge_below : (q r : ℕ) → q < length shapes → HasEdge (nfa_of after) q r → r < length shapes
    edge_below q r l (FreeEdge e h) =
        subst (λ z. r < z) few
        (checked.range.0 q r all_true
        (nth_in (children (nfa_of before) all_true q) e r
        (sym (hop_children (nfa_of before) all_true q e) ∙ (ap (λ x. hop_at x all_true e) (sym (node_same q l)) ∙ h))))
    edge_below q r l (ByteEdge u h) =
        subst (λ z. r < z) few (checked.range.1 q u r (ap (λ x. takes_at x u) (sym (node_same q l)) ∙ h))

    road_below : (q : ℕ) (way : List ℕ) (z : ℕ) → q < length shapes → Road (nfa_of after) q way z → z < length shapes
    road_below q [] z l w = subst (λ v. v < length shapes) w l
    road_below q (r ∷ way) z l w = road_below r way z (edge_below q r l w.0) w.1

    apart : Reaches (nfa_of after) start (length shapes) → ⊥
    apart h =
        let l : length shapes < length shapes = road_below start h.0 (length shapes) within h.1 in omega (arith, l)

    pub loops_lazily : after.start_anchored ≡ start → after.start_unanchored ≡ length shapes → SkipsLazily after
    loops_lazily anchored unanchored = LazyLoop (length shapes + 1) (
      ap (node (nfa_of after)) unanchored ∙ (union_is ∙ ap (λ z. Split (z ∷ (length shapes + 1) ∷ [])) (sym anchored)),
      skip_is ∙ ap any_byte (sym unanchored),
      λ h. apart
          (subst (λ z. Reaches (nfa_of after) z (length shapes)) anchored
          (subst (Reaches (nfa_of after) after.start_anchored) unanchored h)),
    )

pub prefixed : PrefixesSkipLazily
prefixed draft start before after checked was within e =
    loops_lazily (map built_of draft.states) start before after checked was (subst (λ z. start < z) (sym count) within)
    states
    (ap (λ (o : Outline). o.start_anchored) e)
    (ap (λ (o : Outline). o.start_unanchored) e ∙ sym count)
  where
    count : length (map built_of draft.states) ≡ length draft.states
    count = length-map draft.states built_of

    states :
        map shape_of after.states
        ≡ map built_of draft.states ++ BinaryUnionShape start (length (map built_of draft.states) + 1)
        ∷ RangeShape 0 255 (length (map built_of draft.states)) ∷ []
    states =
        ap (λ (o : Outline). o.states) e
        ∙ (map-append built_of draft.states (prefix_of draft start)
        ∙ ap (λ k. map built_of draft.states ++ BinaryUnionShape start (k + 1) ∷ RangeShape 0 255 k ∷ []) (sym count))
