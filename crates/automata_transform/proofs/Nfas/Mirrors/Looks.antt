-- Each look of a reversed NFA is a look of the other one, flipped.
use Rattle.std.proofs.Common.{ℕ, ◌≡◌, ◌<◌, ◌≤◌, List, [], ◌∷◌, ◌⊎◌, inl, inr, refl, sym, ap, ◌∙◌, subst, length}
use Rattle.std.proofs.Common.{get_or}
use Rattle.std.proofs.lemmas.Bool.{cases_lt}
use Rattle.std.proofs.lemmas.Option.{slice_get_past}
use Rattle.automata_base.specs.declared.nfa.thompson.state.State.{State}
use Rattle.automata_base.specs.declared.nfa.thompson.state.State.TheVariants as is
use Rattle.automata_base.specs.declared.util.look.Look.{Look}
use Rattle.automata_base.specs.declared.util.look.Look.TheVariants.{Start, End, StartLF, EndLF, StartCRLF, EndCRLF}
use Rattle.automata_base.specs.declared.util.look.Look.TheVariants.{WordAscii, WordAsciiNegate, WordUnicode}
use Rattle.automata_base.specs.declared.util.look.Look.TheVariants.{WordUnicodeNegate}
use Rattle.automata_base.specs.declared.util.look.Look.TheVariants.{WordStartAscii, WordEndAscii, WordStartUnicode}
use Rattle.automata_base.specs.declared.util.look.Look.TheVariants.{WordEndUnicode}
use Rattle.automata_base.specs.declared.util.look.Look.TheVariants.{WordStartHalfAscii, WordEndHalfAscii}
use Rattle.automata_base.specs.declared.util.look.Look.TheVariants.{WordStartHalfUnicode}
use Rattle.automata_base.specs.declared.util.look.Look.TheVariants.{WordEndHalfUnicode}
use Rattle.automata_base.specs.Lists.{In}
use Rattle.automata_base.specs.Nfas.Nfa.{Nfa, Node, Split, Assert, Read, Accept, node, node_or_fail}
use Rattle.automata_base.specs.Nfas.Nodes.{Automaton, nfa_of, node_of}
use Rattle.automata_base.specs.Powersets.Passes.{Occurs}
use Rattle.automata_base.proofs.Nfas.Reach.InRange.{node_is}
use Rattle.automata_transform.specs.Nfas.Mirrors.{flip, Label, Free, Asks, Reads, HasArcAt}
use Rattle.automata_transform.specs.Nfas.Mirrors.{IsUseful, IsAsking, IsAnyLabel, IsEdgeTo, TurnsArc, EndsPath}
use Rattle.automata_transform.specs.Nfas.Mirrors.{StandsForEdges, JoinsEdges, IsOnlyEdge, IsPart, IsOfPart, IsEntryOf}
use Rattle.automata_transform.specs.Nfas.Mirrors.{IsPlaceOf, IsAlternateOf, IsOfMirror, IsRootOf, IsInPart, IsMirror}
use Rattle.automata_transform.specs.Nfas.Mirrors.{IsReversed}
use Rattle.automata_transform.specs.Retraced.DenseRuns.{ranged, ranged_nfa}
use Rattle.automata_transform.proofs.Nfas.Mirrors.Members.{ranged_is}

flip_twice : (look : Look) → flip (flip look) ≡ look
flip_twice Start = refl
flip_twice End = refl
flip_twice StartLF = refl
flip_twice EndLF = refl
flip_twice StartCRLF = refl
flip_twice EndCRLF = refl
flip_twice WordAscii = refl
flip_twice WordAsciiNegate = refl
flip_twice WordUnicode = refl
flip_twice WordUnicodeNegate = refl
flip_twice WordStartAscii = refl
flip_twice WordEndAscii = refl
flip_twice WordStartUnicode = refl
flip_twice WordEndUnicode = refl
flip_twice WordStartHalfAscii = refl
flip_twice WordEndHalfAscii = refl
flip_twice WordStartHalfUnicode = refl
flip_twice WordEndHalfUnicode = refl

assert_is : (a b : Look) (x y : ℕ) → Assert a x ≡ Assert b y → a ≡ b
assert_is a b x y e = cc

no_split : (look : Look) (next : ℕ) (xs : List ℕ) → Split xs ≡ Assert look next → ⊥
no_split look next xs e = cc

asks_node : (x : Node) (look : Look) (to : ℕ) → HasArcAt x (Asks look) to → x ≡ Assert look to
asks_node (Split xs) look to h = absurd h
asks_node (Assert asked next) look to h =
    ap (λ v. Assert v next) h.0 ∙ ap (λ v. Assert look v) h.1
asks_node (Read ranges) look to h = absurd h
asks_node (Accept p) look to h = absurd h

-- The node of an edge that is reversed tests the flipped look of an edge, or it is the state where the edge begins.
module _ (n m : Nfa) (first p : ℕ) (place : ℕ → ℕ) where
  edge_look :
      (Kind : Label → Type 0) (t x : ℕ) (look : Look) (next : ℕ) → IsEdgeTo n m first p place Kind t x
      → node m x ≡ Assert look next
      → Occurs n (flip look) ⊎ ((s : ℕ) × IsUseful n first p s × (x ≡ place s) × Kind Free)
  edge_look Kind t x look next (TurnsArc s Free useful arc kind turned) e = inr (s, useful, turned, kind)
  edge_look Kind t x look next (TurnsArc s (Asks asked) useful arc kind turned) e =
      let same : look ≡ flip asked = assert_is look (flip asked) next (place s) (sym e ∙ turned) in
      inl (s, t, asks_node (node n s) asked t arc ∙ ap (λ v. Assert v t) (sym (ap flip same ∙ flip_twice asked)))
  edge_look Kind t x look next (TurnsArc s (Reads lo hi) useful arc kind turned) e = absurd (apart (sym e ∙ turned))
    where
      apart : Assert look next ≡ Read (record { lo = lo; hi = hi; next = place s } ∷ []) → ⊥
      apart f = cc
  edge_look Kind t x look next (EndsPath is accepts) e = absurd (apart (sym e ∙ accepts))
    where
      apart : Assert look next ≡ Accept p → ⊥
      apart f = cc

  edge_splits :
      (t x : ℕ) (xs : List ℕ) → IsEdgeTo n m first p place IsAsking t x → node m x ≡ Split xs → ⊥
  edge_splits t x xs (TurnsArc s Free useful arc kind turned) e = kind
  edge_splits t x xs (TurnsArc s (Asks asked) useful arc kind turned) e =
      no_split (flip asked) (place s) xs (sym e ∙ turned)
  edge_splits t x xs (TurnsArc s (Reads lo hi) useful arc kind turned) e = apart (sym e ∙ turned)
    where
      apart : Split xs ≡ Read (record { lo = lo; hi = hi; next = place s } ∷ []) → ⊥
      apart f = cc
  edge_splits t x xs (EndsPath is accepts) e = apart (sym e ∙ accepts)
    where
      apart : Split xs ≡ Accept p → ⊥
      apart f = cc

  module _ (entry : ℕ) (part : IsPart n m first p entry place) where
    place_look :
        (t : ℕ) (look : Look) (next : ℕ) → IsUseful n first p t → node m (place t) ≡ Assert look next
        → Occurs n (flip look)
    place_look t look next useful e = go ((part.turned t useful).1.stands)
      where
        go : StandsForEdges n m first p place t (part.turned t useful).0 → Occurs n (flip look)
        go (JoinsEdges split) = absurd (no_split look next _ (sym split ∙ e))
        go (IsOnlyEdge only edge) = done (edge_look IsAsking t (place t) look next edge e)
          where
            done :
                Occurs n (flip look) ⊎ ((s : ℕ) × IsUseful n first p s × (place t ≡ place s) × IsAsking Free)
                → Occurs n (flip look)
            done (inl o) = o
            done (inr w) = absurd w.3

    alternate_look :
        (t x : ℕ) (xs : List ℕ) (look : Look) (next : ℕ) → IsUseful n first p t → node m (place t) ≡ Split xs → In x xs
        → node m x ≡ Assert look next → Occurs n (flip look)
    alternate_look t x xs look next useful split i e = go ((part.turned t useful).1.stands)
      where
        done :
            Occurs n (flip look) ⊎ ((s : ℕ) × IsUseful n first p s × (x ≡ place s) × IsAnyLabel Free)
            → Occurs n (flip look)
        done (inl o) = o
        done (inr w) = place_look w.0 look next w.1 (ap (node m) (sym w.2) ∙ e)

        same : (ys : List ℕ) → Split ys ≡ Split xs → xs ≡ ys
        same ys f = cc

        go : StandsForEdges n m first p place t (part.turned t useful).0 → Occurs n (flip look)
        go (JoinsEdges own) =
            done (edge_look IsAnyLabel t x look next
            ((part.turned t useful).1.sound x
            (subst (λ (z : List ℕ). In x z) (same (part.turned t useful).0 (sym own ∙ split)) i))
            e)
        go (IsOnlyEdge only edge) = absurd (edge_splits t (place t) xs edge split)

    part_look :
        (x : ℕ) (look : Look) (next : ℕ) → IsOfPart n m first p entry place x → node m x ≡ Assert look next
        → Occurs n (flip look)
    part_look x look next (IsEntryOf is) e =
        absurd (no_split look next _ (sym (part.enters.1.union) ∙ (ap (node m) (sym is) ∙ e)))
    part_look x look next (IsPlaceOf t useful is) e = place_look t look next useful (ap (node m) (sym is) ∙ e)
    part_look x look next (IsAlternateOf t xs useful split i) e = alternate_look t x xs look next useful split i e

mirror_looks :
    (n m : Nfa) (first : ℕ) (entries : List ℕ) (root : ℕ) → IsMirror n m first entries root → (look : Look)
    → Occurs m look → Occurs n (flip look)
mirror_looks n m first entries root f look o = go (cases_lt o.0 (length m.nodes))
  where
    of : IsOfMirror n m first entries root f.place o.0 → Occurs n (flip look)
    of (IsRootOf is) = absurd (no_split look o.1 entries (sym f.roots ∙ (ap (node m) (sym is) ∙ o.2)))
    of (IsInPart p entry at part) =
        part_look n m first p (f.place p) entry (f.parts p entry at) o.0 look o.1 part o.2

    go : (o.0 < length m.nodes) ⊎ (length m.nodes ≤ o.0) → Occurs n (flip look)
    go (inl l) = of (f.only o.0 l)
    go (inr l) = absurd (no_split look o.1 [] (sym (ap node_or_fail (slice_get_past m.nodes o.0 l)) ∙ o.2))

ranged_assert : (s : State) (look : Look) (next : ℕ) → ranged s ≡ Assert look next → node_of s ≡ Assert look next
ranged_assert (is.ByteRange lo hi to) look next e = e
ranged_assert (is.Sparse ts) look next e = e
ranged_assert (is.Dense targets) look next e = cc
ranged_assert (is.Look asked to) look next e = e
ranged_assert (is.Union alternates) look next e = e
ranged_assert (is.BinaryUnion alt1 alt2) look next e = e
ranged_assert (is.Capture to pattern index slot) look next e = e
ranged_assert is.Fail look next e = e
ranged_assert (is.Match pattern) look next e = e

-- Each look of a reversed NFA is a look of the other one, flipped.
pub reversed_looks :
    (a b : Automaton) → IsReversed a b → (look : Look) → Occurs (nfa_of b) look → Occurs (nfa_of a) (flip look)
reversed_looks a b r look o =
    let w =
    mirror_looks (ranged_nfa a) (nfa_of b) a.start_anchored b.start_pattern b.start_anchored r.mirror look o in (
      w.0,
      w.1,
      node_is a.states w.0
          ∙ ranged_assert (get_or a.states w.0 is.Fail) (flip look) w.1 (sym (ranged_is a.states w.0) ∙ w.2),
    )
