-- An NFA and its reverse are a true pair.
use Rattle.std.proofs.Common.{ℕ, zero, suc, ◌≡◌, ◌≤◌, ◌+◌, ◌-◌, ◌&&◌, leb, not, true, cond, List, [], ◌∷◌}
use Rattle.std.proofs.Common.{length, Option, Some, None, inl, inr, refl, sym, ap, ◌∙◌, subst, arith}
use Rattle.std.proofs.lemmas.Bool.{leb-true}
use Rattle.automata_base.specs.declared.nfa.thompson.state.State.{State}
use Rattle.automata_base.specs.declared.nfa.thompson.state.State.TheVariants as is
use Rattle.automata_base.specs.declared.nfa.thompson.state.Transition.{Transition}
use Rattle.automata_base.specs.declared.util.search.MatchKind.{MatchKind}
use Rattle.automata_base.specs.declared.util.search.MatchKind.TheVariants.{All}
use Rattle.automata_base.specs.Nfas.Accepted.{IsChecked}
use Rattle.automata_base.specs.Nfas.Engines.{MatchesEmpty, engine_of}
use Rattle.automata_base.specs.Lists.{In}
use Rattle.std.specs.Prelude.{slice_get}
use Rattle.automata_base.specs.declared.util.look.Look.{Look}
use Rattle.automata_base.specs.Haystacks.Looks.{within, holds}
use Rattle.automata_transform.specs.Nfas.Mirrors.{flip, HasRange, IsReversed, BeginsAlike, IsReversedByPattern}
use Rattle.automata_base.specs.Nfas.Nfa.{Nfa, Node, Range, Truth, Split, Assert, Read, Accept, node_or_fail}
use Rattle.automata_base.specs.Nfas.Nfa.{takes_in, accepts}
use Rattle.automata_base.specs.Nfas.Nodes.{Automaton, nfa_of, ranges_of}
use Rattle.automata_base.specs.Paths.Paths.{truth, prev, next}
use Rattle.automata_base.specs.Nfas.Errors.{ordered_from, state_ordered, states_ordered}
use Rattle.automata_transform.specs.Retraced.DenseRuns.{runs_from, ranged, ranged_nodes, ranged_nfa}
use Rattle.automata_base.specs.Paths.Selections.{Accepts}
use Rattle.automata_base.specs.declared.util.search.Direction.TheVariants.{Forward, Backward}
use Rattle.automata_base.specs.Haystacks.Tapes.{forward_tape, reverse_tape}
use Rattle.automata_base.specs.Answers.TruePairs.{IsTruePair, Joins}
use Rattle.automata_base.specs.Nfas.Getters.{SkipsLazily}
use Rattle.automata_transform.proofs.Nfas.Mirrors.Flips.{flip_holds}
use Rattle.automata_transform.proofs.Nfas.Mirrors.Ranged.{way_ranged, ranged_way, accepts_ranged}
use Rattle.automata_transform.proofs.Nfas.Mirrors.Runs.{runs_ordered}
use Rattle.automata_transform.proofs.Nfas.Mirrors.Turned.{IsTurn, IsApart, back_entry, back_root, forth_part}
use Rattle.automata_transform.proofs.Nfas.Mirrors.Turned.{forth_entry}
use Rattle.automata_transform.proofs.Nfas.Mirrors.Turned.{forth_root}
use Rattle.automata_transform.proofs.Nfas.Mirrors.Ways.{Bytes, IsWay, HasWay, HasPath, path_way, way_path, run_way}
use Rattle.automata_transform.proofs.Nfas.Mirrors.Ways.{way_run}
use Rattle.automata_transform.proofs.Nfas.Mirrors.Ways.{always, no_bytes}
use Rattle.automata_base.proofs.Paths.Orders.{none_some, some_inj}
use Rattle.automata_base.proofs.Paths.Sets.{nth_in}
use Rattle.automata_base.proofs.Answers.Bytes.{forward_next, forward_prev, forward_byte, reverse_next, reverse_prev}
use Rattle.automata_base.proofs.Answers.Bytes.{reverse_byte}
use Rattle.std.proofs.lemmas.Bool.{and_parts}
use Rattle.automata_base.proofs.Answers.Loops.{nth_some}
use Rattle.automata_base.proofs.Nfas.Utf8.Edges.{within_past}

-- Ordered ranges are disjoint.
abbrev pub IsApartAt : Node → Type 0
IsApartAt (Split alternates) = Unit {0}
IsApartAt (Assert look next) = Unit {0}
IsApartAt (Read ranges) =
    (lo hi next u : ℕ) → HasRange ranges lo hi next → within lo hi u ≡ true → takes_in ranges u ≡ Some next
IsApartAt (Accept p) = Unit {0}

within_least : (lo hi u : ℕ) → within lo hi u ≡ true → lo ≤ u
within_least lo hi u w = leb-true lo u (and_parts (leb lo u) (leb u hi) w).0

one_takes :
    (l h r lo hi next u : ℕ) (rest : Option ℕ) → l ≡ lo → h ≡ hi → r ≡ next → within lo hi u ≡ true
    → cond (within l h u) (Some r) rest ≡ Some next
one_takes l h r lo hi next u rest a b c w =
    ap (λ v. cond v (Some r) rest) (ap (λ v. within v h u) a ∙ (ap (λ v. within lo v u) b ∙ w)) ∙ ap Some c

range_above :
    (low : ℕ) (ts : List Transition) (lo hi next : ℕ) → ordered_from low ts ≡ true → HasRange (ranges_of ts) lo hi next
    → low ≤ lo
range_above low [] lo hi next o h = absurd (none_some h.1)
range_above low (t ∷ ts) lo hi next o h = go h (range_above (t.hi + 1) ts lo hi next)
  where
    outer : (leb low t.lo && leb t.lo t.hi ≡ true) × (ordered_from (t.hi + 1) ts ≡ true)
    outer = and_parts (leb low t.lo && leb t.lo t.hi) (ordered_from (t.hi + 1) ts) o

    inner : (leb low t.lo ≡ true) × (leb t.lo t.hi ≡ true)
    inner = and_parts (leb low t.lo) (leb t.lo t.hi) outer.0

    go :
        HasRange (ranges_of (t ∷ ts)) lo hi next
        → (ordered_from (t.hi + 1) ts ≡ true → HasRange (ranges_of ts) lo hi next → t.hi + 1 ≤ lo)
        → low ≤ lo
    go (zero, e) ih =
        let a = leb-true low t.lo inner.0 in let b : t.lo ≡ lo = ap (λ (r : Range). r.lo) (some_inj e) in
        omega (arith, a, b)
    go (suc k, e) ih =
        let a = leb-true low t.lo inner.0 in
        let b = leb-true t.lo t.hi inner.1 in
        let c = ih outer.1 (k, e) in
        omega (arith, a, b, c)

sparse_apart :
    (low : ℕ) (ts : List Transition) → ordered_from low ts ≡ true → IsApartAt (Read (ranges_of ts))
sparse_apart low [] o lo hi next u h w = absurd (none_some h.1)
sparse_apart low (t ∷ ts) o lo hi next u (zero, e) w =
    let r = some_inj e in
    one_takes t.lo t.hi t.next lo hi next u (takes_in (ranges_of ts) u) (ap (λ (v : Range). v.lo) r)
    (ap (λ (v : Range). v.hi) r) (ap (λ (v : Range). v.next) r) w
sparse_apart low (t ∷ ts) o lo hi next u (suc k, e) w =
    let later = (and_parts (leb low t.lo && leb t.lo t.hi) (ordered_from (t.hi + 1) ts) o).1 in
    let a = range_above (t.hi + 1) ts lo hi next later (k, e) in
    let b = within_least lo hi u w in
    ap (λ v. cond v (Some t.next) (takes_in (ranges_of ts) u)) (within_past t.lo t.hi u (omega (arith, a, b)))
    ∙ sparse_apart (t.hi + 1) ts later lo hi next u (k, e) w

byte_apart : (l h r : ℕ) → IsApartAt (Read (record { lo = l; hi = h; next = r } ∷ []))
byte_apart l h r lo hi next u (zero, e) w =
    let k = some_inj e in
    one_takes l h r lo hi next u None (ap (λ (v : Range). v.lo) k) (ap (λ (v : Range). v.hi) k)
    (ap (λ (v : Range). v.next) k) w
byte_apart l h r lo hi next u (suc k, e) w = absurd (none_some e)

state_apart : (s : State) → state_ordered s ≡ true → IsApartAt (ranged s)
state_apart (is.ByteRange lo hi next) o = byte_apart lo hi next
state_apart (is.Sparse ts) o = sparse_apart 0 ts.items o
state_apart (is.Dense targets) o =
    sparse_apart 0 (runs_from 0 0 targets.value) (runs_ordered targets.value 0 0 0 (omega arith) (omega arith))
state_apart (is.Look look next) o = tt
state_apart (is.Union alternates) o = tt
state_apart (is.BinaryUnion alt1 alt2) o = tt
state_apart (is.Capture next pattern index slot) o = tt
state_apart is.Fail o = tt
state_apart (is.Match pattern) o = tt

node_apart :
    (states : List State) (q : ℕ) → states_ordered states ≡ true
    → IsApartAt (node_or_fail (slice_get (ranged_nodes states) q))
node_apart [] q o = tt
node_apart (x ∷ xs) zero o = state_apart x (and_parts (state_ordered x) (states_ordered xs) o).0
node_apart (x ∷ xs) (suc q) o = node_apart xs q (and_parts (state_ordered x) (states_ordered xs) o).1

pub checked_apart : (a : Automaton) → states_ordered a.states ≡ true → IsApart (ranged_nfa a)
checked_apart a o = record {
  apart = λ q ranges lo hi next u e h w.
      let k : IsApartAt (Read ranges) = subst IsApartAt e (node_apart a.states q o) in k lo hi next u h w;
}

-- A look holds on one tape of a span exactly if its reverse holds on the other.
truth_turns :
    (n m : Nfa) (look : Look) (p p' q q' : Option ℕ) → m.terminator ≡ n.terminator → m.reverse ≡ not n.reverse
    → p' ≡ q → q' ≡ p
    → holds m.terminator m.reverse (flip look) p' q' ≡ holds n.terminator n.reverse look p q
truth_turns n m look p p' q q' t r a b =
    ap (λ v. holds v m.reverse (flip look) p' q') t
    ∙ (ap (λ v. holds n.terminator v (flip look) p' q') r
    ∙ (ap (λ v. holds n.terminator (not n.reverse) (flip look) v q') a
    ∙ (ap (λ v. holds n.terminator (not n.reverse) (flip look) q v) b ∙ flip_holds n.terminator n.reverse look p q)))

tapes_turn :
    (n m : Nfa) (h : List ℕ) (i j : ℕ) → m.terminator ≡ n.terminator → m.reverse ≡ not n.reverse → i ≤ j
    → j ≤ length h
    → IsTurn (truth n (forward_tape h i j)) (truth m (reverse_tape h i j)) (slice_get (forward_tape h i j).bytes)
    (slice_get (reverse_tape h i j).bytes) (j - i)
tapes_turn n m h i j t r l w = record {
  looks = λ a b look e.
      truth_turns n m look (prev (forward_tape h i j) a) (prev (reverse_tape h i j) b) (next (forward_tape h i j) a)
      (next (reverse_tape h i j) b) t r
      (reverse_prev h i j b (i + a) (omega (arith, e, l)) (omega arith) w
      ∙ sym (forward_next h i j a (omega (arith, e, l)) w))
      (reverse_next h i j b (i + a) (omega (arith, e, l)) (omega arith) w
      ∙ sym (forward_prev h i j a (omega (arith, e, l))));
  bytes = λ a b e.
      reverse_byte h i j b (i + a) (omega (arith, e, l)) (omega arith) w
      ∙ sym (forward_byte h i j a (omega (arith, e, l)));
}

still_turns : IsTurn always always no_bytes no_bytes 0
still_turns = record { looks = λ a b look e. refl; bytes = λ a b e. refl }

-- Accepting ways of `a` from its first state, and of `b` from a state.
module _ (a b : Automaton) (checked : IsChecked a) (reversed : IsReversed a b) (A B : ℕ → Truth) (bytes back : Bytes)
    (J : ℕ)
    (turn : IsTurn A B bytes back J) where
  abbrev ForthOf : ℕ → Type 0
  ForthOf p = (q : ℕ) × HasWay (nfa_of a) A bytes 0 a.start_anchored J q × (accepts (nfa_of a) q ≡ Some p)

  abbrev BackOf : ℕ → ℕ → Type 0
  BackOf x p = (z : ℕ) × HasWay (nfa_of b) B back 0 x J z × (accepts (nfa_of b) z ≡ Some p)

  there :
      (p : ℕ) → ForthOf p → (q : ℕ) × HasWay (ranged_nfa a) A bytes 0 a.start_anchored J q
      × (accepts (ranged_nfa a) q ≡ Some p)
  there p w = (w.0, (w.1.0, way_ranged a A bytes 0 a.start_anchored w.1.0 J w.0 w.1.1), accepts_ranged a w.0 ∙ w.2)

  here :
      (p : ℕ) → (q : ℕ) × HasWay (ranged_nfa a) A bytes 0 a.start_anchored J q × (accepts (ranged_nfa a) q ≡ Some p)
      → ForthOf p
  here p w = (w.0, (w.1.0, ranged_way a A bytes 0 a.start_anchored w.1.0 J w.0 w.1.1), sym (accepts_ranged a w.0) ∙ w.2)

  back_entry_of : (p entry : ℕ) → slice_get b.start_pattern p ≡ Some entry → ForthOf p → BackOf entry p
  back_entry_of p entry e w =
      back_entry (ranged_nfa a) (nfa_of b) a.start_anchored b.start_anchored b.start_pattern A B bytes back J
      (checked_apart a checked.ordered) reversed.mirror turn p entry e (there p w)

  back_root_of : (p entry : ℕ) → slice_get b.start_pattern p ≡ Some entry → ForthOf p → BackOf b.start_anchored p
  back_root_of p entry e w =
      back_root (ranged_nfa a) (nfa_of b) a.start_anchored b.start_anchored b.start_pattern A B bytes back J
      (checked_apart a checked.ordered) reversed.mirror turn p entry e (there p w)

  forth_part_of :
      (path : List ℕ) (k entry p z : ℕ) → slice_get b.start_pattern k ≡ Some entry
      → IsWay (nfa_of b) B back 0 entry path J z
      → accepts (nfa_of b) z ≡ Some p → (p ≡ k) × ForthOf p
  forth_part_of path k entry p z e w m =
      let f =
      forth_part (ranged_nfa a) (nfa_of b) a.start_anchored b.start_anchored b.start_pattern A B bytes back J
      (checked_apart a checked.ordered) reversed.mirror turn path k entry p z e w m in
      (f.0, here p f.1)

  forth_entry_of :
      (path : List ℕ) (entry p z : ℕ) → In entry b.start_pattern → IsWay (nfa_of b) B back 0 entry path J z
      → accepts (nfa_of b) z ≡ Some p → ForthOf p
  forth_entry_of path entry p z i w m =
      here p
      (forth_entry (ranged_nfa a) (nfa_of b) a.start_anchored b.start_anchored b.start_pattern A B bytes back J
      (checked_apart a checked.ordered) reversed.mirror turn path entry p z i w m)

  forth_root_of :
      (path : List ℕ) (p z : ℕ) → IsWay (nfa_of b) B back 0 b.start_anchored path J z → accepts (nfa_of b) z ≡ Some p
      → ForthOf p
  forth_root_of path p z w m =
      here p
      (forth_root (ranged_nfa a) (nfa_of b) a.start_anchored b.start_anchored b.start_pattern A B bytes back J
      (checked_apart a checked.ordered) reversed.mirror turn path p z w m)

module _ (a b : Automaton) (kind : MatchKind) (checked : IsChecked a) (reversed : IsReversed a b) where
  -- Each pattern has an entry.
  entry : (q p : ℕ) → accepts (nfa_of a) q ≡ Some p → (e : ℕ) × (slice_get b.start_pattern p ≡ Some e)
  entry q p e = nth_some b.start_pattern p (omega (arith, checked.patterns q p e, reversed.patterns))

  -- A span of a haystack.
  module _ (h : List ℕ) (i j p : ℕ) (l : i ≤ j) (w : j ≤ length h) where
    turn :
        IsTurn (truth (nfa_of a) (forward_tape h i j)) (truth (nfa_of b) (reverse_tape h i j))
        (slice_get (forward_tape h i j).bytes)
        (slice_get (reverse_tape h i j).bytes) (j - i)
    turn = tapes_turn (nfa_of a) (nfa_of b) h i j reversed.mirror.terminator reversed.mirror.reverse l w

    joins_back : Joins Forward (engine_of a kind) h i j p → Joins Backward (engine_of b All) h i j p
    joins_back s = (path.0, (back.0, path.1, back.2))
      where
        back :
            (z : ℕ)
            × HasWay (nfa_of b) (truth (nfa_of b) (reverse_tape h i j)) (slice_get (reverse_tape h i j).bytes) 0
            b.start_anchored (j - i) z
            × (accepts (nfa_of b) z ≡ Some p)
        back =
            back_root_of a b checked reversed
            (truth (nfa_of a) (forward_tape h i j)) (truth (nfa_of b) (reverse_tape h i j))
            (slice_get (forward_tape h i j).bytes) (slice_get (reverse_tape h i j).bytes) (j - i)
            turn p (entry s.1.0 p s.1.2).0 (entry s.1.0 p s.1.2).1 (
              s.1.0,
              (s.0, path_way (nfa_of a) (forward_tape h i j) 0 [] a.start_anchored s.0 (j - i) s.1.0 s.1.1),
              s.1.2,
            )

        path : HasPath (nfa_of b) (reverse_tape h i j) 0 b.start_anchored (j - i) back.0
        path = way_path (nfa_of b) (reverse_tape h i j) 0 b.start_anchored back.1.0 (j - i) back.0 back.1.1

    joins_forth : Joins Backward (engine_of b All) h i j p → Joins Forward (engine_of a kind) h i j p
    joins_forth s = (path.0, (forth.0, path.1, forth.2))
      where
        forth :
            (q : ℕ)
            × HasWay (nfa_of a) (truth (nfa_of a) (forward_tape h i j)) (slice_get (forward_tape h i j).bytes) 0
            a.start_anchored (j - i) q
            × (accepts (nfa_of a) q ≡ Some p)
        forth =
            forth_root_of a b checked reversed
            (truth (nfa_of a) (forward_tape h i j)) (truth (nfa_of b) (reverse_tape h i j))
            (slice_get (forward_tape h i j).bytes) (slice_get (reverse_tape h i j).bytes) (j - i)
            turn s.0 p s.1.0
            (path_way (nfa_of b) (reverse_tape h i j) 0 [] b.start_anchored s.0 (j - i) s.1.0 s.1.1) s.1.2

        path : HasPath (nfa_of a) (forward_tape h i j) 0 a.start_anchored (j - i) forth.0
        path = way_path (nfa_of a) (forward_tape h i j) 0 a.start_anchored forth.1.0 (j - i) forth.0 forth.1.1

  empty_back : MatchesEmpty (nfa_of a) (a.start_anchored ∷ []) → MatchesEmpty (nfa_of b) b.start_pattern
  empty_back e = (
    k.0,
    back.0,
    e.2,
    nth_in b.start_pattern e.2 k.0 k.1,
    (back.1.0, way_run (nfa_of b) 0 k.0 back.1.0 0 back.0 back.1.1),
    back.2,
  )
    where
      k : (k : ℕ) × (slice_get b.start_pattern e.2 ≡ Some k)
      k = entry e.1 e.2 e.5

      start : (start : ℕ) → In start (a.start_anchored ∷ []) → start ≡ a.start_anchored
      start s (inl d) = d
      start s (inr k) = absurd k

      back : (z : ℕ) × HasWay (nfa_of b) always no_bytes 0 k.0 0 z × (accepts (nfa_of b) z ≡ Some e.2)
      back =
          back_entry_of a b checked reversed
          always always no_bytes no_bytes 0 still_turns e.2 k.0 k.1 (
            e.1,
            (
              e.4.0,
              subst (λ v. IsWay (nfa_of a) always no_bytes 0 v e.4.0 0 e.1) (start e.0 e.3)
                  (run_way (nfa_of a) e.0 e.4.0 e.1 e.4.1),
            ),
            e.5,
          )

  empty_forth : MatchesEmpty (nfa_of b) b.start_pattern → MatchesEmpty (nfa_of a) (a.start_anchored ∷ [])
  empty_forth e = (
    a.start_anchored,
    forth.0,
    e.2,
    inl refl,
    (forth.1.0, way_run (nfa_of a) 0 a.start_anchored forth.1.0 0 forth.0 forth.1.1),
    forth.2,
  )
    where
      forth :
          (q : ℕ) × HasWay (nfa_of a) always no_bytes 0 a.start_anchored 0 q × (accepts (nfa_of a) q ≡ Some e.2)
      forth =
          forth_entry_of a b checked reversed
          always always no_bytes no_bytes 0 still_turns e.4.0 e.0 e.2 e.1 e.3
          (run_way (nfa_of b) e.0 e.4.0 e.1 e.4.1) e.5

pub mirror_true :
    (a b : Automaton) (kind : MatchKind) → IsChecked a → IsReversed a b → BeginsAlike a → SkipsLazily a
    → IsTruePair (engine_of a kind) (engine_of b All)
mirror_true a b kind checked reversed alike lazy = record {
  all = refl;
  utf8 = sym reversed.utf8;
  empty = (
    (λ e. empty_back a b kind checked reversed (alike.0 e)),
    λ e. alike.1 (empty_forth a b kind checked reversed e),
  );
  joins = λ h i j p bytes l w. (
    joins_back a b kind checked reversed h i j p l w,
    joins_forth a b kind checked reversed h i j p l w,
  );
  begins = lazy;
}

-- A pattern's start.
module _ (a b : Automaton) (checked : IsChecked a) (reversed : IsReversed a b) (k entry : ℕ)
    (at : slice_get b.start_pattern k ≡ Some entry)
    (h : List ℕ) (i j pattern : ℕ) (l : i ≤ j) (w : j ≤ length h) where
  pattern_turn :
      IsTurn (truth (nfa_of a) (forward_tape h i j)) (truth (nfa_of b) (reverse_tape h i j))
      (slice_get (forward_tape h i j).bytes)
      (slice_get (reverse_tape h i j).bytes) (j - i)
  pattern_turn = tapes_turn (nfa_of a) (nfa_of b) h i j reversed.mirror.terminator reversed.mirror.reverse l w

  pattern_forth :
      ((path : List ℕ) × Accepts (nfa_of b) (reverse_tape h i j) entry (j - i) pattern path)
      → (pattern ≡ k)
      × ((path : List ℕ) × Accepts (nfa_of a) (forward_tape h i j) a.start_anchored (j - i) pattern path)
  pattern_forth s = (forth.0, (path.0, (forth.1.0, path.1, forth.1.2)))
    where
      forth :
          (pattern ≡ k)
          × ((q : ℕ)
          × HasWay (nfa_of a) (truth (nfa_of a) (forward_tape h i j)) (slice_get (forward_tape h i j).bytes) 0
          a.start_anchored (j - i) q
          × (accepts (nfa_of a) q ≡ Some pattern))
      forth =
          forth_part_of a b checked reversed
          (truth (nfa_of a) (forward_tape h i j)) (truth (nfa_of b) (reverse_tape h i j))
          (slice_get (forward_tape h i j).bytes) (slice_get (reverse_tape h i j).bytes) (j - i)
          pattern_turn s.0 k entry pattern s.1.0 at
          (path_way (nfa_of b) (reverse_tape h i j) 0 [] entry s.0 (j - i) s.1.0 s.1.1) s.1.2

      path : HasPath (nfa_of a) (forward_tape h i j) 0 a.start_anchored (j - i) forth.1.0
      path = way_path (nfa_of a) (forward_tape h i j) 0 a.start_anchored forth.1.1.0 (j - i) forth.1.0 forth.1.1.1

  pattern_back :
      (pattern ≡ k) × ((path : List ℕ) × Accepts (nfa_of a) (forward_tape h i j) a.start_anchored (j - i) pattern path)
      → (path : List ℕ) × Accepts (nfa_of b) (reverse_tape h i j) entry (j - i) pattern path
  pattern_back s = (path.0, (back.0, path.1, back.2))
    where
      back :
          (z : ℕ)
          × HasWay (nfa_of b) (truth (nfa_of b) (reverse_tape h i j)) (slice_get (reverse_tape h i j).bytes) 0 entry
          (j - i) z
          × (accepts (nfa_of b) z ≡ Some pattern)
      back =
          back_entry_of a b checked reversed
          (truth (nfa_of a) (forward_tape h i j)) (truth (nfa_of b) (reverse_tape h i j))
          (slice_get (forward_tape h i j).bytes) (slice_get (reverse_tape h i j).bytes) (j - i)
          pattern_turn pattern entry (ap (λ v. slice_get b.start_pattern v) s.0 ∙ at) (
            s.1.1.0,
            (s.1.0, path_way (nfa_of a) (forward_tape h i j) 0 [] a.start_anchored s.1.0 (j - i) s.1.1.0 s.1.1.1),
            s.1.1.2,
          )

      path : HasPath (nfa_of b) (reverse_tape h i j) 0 entry (j - i) back.0
      path = way_path (nfa_of b) (reverse_tape h i j) 0 entry back.1.0 (j - i) back.0 back.1.1

pub mirror_patterns : (a b : Automaton) → IsChecked a → IsReversed a b → IsReversedByPattern a b
mirror_patterns a b checked reversed k entry at h i j pattern l w = (
  pattern_forth a b checked reversed k entry at h i j pattern l w,
  pattern_back a b checked reversed k entry at h i j
      pattern l w,
)
