-- For every automaton, a walk under `MatchKind::All` reports the pairs of all accepting paths.
use Rattle.std.proofs.Common.{ℕ, zero, suc, ◌≡◌, ◌<◌, ◌≤◌, ◌⊎◌, ◌↔◌, inl, inr, Bool, true, false, cond, List, [], ◌∷◌}
use Rattle.std.proofs.Common.{◌++◌, length, Some, refl, sym, ap, ◌∙◌, subst, arith, true≢false, eq-or-lt_of_le}
use Rattle.std.proofs.Common.{le_of_suc-le-suc}
use Rattle.automata_base.specs.Answers.Answers.{IsInput, KeepsSplit, SkipsSplit, WalksNoSpan, WalksSpan, offset_in}
use Rattle.automata_base.specs.Answers.Answers.{with_offsets, without_split}
use Rattle.automata_base.specs.declared.util.search.MatchKind.{MatchKind}
use Rattle.automata_base.specs.declared.util.search.MatchKind.TheVariants.{All}
use Rattle.automata_base.specs.Nfas.Accepted.{IsChecked}
use Rattle.automata_base.specs.declared.util.search.Anchored.{Anchored}
use Rattle.automata_base.specs.Nfas.Engines.{IsSkipping, engine_of}
use Rattle.automata_base.specs.Haystacks.Input.{Input}
use Rattle.automata_base.specs.Lists.{In, IsSet}
use Rattle.automata_base.specs.Nfas.Nodes.{Automaton, nfa_of}
use Rattle.automata_base.specs.Paths.Paths.{Tape}
use Rattle.automata_base.specs.Paths.Selections.{Accepts, Pair, at_place}
use Rattle.automata_base.specs.Paths.Starts.{mode_start}
use Rattle.automata_base.specs.declared.util.search.Direction.{Direction}
use Rattle.automata_base.specs.Haystacks.Tapes.{is_split, tape_of}
use Rattle.automata_determinize.specs.Retraced.Passes.{pairs_reported, reported_at}
use Rattle.automata_determinize.specs.Laws.Walks.{AllPairsAreReported, AreReported, InPairs}
use Rattle.automata_base.specs.Laws.Walks.{IsAccepted}
use Rattle.automata_determinize.proofs.Powersets.PassReports.{reported_is}
use Rattle.automata_base.proofs.Powersets.ReportsAreRight.{start_below}
use Rattle.automata_determinize.proofs.Paths.Finals.{set_right}
use Rattle.automata_determinize.proofs.Answers.Total.{tape_units}

in_left : (pair : Pair) (xs ys : List Pair) → InPairs pair xs → InPairs pair (xs ++ ys)
in_left pair [] ys h = absurd h
in_left pair (x ∷ xs) ys (inl e) = inl e
in_left pair (x ∷ xs) ys (inr h) = inr (in_left pair xs ys h)

in_right : (pair : Pair) (xs ys : List Pair) → InPairs pair ys → InPairs pair (xs ++ ys)
in_right pair [] ys h = h
in_right pair (x ∷ xs) ys h = inr (in_right pair xs ys h)

in_either : (pair : Pair) (xs ys : List Pair) → InPairs pair (xs ++ ys) → InPairs pair xs ⊎ InPairs pair ys
in_either pair [] ys h = inr h
in_either pair (x ∷ xs) ys (inl e) = inl (inl e)
in_either pair (x ∷ xs) ys (inr h) = go (in_either pair xs ys h) where
  go : InPairs pair xs ⊎ InPairs pair ys → ((pair ≡ x) ⊎ InPairs pair xs) ⊎ InPairs pair ys
  go (inl k) = inl (inr k)
  go (inr k) = inr k

-- The pairs of a position.
place_in : (i : ℕ) (ps : List ℕ) (p : ℕ) → In p ps → InPairs (record { pattern = p; place = i }) (at_place i ps)
place_in i [] p h = absurd h
place_in i (q ∷ ps) p (inl e) = inl (λ j. record { pattern = e j; place = i })
place_in i (q ∷ ps) p (inr h) = inr (place_in i ps p h)

in_place : (i : ℕ) (ps : List ℕ) (pair : Pair) → InPairs pair (at_place i ps) → In pair.pattern ps × (pair.place ≡ i)
in_place i [] pair h = absurd h
in_place i (q ∷ ps) pair (inl e) = (inl (ap (λ (x : Pair). x.pattern) e), ap (λ (x : Pair). x.place) e)
in_place i (q ∷ ps) pair (inr h) = let k = in_place i ps pair h in (inr k.0, k.1)

-- The pair with its position as an offset.
abbrev offset_pair : Direction → Input → Pair → Pair
offset_pair way input pair = record pair { place = offset_in way input pair.place }

offsets_in :
    (way : Direction) (input : Input) (raw : Pair) (ps : List Pair) → InPairs raw ps
    → InPairs (offset_pair way input raw) (with_offsets way input ps)
offsets_in way input raw [] h = absurd h
offsets_in way input raw (x ∷ xs) (inl e) = inl (ap (offset_pair way input) e)
offsets_in way input raw (x ∷ xs) (inr h) = inr (offsets_in way input raw xs h)

pub record Raw (way : Direction) (input : Input) (pair : Pair) (ps : List Pair) : Type 0 where
  pub raw : Pair
  pub inside : InPairs raw ps
  pub pattern : pair.pattern ≡ raw.pattern
  pub place : pair.place ≡ offset_in way input raw.place

pub in_offsets :
    (way : Direction) (input : Input) (pair : Pair) (ps : List Pair) → InPairs pair (with_offsets way input ps)
    → Raw way input pair ps
in_offsets way input pair [] h = absurd h
in_offsets way input pair (x ∷ xs) (inl e) =
    record {
      raw = x;
      inside = inl refl;
      pattern = ap (λ (y : Pair). y.pattern) e;
      place = ap (λ (y : Pair). y.place) e;
    }
in_offsets way input pair (x ∷ xs) (inr h) =
    let r = in_offsets way input pair xs h in
    record { raw = r.raw; inside = inr r.inside; pattern = r.pattern; place = r.place }

-- Removing the pairs inside a character keeps the others.
unsplit_in :
    (h : List ℕ) (pair : Pair) (ps : List Pair) → InPairs pair ps → is_split h pair.place ≡ false
    → InPairs pair (without_split h ps)
unsplit_in h pair [] i e = absurd i
unsplit_in h pair (x ∷ xs) i e = go (is_split h x.place) refl i (λ k. unsplit_in h pair xs k e) where
  go :
      (b : Bool) → is_split h x.place ≡ b → (pair ≡ x) ⊎ InPairs pair xs
      → (InPairs pair xs → InPairs pair (without_split h xs))
      → InPairs pair (cond b (without_split h xs) (x ∷ without_split h xs))
  go true s (inl same) again = absurd (true≢false (sym s ∙ (ap (λ (y : Pair). is_split h y.place) (sym same) ∙ e)))
  go true s (inr k) again = again k
  go false s (inl same) again = inl same
  go false s (inr k) again = inr (again k)

pub in_unsplit :
    (h : List ℕ) (pair : Pair) (ps : List Pair) → InPairs pair (without_split h ps) → InPairs pair ps
    × (is_split h pair.place ≡ false)
in_unsplit h pair [] i = absurd i
in_unsplit h pair (x ∷ xs) i = go (is_split h x.place) refl i (λ k. in_unsplit h pair xs k) where
  go :
      (b : Bool) → is_split h x.place ≡ b → InPairs pair (cond b (without_split h xs) (x ∷ without_split h xs))
      → (InPairs pair (without_split h xs) → InPairs pair xs × (is_split h pair.place ≡ false))
      → ((pair ≡ x) ⊎ InPairs pair xs) × (is_split h pair.place ≡ false)
  go true s k again = (inr (again k).0, (again k).1)
  go false s (inl same) again = (inl same, ap (λ (y : Pair). is_split h y.place) same ∙ s)
  go false s (inr k) again = (inr (again k).0, (again k).1)

-- The pairs that the first `k` units report.
reported_in :
    (a : Automaton) (kind : MatchKind) (mode : Anchored) (t : Tape) (k i p : ℕ)
    → i < k → In p (reported_at a kind mode t i)
    → InPairs (record { pattern = p; place = i }) (pairs_reported a kind mode t k)
unfolding pairs_reported
reported_in a kind mode t zero i p l h = absurd (omega (arith, l))
reported_in a kind mode t (suc k) i p l h =
    go (λ less. reported_in a kind mode t k i p less h) (eq-or-lt_of_le (le_of_suc-le-suc l)) where
      go :
          (i < k → InPairs (record { pattern = p; place = i }) (pairs_reported a kind mode t k)) → (i ≡ k) ⊎ (i < k)
          → InPairs (record { pattern = p; place = i })
          (pairs_reported a kind mode t k ++ at_place k (reported_at a kind mode t k))
      go again (inl e) =
          in_right _ (pairs_reported a kind mode t k) (at_place k (reported_at a kind mode t k))
          (subst (λ n. InPairs (record { pattern = p; place = i }) (at_place n (reported_at a kind mode t n))) e
          (place_in i (reported_at a kind mode t i) p h))
      go again (inr less) =
          in_left _ (pairs_reported a kind mode t k) (at_place k (reported_at a kind mode t k)) (again less)

pub in_reported :
    (a : Automaton) (kind : MatchKind) (mode : Anchored) (t : Tape) (k : ℕ) (pair : Pair)
    → InPairs pair (pairs_reported a kind mode t k) → (pair.place < k)
    × In pair.pattern (reported_at a kind mode t pair.place)
unfolding pairs_reported
in_reported a kind mode t zero pair h = absurd h
in_reported a kind mode t (suc k) pair h =
    go (λ i. in_reported a kind mode t k pair i)
    (in_either pair (pairs_reported a kind mode t k) (at_place k (reported_at a kind mode t k)) h)
  where
    go :
        (InPairs pair (pairs_reported a kind mode t k) → (pair.place < k)
        × In pair.pattern (reported_at a kind mode t pair.place))
        → InPairs pair (pairs_reported a kind mode t k) ⊎ InPairs pair (at_place k (reported_at a kind mode t k))
        → (pair.place < suc k) × In pair.pattern (reported_at a kind mode t pair.place)
    go again (inl i) = let r = again i in (omega (arith, r.0), r.1)
    go again (inr i) =
        let r = in_place k (reported_at a kind mode t k) pair i in
        (omega (arith, r.1), subst (λ n. In pair.pattern (reported_at a kind mode t n)) (sym r.1) r.0)

module _ (a : Automaton) (checked : IsChecked a) (way : Direction) (input : Input) (start : ℕ) (i : IsInput input)
    (l : input.start ≤ input.end)
    (begins : mode_start a input.anchored ≡ Some start) where
  abbrev tape : Tape
  tape = tape_of way input.haystack input.start input.end

  abbrev all : List Pair
  all = pairs_reported a All input.anchored tape (suc (length tape.bytes))

  reported_set :
      (j : ℕ) → j ≤ length tape.bytes
      → IsSet (λ p. (path : List ℕ) × Accepts (nfa_of a) tape start j p path) (reported_at a All input.anchored tape j)
  reported_set j b =
      subst (IsSet (λ p. (path : List ℕ) × Accepts (nfa_of a) tape start j p path))
      (sym (reported_is a All input.anchored tape start j begins))
      (set_right (nfa_of a) tape start j checked.range (start_below a input.anchored start checked begins)
      (tape_units way input.haystack input.start input.end i.0 l i.1) b)

  abbrev Reached : Pair → Type 0
  Reached pair =
      (place : ℕ) × (path : List ℕ) × (place ≤ length tape.bytes)
      × Accepts (nfa_of a) tape start place pair.pattern path
      × (pair.place ≡ offset_in way input place)

  offsets_reached : (pair : Pair) → InPairs pair (with_offsets way input all) → Reached pair
  offsets_reached pair h =
      let r : Raw way input pair all = in_offsets way input pair all h in
      let t = in_reported a All input.anchored tape (suc (length tape.bytes)) r.raw r.inside in
      let b : r.raw.place ≤ length tape.bytes = le_of_suc-le-suc t.0 in
      let s = (reported_set r.raw.place b).0 r.raw.pattern t.1 in
      (r.raw.place, s.0, b, subst (λ p. Accepts (nfa_of a) tape start r.raw.place p s.0) (sym r.pattern) s.1, r.place)

  reached_offsets : (pair : Pair) → Reached pair → InPairs pair (with_offsets way input all)
  reached_offsets pair (place, path, b, accepts, e) =
      let reported = (reported_set place b).1 pair.pattern (path, accepts) in
      let raw =
      reported_in a All input.anchored tape (suc (length tape.bytes)) place pair.pattern (omega (arith, b)) reported in
      let same : pair ≡ record { pattern = pair.pattern; place = offset_in way input place } =
      (λ j. record { pattern = pair.pattern; place = e j }) in
      subst (λ (x : Pair). InPairs x (with_offsets way input all)) (sym same)
      (offsets_in way input (record { pattern = pair.pattern; place = place }) all raw)

  accepted :
      (pair : Pair) → Reached pair → (IsSkipping (engine_of a All) → is_split input.haystack pair.place ≡ false)
      → IsAccepted way a input start pair
  accepted pair r free = record {
    place = r.0;
    path = r.1;
    inside = r.2;
    accepted = r.3;
    offset = r.4;
    whole = free;
  }

  reached : (pair : Pair) → IsAccepted way a input start pair → Reached pair
  reached pair r = (r.place, r.path, r.inside, r.accepted, r.offset)

  pub pairs_accepted :
      (found : List Pair) → AreReported way a All input found → (pair : Pair)
      → InPairs pair found ↔ IsAccepted way a input start pair
  pairs_accepted found (WalksNoSpan done e) pair = absurd (omega (arith, l, done))
  pairs_accepted found (WalksSpan undone pairs reported (SkipsSplit s e)) pair =
      let same : found ≡ without_split input.haystack (with_offsets way input all) =
      e ∙ ap (λ (ps : List Pair). without_split input.haystack (with_offsets way input ps)) reported in (
        λ h. (
            let k = in_unsplit input.haystack pair (with_offsets way input all) (subst (InPairs pair) same h) in
            accepted pair (offsets_reached pair k.0) (λ skips. k.1)),
        λ h. subst (InPairs pair) (sym same)
            (unsplit_in input.haystack pair (with_offsets way input all) (reached_offsets pair (reached pair h))
            (h.whole s)),
      )
  pairs_accepted found (WalksSpan undone pairs reported (KeepsSplit n e)) pair =
      let same : found ≡ with_offsets way input all = e ∙ ap (with_offsets way input) reported in (
        λ h. accepted pair (offsets_reached pair (subst (InPairs pair) same h)) (λ skips. absurd (n skips)),
        λ h. subst (InPairs pair) (sym same) (reached_offsets pair (reached pair h)),
      )

pub all_pairs : (a : Automaton) → IsChecked a → AllPairsAreReported a
all_pairs a d way input found start i l begins reported pair =
    pairs_accepted a d way input start i l begins found reported pair
