-- Merging unions does not change the answers of an NFA.
use Rattle.std.proofs.Common.{ℕ, ◌≡◌, ◌<◌, ◌-◌, List, [], ◌∷◌, ◌++◌, ◌↔◌, length, Some, inl, inr, refl, sym, ap, ap₂}
use Rattle.std.proofs.Common.{◌∙◌, subst}
use Rattle.std.specs.Prelude.{None, Option, option_map, slice_get}
use Rattle.automata_transform.specs.Answers.Alike.{AnswerAlike}
use Rattle.automata_base.specs.Answers.Spans.{IsPathStart}
use Rattle.automata_base.specs.Answers.TruePairs.{IsTruePair, Joins, KeepsUtf8}
use Rattle.automata_base.specs.declared.util.search.Direction.TheVariants.{Backward}
use Rattle.automata_base.specs.declared.util.search.Direction.{Direction}
use Rattle.automata_base.specs.Haystacks.Tapes.{IsHaystack, tape_of}
use Rattle.automata_transform.specs.Laws.MergedUnions.{MergedAcceptAlike, MergedAnswerAlike, MergedBeginAlike}
use Rattle.automata_transform.specs.Laws.MergedUnions.{MergedKeepUtf8, MergedPairsAlike, MergedReadUtf8}
use Rattle.automata_transform.specs.Laws.MergedUnions.{MergedStayAcyclic}
use Rattle.automata_transform.specs.Laws.MergedUnions.{MergedStayPaired}
use Rattle.automata_base.specs.Haystacks.Input.{Input}
use Rattle.automata_base.specs.Laws.Walks.{IsAccepted}
use Rattle.automata_base.specs.Lists.{In}
use Rattle.automata_base.specs.Nfas.Accepted.{IsChecked, IsInRange}
use Rattle.automata_base.specs.declared.util.search.Anchored.{Anchored}
use Rattle.automata_base.specs.Nfas.Engines.{Engine, HasEmptyMatch, IsSkipping}
use Rattle.automata_base.specs.declared.util.search.Anchored.TheVariants.{No, Yes, Pattern}
use Rattle.automata_base.specs.Nfas.Engines.{MatchesEmpty, engine_of, first_state}
use Rattle.automata_transform.specs.Nfas.MergedNfas.{IsMergedNfa}
use Rattle.automata_transform.specs.Nfas.Mirrors.{BeginsAlike}
use Rattle.automata_base.specs.Nfas.Utf8.{ReadsUtf8}
use Rattle.automata_transform.specs.Nfas.Merges.{IsMerged}
use Rattle.automata_base.specs.Nfas.Nfa.{Nfa}
use Rattle.automata_base.specs.Nfas.Nodes.{Automaton, nfa_of}
use Rattle.automata_base.specs.Paths.Order.{Begins}
use Rattle.automata_base.specs.Paths.Paths.{Tape, IsPath}
use Rattle.automata_base.specs.Paths.Selections.{Accepts, Pair}
use Rattle.automata_base.specs.declared.util.search.MatchKind.TheVariants.{All}
use Rattle.automata_base.specs.declared.util.search.MatchKind.{MatchKind}
use Rattle.automata_transform.proofs.Answers.Carried.{IsCarried, both_alike, tape_bytes}
use Rattle.automata_transform.proofs.Nfas.Merges.Back.{path_back}
use Rattle.automata_transform.proofs.Nfas.Merges.Comparing.{Compares, IsBeginning, IsPrefix, before_from, before_to}
use Rattle.automata_transform.proofs.Nfas.Merges.Comparing.{begins_from}
use Rattle.automata_transform.proofs.Nfas.Merges.Comparing.{begins_to, both_ways, equal_from, equal_to, head_from}
use Rattle.automata_transform.proofs.Nfas.Merges.Comparing.{head_to}
use Rattle.automata_transform.proofs.Nfas.Merges.Comparing.{same_head}
use Rattle.automata_transform.proofs.Nfas.Merges.Forth.{path_forth}
use Rattle.automata_transform.proofs.Nfas.Merges.Places.{MayEnd, match_may_end, old_one}
use Rattle.automata_transform.proofs.Nfas.Merges.Readings.{reads_back_old, reads_forth_old}
use Rattle.automata_transform.proofs.Nfas.Merges.Routes.{Corresponds, same_order}
use Rattle.automata_transform.proofs.Nfas.Merges.Runs.{match_forth, match_back, empty_forth, empty_back, acyclic_merged}
use Rattle.automata_base.proofs.Paths.Orders.{some_inj}
use Rattle.automata_base.proofs.Paths.Sets.{in_nth}
use Rattle.automata_base.proofs.Powersets.ReportsAreRight.{start_below}

-- The position at which a path first reaches the state `on`.
abbrev pub IsFirstOn : Nfa → Tape → (start on : ℕ) → List ℕ → ℕ → Type 0
IsFirstOn n t start on path place =
    (head rest : List ℕ) × (path ≡ head ++ rest) × IsPath n t start place on head
    × ((shorter : List ℕ) (sooner : ℕ) → Begins shorter head → IsPath n t start sooner on shorter → ⊥)

-- Corresponding paths first reach the state at the same position.
module _ (n m : Nfa) (t : Tape) (start on : ℕ) (R : List ℕ → List ℕ → Type 0)
    (there : (i : ℕ) (a : List ℕ) → IsPath n t start i on a → (b : List ℕ) × R a b × IsPath m t start i on b)
    (back : (i : ℕ) (b : List ℕ) → IsPath m t start i on b → (a : List ℕ) × R a b × IsPath n t start i on a)
    (heads : (a b c d : List ℕ) → R a b → R c d → IsPrefix a c → IsPrefix b d)
    (beginnings : (a b c d : List ℕ) → R a b → R c d → IsBeginning b d → IsBeginning a c) where
  pub first_on : (a b : List ℕ) (place : ℕ) → R a b → IsFirstOn n t start on a place → IsFirstOn m t start on b place
  first_on a b place r (head, rest, e, path, none) =
      let c = there place head path in
      let s = head_from c.0 b (heads head c.0 a b c.1 r (head_to head rest a e)) in (
        c.0,
        s.0,
        s.1,
        c.2,
        λ shorter sooner begins p.
            let d = back sooner shorter p in
            none d.0 sooner
            (begins_from d.0 head (beginnings d.0 shorter head c.0 d.1 c.1 (begins_to shorter c.0 begins))) d.2,
      )

module _ (n m : Nfa) (anchored : ℕ) (lists : List (List ℕ)) (merged : IsMerged n m anchored lists)
    (ranged : IsInRange n)
    (t : Tape) (bytes : IsHaystack t.bytes) (q : ℕ) (within : q < length n.nodes) where
  -- The second path corresponds to the first one.
  abbrev Goes : List ℕ → List ℕ → Type 0
  Goes path other = Corresponds n m lists t other 0 q 0 path

  goes_forth :
      (i w : ℕ) (path : List ℕ) → MayEnd n anchored w → IsPath n t q i w path
      → (other : List ℕ) × Goes path other × IsPath m t q i w other
  goes_forth i w path ends h =
      (path_forth n m anchored lists t merged ranged bytes path).0 0 q [] [] i w within ends (λ r s e. absurd e)
      (λ r s e. absurd e)
      (λ r l. ((λ e. e), (λ e. e))) h

  goes_back :
      (i w : ℕ) (other : List ℕ) → MayEnd n anchored w → IsPath m t q i w other
      → (path : List ℕ) × Goes path other × IsPath n t q i w path
  goes_back i w other ends h =
      let c =
      path_back n m anchored lists t merged ranged bytes other 0 q [] [] i w ends (λ r s e. absurd e)
      (λ r l. ((λ e. e), (λ e. e))) h in
      let one = old_one (length n.nodes) lists q c.0 c.1 within c.3 in (
        c.2,
        subst (λ v. Corresponds n m lists t other 0 q v c.2) one.0 c.4,
        subst (λ v. IsPath n t v i w c.2) one.1 c.5,
      )

  pub accepts_forth :
      (i p : ℕ) (path : List ℕ) → Accepts n t q i p path → (other : List ℕ) × Goes path other × Accepts m t q i p other
  accepts_forth i p path (w, h, match) =
      let c = goes_forth i w path (match_may_end n anchored w p match) h in
      (c.0, c.1, (w, c.2, match_forth n m anchored lists merged w p match))

  pub accepts_back :
      (i p : ℕ) (other : List ℕ) → Accepts m t q i p other → (path : List ℕ) × Goes path other × Accepts n t q i p path
  accepts_back i p other (w, h, match) =
      let own = match_back n m anchored lists merged w p match in
      let c = goes_back i w other (match_may_end n anchored w p own) h in
      (c.0, c.1, (w, c.2, own))

compared :
    (n m : Nfa) (lists : List (List ℕ)) (t : Tape) (q : ℕ) (E B U : Type 0) (a b c d : List ℕ)
    → Corresponds n m lists t b 0 q 0 a → Corresponds n m lists t d 0 q 0 c → Compares E B U b d ↔ Compares E B U a c
compared n m lists t q E B U a b c d r s =
    both_ways (same_order n m lists t E B U b d 0 q 0 0 a c r s) (same_head E B U 0 0 a c refl)

module _ (a b : Automaton) (kind : MatchKind) (checked : IsChecked a) (into : IsMergedNfa a b) where
  abbrev lists : List (List ℕ)
  lists = into.lists

  abbrev n : Nfa
  n = nfa_of a

  abbrev m : Nfa
  m = nfa_of b

  abbrev d : Engine
  d = engine_of a kind

  abbrev e : Engine
  e = engine_of b kind

  abbrev There : Tape → ℕ → List ℕ → List ℕ → Type 0
  There t q path other = Corresponds n m lists t other 0 q 0 path

  abbrev Back : Tape → ℕ → List ℕ → List ℕ → Type 0
  Back t q other path = There t q path other

  one_start : (mode : Anchored) → first_state d mode ≡ first_state e mode
  one_start No = ap Some (sym into.begins.unanchored)
  one_start Yes = ap Some (sym into.begins.anchored)
  one_start (Pattern k) = ap (λ v. slice_get v k) (sym into.begins.patterns)

  below : (mode : Anchored) (q : ℕ) → first_state d mode ≡ Some q → q < length n.nodes
  below No q is = start_below a No q checked is
  below Yes q is = start_below a Yes q checked is
  below (Pattern k) q is = start_below a (Pattern k) q checked is

  anchored_ends : MayEnd n a.start_anchored a.start_anchored
  anchored_ends = (below Yes a.start_anchored refl, λ r h. refl)

  start_within : (start : ℕ) → In start a.start_pattern → start < length n.nodes
  start_within start i = let k = in_nth a.start_pattern start i in below (Pattern k.0) start k.1

  empty_there : HasEmptyMatch d → HasEmptyMatch e
  empty_there h =
      subst (λ v. MatchesEmpty m v) (sym into.begins.patterns)
      (empty_forth n m a.start_anchored lists into.merged checked.range a.start_pattern start_within h)

  empty_here : HasEmptyMatch e → HasEmptyMatch d
  empty_here h =
      empty_back n m a.start_anchored lists into.merged checked.range a.start_pattern start_within
      (subst (λ v. MatchesEmpty m v) into.begins.patterns h)

  skipping_alike : IsSkipping d ↔ IsSkipping e
  skipping_alike = (
    (λ s. (ap (λ f. f.utf8) into.begins.flags ∙ s.0, empty_there s.1)),
    (λ s. (ap (λ f. f.utf8) (sym into.begins.flags) ∙ s.0, empty_here s.1)),
  )

  begins_there :
      (t : Tape) (mode : Anchored) (q place : ℕ) (p o : List ℕ) → IsHaystack t.bytes → first_state d mode ≡ Some q
      → There t q p o → IsPathStart d mode t p place → IsPathStart e mode t o place
  begins_there t Yes q place p o bytes is r h = h
  begins_there t (Pattern k) q place p o bytes is r h = h
  begins_there t No q place p o bytes is r h =
      subst (λ v. IsFirstOn m t v b.start_anchored o place) (sym into.begins.unanchored)
      (subst (λ v. IsFirstOn m t a.start_unanchored v o place) (sym into.begins.anchored)
      (first_on n m t a.start_unanchored a.start_anchored (There t a.start_unanchored)
      (λ i x h. goes_forth n m a.start_anchored lists into.merged checked.range t bytes a.start_unanchored
      (below No a.start_unanchored refl) i a.start_anchored x anchored_ends h)
      (λ i x h. goes_back n m a.start_anchored lists into.merged checked.range t bytes a.start_unanchored
      (below No a.start_unanchored refl) i a.start_anchored x anchored_ends h)
      (λ w x y z f g. (compared n m lists t a.start_unanchored (Unit {0}) (Unit {0}) ⊥ w x y z f g).1)
      (λ w x y z f g. (compared n m lists t a.start_unanchored ⊥ (Unit {0}) ⊥ w x y z f g).0)
      p o place (subst (λ v. There t v p o) (sym (some_inj is)) r) h))

  begins_back :
      (t : Tape) (mode : Anchored) (q place : ℕ) (o p : List ℕ) → IsHaystack t.bytes → first_state e mode ≡ Some q
      → Back t q o p → IsPathStart e mode t o place → IsPathStart d mode t p place
  begins_back t Yes q place o p bytes is r h = h
  begins_back t (Pattern k) q place o p bytes is r h = h
  begins_back t No q place o p bytes is r h =
      first_on m n t a.start_unanchored a.start_anchored (Back t a.start_unanchored)
      (λ i x h. goes_back n m a.start_anchored lists into.merged checked.range t bytes a.start_unanchored
      (below No a.start_unanchored refl) i a.start_anchored x anchored_ends h)
      (λ i x h. goes_forth n m a.start_anchored lists into.merged checked.range t bytes a.start_unanchored
      (below No a.start_unanchored refl) i a.start_anchored x anchored_ends h)
      (λ w x y z f g. (compared n m lists t a.start_unanchored (Unit {0}) (Unit {0}) ⊥ x w z y f g).0)
      (λ w x y z f g. (compared n m lists t a.start_unanchored ⊥ (Unit {0}) ⊥ x w z y f g).1)
      o p place (subst (λ v. Back t v o p) (sym (some_inj (ap Some (sym into.begins.unanchored) ∙ is))) r)
      (subst (λ v. IsFirstOn m t v a.start_anchored o place) into.begins.unanchored
      (subst (λ v. IsFirstOn m t b.start_unanchored v o place) into.begins.anchored h))

  one_turned : (o p : Option ℕ) → o ≡ p → option_map (λ (q : ℕ). q) o ≡ p
  one_turned None p is = is
  one_turned (Some q) p is = is

  carried_there : IsCarried d e (λ mode q. q) (λ mode. There)
  carried_there = record {
    kinds = refl;
    starts = λ mode. one_turned (first_state d mode) (first_state e mode) (one_start mode);
    there =
        λ t mode q bytes is. accepts_forth n m a.start_anchored lists into.merged checked.range t bytes q
        (below mode q is);
    back =
        λ t mode q bytes is. accepts_back n m a.start_anchored lists into.merged checked.range t bytes q
        (below mode q is);
    same =
        λ t mode q w x y z f g h.
        equal_from x z ((compared n m lists t q (Unit {0}) ⊥ ⊥ w x y z f g).1 (equal_to w y h));
    order =
        λ t mode q w x y z f g h.
        before_from x z ((compared n m lists t q ⊥ (Unit {0}) (Unit {0}) w x y z f g).1 (before_to w y h));
    begins = begins_there;
    skips = skipping_alike;
  }

  carried_back : IsCarried e d (λ mode q. q) (λ mode. Back)
  carried_back = record {
    kinds = refl;
    starts = λ mode. one_turned (first_state e mode) (first_state d mode) (sym (one_start mode));
    there =
        λ t mode q bytes is.
        accepts_back n m a.start_anchored lists into.merged checked.range t bytes q
        (below mode q (one_start mode ∙ is));
    back =
        λ t mode q bytes is.
        accepts_forth n m a.start_anchored lists into.merged checked.range t bytes q
        (below mode q (one_start mode ∙ is));
    same =
        λ t mode q w x y z f g h.
        equal_from x z ((compared n m lists t q (Unit {0}) ⊥ ⊥ x w z y f g).0 (equal_to w y h));
    order =
        λ t mode q w x y z f g h.
        before_from x z ((compared n m lists t q ⊥ (Unit {0}) (Unit {0}) x w z y f g).0 (before_to w y h));
    begins = begins_back;
    skips = (skipping_alike.1, skipping_alike.0);
  }

  merged_both : AnswerAlike d e
  merged_both = both_alike d e (λ mode q. q) (λ mode q. q) (λ mode. There) (λ mode. Back) carried_there carried_back

  -- From each state of the first NFA, both accept the same patterns at the same positions.
  accepts_alike :
      (t : Tape) (q i p : ℕ) → IsHaystack t.bytes → q < length n.nodes
      → ((path : List ℕ) × Accepts n t q i p path) ↔ ((path : List ℕ) × Accepts m t q i p path)
  accepts_alike t q i p bytes l = (
    (λ h.
        let c = accepts_forth n m a.start_anchored lists into.merged checked.range t bytes q l i p h.0 h.1 in
        (c.0, c.2)),
    (λ h.
        let c = accepts_back n m a.start_anchored lists into.merged checked.range t bytes q l i p h.0 h.1 in
        (c.0, c.2)),
  )

  pair_alike :
      (way : Direction) (input : Input) (start : ℕ) (pair : Pair) → IsHaystack input.haystack → start < length n.nodes
      → IsAccepted way a input start pair ↔ IsAccepted way b input start pair
  pair_alike way input start pair bytes l = (
    (λ h.
        let c = (both h.place).0 (h.path, h.accepted) in record {
          place = h.place;
          path = c.0;
          inside = h.inside;
          accepted = c.1;
          offset = h.offset;
          whole = λ s. h.whole (skipping_alike.1 s);
        }),
    (λ h.
        let c = (both h.place).1 (h.path, h.accepted) in record {
          place = h.place;
          path = c.0;
          inside = h.inside;
          accepted = c.1;
          offset = h.offset;
          whole = λ s. h.whole (skipping_alike.0 s);
        }),
  )
    where
      t : Tape
      t = tape_of way input.haystack input.start input.end

      both :
          (place : ℕ)
          → ((path : List ℕ) × Accepts n t start place pair.pattern path)
          ↔ ((path : List ℕ) × Accepts m t start place pair.pattern path)
      both place =
          accepts_alike t start place pair.pattern (tape_bytes way input.haystack input.start input.end bytes) l

  utf8_there : (way : Direction) → KeepsUtf8 way d → KeepsUtf8 way e
  utf8_there way keeps h i j pattern mode start path on hay l k not_no first accepts =
      let one = one_start mode ∙ first in
      let c =
      (accepts_alike (tape_of way h i j) start (j - i) pattern (tape_bytes way h i j hay) (below mode start one)).1
      (path, accepts) in
      keeps h i j pattern mode start c.0 (ap (λ f. f.utf8) (sym into.begins.flags) ∙ on) hay l k not_no one c.1

  utf8_back : (way : Direction) → KeepsUtf8 way e → KeepsUtf8 way d
  utf8_back way keeps h i j pattern mode start path on hay l k not_no first accepts =
      let c =
      (accepts_alike (tape_of way h i j) start (j - i) pattern (tape_bytes way h i j hay) (below mode start first)).0
      (path, accepts) in
      keeps h i j pattern mode start c.0 (ap (λ f. f.utf8) into.begins.flags ∙ on) hay l k not_no
      (sym (one_start mode) ∙ first) c.1

  anchored_within : (start : ℕ) → In start (a.start_anchored ∷ []) → start < length n.nodes
  anchored_within start (inl is) = subst (λ v. v < length n.nodes) (sym is) anchored_ends.0
  anchored_within start (inr i) = absurd i

  anchored_there : MatchesEmpty n (a.start_anchored ∷ []) → MatchesEmpty m (b.start_anchored ∷ [])
  anchored_there h =
      subst (λ v. MatchesEmpty m (v ∷ [])) (sym into.begins.anchored)
      (empty_forth n m a.start_anchored lists into.merged checked.range (a.start_anchored ∷ []) anchored_within h)

  anchored_back : MatchesEmpty m (b.start_anchored ∷ []) → MatchesEmpty n (a.start_anchored ∷ [])
  anchored_back h =
      empty_back n m a.start_anchored lists into.merged checked.range (a.start_anchored ∷ []) anchored_within
      (subst (λ v. MatchesEmpty m (v ∷ [])) into.begins.anchored h)

  both_begin : BeginsAlike a ↔ BeginsAlike b
  both_begin = (
    (λ h. ((λ s. anchored_there (h.0 (empty_here s))), (λ s. empty_there (h.1 (anchored_back s))))),
    (λ h. ((λ s. anchored_back (h.0 (empty_there s))), (λ s. empty_here (h.1 (anchored_there s))))),
  )

  any_within : (start : ℕ) → In start (a.start_anchored ∷ a.start_pattern) → start < length n.nodes
  any_within start (inl is) = subst (λ v. v < length n.nodes) (sym is) anchored_ends.0
  any_within start (inr i) = start_within start i

  one_list : b.start_anchored ∷ b.start_pattern ≡ a.start_anchored ∷ a.start_pattern
  one_list = ap₂ ◌∷◌ into.begins.anchored into.begins.patterns

  reads_there : (way : Direction) → ReadsUtf8 way a → ReadsUtf8 way b
  reads_there way h start q p bytes i text match =
      let old = subst (λ v. In start v) one_list i in
      let own = match_back n m a.start_anchored lists into.merged q p match in
      h start q p bytes old
      (reads_back_old n m a.start_anchored lists into.merged checked.range start bytes q (any_within start old)
      (match_may_end n a.start_anchored q p own).0 text) own

  reads_here : (way : Direction) → ReadsUtf8 way b → ReadsUtf8 way a
  reads_here way h start q p bytes i text match =
      h start q p bytes (subst (λ v. In start v) (sym one_list) i)
      (reads_forth_old n m a.start_anchored lists into.merged checked.range start bytes q p (any_within start i) text
      match)
      (match_forth n m a.start_anchored lists into.merged q p match)

module _ (f : Engine) (a b : Automaton) (checked : IsChecked a) (into : IsMergedNfa a b) where
  joined_back :
      (h : List ℕ) (i j p : ℕ) → IsHaystack h
      → Joins Backward (engine_of a All) h i j p ↔ Joins Backward (engine_of b All) h i j p
  joined_back h i j p bytes =
      subst (λ v. Joins Backward (engine_of a All) h i j p
      ↔ ((path : List ℕ) × Accepts (nfa_of b) (tape_of Backward h i j) v (j - i) p path))
      (sym into.begins.anchored)
      (accepts_alike a b All checked into (tape_of Backward h i j) a.start_anchored (j - i) p
      (tape_bytes Backward h i j bytes)
      (anchored_ends a b All checked into).0)

  stays_paired : IsTruePair f (engine_of a All) → IsTruePair f (engine_of b All)
  stays_paired pair = record {
    all = refl;
    utf8 = pair.utf8 ∙ ap (λ v. v.utf8) (sym into.begins.flags);
    empty = both_ways pair.empty (empty_there a b All checked into, empty_here a b All checked into);
    joins = λ h i j p hay l k. both_ways (pair.joins h i j p hay l k) (joined_back h i j p hay);
    begins = pair.begins;
  }

pub merged_alike : MergedAnswerAlike
merged_alike a b kind checked into = merged_both a b kind checked into

pub merged_accepts : MergedAcceptAlike
merged_accepts a b t start i pattern checked into bytes l = accepts_alike a b All checked into t start i pattern bytes l

pub merged_pairs : MergedPairsAlike
merged_pairs way a b input start pair checked into bytes l =
    pair_alike a b All checked into way input start pair bytes l

pub merged_acyclic : MergedStayAcyclic
merged_acyclic a b checked into none =
    acyclic_merged (nfa_of a) (nfa_of b) a.start_anchored into.lists into.merged checked.range none

pub merged_utf8 : MergedKeepUtf8
merged_utf8 a b way kind checked into =
    (utf8_there a b kind checked into way, utf8_back a b kind checked into way)

pub merged_reads : MergedReadUtf8
merged_reads a b way checked into = (reads_there a b All checked into way, reads_here a b All checked into way)

pub merged_begins : MergedBeginAlike
merged_begins a b checked into = both_begin a b All checked into

pub merged_paired : MergedStayPaired
merged_paired f a b checked into pair = stays_paired f a b checked into pair
