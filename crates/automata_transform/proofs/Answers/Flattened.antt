-- Flattening chains of unions does not change the answers of an NFA.
use Rattle.std.proofs.Common.{ℕ, ◌≡◌, ◌-◌, List, [], ◌↔◌, Some, inl, inr, refl, sym, ap, ◌∙◌, subst}
use Rattle.std.specs.Prelude.{None, Option, option_map, slice_get}
use Rattle.automata_transform.specs.Answers.Alike.{AnswerAlike}
use Rattle.automata_base.specs.Answers.Spans.{IsPathStart}
use Rattle.automata_base.specs.Answers.TruePairs.{KeepsUtf8}
use Rattle.automata_base.specs.declared.util.search.Direction.{Direction}
use Rattle.automata_base.specs.Haystacks.Tapes.{IsHaystack, tape_of}
use Rattle.automata_transform.specs.Laws.FlattenedChains.{FlattenedAnswerAlike, FlattenedKeepUtf8, FlattenedPairsAlike}
use Rattle.automata_base.specs.Haystacks.Input.{Input}
use Rattle.automata_base.specs.Laws.Walks.{IsAccepted}
use Rattle.automata_base.specs.declared.util.search.Anchored.{Anchored}
use Rattle.automata_base.specs.Nfas.Engines.{Engine, IsSkipping, engine_of, first_state}
use Rattle.automata_base.specs.declared.util.search.Anchored.TheVariants.{No, Yes, Pattern}
use Rattle.automata_transform.specs.Nfas.FlattenedNfas.{IsFlattened, IsFlattenedNfa, IsNoLink}
use Rattle.automata_base.specs.Nfas.Nfa.{Nfa}
use Rattle.automata_base.specs.Nfas.Nodes.{Automaton, nfa_of}
use Rattle.automata_base.specs.Paths.Paths.{Tape, IsPath}
use Rattle.automata_base.specs.Paths.Selections.{Accepts, Pair}
use Rattle.automata_base.specs.declared.util.search.MatchKind.TheVariants.{All}
use Rattle.automata_base.specs.declared.util.search.MatchKind.{MatchKind}
use Rattle.automata_transform.proofs.Answers.Carried.{IsCarried, both_alike}
use Rattle.automata_transform.proofs.Answers.Merged.{first_on, IsFirstOn}
use Rattle.automata_transform.proofs.Nfas.Merges.Comparing.{Compares, before_from, before_to}
use Rattle.automata_transform.proofs.Nfas.Merges.Comparing.{equal_from, equal_to}
use Rattle.automata_transform.proofs.Nfas.Flattens.Ways.{Matches, flat_forth, flat_back, flat_order, flat_ends}
use Rattle.automata_transform.proofs.Nfas.Flattens.Ways.{match_free}
use Rattle.automata_transform.proofs.Nfas.Flattens.Ways.{match_first}
use Rattle.automata_base.proofs.Paths.Orders.{some_inj}
use Rattle.automata_base.proofs.Paths.Sets.{nth_in}

module _ (n m : Nfa) (links : List ℕ) (t : Tape) (flat : IsFlattened n m links) (q : ℕ) (free : IsNoLink links q) where
  goes_there :
      (i w : ℕ) (path : List ℕ) → IsNoLink links w → IsPath n t q i w path
      → (other : List ℕ) × Matches n m links t flat other 0 q path × IsPath m t q i w other
  goes_there i w path ends h = flat_forth n m links t flat path 0 q [] [] i w free ends (λ r e. e) h

  goes_back :
      (i w : ℕ) (other : List ℕ) → IsPath m t q i w other
      → (path : List ℕ) × Matches n m links t flat other 0 q path × IsPath n t q i w path
  goes_back i w other h =
      flat_back n m links t flat other 0 q [] [] i w free (λ e. e) (λ r e o. e) (λ r e o. e) h

  accepts_there :
      (i p : ℕ) (path : List ℕ) → Accepts n t q i p path
      → (other : List ℕ) × Matches n m links t flat other 0 q path × Accepts m t q i p other
  accepts_there i p path (w, h, match) =
      let same = match_free n m links t flat w p match in
      let c = goes_there i w path same.0 h in
      (c.0, c.1, (w, c.2, same.1))

  accepts_back :
      (i p : ℕ) (other : List ℕ) → Accepts m t q i p other
      → (path : List ℕ) × Matches n m links t flat other 0 q path × Accepts n t q i p path
  accepts_back i p other (w, h, match) =
      let ends = flat_ends n m links t flat other 0 q [] i w free h in
      let c = goes_back i w other h in
      (c.0, c.1, (w, c.2, match_first n m links t flat w p ends match))

  compared :
      (E B U : Type 0) (a b c d : List ℕ) → Matches n m links t flat b 0 q a → Matches n m links t flat d 0 q c
      → Compares E B U b d ↔ Compares E B U a c
  compared E B U a b c d r s = flat_order n m links t flat E B U b d 0 q a c r s

module _ (a b : Automaton) (kind : MatchKind) (into : IsFlattenedNfa a b) where
  abbrev links : List ℕ
  links = into.links

  abbrev n : Nfa
  n = nfa_of a

  abbrev m : Nfa
  m = nfa_of b

  abbrev d : Engine
  d = engine_of a kind

  abbrev e : Engine
  e = engine_of b kind

  abbrev There : Tape → ℕ → List ℕ → List ℕ → Type 0
  There t q path other = Matches n m links t into.flat other 0 q path

  abbrev Back : Tape → ℕ → List ℕ → List ℕ → Type 0
  Back t q other path = There t q path other

  one_start : (mode : Anchored) → first_state d mode ≡ first_state e mode
  one_start No = ap Some (sym into.begins.unanchored)
  one_start Yes = ap Some (sym into.begins.anchored)
  one_start (Pattern k) = ap (λ v. slice_get v k) (sym into.begins.patterns)

  free : (mode : Anchored) (q : ℕ) → first_state d mode ≡ Some q → IsNoLink links q
  free No q is = into.starts q (inr (inl (sym (some_inj is))))
  free Yes q is = into.starts q (inl (sym (some_inj is)))
  free (Pattern k) q is = into.starts q (inr (inr (nth_in a.start_pattern k q is)))

  skipping_alike : IsSkipping d ↔ IsSkipping e
  skipping_alike = (
    (λ s. (ap (λ f. f.utf8) into.begins.flags ∙ s.0, into.empty.0 s.1)),
    (λ s. (ap (λ f. f.utf8) (sym into.begins.flags) ∙ s.0, into.empty.1 s.1)),
  )

  begins_there :
      (t : Tape) (mode : Anchored) (q place : ℕ) (p o : List ℕ) → IsHaystack t.bytes → first_state d mode ≡ Some q
      → There t q p o → IsPathStart d mode t p place → IsPathStart e mode t o place
  begins_there t Yes q place p o bytes is r h = h
  begins_there t (Pattern k) q place p o bytes is r h = h
  begins_there t No q place p o bytes is r h =
      subst (λ v. IsFirstOn m t v b.start_anchored o place) (sym into.begins.unanchored)
      (subst (λ v. IsFirstOn m t a.start_unanchored v o place) (sym into.begins.anchored)
      (first_on n m t a.start_unanchored a.start_anchored (There t a.start_unanchored)
      (λ i x h. goes_there n m links t into.flat a.start_unanchored (free No a.start_unanchored refl) i
      a.start_anchored x (free Yes a.start_anchored refl) h)
      (λ i x h. goes_back n m links t into.flat a.start_unanchored (free No a.start_unanchored refl) i
      a.start_anchored x h)
      (λ w x y z f g. (compared n m links t into.flat a.start_unanchored (free No a.start_unanchored refl) (Unit {0})
      (Unit {0}) ⊥ w x y z f g).1)
      (λ w x y z f g. (compared n m links t into.flat a.start_unanchored (free No a.start_unanchored refl) ⊥ (Unit {0})
      ⊥ w x y z f g).0)
      p o place (subst (λ v. There t v p o) (sym (some_inj is)) r) h))

  begins_back :
      (t : Tape) (mode : Anchored) (q place : ℕ) (o p : List ℕ) → IsHaystack t.bytes → first_state e mode ≡ Some q
      → Back t q o p → IsPathStart e mode t o place → IsPathStart d mode t p place
  begins_back t Yes q place o p bytes is r h = h
  begins_back t (Pattern k) q place o p bytes is r h = h
  begins_back t No q place o p bytes is r h =
      first_on m n t a.start_unanchored a.start_anchored (Back t a.start_unanchored)
      (λ i x h. goes_back n m links t into.flat a.start_unanchored (free No a.start_unanchored refl) i
      a.start_anchored x h)
      (λ i x h. goes_there n m links t into.flat a.start_unanchored (free No a.start_unanchored refl) i
      a.start_anchored x (free Yes a.start_anchored refl) h)
      (λ w x y z f g. (compared n m links t into.flat a.start_unanchored (free No a.start_unanchored refl) (Unit {0})
      (Unit {0}) ⊥ x w z y f g).0)
      (λ w x y z f g. (compared n m links t into.flat a.start_unanchored (free No a.start_unanchored refl) ⊥ (Unit {0})
      ⊥ x w z y f g).1)
      o p place (subst (λ v. Back t v o p) (sym (some_inj (ap Some (sym into.begins.unanchored) ∙ is))) r)
      (subst (λ v. IsFirstOn m t v a.start_anchored o place) into.begins.unanchored
      (subst (λ v. IsFirstOn m t b.start_unanchored v o place) into.begins.anchored h))

  one_turned : (o p : Option ℕ) → o ≡ p → option_map (λ (q : ℕ). q) o ≡ p
  one_turned None p is = is
  one_turned (Some q) p is = is

  -- The start from which both compare the paths of a mode.
  abbrev IsStartOf : Anchored → ℕ → Type 0
  IsStartOf mode q = first_state d mode ≡ Some q

  -- A correspondence of paths that says that the first state is not a link.
  abbrev ThereFrom : Anchored → Tape → ℕ → List ℕ → List ℕ → Type 0
  ThereFrom mode t q path other = IsNoLink links q × There t q path other

  abbrev BackFrom : Anchored → Tape → ℕ → List ℕ → List ℕ → Type 0
  BackFrom mode t q other path = ThereFrom mode t q path other

  carried_there : IsCarried d e (λ mode q. q) ThereFrom
  carried_there = record {
    kinds = refl;
    starts = λ mode. one_turned (first_state d mode) (first_state e mode) (one_start mode);
    there = λ t mode q bytes is i p x acc. (let from = free mode q is in
        let c = accepts_there n m links t into.flat q from i p x acc in (c.0, (from, c.1), c.2));
    back = λ t mode q bytes is i p x acc. (let from = free mode q is in
        let c = accepts_back n m links t into.flat q from i p x acc in (c.0, (from, c.1), c.2));
    same =
        λ t mode q w x y z f g h.
        equal_from x z ((compared n m links t into.flat q f.0 (Unit {0}) ⊥ ⊥ w x y z f.1 g.1).1 (equal_to w y h));
    order =
        λ t mode q w x y z f g h.
        before_from x z ((compared n m links t into.flat q f.0 ⊥ (Unit {0}) (Unit {0}) w x y z f.1 g.1).1
        (before_to w y h));
    begins = λ t mode q place p o bytes is r h. begins_there t mode q place p o bytes is r.1 h;
    skips = skipping_alike;
  }

  carried_back : IsCarried e d (λ mode q. q) BackFrom
  carried_back = record {
    kinds = refl;
    starts = λ mode. one_turned (first_state e mode) (first_state d mode) (sym (one_start mode));
    there = λ t mode q bytes is i p x acc. (let from = free mode q (one_start mode ∙ is) in
        let c = accepts_back n m links t into.flat q from i p x acc in (c.0, (from, c.1), c.2));
    back = λ t mode q bytes is i p x acc. (let from = free mode q (one_start mode ∙ is) in
        let c = accepts_there n m links t into.flat q from i p x acc in (c.0, (from, c.1), c.2));
    same =
        λ t mode q w x y z f g h.
        equal_from x z ((compared n m links t into.flat q f.0 (Unit {0}) ⊥ ⊥ x w z y f.1 g.1).0 (equal_to w y h));
    order =
        λ t mode q w x y z f g h.
        before_from x z ((compared n m links t into.flat q f.0 ⊥ (Unit {0}) (Unit {0}) x w z y f.1 g.1).0
        (before_to w y h));
    begins = λ t mode q place o p bytes is r h. begins_back t mode q place o p bytes is r.1 h;
    skips = (skipping_alike.1, skipping_alike.0);
  }

  flattened_both : AnswerAlike d e
  flattened_both = both_alike d e (λ mode q. q) (λ mode q. q) ThereFrom BackFrom carried_there carried_back

  -- From each state that is not a link, both accept the same patterns at the same places.
  accepts_alike :
      (t : Tape) (q i p : ℕ) → IsNoLink links q
      → ((path : List ℕ) × Accepts n t q i p path) ↔ ((path : List ℕ) × Accepts m t q i p path)
  accepts_alike t q i p from = (
    (λ h. let c = accepts_there n m links t into.flat q from i p h.0 h.1 in (c.0, c.2)),
    (λ h. let c = accepts_back n m links t into.flat q from i p h.0 h.1 in (c.0, c.2)),
  )

  pair_alike :
      (way : Direction) (input : Input) (start : ℕ) (pair : Pair) → IsNoLink links start
      → IsAccepted way a input start pair ↔ IsAccepted way b input start pair
  pair_alike way input start pair from = (
    (λ h.
        let c = (both h.place).0 (h.path, h.accepted) in record {
          place = h.place;
          path = c.0;
          inside = h.inside;
          accepted = c.1;
          offset = h.offset;
          whole = λ s. h.whole (skipping_alike.1 s);
        }),
    (λ h.
        let c = (both h.place).1 (h.path, h.accepted) in record {
          place = h.place;
          path = c.0;
          inside = h.inside;
          accepted = c.1;
          offset = h.offset;
          whole = λ s. h.whole (skipping_alike.0 s);
        }),
  )
    where
      t : Tape
      t = tape_of way input.haystack input.start input.end

      both :
          (place : ℕ)
          → ((path : List ℕ) × Accepts n t start place pair.pattern path)
          ↔ ((path : List ℕ) × Accepts m t start place pair.pattern path)
      both place = accepts_alike t start place pair.pattern from

  utf8_there : (way : Direction) → KeepsUtf8 way d → KeepsUtf8 way e
  utf8_there way keeps h i j pattern mode start path on hay l k not_no first accepts =
      let one = one_start mode ∙ first in
      let c = (accepts_alike (tape_of way h i j) start (j - i) pattern (free mode start one)).1 (path, accepts) in
      keeps h i j pattern mode start c.0 (ap (λ f. f.utf8) (sym into.begins.flags) ∙ on) hay l k not_no one c.1

  utf8_back : (way : Direction) → KeepsUtf8 way e → KeepsUtf8 way d
  utf8_back way keeps h i j pattern mode start path on hay l k not_no first accepts =
      let c = (accepts_alike (tape_of way h i j) start (j - i) pattern (free mode start first)).0 (path, accepts) in
      keeps h i j pattern mode start c.0 (ap (λ f. f.utf8) into.begins.flags ∙ on) hay l k not_no
      (sym (one_start mode) ∙ first) c.1

pub flattened_alike : FlattenedAnswerAlike
flattened_alike a b kind into = flattened_both a b kind into

pub flattened_pairs : FlattenedPairsAlike
flattened_pairs way a b input pair into bytes =
    subst (λ v. IsAccepted way a input a.start_unanchored pair ↔ IsAccepted way b input v pair)
    (sym into.begins.unanchored)
    (pair_alike a b All into way input a.start_unanchored pair (free a b All into No a.start_unanchored refl))

pub flattened_utf8 : FlattenedKeepUtf8
flattened_utf8 a b way kind into = (utf8_there a b kind into way, utf8_back a b kind into way)
