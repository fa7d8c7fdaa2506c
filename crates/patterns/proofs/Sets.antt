-- What the searches of a set of patterns report, by what the patterns mean.
use Rattle.std.proofs.Common.{ℕ, ◌≡◌, ◌<◌, ◌⊎◌, ◌↔◌, Bool, true, false, List, [], ◌∷◌, Option, Some, is_some, length}
use Rattle.std.proofs.Common.{map, refl, sym, ap, ◌∙◌, subst, inl, inr, arith, true≢false}
use Rattle.std.specs.Prelude.{Result, slice_get}
use Rattle.std.specs.Result.{result_err}
use Rattle.std.proofs.lemmas.List.{length-map, length-replicate}
use Rattle.regex_hir.specs.Re.{Re}
use Rattle.automata_base.specs.Haystacks.Matches.{HalfMatch}
use Rattle.automata_base.specs.Haystacks.PatternSet.{has, members}
use Rattle.automata_base.specs.Haystacks.Tapes.{IsHaystack}
use Rattle.automata_determinize.specs.Laws.Walks.{AllPairsAreReported, AreReported, InPairs, WalksAreReported}
use Rattle.automata_base.specs.Laws.Walks.{IsAccepted}
use Rattle.automata_base.specs.Lists.{In}
use Rattle.automata_base.specs.Answers.TruePairs.{KeepsUtf8}
use Rattle.automata_base.specs.Nfas.Engines.{Engine}
use Rattle.automata_base.specs.Nfas.Nodes.{Automaton}
use Rattle.automata_base.specs.Paths.Selections.{Pair}
use Rattle.automata_base.proofs.ByteClasses.PatternsInSets.{members_from-replicate}
use Rattle.automata_config.specs.declared.error.SearchError.{SearchError}
use Rattle.automata_hybrid.specs.Machines.Builds.{Builds}
use Rattle.automata_hybrid.specs.Known.Walks.{IsSetRun}
use Rattle.automata_hybrid.specs.Walks.State.{fresh_walk}
use Rattle.automata_hybrid.proofs.Machines.Powersets.{reported_walked, walked_reported}
use Rattle.regex_automata.specs.Promises.{AreWalked, CacheView, Forward, Input, JoinsReported, KindAll, Machine}
use Rattle.regex_automata.specs.Promises.{MatchesIn, known_of}
use Rattle.regex_automata.specs.Promises.{SetsHaveMatching}
use Rattle.regex_automata.specs.Promises.{HasReported, ReportsNext, Walk, engine_of, half_nth, match_kind_of}
use Rattle.regex_automata.specs.Spans.Contracts.{empty_set}
use Rattle.meaning.specs.Agreeing.{Each, HasSameLooks}
use Rattle.meaning.specs.Patterns.{find_any, is_found, span_input}
use Rattle.meaning.proofs.Flags.{has_map, same_flag, same_set}
use Rattle.meaning.proofs.Lists.{length-starts_of}
use Rattle.meaning.proofs.Sets.{accepted_is_found, accepted_matches, any_is_found, way_is_accepted}
use Rattle.patterns.specs.Patterns.{IsFor, IsJoinedNfa}
use Rattle.patterns.specs.Sets.{AreEnds, IsDfaOf, IsSetSearched, SearchesSet, set_settings_of}
use Rattle.patterns.specs.declared.compile.Options.{Options}
use Rattle.patterns.proofs.Drafting.{implement_count}
use Rattle.patterns.proofs.Searching.{looks_same}

-- The DFA that is built from the NFA of some patterns.
pub dfa_is :
    (o : Options) (res : List Re) (a : Automaton) (m : Machine) → IsJoinedNfa o res a
    → KeepsUtf8 Forward (engine_of a KindAll) →
    Builds (set_settings_of o) a m → IsDfaOf o res m
dfa_is o res a m joins keeps (s, settled, same) =
    let own : m.nfa ≡ a = ap (λ (v : Machine). v.nfa) same in
    record {
      kind = ap (λ (v : Machine). match_kind_of v.config) same;
      joined = subst (λ v. IsJoinedNfa o res v) (sym own) joins;
      utf8 = subst (λ v. KeepsUtf8 Forward (engine_of v KindAll)) (sym own) keeps;
    }

-- An empty set, with room for each pattern.
pub joins_empty :
    (m : Machine) (hay : List ℕ) (i : Input) (n : ℕ) (old new : List Bool) → i ≡ span_input hay 0 (length hay) →
    old ≡ empty_set n → n ≡ length m.nfa.start_pattern → JoinsReported m i old new →
    JoinsReported m (span_input hay 0 (length hay)) (empty_set (length m.nfa.start_pattern)) new
joins_empty m hay i n old new same fresh room which =
    subst (λ v. JoinsReported m v (empty_set (length m.nfa.start_pattern)) new) same
    (subst (λ v. JoinsReported m i v new) (fresh ∙ ap empty_set room) which)

-- The effect of a search for an empty set.
pub searches_empty :
    (m : Machine) (hay : List ℕ) (i : Input) (n : ℕ) (set new : List Bool) (before after : CacheView)
    (result : Result (List Bool) SearchError)
    → i ≡ span_input hay 0 (length hay) → set ≡ empty_set n → n ≡ length m.nfa.start_pattern
    → IsSetRun m i set new (known_of before) (known_of after) (result_err result)
    → IsSetSearched m (span_input hay 0 (length hay)) before after result
searches_empty m hay i n set new before after result same fresh room run =
    SearchesSet new
    (subst
    (λ v. IsSetRun m v (empty_set (length m.nfa.start_pattern)) new (known_of before) (known_of after)
    (result_err result)) same
    (subst (λ v. IsSetRun m i v new (known_of before) (known_of after) (result_err result)) (fresh ∙ ap empty_set room)
    run))

-- What the first call of a walk reports.
pub first_match :
    (m : Machine) (hay : List ℕ) (i : Input) (old new : Walk) → i ≡ span_input hay 0 (length hay) → old ≡ fresh_walk →
    ReportsNext Forward m i old new → (pairs : List Pair) → AreWalked Forward m (span_input hay 0 (length hay)) pairs →
    new.found ≡ half_nth pairs 0
first_match m hay i old new same fresh reports pairs walked =
    ((reports 0 (subst (λ (w : Walk). HasReported Forward m i w 0) (sym fresh) (refl, refl))).1 pairs
    (subst (λ (v : Input). AreWalked Forward m v pairs) (sym same) walked)).0

-- Only a pattern that matches is added to an empty set.
joined : (n p : ℕ) (P : Type 0) → In p (members (empty_set n)) ⊎ ((p < length (empty_set n)) × P) → P
joined n p P (inl h) = absurd (subst (In p) (members_from-replicate n 0) h)
joined n p P (inr h) = h.1

module _ (m : Machine) (o : Options) (res : List Re) (is : IsDfaOf o res m) (hay : List ℕ) (for : IsFor o hay)
    (bytes : IsHaystack hay) where
  abbrev input : Input
  input = span_input hay 0 (length hay)

  abbrev made : IsJoinedNfa o res m.nfa
  made = is.joined

  -- the NFA accepts what the NFA that joins the patterns accepts
  ends :
      (pair : Pair)
      → IsAccepted Forward made.joined input made.joined.start_unanchored pair
      ↔ IsAccepted Forward m.nfa input m.nfa.start_unanchored pair
  ends pair = made.answers.ends input pair bytes

  looks : Each (HasSameLooks hay) made.ks
  looks = looks_same o.ascii hay for.1 made.ks made.nfas.1

  keeps : KeepsUtf8 Forward (engine_of made.joined KindAll)
  keeps = (made.answers.utf8 KindAll).1 is.utf8

  -- exactly the patterns that are found by themselves have an accepting path
  found_is : (p : ℕ) →
      ((end : ℕ) × IsAccepted Forward m.nfa input m.nfa.start_unanchored (record { pattern = p; place = end }))
      ↔ ((re : Re) × (slice_get res p ≡ Some re) × (is_found o.utf8 hay re ≡ true))
  found_is p = (
    λ w. joined_is.0 (w.0, (ends (record { pattern = p; place = w.0 })).1 w.1),
    λ h. let w = joined_is.1 h in (w.0, (ends (record { pattern = p; place = w.0 })).0 w.1),
  )
    where
      joined_is :
          ((end : ℕ)
          × IsAccepted Forward made.joined input made.joined.start_unanchored (record { pattern = p; place = end }))
          ↔ ((re : Re) × (slice_get res p ≡ Some re) × (is_found o.utf8 hay re ≡ true))
      joined_is = accepted_is_found made.ks res made.nfas.0 o.utf8 hay looks bytes for.0 made.joined made.joins keeps p

  count : length m.nfa.start_pattern ≡ length res
  count =
      sym made.answers.count ∙ ap (λ (d : Engine). length d.starts) made.joins ∙ length-starts_of 0 made.ks
      ∙ implement_count made.ks res made.nfas.0

  -- an empty set gets the patterns that are found
  pub set_means : SetsHaveMatching m → (new : List Bool) → length new ≡ length m.nfa.start_pattern →
      JoinsReported m input (empty_set (length m.nfa.start_pattern)) new → new ≡ map (is_found o.utf8 hay) res
  set_means law new capacity which =
      same_set new (map (is_found o.utf8 hay) res) (capacity ∙ count ∙ sym (length-map res (is_found o.utf8 hay)))
      (λ p. (
        λ h. found p (joined (length m.nfa.start_pattern) p _ ((said p).0 h)),
        λ e. matching p ((has_map (is_found o.utf8 hay) res p).0 e),
      ))
    where
      said : (p : ℕ) → In p (members new)
          ↔ (In p (members (empty_set (length m.nfa.start_pattern)))
          ⊎ ((p < length (empty_set (length m.nfa.start_pattern))) × MatchesIn m input m.nfa.start_unanchored p))
      said p =
          law.sets input m.nfa.start_unanchored (empty_set (length m.nfa.start_pattern)) new is.kind refl refl
          (bytes, omega arith)
          (omega arith) which p

      found : (p : ℕ) → MatchesIn m input m.nfa.start_unanchored p → has (map (is_found o.utf8 hay) res) p ≡ true
      found p w = (has_map (is_found o.utf8 hay) res p).1 ((found_is p).0 (w.at, w.accepted))

      matching :
          (p : ℕ) → (re : Re) × (slice_get res p ≡ Some re) × (is_found o.utf8 hay re ≡ true) → In p (members new)
      matching p h =
          let path = (found_is p).1 h in
          let w : MatchesIn m input m.nfa.start_unanchored p = record { at = path.0; accepted = path.1 } in
          let below = law.own input m.nfa.start_unanchored p refl (bytes, omega arith) (omega arith) w in
          (said p).1 (inr (subst (λ n. p < n) (sym (length-replicate (length m.nfa.start_pattern) false)) below, w))

  -- a walk has a match exactly if some pattern is found
  pub any_means : WalksAreReported m.nfa → AllPairsAreReported m.nfa → (found : Option HalfMatch) →
      ((pairs : List Pair) → AreWalked Forward m input pairs → found ≡ half_nth pairs 0) →
      is_some found ≡ is_some (find_any o.utf8 res hay 0)
  any_means reported all found first =
      ap is_some (first walk.0
      (reported_walked Forward m input walk.0
      (subst (λ k. AreReported Forward m.nfa k input walk.0) (sym is.kind) walk.1)))
      ∙ same_flag (is_some (half_nth walk.0 0)) (is_some (find_any o.utf8 res hay 0)) (
        λ e. (any_is_found o.utf8 hay res).1 (there walk.0 (λ pair h. (accepted pair).0 h) e),
        λ e. let w = (any_is_found o.utf8 hay res).0 e in let path = (found_is w.0).1 (w.1, w.2, w.3) in
            has_pair walk.0 (record { pattern = w.0; place = path.0 })
            ((accepted (record { pattern = w.0; place = path.0 })).1 path.1),
      )
    where
      walk : (pairs : List Pair) × AreReported Forward m.nfa KindAll input pairs
      walk = reported Forward KindAll input

      accepted : (pair : Pair) → InPairs pair walk.0 ↔ IsAccepted Forward m.nfa input m.nfa.start_unanchored pair
      accepted pair =
          all Forward input walk.0 m.nfa.start_unanchored (bytes, omega arith) (omega arith) refl walk.1 pair

      there :
          (pairs : List Pair)
          → ((pair : Pair) → InPairs pair pairs → IsAccepted Forward m.nfa input m.nfa.start_unanchored pair) →
          is_some (half_nth pairs 0) ≡ true →
          (p : ℕ) × (re : Re) × (slice_get res p ≡ Some re) × (is_found o.utf8 hay re ≡ true)
      there [] each e = absurd (true≢false (sym e))
      there (pair ∷ pairs) each e =
          let own = (found_is pair.pattern).0 (pair.place, each pair (inl refl)) in (pair.pattern, own.0, own.1, own.2)

      has_pair : (pairs : List Pair) (pair : Pair) → InPairs pair pairs → is_some (half_nth pairs 0) ≡ true
      has_pair [] pair h = absurd h
      has_pair (x ∷ pairs) pair h = refl

  -- the pairs that a walk reports are ends of matches
  pub ends_meant :
      AllPairsAreReported m.nfa → (pairs : List Pair) → AreWalked Forward m input pairs → AreEnds o res hay pairs
  ends_meant all pairs walked = record {
    all = λ p re i j at l begin way. (accepted (record { pattern = p; place = j })).1
        ((ends (record { pattern = p; place = j })).0
        (way_is_accepted made.ks res made.nfas.0 o.utf8 hay looks bytes for.0 made.joined made.joins keeps p re i j at l
        begin way));
    own =
        λ pair h. accepted_matches made.ks res made.nfas.0 o.utf8 hay looks bytes for.0 made.joined made.joins keeps
        pair.pattern pair.place
        ((ends pair).1 ((accepted pair).0 h));
  }
    where
      accepted : (pair : Pair) → InPairs pair pairs ↔ IsAccepted Forward m.nfa input m.nfa.start_unanchored pair
      accepted pair =
          all Forward input pairs m.nfa.start_unanchored (bytes, omega arith) (omega arith) refl
          (subst (λ k. AreReported Forward m.nfa k input pairs) is.kind (walked_reported Forward m input pairs walked))
          pair
