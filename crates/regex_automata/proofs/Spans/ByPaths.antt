-- What the passes of two DFAs report is what the ordered paths define.
use Rattle.std.proofs.Common.{ℕ, ◌≡◌, ◌∙◌, ◌≤◌, inl, inr, length, Option, Some, None, refl, sym, subst, arith}
use Rattle.std.specs.Prelude.{IfSome}
use Rattle.automata_base.specs.Answers.Answers.{Half, IsAnswer, IsInput}
use Rattle.automata_base.specs.Haystacks.Input.{Input}
use Rattle.automata_base.specs.Haystacks.Matches.{Match}
use Rattle.automata_base.specs.Nfas.Nodes.{nfa_of}
use Rattle.automata_base.specs.Paths.Paths.{KeepsCycles}
use Rattle.automata_base.specs.Answers.Spans.{FindsSpan, Found, IsFarSearch, IsSpan, IsTrySearch, NotAPair, Outcome}
use Rattle.automata_base.specs.Answers.Spans.{back}
use Rattle.automata_determinize.specs.Laws.StartIsRight.{BackMeetsNone, StartsAreRight}
use Rattle.automata_base.specs.declared.util.search.Direction.TheVariants.{Forward, Backward}
use Rattle.automata_base.specs.Answers.OfPasses.{IsFarthestAnswer}
use Rattle.automata_determinize.specs.Answers.OfPasses.{ReportedEndsAreRight, ReportedIsRight}
use Rattle.automata_determinize.proofs.Answers.Turning.{turn_outcome}
use Rattle.automata_base.specs.declared.util.search.MatchErrorKind.TheVariants.{Quit as QuitAt}
use Rattle.automata_config.specs.declared.error.SearchError.{SearchError}
use Rattle.automata_config.specs.declared.error.SearchError.TheVariants as search
use Rattle.automata_hybrid.specs.Known.Passes.{SearchFails}
use Rattle.automata_hybrid.specs.Known.Stores.{known_of}
use Rattle.automata_hybrid.specs.Searches.Passes.{IsFound}
use Rattle.automata_hybrid.proofs.Searches.Skips.{found_reported}
use Rattle.automata_hybrid.proofs.Searches.Bounds.{found_within}
use Rattle.regex_automata.specs.Spans.Outcomes.{FindsMatch, IsOutcome}
use Rattle.regex_automata.specs.Spans.Errors.{BackFails, FrontFails, HasReason, IsFree, IsOfMemory, IsRegexError}
use Rattle.regex_automata.specs.Spans.Errors.{NoStart}
use Rattle.regex_automata.specs.Regexes.SoundPairs.{BothKeepCycles, IsSoundPair, forward_engine, reverse_engine}
use Rattle.regex_automata.specs.declared.hybrid.regex.Regex.{Regex}
use Rattle.regex_automata.specs.declared.hybrid.regex.caches.Cache.{Cache}
use Rattle.regex_automata.proofs.Spans.Costs.{back_reach}
use Rattle.automata_hybrid.proofs.Known.Memory.{search_memory}
use Rattle.regex_automata.proofs.Spans.Quits.{back_free, never_pair}
use Rattle.automata_config.specs.Options.{match_kind_of}

-- if the NFAs keep their cycles
module _ (p : Regex) (front : ReportedIsRight p.forward.nfa) where
  front_right :
      (input : Input) (o : Option Half) → KeepsCycles (nfa_of p.forward.nfa) → IsInput input
      → IsFound Forward p.forward input o
      → IsAnswer Forward (forward_engine p) input o
  front_right input o cycles given f =
      front Forward (match_kind_of p.forward.config) input o cycles given (found_reported Forward p.forward input o f)

  back_given :
      (input : Input) (half : Half) → IsInput input → IsFound Forward p.forward input (Some half)
      → IsInput (back input half)
  back_given input half given f =
      let w = (found_within Forward p.forward input half given.1 f).0.1 in
      let few = given.1 in
      (given.0, omega (arith, w, few))

  pub outcome_right :
      (rear : ReportedIsRight p.reverse.nfa) (input : Input) (outcome : Outcome) → BothKeepCycles p → IsInput input
      → IsOutcome p input outcome
      → IsTrySearch (forward_engine p) (reverse_engine p) input outcome
  outcome_right rear input outcome cycles given f =
      turn_outcome (IsFound Forward p.forward) (IsAnswer Forward (forward_engine p)) (IsFound Backward p.reverse)
      (IsAnswer Backward (reverse_engine p)) (forward_engine p) input
      (λ o a. front_right input o cycles.0 given a)
      (λ half o a b.
      rear Backward (match_kind_of p.reverse.config) (back input half) o cycles.1 (back_given input half given a)
      (found_reported Backward p.reverse (back input half) o b))
      outcome f

  -- over a sound pair
  module _ (ends : ReportedEndsAreRight p.reverse.nfa) (starts : StartsAreRight) (sound : IsSoundPair p) (input : Input)
      (given : IsInput input) where
    outcome_far :
        (outcome : Outcome) → IsOutcome p input outcome
        → IsFarSearch (forward_engine p) (reverse_engine p) input outcome
    outcome_far outcome f =
        turn_outcome (IsFound Forward p.forward) (IsAnswer Forward (forward_engine p)) (IsFound Backward p.reverse)
        (IsFarthestAnswer Backward (reverse_engine p)) (forward_engine p) input
        (λ o a. front_right input o sound.cycles given a)
        (λ half o a b.
        (ends Backward (match_kind_of p.reverse.config) (back input half) o (back_given input half given a)
        (found_reported Backward p.reverse (back input half) o b)).1 refl sound.pair.all)
        outcome f

    finds_span : (outcome : Outcome) → IsOutcome p input outcome → FindsSpan (forward_engine p) input outcome
    finds_span outcome f =
        starts.farthest (forward_engine p) (reverse_engine p) input outcome sound.pair sound.utf8 given
        (outcome_far outcome f)

    pub match_right : (answer : Option Match) → FindsMatch p input answer → IsSpan (forward_engine p) input answer
    match_right answer f =
        let s = finds_span (Found answer) f in
        subst (λ (o : Option Match). IsSpan (forward_engine p) input o) (sym (same s.1)) s.2
      where
        same : {a b : Option Match} → ◌≡◌ {A = Outcome} (Found a) (Found b) → a ≡ b
        same e = cc

    pub no_pair_wrong : IsOutcome p input NotAPair → ⊥
    no_pair_wrong f = apart (finds_span NotAPair f).1 where
      apart : {a : Option Match} → ◌≡◌ {A = Outcome} NotAPair (Found a) → ⊥
      apart e = cc

  -- what a reason excludes
  module _ (rear : ReportedIsRight p.reverse.nfa) (ends : ReportedEndsAreRight p.reverse.nfa) (starts : StartsAreRight)
      (law : BackMeetsNone)
      (old new : Cache) (input : Input) (given : IsInput input) (e : SearchError)
      (reason : HasReason p old new input e) where
    no_pair : e ≡ search.NotAPair → IsOutcome p input NotAPair
    no_pair is = go (subst (HasReason p old new input) is reason) where
      go : HasReason p old new input search.NotAPair → IsOutcome p input NotAPair
      go (FrontFails r) = absurd (never_pair Forward p.forward input (known_of old.forward) (known_of new.forward) r)
      go (BackFails half found r) =
          absurd (never_pair Backward p.reverse (back input half) (known_of old.reverse) (known_of new.reverse) r.1)
      go (NoStart apart none) = none

    pub shapes_error : (IsFree p input → IsOfMemory e) → IsRegexError p old new input e
    shapes_error free =
        record {
          reason = reason;
          free = free;
          apart = λ cycles is. outcome_right rear input NotAPair cycles given (no_pair is);
          sound = λ sound is. no_pair_wrong ends starts sound input given (no_pair is);
          quits = λ same byte at is. quits same byte at is reason;
        } where
          quits :
              p.forward.quits ≡ p.reverse.quits → (byte at : ℕ) → e ≡ search.Match (QuitAt byte at)
              → HasReason p old new input e
              → SearchFails Forward p.forward input (known_of old.forward) (known_of new.forward) e
          quits same byte at is (FrontFails r) = r
          quits same byte at is (BackFails half found r) =
              absurd
              (back_free law p.forward p.reverse (known_of old.reverse) (known_of new.reverse) input half byte at same
              given.1 (found_within Forward p.forward input half given.1 found).2
              (found_within Forward p.forward input half given.1 found).0.1 found
              (subst (SearchFails Backward p.reverse (back input half) (known_of old.reverse) (known_of new.reverse)) is
              r.1))
          quits same byte at is (NoStart apart none) = absurd (not_quit (sym is ∙ apart)) where
            not_quit : ◌≡◌ {A = SearchError} (search.Match (QuitAt byte at)) search.NotAPair → ⊥
            not_quit h = cc

-- if nothing prevents an answer, the error is out of memory or `NotAPair`
pub free_of :
    (p : Regex) (old new : Cache) (input : Input) (e : SearchError)
    → input.end ≤ length input.haystack → HasReason p old new input e → IsFree p input → IsOfMemory e
free_of p old new input e few (FrontFails r) free =
    inl (search_memory Forward p.forward input (known_of old.forward) (known_of new.forward) e few
    (record { reach = free.forward; supported = free.supported; clears = free.forward_clears }) r)
free_of p old new input e few (BackFails half found (long, r)) free =
    let l = found_within Forward p.forward input half few found in
    let within = l.0.1 in
    inl (search_memory Backward p.reverse (back input half) (known_of old.reverse) (known_of new.reverse) e
    (omega (arith, within, few))
    (record {
      reach = back_reach p.reverse input half l.1 within free.reverse;
      supported = refl;
      clears = free.reverse_clears;
    }) r)
free_of p old new input e few (NoStart apart none) free = inr apart

-- each error of a search
pub refusals :
    (p : Regex) (front : ReportedIsRight p.forward.nfa) (rear : ReportedIsRight p.reverse.nfa)
    (ends : ReportedEndsAreRight p.reverse.nfa)
    (starts : StartsAreRight) (law : BackMeetsNone) (old new : Cache) (input : Input) (given : IsInput input)
    (error : Option SearchError)
    → IfSome error (HasReason p old new input) → IfSome error (IsRegexError p old new input)
refusals p front rear ends starts law old new input given None reason = tt
refusals p front rear ends starts law old new input given (Some e) reason =
    shapes_error p front rear ends starts law old new input given e reason (free_of p old new input e given.1 reason)
