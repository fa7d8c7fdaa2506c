-- Consequences of the runs of searches over two lazy DFAs.
use Rattle.std.proofs.Common.{ℕ, suc, ◌≡◌, ◌∙◌, ◌+◌, ◌≤◌, ◌<◌, ◌⊎◌, inl, inr, Option, Some, None, refl, sym, ap, subst}
use Rattle.std.proofs.Common.{arith}
use Rattle.std.specs.Prelude.{IfSome}
use Rattle.automata_base.specs.Answers.Answers.{Half, IsInput}
use Rattle.automata_base.specs.Haystacks.Input.{Input}
use Rattle.automata_determinize.specs.Answers.OfPasses.{ReportedEndsAreRight, ReportedIsRight}
use Rattle.automata_base.specs.Answers.Spans.{back, from}
use Rattle.automata_determinize.specs.Laws.StartIsRight.{BackMeetsNone, StartsAreRight}
use Rattle.automata_base.specs.declared.util.search.Direction.TheVariants.{Backward, Forward}
use Rattle.automata_determinize.proofs.Answers.Starts.{yes_no}
use Rattle.automata_config.specs.declared.error.SearchError.{SearchError}
use Rattle.automata_config.specs.declared.error.SearchError.TheVariants as search
use Rattle.automata_hybrid.specs.Cache.Caches.{CacheView}
use Rattle.automata_hybrid.specs.Known.Bounds.{IsKnown}
use Rattle.automata_hybrid.specs.Known.Cached.{KnownStays}
use Rattle.automata_hybrid.specs.Known.Follows.{SearchFollows, SearchesFollow}
use Rattle.automata_hybrid.specs.Known.Growth.{ClearedNothing, IsGrown, IsStill}
use Rattle.automata_hybrid.specs.Known.Stores.{known_of}
use Rattle.automata_hybrid.specs.Machines.Machine.{Machine}
use Rattle.automata_hybrid.specs.Searches.Agreement.{AnswersAgree}
use Rattle.automata_hybrid.specs.Searches.Contracts.{IsOfInput}
use Rattle.automata_hybrid.specs.Searches.Passes.{IsFound}
use Rattle.automata_hybrid.proofs.Known.Growth.{grown_same}
use Rattle.regex_automata.specs.Regexes.Caches.{AreKnown, KnowsBack}
use Rattle.regex_automata.specs.Spans.Errors.{BackFails, FailsHere, FailsLater, FrontFails, HasReason, IsBackError}
use Rattle.regex_automata.specs.Spans.Errors.{IsNextError, IsOfGiven, IsRegexError, NoStart}
use Rattle.regex_automata.specs.Spans.Follows.{ErrorsFollow, IsCostBack, NextFollows, NextsFollow, NoPass, OnePass}
use Rattle.regex_automata.specs.Spans.Follows.{SpanFollows, OfOne, OfTwo, SpansFollow}
use Rattle.regex_automata.specs.Spans.Outcomes.{IsStartFound}
use Rattle.regex_automata.specs.Spans.Runs.{IsBackRun, IsBothRun, IsErrorOfBoth, IsFrontRun, IsNextRun, IsSpanRun, Made}
use Rattle.regex_automata.specs.Spans.Runs.{NotMade, FindsNoStart, IsItsOwn}
use Rattle.regex_automata.specs.Spans.Iteration.{FindsEmptyAt}
use Rattle.regex_automata.specs.declared.hybrid.regex.Regex.{Regex}
use Rattle.regex_automata.specs.declared.hybrid.regex.caches.Cache.{Cache}
use Rattle.regex_automata.proofs.Spans.Cached.{alone, both_stays, cleared_first, cleared_second, still_both}
use Rattle.regex_automata.proofs.Spans.Cached.{still_twice}
use Rattle.regex_automata.proofs.Spans.Costs.{knows_both, knows_front}
use Rattle.regex_automata.proofs.Spans.ByPaths.{refusals}
use Rattle.regex_automata.proofs.Spans.NextMatches.{grown_twice}

-- a weaker property of an optional error
weaker :
    {P Q : SearchError → Type 0} (error : Option SearchError) → ((e : SearchError) → P e → Q e) → IfSome error P
    → IfSome error Q
weaker None f h = tt
weaker (Some e) f h = f e h

-- consequences of the reverse search from a forward answer
record BackFollows (p : Regex) (input : Input) (half : Half) (old new : CacheView) (error : Option SearchError) : Type
    0 where
  -- it is one pass from the answer's end to its base
  pub cost : IsCostBack p input old new
  pub grown : IsGrown p.reverse (known_of old) (known_of new)
  pub sound : IsKnown p.reverse (known_of new)
  pub learned : ClearedNothing (known_of old) (known_of new) → error ≡ None → KnowsBack p (known_of new) input half
  pub known : KnowsBack p (known_of old) input half → IsStill (known_of old) (known_of new) × IfSome error IsOfInput

back_follows :
    (p : Regex) → SearchesFollow p.reverse
    → (input : Input) (half : Half) (old new : CacheView) (error : Option SearchError)
    → IsKnown p.reverse (known_of old) → IsFound Forward p.forward input (Some half)
    → IsBackRun p input half old new error
    → BackFollows p input half old new error
back_follows p law input half old new error is found (NotMade short same none) = record {
  cost = NoPass same;
  grown = grown_same p.reverse (known_of old) (known_of new) (ap known_of same);
  sound = subst (λ (c : CacheView). IsKnown p.reverse (known_of c)) (sym same) is;
  learned = λ nothing ok long. absurd (long short);
  known = λ knows. (
    (grown_same p.reverse (known_of old) (known_of new) (ap known_of same)).idle (ap (λ (v : CacheView). v.count) same),
    subst (λ (e : Option SearchError). IfSome e IsOfInput) (sym none) tt,
  );
}
back_follows p law input half old new error is found (Made long run) = record {
  cost = OnePass half found long (f.once (λ s. yes_no s.1));
  grown = f.grown;
  sound = f.sound;
  learned = λ nothing ok other. f.learned nothing ok;
  known = λ knows. f.known (knows long);
} where
  f : SearchFollows Backward p.reverse (back input half) (known_of old) (known_of new) error
  f = law Backward (back input half) (known_of old) (known_of new) error is run

-- why the reverse search fails
back_refused :
    (p : Regex) (input : Input) (half : Half) (old new : CacheView) (error : Option SearchError)
    → IsBackRun p input half old new error → IfSome error (IsBackError p (known_of old) (known_of new) input half)
back_refused p input half old new error (NotMade short same none) =
    subst (λ (e : Option SearchError). IfSome e (IsBackError p (known_of old) (known_of new) input half)) (sym none) tt
back_refused p input half old new None (Made long run) = tt
back_refused p input half old new (Some e) (Made long run) = (long, run)

-- the error after a reverse search
of_both :
    (p : Regex) (input : Input) (half : Half) (failed error : Option SearchError) (P : SearchError → Type 0)
    → (IsStartFound p input half None → P search.NotAPair) → IfSome failed P → IsErrorOfBoth p input half failed error
    → IfSome error P
of_both p input half failed error P apart why (IsItsOwn same) =
    subst (λ (e : Option SearchError). IfSome e P) (sym same) why
of_both p input half failed error P apart why (FindsNoStart ends none is) =
    subst (λ (e : Option SearchError). IfSome e P) (sym is) (apart none)

ends_both :
    (p : Regex) (input : Input) (half : Half) (failed error : Option SearchError)
    → IsErrorOfBoth p input half failed error → error ≡ None → failed ≡ None
ends_both p input half failed error (IsItsOwn same) ok = sym same ∙ ok
ends_both p input half failed error (FindsNoStart ends none is) ok = ends

-- over a span that is done nothing is found
none_past :
    (m : Machine) (input : Input) (half : Half) → IsFound Forward m input (Some half) → input.end < input.start → ⊥
none_past m input half found past =
    let within : input.start + found.0 ≤ input.end = found.2.within in
    omega (arith, within, past)

-- the forward search fails
front_refused :
    (p : Regex) (input : Input) (old new : Cache) (error : Option SearchError)
    → IsFrontRun p input old new error → IfSome error (HasReason p old new input)
front_refused p input old new None run = tt
front_refused p input old new (Some e) run = FrontFails run.0

-- why a search for a span fails
pub span_refused :
    (p : Regex) (input : Input) (old new : Cache) (error : Option SearchError)
    → IsFrontRun p input old new error ⊎ IsBothRun p input old new error → IfSome error (HasReason p old new input)
span_refused p input old new error (inl run) = front_refused p input old new error run
span_refused p input old new error (inr b) =
    of_both p input b.half b.failed error (HasReason p old new input) (λ none. NoStart refl (b.half, b.found, none))
    (weaker b.failed (λ e h. BackFails b.half b.found h)
    (back_refused p input b.half old.reverse new.reverse b.failed b.back))
    b.told

-- consequences of a search for a span, by the consequences of the searches of each DFA
module _ (agree : AnswersAgree) (p : Regex) (front : SearchesFollow p.forward) (rear : SearchesFollow p.reverse) where
  span_follows :
      (input : Input) (old new : Cache) (error : Option SearchError) → AreKnown p old
      → IsFrontRun p input old new error ⊎ IsBothRun p input old new error → SpanFollows p input old new error
  span_follows input old new error is (inl (run, same, none)) = record {
    cost = record { passes = f.passes; front = f.cost; back = NoPass same };
    grown = (f.grown, grown_same p.reverse (known_of old.reverse) (known_of new.reverse) (ap known_of same));
    sound = (f.sound, subst (λ (c : CacheView). IsKnown p.reverse (known_of c)) (sym same) is.1);
    learned = λ nothing ok. knows_front agree p input new (f.learned nothing.0 ok) (none ok);
    known = λ knows. (
        let still = f.known knows.0 in (
          (
            still.0,
            (grown_same p.reverse (known_of old.reverse) (known_of new.reverse) (ap known_of same)).idle
                (ap (λ (v : CacheView). v.count) same),
          ),
          weaker error (λ e h. inl h) still.1,
        ));
    done = λ past. (f.done past, same);
  } where
    f : SearchFollows Forward p.forward input (known_of old.forward) (known_of new.forward) error
    f = front Forward input (known_of old.forward) (known_of new.forward) error is.0 run
  span_follows input old new error is (inr both) = record {
    cost = record { passes = f.passes; front = f.cost; back = b.cost };
    grown = (f.grown, b.grown);
    sound = (f.sound, b.sound);
    learned = λ nothing ok. knows_both agree p input new both.half (f.learned nothing.0 refl) both.found
        (b.learned nothing.1 (ends_both p input both.half both.failed error both.told ok));
    known = λ knows. (
        let second = b.known (knows.1 both.half both.found) in (
          ((f.known knows.0).0, second.0),
          of_both p input both.half both.failed error IsOfGiven (λ none. inr refl)
              (weaker both.failed (λ e h. inl h) second.1) both.told,
        ));
    done = λ past. absurd (none_past p.forward input both.half both.found past);
  } where
    f : SearchFollows Forward p.forward input (known_of old.forward) (known_of new.forward) None
    f = front Forward input (known_of old.forward) (known_of new.forward) None is.0 both.front

    b : BackFollows p input both.half old.reverse new.reverse both.failed
    b = back_follows p rear input both.half old.reverse new.reverse both.failed is.1 both.found both.back

  pub spans_follow : SpansFollow p
  spans_follow input old new error is run = span_follows input old new error is run.run

  pub nexts_follow : KnownStays p.forward → KnownStays p.reverse → NextsFollow p
  nexts_follow stays stays_back input last old new error is run = go run.run where
    go :
        (IsSpanRun p input old new error × (error ≡ None → FindsEmptyAt p input last → ⊥))
        ⊎ (FindsEmptyAt p input last
        × ((between : Cache) × IsSpanRun p input old between None
        × IsSpanRun p (from (suc input.start) input) between new error))
        → NextFollows p input last old new error
    go (inl (one, only)) = record {
      cost = OfOne f.cost;
      grown = f.grown;
      sound = f.sound;
      learned = λ nothing ok. alone p input last new (f.learned nothing ok) (only ok);
      known = λ knows. f.known knows.0;
    } where
      f : SpanFollows p input old new error
      f = spans_follow input old new error is one
    go (inr (empty, (between, first, second))) = record {
      cost = OfTwo empty between f.cost s.cost;
      grown = grown_twice p old between new f.grown s.grown;
      sound = s.sound;
      learned = λ nothing ok. (
          let cleared = cleared_second p old between new f.grown s.grown nothing in (
            both_stays p stays stays_back between new input s.grown cleared
                (f.learned (cleared_first p old between new f.grown s.grown nothing) refl),
            λ m found there. s.learned cleared ok,
          ));
      known = λ knows. (
          let still = (f.known knows.0).0 in
          let later =
          s.known (still_both p old between (from (suc input.start) input) still (knows.1 empty.0 empty.1 empty.2)) in
          (still_twice old between new still later.0, later.1));
    } where
      f : SpanFollows p input old between None
      f = spans_follow input old between None is first

      s : SpanFollows p (from (suc input.start) input) between new error
      s = spans_follow (from (suc input.start) input) between new error f.sound second

-- why searches fail, and what that excludes
pub errors_follow :
    (p : Regex) → ReportedIsRight p.forward.nfa → ReportedIsRight p.reverse.nfa → ReportedEndsAreRight p.reverse.nfa
    → StartsAreRight → BackMeetsNone → ErrorsFollow p
errors_follow p front rear ends starts law = record { spans = spans; nexts = nexts } where
  spans :
      (input : Input) (old new : Cache) (error : Option SearchError) → IsInput input → IsSpanRun p input old new error
      → IfSome error (IsRegexError p old new input)
  spans input old new error given run =
      refusals p front rear ends starts law old new input given error (span_refused p input old new error run.run)

  nexts :
      (input : Input) (last : Option ℕ) (old new : Cache) (error : Option SearchError) → IsInput input
      → IsNextRun p input last old new error → IfSome error (IsNextError p old new input last)
  nexts input last old new error given run = go run.run where
    go :
        (IsSpanRun p input old new error × (error ≡ None → FindsEmptyAt p input last → ⊥))
        ⊎ (FindsEmptyAt p input last
        × ((between : Cache) × IsSpanRun p input old between None
        × IsSpanRun p (from (suc input.start) input) between new error))
        → IfSome error (IsNextError p old new input last)
    go (inl (one, only)) = weaker error (λ e h. FailsHere h) (spans input old new error given one)
    go (inr (empty, (between, first, second))) =
        weaker error (λ e h. FailsLater empty.0 empty.1 empty.2 between h)
        (spans (from (suc input.start) input) between new error given second)
