-- What follows from a call of a walk, by what a cache knows.
use Rattle.std.proofs.Common.{ℕ, zero, suc, ◌≡◌, ◌∙◌, ◌+◌, ◌-◌, ◌<◌, ◌≤◌, ◌⊎◌, inl, inr, List, [], ◌∷◌, ◌++◌, length}
use Rattle.std.proofs.Common.{Bool, true, false, cond, Option, None, Some, refl, sym, ap, subst, arith}
use Rattle.automata_hybrid.proofs.Words.{after_many, after_unit, begun, behind_offset, counted, Direction, ended}
use Rattle.automata_hybrid.proofs.Words.{given_up_offset, HasReadNoQuit, Input, is_cached, is_quit, is_some, Known}
use Rattle.automata_hybrid.proofs.Words.{Machine, MayStart, offset_in, option_and_then, pass_trace, Powerset}
use Rattle.automata_hybrid.proofs.Words.{powerset_eq, quits_on, Row, row_in, SearchError, Skips, start_event}
use Rattle.automata_hybrid.proofs.Words.{start_search_error, StartError, tape_in, unit_event, UnitFails}
use Rattle.std.proofs.lemmas.Bool.{cases_lt}
use Rattle.automata_base.proofs.Paths.Orders.{none_some, some_none}
use Rattle.automata_base.specs.Paths.Paths.{next as unit_at}
use Rattle.automata_hybrid.specs.Known.Bounds.{IsKnown}
use Rattle.automata_hybrid.specs.Known.Cached.{KnowsUnit}
use Rattle.automata_hybrid.specs.Known.Effects.{EventFollows}
use Rattle.automata_hybrid.specs.Known.Growth.{ClearedNothing, HasRoom, IsGrown, IsStill}
use Rattle.automata_hybrid.specs.Known.Steps.{GivesUpOnStart, IsNotSupported, IsQuitBehind, RunsOutOnStart, StartFails}
use Rattle.automata_hybrid.specs.Known.Walks.{CallEnds, FailsAfterIt, FailsAtIt, FailsOnItsWay, FailsToGoOn}
use Rattle.automata_hybrid.specs.Known.Walks.{GivesUpOnIt, CallFailsAt, IsNotRestored, IsNotResumed, CallFails, MayGoOn}
use Rattle.automata_hybrid.specs.Known.Walks.{ReadsNone, ReadsNoQuit, ReadsSome, RunsOutOnIt, after_going_on}
use Rattle.automata_hybrid.specs.Known.Walks.{after_resume, has_its_row, with_restored_row}
use Rattle.automata_hybrid.specs.Known.WalksFollow.{CallFollows, CallsFollow, KnowsItsState, KnowsUnits, KnowsWalk}
use Rattle.automata_hybrid.specs.Searches.Contracts.{IsOfInput}
use Rattle.automata_hybrid.specs.Walks.Answers.{HasReported, HasReportedAt, HasReportedBy, IsSilent, IsUnheld}
use Rattle.automata_hybrid.specs.Walks.Answers.{ReportsNext, WalkReads, start_count}
use Rattle.automata_hybrid.specs.Walks.Cached.{IsToRead}
use Rattle.automata_hybrid.specs.Known.WalksFollow.{IsHoldError, IsInputError, IsKnownError}
use Rattle.automata_hybrid.specs.Walks.Progress.{ReadsItsUnits}
use Rattle.automata_hybrid.specs.Walks.State.{At, Ended, Fresh, Ids, Keeping, Stage, States, Walk}
use Rattle.automata_hybrid.proofs.Known.Bounds.{HasBounds, known_counted, known_moved}
use Rattle.automata_hybrid.proofs.Known.Growth.{clears_none, grown_after, grown_counted, grown_less, grown_same}
use Rattle.automata_hybrid.proofs.Known.Growth.{grown_still, grown_trans, nothing_after, nothing_first, nothing_second}
use Rattle.automata_hybrid.proofs.Known.Makes.{back_follows, back_there, event_once, events_follow, mapped}
use Rattle.automata_hybrid.proofs.Known.PassesFollow.{Leaves, UnitsFollow, event_idle, event_still, unit_leaves}
use Rattle.automata_hybrid.proofs.Known.PassesFollow.{units_follow}
use Rattle.automata_hybrid.proofs.Searches.Follows.{tape_few}
use Rattle.automata_hybrid.proofs.Searches.PassState.{false_true}
use Rattle.automata_hybrid.proofs.Steps.Steps.{no_quit_unit}
use Rattle.automata_hybrid.proofs.Walks.Calls.{clean_here, fresh_at, reported_here}
use Rattle.automata_hybrid.proofs.Walks.Follows.{at_state, next_stops, to_read}
use Rattle.automata_hybrid.proofs.Walks.Progress.{reads_some, silent_before, walk_reads_before}

-- a cache that knows a walk's state has that state's row
has_row :
    (way : Direction) (m : Machine) (c : Known) (input : Input) (s : Stage) → KnowsItsState way m c input s
    → has_its_row c s ≡ true
has_row way m c input Fresh knows = refl
has_row way m c input (At q) knows = knows
has_row way m c input Ended knows = refl

-- a state that has a row still has one among more rows
pub row_in_more :
    (rows more : List Row) (q : Powerset) → is_some (row_in rows q) ≡ true → is_some (row_in (rows ++ more) q) ≡ true
row_in_more [] more q has = absurd (false_true has)
row_in_more (x ∷ rows) more q has = go (powerset_eq q x.state) has (row_in_more rows more q) where
  go :
      (b : Bool) → is_some (cond b (Some x) (row_in rows q)) ≡ true
      → (is_some (row_in rows q) ≡ true → is_some (row_in (rows ++ more) q) ≡ true)
      → is_some (cond b (Some x) (row_in (rows ++ more) q)) ≡ true
  go true has rest = refl
  go false has rest = rest has

-- what a walk continues from stays cached until a clear
state_still :
    (way : Direction) (m : Machine) (input : Input) (s : Stage) (old new : Known) → IsGrown m old new
    → ClearedNothing old new
    → KnowsItsState way m old input s → KnowsItsState way m new input s
state_still way m input Fresh old new grown nothing knows =
    event_still m (start_event way input) old new grown nothing knows
state_still way m input (At q) old new grown nothing knows =
    let kept = grown.kept nothing in
    subst (λ (rows : List Row). is_some (row_in rows q) ≡ true) (sym kept.rows)
    (row_in_more old.rows kept.added q knows)
state_still way m input Ended old new grown nothing knows = tt

-- nothing is cleared if there is room, including room for the walk's current state
call_clears_none :
    (m : Machine) (old new : Known) (s : Stage) (n : ℕ) → IsGrown m old (counted new)
    → (has_its_row old s ≡ true → IsGrown m old new) → new.count ≤ old.count + n + start_count s → HasRoom m old (n + 1)
    → new.clears ≡ old.clears
call_clears_none m old new Fresh n whole there few room =
    clears_none m old new (n + 1) (there refl) (omega (arith, few)) room
call_clears_none m old new (At q) n whole there few room =
    clears_none m old (counted new) (n + 1) whole (omega (arith, few)) room
call_clears_none m old new Ended n whole there few room =
    clears_none m old new (n + 1) (there refl) (omega (arith, few)) room

-- one more unit
units_more :
    (way : Direction) (m : Machine) (input : Input) (from n : ℕ) (c mid new : Known)
    → after_many (pass_trace way m input) way m input from n c ≡ Some mid
    → after_unit (pass_trace way m input) way m input (from + n) mid ≡ Some new
    → after_many (pass_trace way m input) way m input from (suc n) c ≡ Some new
unfolding after_many
units_more way m input from n c mid new run here =
    ap (option_and_then (after_unit (pass_trace way m input) way m input (from + n))) run ∙ here

-- a walk was resumed
record Resumed (way : Direction) (m : Machine) (input : Input) (s : Stage) (old base : Known) : Type 0 where
  pub may : MayStart m input.anchored (tape_in way input).before
  pub sound : IsKnown m base
  pub cost : base.count ≤ old.count + start_count s
  pub grown : IsGrown m old (counted base)
  pub there : has_its_row old s ≡ true → IsGrown m old base
  pub same : KnowsItsState way m old input s → base ≡ old
  pub back : (q : Powerset) → s ≡ At q → with_restored_row m q old ≡ Some base
  pub learned : KnowsItsState way m base input s

-- a walk could not be resumed
record Unresumed (way : Direction) (m : Machine) (input : Input) (s : Stage) (old new : Known)
    (e : SearchError) : Type 0 where
  pub cost : new.count ≤ old.count + start_count s
  pub grown : IsGrown m old new
  pub sound : IsKnown m new
  pub same : KnowsItsState way m old input s → new.count ≡ old.count
  pub back : (q : Powerset) → s ≡ At q → new ≡ old
  pub known :
      (MayStart m input.anchored (tape_in way input).before → KnowsItsState way m old input s)
      → (new.count ≡ old.count) × IsOfInput e

module _ (way : Direction) (m : Machine) (input : Input) (bounds : HasBounds m) (skips : Skips m ⊎ (Skips m → ⊥))
    (w : Walk) (k : ℕ)
    (reported : HasReported way m input w k) where
  has_resumed :
      (old base : Known) → IsKnown m old → (s : Stage) → HasReportedAt way m input s w.units w.reported k
      → MayGoOn way m input s → after_resume way m input s old ≡ Some base → Resumed way m input s old base
  has_resumed old base sound Fresh at may is = record {
    may = may refl;
    sound = f.sound;
    cost = event_once m (start_event way input) old base f;
    grown = grown_less m old base f.grown;
    there = λ has. f.grown;
    same = λ knows. f.known knows;
    back = λ q is. absurd (fresh_at q is);
    learned = f.learned;
  } where
    f : EventFollows m (start_event way input) old base
    f = events_follow m bounds (start_event way input) old base sound is
  has_resumed old base sound (At q) at may is =
      let b = back_follows m q old base sound bounds at.row.cheap is in
      record {
        may = at.may;
        sound = b.sound;
        cost = omega (arith, b.counted_same);
        grown = b.grown;
        there = λ has. grown_same m old base (b.there has);
        same = λ has. b.there has;
        back = λ p at_p. subst (λ (x : Powerset). with_restored_row m x old ≡ Some base) (ap (at_state q) at_p) is;
        learned = b.has at.row.alive;
      }
  has_resumed old base sound Ended at may is = absurd (none_some is)

  -- a call has resumed its walk and begun its search
  record Began (old first : Known) : Type 0 where
    pub base : Known
    pub has : Resumed way m input w.stage old base
    pub begins : first ≡ begun (given_up_offset way input w.units) base

  began :
      (old first : Known) → IsKnown m old → MayGoOn way m input w.stage
      → after_going_on way m input w.stage w.units old ≡ Some first → Began old first
  began old first sound may goes_on =
      let parts =
      mapped (begun (given_up_offset way input w.units)) (after_resume way m input w.stage old) first goes_on in
      record {
        base = parts.0;
        has = has_resumed old parts.0 sound w.stage reported may parts.1;
        begins = parts.2;
      }

  from_base :
      (old first : Known) (b : Began old first) (n : ℕ) (mid : Known)
      → after_many (pass_trace way m input) way m input w.units n first ≡ Some mid
      → after_many (pass_trace way m input) way m input w.units n (begun (given_up_offset way input w.units) b.base)
      ≡ Some mid
  from_base old first b n mid run =
      subst (λ (c : Known). after_many (pass_trace way m input) way m input w.units n c ≡ Some mid) b.begins run

  -- the units that a call reads lie in the span
  units_within :
      (next : Walk) (n i : ℕ) → i ≡ n → next.units ≡ w.units + n → ReadsItsUnits way m input w next
      → w.units ≤ input.end - input.start + 1 → w.units + n ≤ input.end - input.start + 1
  units_within next n zero is count its l = omega (arith, is, l)
  units_within next n (suc i) is count its l =
      let one : w.units + i ≤ length (tape_in way input).bytes =
      (its.0 (w.units + i) (omega arith) (omega (arith, is, count))).0.0 in
      omega (arith, is, one, tape_few way input)

  -- it could not be resumed, and nothing has changed
  unmoved :
      (old new : Known) (e : SearchError) (s : Stage) → IsKnown m old → new ≡ old
      → ((MayStart m input.anchored (tape_in way input).before → KnowsItsState way m old input s) → IsOfInput e)
      → Unresumed way m input s old new e
  unmoved old new e s sound same of =
      let count : new.count ≡ old.count = ap (λ (c : Known). c.count) same in
      record {
        cost = omega (arith, count);
        grown = grown_same m old new same;
        sound = subst (IsKnown m) (sym same) sound;
        same = λ knows. count;
        back = λ q is. same;
        known = λ knows. (count, of knows);
      }

  not_resumed :
      (old new : Known) (e : SearchError) → IsKnown m old → (s : Stage)
      → HasReportedAt way m input s w.units w.reported k
      → IsNotResumed way m input s w.units old new e → Unresumed way m input s old new e
  not_resumed old new e sound Fresh at fails = go fails.error fails.fails fails.reported where
    failed :
        MayStart m input.anchored (tape_in way input).before → is_cached m (start_event way input) old ≡ false
        → new ≡ counted old → Unresumed way m input Fresh old new e
    failed may free same = record {
      cost = omega (arith, ap (λ (c : Known). c.count) same);
      grown = grown_counted m old new same;
      sound = subst (IsKnown m) (sym same) (known_counted m old sound);
      same = λ knows. absurd (false_true (sym free ∙ knows));
      back = λ q is. absurd (fresh_at q is);
      known = λ knows. absurd (false_true (sym free ∙ knows may));
    }

    go :
        (error : StartError) → StartFails m input.anchored (tape_in way input).before old new error
        → e ≡ start_search_error error (behind_offset way input) (offset_in way input 0)
        → Unresumed way m input Fresh old new e
    go error (IsQuitBehind byte quits is same) reported =
        unmoved old new e Fresh sound same
        (λ _. subst IsOfInput (sym
        (reported ∙ ap (λ x. start_search_error x (behind_offset way input) (offset_in way input 0)) is)) tt)
    go error (IsNotSupported clear lacks is same) reported =
        unmoved old new e Fresh sound same
        (λ _. subst IsOfInput (sym
        (reported ∙ ap (λ x. start_search_error x (behind_offset way input) (offset_in way input 0)) is)) tt)
    go error (GivesUpOnStart may free none err is same) reported = failed may free same
    go error (RunsOutOnStart may free is same) reported = failed may free same
  not_resumed old new e sound (At q) at fails = go fails where
    still : new ≡ old → (has_its_row old (At q) ≡ true → ⊥) → Unresumed way m input (At q) old new e
    still same lacks = unmoved old new e (At q) sound same (λ knows. absurd (lacks (knows at.may)))

    go : IsNotRestored m q (given_up_offset way input w.units) old new e → Unresumed way m input (At q) old new e
    go (GivesUpOnIt none is same) = still same (λ has. some_none (sym (back_there m q old has) ∙ none))
    go (RunsOutOnIt lacks room is same) =
        still same (λ has. false_true (ap (λ (o : Option Row). is_some o) (sym lacks) ∙ has))
  not_resumed old new e sound Ended at fails = absurd fails

  -- a call that resumed its walk and read at most `n` units
  module _ (old base new : Known) (r : Resumed way m input w.stage old base)
      (reads : IsToRead input w.stage w.units w.reported)
      (grown : IsGrown m base new) (sound : IsKnown m new) (n : ℕ) (few : new.count ≤ base.count + n)
      (within : w.units + n ≤ input.end - input.start + 1) where
    whole : IsGrown m old (counted new)
    whole = grown_after m old base new r.grown grown

    there : has_its_row old w.stage ≡ true → IsGrown m old new
    there has = grown_trans m old base new (r.there has) grown

    most : new.count ≤ old.count + (input.end - input.start + 1 - w.units) + start_count w.stage
    most = omega (arith, few, within, r.cost)

    base_count : KnowsItsState way m old input w.stage → base.count ≡ old.count
    base_count knows = ap (λ (c : Known). c.count) (r.same knows)

    known_then :
        {A : Type 0} → (KnowsUnits way m base input w.units k → (new.count ≡ base.count) × A)
        → KnowsWalk way m old input w
        → ((new.count ≡ old.count) × (has_its_row old w.stage ≡ true)) × A
    known_then known knows =
        let all = knows k reported reads r.may in
        let same : base ≡ old = r.same all.0 in
        let idle = known (subst (λ (c : Known). KnowsUnits way m c input w.units k) (sym same) all.1) in
        ((idle.0 ∙ ap (λ (c : Known). c.count) same, has_row way m old input w.stage all.0), idle.1)

    follows_ok :
        (keeping : Keeping) (next : Walk) → next.units ≡ w.units + n
        → (ClearedNothing base new → (j : ℕ) → HasReported way m input w j → KnowsUnits way m new input w.units j)
        → (KnowsUnits way m base input w.units k → new.count ≡ base.count)
        → CallFollows keeping way m input w next old new None
    follows_ok keeping next units learned known = record {
      rises = omega (arith, units);
      cost = omega (arith, units, few, r.cost);
      most = most;
      started = λ knows. (let c = base_count knows in (omega (arith, c, few, within), omega (arith, c, few, units)));
      roomy = λ room. call_clears_none m old new w.stage (input.end - input.start + 1 - w.units) whole there most room;
      grown = whole;
      there = there;
      restored = λ q at lacks. inr (base, r.back q at, grown);
      sound = sound;
      learned = λ nothing j t again may. (
          let after = nothing_after m old base new r.grown grown nothing in
          (state_still way m input w.stage base new grown after r.learned, learned after j t));
      known =
          λ knows. (let all = known_then {A = Unit {0}} (λ units. (known units, tt)) knows in
          ((there all.0.1).idle all.0.0, tt));
      ready = λ none. absurd (reads_some input w reads none);
    }

    follows_err :
        (keeping : Keeping) (next : Walk) (e : SearchError)
        → (KnowsUnits way m base input w.units k → (new.count ≡ base.count) × IsKnownError keeping way m input w e)
        → CallFollows keeping way m input w next old new (Some e)
    follows_err keeping next e known = record {
      rises = tt;
      cost = tt;
      most = most;
      started = λ knows. (let c = base_count knows in (omega (arith, c, few, within), tt));
      roomy = λ room. call_clears_none m old new w.stage (input.end - input.start + 1 - w.units) whole there most room;
      grown = whole;
      there = there;
      restored = λ q at lacks. inr (base, r.back q at, grown);
      sound = sound;
      learned = λ nothing. tt;
      known = λ knows. (let all = known_then known knows in ((there all.0.1).idle all.0.0, all.1));
      ready = λ none. absurd (reads_some input w reads none);
    }

  module _ (old base : Known) (r : Resumed way m input w.stage old base)
      (reads : IsToRead input w.stage w.units w.reported) where
    here : HasReportedBy way m input w.units k
    here = reported_here way m input w k skips reported reads.on reads.all_reported

    goes :
        (n : ℕ) (mid : Known)
        → after_many (pass_trace way m input) way m input w.units n (begun (given_up_offset way input w.units) base)
        ≡ Some mid
        → UnitsFollow (pass_trace way m input) way m input w.units n
        (begun (given_up_offset way input w.units) base) mid
    goes n mid run =
        units_follow (pass_trace way m input) way m input w.units bounds n
        (begun (given_up_offset way input w.units) base) mid
        (known_moved m base (begun (given_up_offset way input w.units) base).searched r.sound) run

    grows : (mid : Known) → IsGrown m (begun (given_up_offset way input w.units) base) mid → IsGrown m base mid
    grows mid grown =
        grown_trans m base (begun (given_up_offset way input w.units) base) mid
        (grown_still m base (begun (given_up_offset way input w.units) base) refl) grown

    -- the transition on each unit that is read is cached
    uses :
        (n : ℕ) → ((j : ℕ) → w.units ≤ j → j < w.units + n → WalkReads way m input j × IsSilent way m input w.units j)
        → ((j : ℕ) → j < w.units + n → HasReadNoQuit way m input (suc j)) → KnowsUnits way m base input w.units k
        → (j : ℕ) → w.units ≤ j → j < w.units + n → KnowsUnit way m base input j
    uses n each clean knows j more less = knows j more (each j more less).0 (clean j less) ((each j more less).1 k here)

    -- the units were read, and the call ended after the last of them
    call_reads :
        (keeping : Keeping) (next : Walk) (new mid : Known) (n : ℕ) → ReportsNext way m input w next
        → next.units ≡ w.units + n → ReadsItsUnits way m input w next → ReadsNoQuit way m input w.units n
        → after_many (pass_trace way m input) way m input w.units n (begun (given_up_offset way input w.units) base)
        ≡ Some mid
        → new ≡ ended (given_up_offset way input (w.units + (n - 1))) mid
        → CallFollows keeping way m input w next old new None
    call_reads keeping next new mid n reports count its clean run ends =
        follows_ok old base new r reads (grows new rest)
        (subst (IsKnown m) (sym ends)
        (known_moved m mid (ended (given_up_offset way input (w.units + (n - 1))) mid).searched g.sound))
        n (omega (arith, g.counted, same))
        (units_within next n n refl count its (omega (arith, reads.left))) keeping next count
        (λ nothing j t i more walks quits by. known j t i more walks by
        (nothing_first m (begun (given_up_offset way input w.units) base) mid new g.grown last nothing)
        (cases_lt i next.units))
        (λ knows. same ∙ g.known
        (uses n (λ j more less. its.0 j more (omega (arith, less, count)))
        (λ j less i byte before unit. clean_to i byte (omega (arith, before, less)) unit) knows))
      where
        g :
            UnitsFollow (pass_trace way m input) way m input w.units n
            (begun (given_up_offset way input w.units) base) mid
        g = goes n mid run

        last : IsGrown m mid new
        last = grown_still m mid new (subst (λ (c : Known). IsStill mid c) (sym ends) refl)

        rest : IsGrown m (begun (given_up_offset way input w.units) base) new
        rest = grown_trans m (begun (given_up_offset way input w.units) base) mid new g.grown last

        same : new.count ≡ mid.count
        same = ap (λ (c : Known). c.count) ends

        clean_to : HasReadNoQuit way m input (w.units + n)
        clean_to j byte less unit = go (cases_lt j w.units) where
          go : (j < w.units) ⊎ (w.units ≤ j) → is_quit m.quits byte ≡ false
          go (inl before) = clean_here way m input w k reported reads.on j byte before unit
          go (inr behind) =
              let place : w.units + (j - w.units) ≡ j = omega (arith, behind) in
              no_quit_unit m (unit_at (tape_in way input) j)
              (subst (λ i. quits_on m (unit_at (tape_in way input) i) ≡ false) place
              (clean (j - w.units) (omega (arith, behind, less))))
              byte unit

        known :
            (j : ℕ) → HasReported way m input w j → (i : ℕ) → w.units ≤ i → WalkReads way m input i
            → HasReportedBy way m input i j
            → ClearedNothing (begun (given_up_offset way input w.units) base) mid → (i < next.units) ⊎ (next.units ≤ i)
            → KnowsUnit way m new input i
        known j t i more walks by nothing (inl less) =
            subst (λ (c : Known). KnowsUnit way m c input i) (sym ends)
            (g.learned nothing i more (omega (arith, less, count)))
        known j t i more walks by nothing (inr past) =
            absurd (next_stops way m input skips w k reported next j (reports j t).0 its.1 i past walks by)

    -- the call failed after `n` units
    module _ (keeping : Keeping) (next : Walk) (new mid : Known) (e : SearchError) (n : ℕ)
        (walks : WalkReads way m input (w.units + n)) (clean : HasReadNoQuit way m input (w.units + n))
        (silent : IsSilent way m input w.units (w.units + n))
        (run : after_many (pass_trace way m input) way m input w.units n
        (begun (given_up_offset way input w.units) base) ≡ Some mid) where
      within_left : w.units + suc n ≤ input.end - input.start + 1
      within_left =
          let one : w.units + n ≤ length (tape_in way input).bytes = walks.0 in omega (arith, one, tape_few way input)

      each : (j : ℕ) → w.units ≤ j → j < w.units + suc n → WalkReads way m input j × IsSilent way m input w.units j
      each j more less = (
        walk_reads_before way m input j (w.units + n) (omega (arith, less)) walks,
        silent_before way m input w.units j (w.units + n) more (omega (arith, less)) silent,
      )

      clean_before : (j : ℕ) → j < w.units + n → HasReadNoQuit way m input (suc j)
      clean_before j less i byte before unit = clean i byte (omega (arith, before, less)) unit

      -- reading the next unit fails
      call_stops :
          UnitFails way m input (w.units + n) mid new e → CallFollows keeping way m input w next old new (Some e)
      call_stops fails =
          follows_err old base new r reads
          (grows new (grown_trans m (begun (given_up_offset way input w.units) base) mid new g.grown l.grown)) l.sound
          (suc n)
          (omega (arith, g.counted, l.counted)) within_left keeping next e
          (λ knows. (
          let idle : mid.count ≡ base.count =
          g.known (λ j more less. uses n (λ i a b. each i a (omega (arith, b))) clean_before knows j more less) in
          let quit =
          l.known (λ quits. event_idle m (unit_event (pass_trace way m input) way input (w.units + n)) base mid
          (grows mid g.grown) idle
          (knows (w.units + n) (omega arith) walks quits (silent k here))) in
          (quit.0 ∙ idle, IsInputError quit.1)))
        where
          g :
              UnitsFollow (pass_trace way m input) way m input w.units n
              (begun (given_up_offset way input w.units) base) mid
          g = goes n mid run

          l : Leaves way m input (w.units + n) mid new e
          l = unit_leaves way m input (w.units + n) mid new e clean g.sound fails

      -- the next unit is read, but the state after it cannot be held
      call_unheld :
          IsUnheld way m input (w.units + n) e
          → after_unit (pass_trace way m input) way m input (w.units + n) mid ≡ Some new
          → IsKnownError keeping way m input w e → CallFollows keeping way m input w next old new (Some e)
      call_unheld unheld read why =
          follows_err old base new r reads (grows new g.grown) g.sound (suc n) g.counted within_left keeping next e
          (λ knows. (
            g.known (uses (suc n) each
                (λ j less i byte before unit. upto i byte (omega (arith, before, less)) unit) knows),
            why,
          ))
        where
          g :
              UnitsFollow (pass_trace way m input) way m input w.units (suc n)
              (begun (given_up_offset way input w.units) base) new
          g =
              goes (suc n) new (units_more way m input w.units n
              (begun (given_up_offset way input w.units) base) mid new run read)

          upto : HasReadNoQuit way m input (w.units + suc n)
          upto j byte less unit = go (cases_lt j (w.units + n)) where
            go : (j < w.units + n) ⊎ (w.units + n ≤ j) → is_quit m.quits byte ≡ false
            go (inl before) = clean j byte before unit
            go (inr more) =
                let place : w.units + n ≡ j = omega (arith, less, more) in
                no_quit_unit m (unit_at (tape_in way input) (w.units + n)) unheld.clean byte
                (ap (unit_at (tape_in way input)) place ∙ unit)

  -- what a call that returns Ok leaves: the units read lie in the span, and their transitions are cached
  pub record Reads (next : Walk) (old new : Known) : Type 0 where
    pub few : w.units ≤ input.end - input.start + 1 → next.units ≤ input.end - input.start + 1
    pub learned :
        has_its_row old w.stage ≡ true → ClearedNothing old new → (j : ℕ) → w.units ≤ j → j < next.units
        → KnowsUnit way m new input j

  pub call_read :
      (next : Walk) (old new : Known) → IsKnown m old → CallEnds way m input w next old new → Reads next old new
  call_read next old new sound (ReadsNone over none same still) = record {
    few = λ l. omega (arith, l, same);
    learned = λ there nothing j more less. absurd (omega (arith, more, less, same));
  }
  call_read next old new sound (ReadsSome over c) = record {
    few = λ l. (let x = units_within next c.units c.units refl c.counted c.its l in omega (arith, x, c.counted));
    learned = λ there nothing j more less. (
        let first = nothing_second m old b.base new (b.has.there there) rest nothing in
        subst (λ (v : Known). KnowsUnit way m v input j) (sym parts.2)
        (g.learned (nothing_first m
        (begun (given_up_offset way input w.units) b.base) parts.0 new g.grown last first) j more
        (omega (arith, less, c.counted))));
  } where
    b : Began old c.begun
    b = began old c.begun sound c.may c.goes_on

    parts :
        (mid : Known) × (after_many (pass_trace way m input) way m input w.units c.units c.begun ≡ Some mid)
        × (new ≡ ended (given_up_offset way input (w.units + (c.units - 1))) mid)
    parts =
        mapped (ended (given_up_offset way input (w.units + (c.units - 1))))
        (after_many (pass_trace way m input) way m input w.units c.units c.begun) new c.run

    g :
        UnitsFollow (pass_trace way m input) way m input w.units c.units
        (begun (given_up_offset way input w.units) b.base) parts.0
    g =
        goes old b.base b.has (to_read way m input skips w k reported c.some) c.units parts.0
        (from_base old c.begun b c.units parts.0 parts.1)

    last : IsGrown m parts.0 new
    last = grown_still m parts.0 new (subst (λ (v : Known). IsStill parts.0 v) (sym parts.2) refl)

    rest : IsGrown m b.base new
    rest =
        grown_trans m b.base parts.0 new
        (grows old b.base b.has (to_read way m input skips w k reported c.some) parts.0 g.grown) last

  -- a call that returns Ok
  pub call_ended :
      (keeping : Keeping) (next : Walk) (old new : Known) → IsKnown m old → ReportsNext way m input w next
      → CallEnds way m input w next old new → CallFollows keeping way m input w next old new None
  call_ended keeping next old new sound reports (ReadsNone over none same still) =
      let count : new.count ≡ old.count = ap (λ (c : Known). c.count) still in
      record {
        rises = omega (arith, same);
        cost = omega (arith, same, count);
        most = omega (arith, count);
        started = λ _. (omega (arith, count), omega (arith, same, count));
        roomy = λ _. ap (λ (c : Known). c.clears) still;
        grown = grown_less m old new (grown_same m old new still);
        there = λ _. grown_same m old new still;
        restored = λ q at lacks. inl still;
        sound = subst (IsKnown m) (sym still) sound;
        learned = λ nothing j t ready may. absurd (reads_some input w ready none);
        known = λ _. ((grown_same m old new still).idle count, tt);
        ready = λ _. still;
      }
  call_ended keeping next old new sound reports (ReadsSome over c) =
      let b = began old c.begun sound c.may c.goes_on in
      let parts =
      mapped (ended (given_up_offset way input (w.units + (c.units - 1))))
      (after_many (pass_trace way m input) way m input w.units c.units c.begun) new c.run in
      call_reads old b.base b.has (to_read way m input skips w k reported c.some) keeping next new parts.0 c.units
      reports c.counted c.its c.clean (from_base old c.begun b c.units parts.0 parts.1) parts.2

  -- a call that returns an error
  pub call_left :
      (keeping : Keeping) (next : Walk) (old new : Known) (e : SearchError) → IsKnown m old
      → CallFails keeping way m input w old new e → CallFollows keeping way m input w next old new (Some e)
  call_left keeping next old new e sound (FailsToGoOn reads fails) =
      let r = to_read way m input skips w k reported reads in
      let u = not_resumed old new e sound w.stage reported fails in
      record {
        rises = tt;
        cost = tt;
        most = omega (arith, u.cost, r.left);
        started = λ knows. (let c = u.same knows in (omega (arith, c), tt));
        roomy = λ room.
            call_clears_none m old new w.stage (input.end - input.start + 1 - w.units) (grown_less m old new u.grown)
            (λ _. u.grown)
            (omega (arith, u.cost, r.left)) room;
        grown = grown_less m old new u.grown;
        there = λ _. u.grown;
        restored = λ q at lacks. inl (u.back q at);
        sound = u.sound;
        learned = λ nothing. tt;
        known =
            λ knows. (let x = u.known (λ may. (knows k reported r may).0) in
            (u.grown.idle x.0, IsInputError x.1));
        ready = λ none. absurd (reads none);
      }
  call_left keeping next old new e sound (FailsOnItsWay reads may first goes_on s) = go keeping s.left where
    r : IsToRead input w.stage w.units w.reported
    r = to_read way m input skips w k reported reads

    b : Began old first
    b = began old first sound may goes_on

    run :
        after_many (pass_trace way m input) way m input w.units s.units
        (begun (given_up_offset way input w.units) b.base)
        ≡ Some s.mid
    run = from_base old first b s.units s.mid s.run

    go :
        (keeping : Keeping) → CallFailsAt keeping way m input (w.units + s.units) s.mid new e
        → CallFollows keeping way m input w next old new (Some e)
    go keeping (FailsAtIt fails) =
        call_stops old b.base b.has r keeping next new s.mid e s.units s.reads s.clean s.silent run fails
    go Ids (FailsAfterIt kept unheld read) = absurd (let is : Ids ≡ States = kept in cc)
    go States (FailsAfterIt kept unheld read) =
        call_unheld old b.base b.has r States next new s.mid e s.units s.reads s.clean s.silent run unheld read
        (IsHoldError refl (w.units + s.units) (omega arith) unheld)

-- what follows from every call
pub calls_follow : (m : Machine) → HasBounds m → Skips m ⊎ (Skips m → ⊥) → CallsFollow m
calls_follow m bounds skips keeping way input walk next old new None sound (k, reported) reports run =
    call_ended way m input bounds skips walk k reported keeping next old new sound reports run
calls_follow m bounds skips keeping way input walk next old new (Some e) sound (k, reported) reports run =
    call_left way m input bounds skips walk k reported keeping next old new e sound run
