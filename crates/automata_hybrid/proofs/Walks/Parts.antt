-- Resuming a walk: what the functions below its calls answer, and their effect on the cache.
use Rattle.std.proofs.Common.{ℕ, suc, ◌≡◌, ◌∙◌, true, false, Option, None, Some, refl, sym, ap, subst, arith}
use Rattle.automata_hybrid.proofs.Words.{Anchored, behind_offset, CacheView, Direction, Err, given_up_offset, Input}
use Rattle.automata_hybrid.proofs.Words.{Known, known_of, Leads, Machine, offset_in, Ok, option_map, Powerset}
use Rattle.automata_hybrid.proofs.Words.{progress_started, quit_behind, Result, Rows, SearchError, start_search_error}
use Rattle.automata_hybrid.proofs.Words.{StartError, state_in, StepError, supports, tape_in, with_searched, with_store}
use Rattle.automata_base.specs.declared.util.search.MatchErrorKind.TheVariants.{UnsupportedAnchored as UnsupportedMode}
use Rattle.automata_base.proofs.Paths.Orders.{none_some}
use Rattle.automata_config.specs.declared.error.SearchError.TheVariants as search
use Rattle.automata_hybrid.specs.declared.cache.handle.Handle.{Handle}
use Rattle.automata_hybrid.specs.declared.search.walk.Held.{Held}
use Rattle.automata_hybrid.specs.declared.search.walk.Held.TheVariants as held
use Rattle.automata_hybrid.specs.Known.Known as known
use Rattle.automata_hybrid.specs.Known.Steps.{GivesUpOnStart, IsNotSupported, IsQuitBehind, RunsOutOnStart}
use Rattle.automata_hybrid.specs.Known.Steps.{StartFails, StartFailsAt}
use Rattle.automata_hybrid.specs.Known.Walks.{CallEnds, FailsOnItsWay, FailsToGoOn, CallFails}
use Rattle.automata_hybrid.specs.Known.Walks.{IsNotRestored, IsNotResumed}
use Rattle.automata_hybrid.specs.Known.Walks.{ReadsNone, ReadsSome, after_going_on, after_resume, has_its_row}
use Rattle.automata_hybrid.specs.Known.Walks.{with_restored_row}
use Rattle.automata_hybrid.specs.Private.Searches.PassState.{step_error}
use Rattle.automata_hybrid.specs.Private.Steps.Starts.{IsStartResult}
use Rattle.automata_hybrid.specs.Private.Walks.Answers.{FindsNone, CallGoesOn, ReadsMore, ReportsOneMore}
use Rattle.automata_hybrid.specs.Private.Walks.Parts.{IsCallAnswer, IsCallResult, IsResumeResult}
use Rattle.automata_hybrid.specs.Private.Walks.State.{Holds, HoldsNone, IsHeldAt, IsHeldItself, keeping_of}
use Rattle.automata_hybrid.specs.Searches.Contracts.{IsUnsupported, unsupported_error}
use Rattle.automata_hybrid.specs.Walks.Answers.{HasReportedAt, IsWalkOf, MetNoQuit, ReportsNext, WasDone}
use Rattle.automata_hybrid.specs.Walks.Progress.{HasEnded, HasMore, HasNoneLeft, ReadsNoUnit}
use Rattle.automata_hybrid.specs.Walks.State.{At, Ended, Fresh, Ids, Keeping, Stage, States, Walk, without_match}
use Rattle.automata_hybrid.proofs.Known.Walks.{row_named, row_there}
use Rattle.automata_hybrid.proofs.Searches.PassState.{false_true, state_first}

-- a start in a mode that is not supported, with no quit byte before it, fails for that reason
unsupported_start :
    (m : Machine) (mode : Anchored) (behind : Option ℕ) (behind_at start_at : ℕ) (old new : Known) (e : SearchError)
    → StartFailsAt m mode behind behind_at start_at old new e → quit_behind m behind ≡ None → supports m mode ≡ false
    → e ≡ search.Match (UnsupportedMode mode)
unsupported_start m mode behind behind_at start_at old new e f clear off = f.reported ∙ go f.error f.fails where
  go :
      (error : StartError) → StartFails m mode behind old new error
      → start_search_error error behind_at start_at ≡ search.Match (UnsupportedMode mode)
  go error (IsQuitBehind byte quits is same) = absurd (none_some (sym clear ∙ quits))
  go error (IsNotSupported none lacks is same) = ap (λ x. start_search_error x behind_at start_at) is
  go error (GivesUpOnStart may unknown gives err is same) = absurd (false_true (sym off ∙ may.1))
  go error (RunsOutOnStart may unknown is same) = absurd (false_true (sym off ∙ may.1))

-- so does the call that was to begin the walk
pub unsupported_call :
    (keeping : Keeping) (way : Direction) (m : Machine) (input : Input) (w : Walk) (old new : Known) (e : SearchError)
    → w.stage ≡ Fresh → IsUnsupported way m input → CallFails keeping way m input w old new e
    → e ≡ unsupported_error input
unsupported_call keeping way m input w old new e fresh u (FailsToGoOn reads fails) =
    unsupported_start m input.anchored (tape_in way input).before (behind_offset way input) (offset_in way input 0) old
    new e
    (subst (λ (s : Stage). IsNotResumed way m input s w.units old new e) fresh fails) u.behind u.mode
unsupported_call keeping way m input w old new e fresh u (FailsOnItsWay reads may begun goes_on stopped) =
    absurd (false_true (sym u.mode ∙ (may fresh).1))

-- such a call does not return Ok
pub supported_call :
    (way : Direction) (m : Machine) (input : Input) (walk next : Walk)
    → IsWalkOf way m input walk → ReportsNext way m input walk next → IsUnsupported way m input → ⊥
supported_call way m input walk next (k, reported) reports u = go next.stage (reports k reported).0 where
  go : (s : Stage) → HasReportedAt way m input s next.units next.reported (suc k) → ⊥
  go Fresh (none, first) = omega (arith, none)
  go (At q) t = false_true (sym u.mode ∙ t.may.1)
  go Ended t = elim t.clean [
    | WasDone done ↦ omega (arith, done, u.undone)
    | MetNoQuit may clean ↦ false_true (sym u.mode ∙ may.1)
  ]

-- whether the walk had a match before makes no difference
module _ (way : Direction) (m : Machine) (input : Input) (w next : Walk) where
  on_matched : CallGoesOn (without_match w) next → CallGoesOn w next
  on_matched (FindsNone none) = FindsNone none
  on_matched (ReadsMore on more) = ReadsMore on more
  on_matched (ReportsOneMore on same more) = ReportsOneMore on same more

  answer_matched : IsCallAnswer way m input (without_match w) next → IsCallAnswer way m input w next
  answer_matched a = record { reports = a.reports; goes_on = on_matched a.goes_on }

  none_matched : ReadsNoUnit input (without_match w) → ReadsNoUnit input w
  none_matched (HasEnded over) = HasEnded over
  none_matched (HasMore q at few) = HasMore q at few
  none_matched (HasNoneLeft past) = HasNoneLeft past

  some_matched : (ReadsNoUnit input (without_match w) → ⊥) → ReadsNoUnit input w → ⊥
  some_matched reads (HasEnded over) = reads (HasEnded over)
  some_matched reads (HasMore q at few) = reads (HasMore q at few)
  some_matched reads (HasNoneLeft past) = reads (HasNoneLeft past)

  ends_matched :
      (old new : Known) → CallEnds way m input (without_match w) next old new → CallEnds way m input w next old new
  ends_matched old new (ReadsNone over none same still) = ReadsNone over (none_matched none) same still
  ends_matched old new (ReadsSome over c) =
      ReadsSome over
      (record {
        some = some_matched c.some;
        may = c.may;
        begun = c.begun;
        goes_on = c.goes_on;
        units = c.units;
        counted = c.counted;
        its = c.its;
        clean = c.clean;
        run = c.run;
      })

  leaves_matched :
      (keeping : Keeping) (old new : Known) (e : SearchError)
      → CallFails keeping way m input (without_match w) old new e → CallFails keeping way m input w old new e
  leaves_matched keeping old new e (FailsToGoOn reads fails) = FailsToGoOn (some_matched reads) fails
  leaves_matched keeping old new e (FailsOnItsWay reads may begun goes_on stopped) =
      FailsOnItsWay (some_matched reads) may begun goes_on stopped

  pub called_matched :
      (keeping : Keeping) (old new : Known) (r : Result (Unit {0}) SearchError)
      → IsCallResult keeping way m input (without_match w) next old new r
      → IsCallResult keeping way m input w next old new r
  called_matched keeping old new (Ok unit) called =
      record { answer = answer_matched called.answer; effect = ends_matched old new called.effect }
  called_matched keeping old new (Err e) called = leaves_matched keeping old new e called

-- a state that is held by itself is held whatever is cached
pub held_itself : (t : Rows) (s : Stage) (h : Held) → IsHeldItself s h → IsHeldAt t s h × (keeping_of h ≡ States)
held_itself t s (held.Row id) none = absurd none
held_itself t Fresh (held.State handle) none = (none, refl)
held_itself t (At q) (held.State handle) holds = (holds, refl)
held_itself t Ended (held.State handle) _ = (tt, refl)

pub itself_held : (t : Rows) (s : Stage) (h : Held) → IsHeldAt t s h → keeping_of h ≡ States → IsHeldItself s h
itself_held t s (held.Row id) at e = absurd (cc)
itself_held t Fresh (held.State handle) none e = none
itself_held t (At q) (held.State handle) holds e = holds
itself_held t Ended (held.State handle) _ e = tt

-- if what is held is a state by itself, so is what is held in the same way
pub shared_itself :
    (s : Stage) (h held : Held)
    → keeping_of held ≡ keeping_of h → (HoldsNone h → HoldsNone held)
    → ((q : Powerset) → IsHeldItself (At q) h → IsHeldItself (At q) held) → IsHeldItself s h → IsHeldItself s held
shared_itself s (held.Row id) h keeping none itself i = absurd i
shared_itself Fresh (held.State a) (held.State b) keeping none itself i = none i
shared_itself Fresh (held.State a) (held.Row b) keeping none itself i = absurd (cc)
shared_itself (At q) (held.State a) h keeping none itself i = itself q i
shared_itself Ended (held.State a) (held.State b) keeping none itself i = tt
shared_itself Ended (held.State a) (held.Row b) keeping none itself i = absurd (cc)

-- a state that is held by its ID has a row
pub held_there :
    (c : CacheView) (s : Stage) (h : Held) → IsHeldAt c.store.table s h → keeping_of h ≡ Ids
    → has_its_row (known_of c) s ≡ true
held_there c Fresh h at ids = refl
held_there c Ended h at ids = refl
held_there c (At q) (held.State handle) at ids = absurd (cc)
held_there c (At q) (held.Row (Some id)) at ids = row_named c.store q id at
held_there c (At q) (held.Row None) at ids = absurd at

-- a walk that has not begun continues from its start state
module _ (way : Direction) (m : Machine) (input : Input) (w : Walk) (old new : CacheView) (fresh : w.stage ≡ Fresh)
  where
    pub start_resumes :
        (r : Result ℕ SearchError) → IsWalkOf way m input w
        → IsStartResult m input.anchored (tape_in way input).before (behind_offset way input) (offset_in way input 0)
        old
        new r → IsResumeResult way m input w old new r
    start_resumes (Err e) of h =
        subst (λ (s : Stage). IsNotResumed way m input s w.units (known_of old) (known_of new) e) (sym fresh) h
    start_resumes (Ok id) (k, reported) h = record {
      leads =
          subst (λ n. Leads new.store.table id (state_in way m input n)) (sym first)
          (subst (Leads new.store.table id) (state_first way m input) h.answer.named);
      may = h.answer.may;
      resumed =
          subst (λ (s : Stage). after_resume way m input s (known_of old) ≡ Some (known_of new)) (sym fresh) h.run.does;
    } where
      first : w.units ≡ 0
      first = (subst (λ (s : Stage). HasReportedAt way m input s w.units w.reported k) fresh reported).1

-- a walk that has begun continues from the state that it holds
module _ (way : Direction) (m : Machine) (input : Input) (t : Rows) (w : Walk) (h : Held) (handle : Handle)
    (old new : Known) (fresh : w.stage ≡ Fresh → ⊥) (on : w.stage ≡ Ended → ⊥) (at : IsHeldAt t w.stage h)
    (holds : h ≡ held.State (Some handle)) where
  -- that state is in the cache then
  pub back_resumed :
      with_restored_row m handle.state old ≡ Some new → after_resume way m input w.stage old ≡ Some new
  back_resumed row = go w.stage fresh on at where
    go :
        (s : Stage) → (s ≡ Fresh → ⊥) → (s ≡ Ended → ⊥) → IsHeldAt t s h → after_resume way m input s old ≡ Some new
    go Fresh fresh on at = absurd (fresh refl)
    go Ended fresh on at = absurd (on refl)
    go (At q) fresh on at =
        subst (λ (p : Powerset). with_restored_row m p old ≡ Some new)
        (subst (λ (x : Held). Holds t x q) holds at).0 row

  -- that state was not restored
  pub back_refusal :
      (e : StepError) (r : SearchError)
      → ((place : ℕ) → IsNotRestored m handle.state place old new (step_error e place))
      → r ≡ step_error e (given_up_offset way input w.units) → IsNotResumed way m input w.stage w.units old new r
  back_refusal e r refused reported = go w.stage fresh on at where
    go :
        (s : Stage) → (s ≡ Fresh → ⊥) → (s ≡ Ended → ⊥) → IsHeldAt t s h
        → IsNotResumed way m input s w.units old new r
    go Fresh fresh on at = absurd (fresh refl)
    go Ended fresh on at = absurd (on refl)
    go (At q) fresh on at =
        subst (λ (p : Powerset). IsNotRestored m p (given_up_offset way input w.units) old new r)
        (subst (λ (x : Held). Holds t x q) holds at).0
        (subst (IsNotRestored m handle.state (given_up_offset way input w.units) old new) (sym reported)
        (refused (given_up_offset way input w.units)))

-- a walk of a set continues from the ID of its row
pub row_resumed :
    (way : Direction) (m : Machine) (input : Input) (c : CacheView) (w : Walk) (h : Held) (id : ℕ)
    → (w.stage ≡ Fresh → ⊥) → (w.stage ≡ Ended → ⊥) → IsHeldAt c.store.table w.stage h → h ≡ held.Row (Some id)
    → after_resume way m input w.stage (known_of c) ≡ Some (known_of c)
row_resumed way m input c w h id fresh on holds row = go w.stage fresh on holds where
  go :
      (s : Stage) → (s ≡ Fresh → ⊥) → (s ≡ Ended → ⊥) → IsHeldAt c.store.table s h
      → after_resume way m input s (known_of c) ≡ Some (known_of c)
  go Fresh fresh on holds = absurd (fresh refl)
  go Ended fresh on holds = absurd (on refl)
  go (At q) fresh on holds =
      row_there m q id c (subst (λ (x : Held). Holds c.store.table x q) row holds)

-- the walk continues from there, where its search begins
pub going_on :
    (way : Direction) (m : Machine) (input : Input) (w : Walk) (old : Known) (between begun : CacheView) (at : ℕ)
    → after_resume way m input w.stage old ≡ Some (known_of between) → at ≡ given_up_offset way input w.units
    → begun ≡ with_store between (with_searched between.store (progress_started between.store.searched at))
    → after_going_on way m input w.stage w.units old ≡ Some (known_of begun)
going_on way m input w old between begun at resumed place begins =
    ap (option_map (known.begun (given_up_offset way input w.units))) resumed
    ∙ ap (λ a. Some (known.begun a (known_of between))) (sym place)
    ∙ ap (λ (c : CacheView). Some (known_of c)) (sym begins)
