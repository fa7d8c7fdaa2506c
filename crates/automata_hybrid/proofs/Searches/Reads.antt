-- Units that a search reads from an ID, by what the step on each answers and changes.
use Rattle.std.proofs.Common.{ℕ, ◌≡◌, ◌∙◌, ◌<◌, ◌≤◌, ◌^◌, true, false, Option, Some, sym, ap, subst}
use Rattle.automata_hybrid.proofs.Words.{CacheView, CannotStep, dead, ended, Err, is_quit, IsStepAnswer, known_of}
use Rattle.automata_hybrid.proofs.Words.{Leads, Machine, match_kind_of, MeetsQuit, Names, Ok, Powerset, quits_on}
use Rattle.automata_hybrid.proofs.Words.{Result, SearchError, successor}
use Rattle.std.specs.Result.{IsErrAnd}
use Rattle.automata_base.specs.declared.util.search.MatchErrorKind.TheVariants.{Quit as QuitAt}
use Rattle.automata_config.specs.declared.error.SearchError.TheVariants as search
use Rattle.automata_hybrid.specs.Cache.Ids.{HasQuitTag}
use Rattle.automata_hybrid.specs.Private.Searches.Units.{FailsToRead, FailsToStep, HasRead, HasStepped, IsReadAnswer}
use Rattle.automata_hybrid.proofs.Steps.Ids.{quits}

-- what holds of an error that a call passed on holds of its result
pub at_err :
    {A E : Type 0} (r : Result A E) (e : E) (P : Result A E → Type 0) → IsErrAnd r (λ x. x ≡ e) → P (Err e) → P r
at_err (Ok a) e P h p = absurd h
at_err (Err x) e P h p = subst (λ v. P (Err v)) (sym h) p

-- if a step leads to quit, its unit is a quit byte
pub at_quit :
    (m : Machine) (id : ℕ) (unit : Option ℕ) (byte : ℕ) (old new : CacheView) (next : ℕ) → unit ≡ Some byte
    → IsStepAnswer m id unit old new next → new.store.table.of.stride ≤ 512
    → ((p : Powerset) → Names new.store.table next p → next < 2 ^ 29) → HasQuitTag next
    → (q : Powerset) → Names old.store.table id q → is_quit m.quits byte ≡ true
at_quit m id unit byte old new next is a small low tag q named =
    quits m old.store.table new.store.table id next byte q small low tag
    (λ clean p n. subst (λ u. Leads new.store.table next (successor m.nfa (match_kind_of m.config) p u)) is
    (a.named (subst (λ u. quits_on m u ≡ false) (sym is) clean) p n)) named

-- what reading a unit returns, by what the step does
module _ (m : Machine) (id : ℕ) (unit : Option ℕ) (at : ℕ) (old : CacheView)
    (alive : (q : Powerset) → Names old.store.table id q → q ≡ dead → ⊥) where
  pub unit_read :
      (next : ℕ) (new : CacheView) → IsReadAnswer m id unit old new next → HasStepped m id unit at old new next
      → HasRead m id unit at old new next
  unit_read next new answer step = record { answer = answer; alive = alive; taken = step.taken answer.clean }

  -- the step fails
  pub unit_left :
      (quit_at : ℕ) (new : CacheView) (e : SearchError) → FailsToStep m id unit at old new e
      → FailsToRead m id unit quit_at at old new e
  unit_left quit_at new e r =
      record { alive = alive; fails = λ q named. CannotStep r.clean (r.fails q named) }

  -- the unit is a quit byte, and the search has ended there
  pub unit_quits :
      (quit_at byte next : ℕ) (mid new : CacheView) (e : SearchError) → unit ≡ Some byte → quits_on m (Some byte) ≡ true
      → e ≡ search.Match (QuitAt byte quit_at) → HasStepped m id unit at old mid next
      → known_of new ≡ ended at (known_of mid) → FailsToRead m id unit quit_at at old new e
  unit_quits quit_at byte next mid new e is quits error step last = record {
    alive = alive;
    fails = λ q named. MeetsQuit byte is quits error
        (last ∙ ap (λ (v : CacheView). ended at (known_of v))
        (step.quit (ap (quits_on m) is ∙ quits)));
  }
