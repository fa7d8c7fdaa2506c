-- Calls of a walk, by the number of previous calls that returned Ok.
use Rattle.std.proofs.Common.{◌≡◌, ◌∙◌, ◌+◌, ◌<◌, ◌≤◌, ℕ, suc, false, List, length, Option, None, Ok, Err, IfSome}
use Rattle.std.proofs.Common.{add-one, ap, arith}
use Rattle.std.proofs.Common.{refl, subst, sym}
use Rattle.automata_base.specs.Answers.Answers.{IsOverlapping}
use Rattle.automata_base.specs.Haystacks.Input.{Input}
use Rattle.automata_base.specs.Haystacks.Matches.{HalfMatch}
use Rattle.automata_base.specs.Nfas.Nodes.{nfa_of}
use Rattle.automata_base.specs.Paths.Paths.{KeepsCycles}
use Rattle.automata_base.specs.Paths.Selections.{Pair}
use Rattle.automata_base.specs.declared.util.search.Direction.{Direction}
use Rattle.automata_base.specs.declared.util.search.Anchored.{Anchored}
use Rattle.automata_config.specs.declared.error.SearchError.{SearchError}
use Rattle.automata_hybrid.specs.Machines.Machine.{Machine, engine}
use Rattle.automata_hybrid.specs.Searches.Contracts.{IsMemory, IsUnhindered, IsUnsupported, unsupported_error}
use Rattle.automata_hybrid.specs.Machines.StartSlots.{supports}
use Rattle.automata_hybrid.specs.Steps.Starts.{MayStart}
use Rattle.automata_hybrid.specs.Walks.Answers.{AreWalked, HasReported, HasReportedAt, ReportsNext, half_nth}
use Rattle.automata_hybrid.specs.Walks.State.{At, Ended, Fresh, Stage, Walk, fresh_walk, without_match}
use Rattle.automata_hybrid.specs.Searches.Bounds.{LiesIn}
use Rattle.automata_hybrid.specs.Walks.Answers.{MetNoQuit, WasDone}
use Rattle.automata_hybrid.proofs.Walks.CachedSets.{half_none}
use Rattle.regex_automata.specs.Spans.Contracts.{IsStep}
use Rattle.replay.specs.Caches.{HasAnswered}

not_supported :
    (m : Machine) (mode : Anchored) (behind : Option ℕ) → MayStart m mode behind → supports m mode ≡ false → ⊥
not_supported m mode behind may e = let f = may.1 in cc

-- a walk whose anchored mode is not supported has not begun
still_fresh :
    (way : Direction) (m : Machine) (input : Input) (s : Stage) (units reported k : ℕ)
    → HasReportedAt way m input s units reported k → IsUnsupported way m input → s ≡ Fresh
still_fresh way m input Fresh units reported k h u = refl
still_fresh way m input (At q) units reported k h u = absurd (not_supported m input.anchored _ h.may u.mode)
still_fresh way m input Ended units reported k h u =
    elim h.clean [
      | WasDone done ↦ (let le = u.undone in absurd (omega arith))
      | MetNoQuit may clean ↦ absurd (not_supported m input.anchored _ may u.mode)
    ]

module _ (way : Direction) (m : Machine) (input : Input) (old : Walk) (k : ℕ) (h : HasAnswered way m input old k) where
  -- a call that returns Ok
  pub step_answers :
      (new : Walk) (found : Option HalfMatch) → found ≡ new.found → ReportsNext way m input old new
      → (KeepsCycles (nfa_of m.nfa) → (j : ℕ) (pairs : List Pair) → HasReported way m input old j
      → IsOverlapping way (engine m) input pairs → new.found ≡ half_nth pairs j)
      → IfSome new.found (LiesIn m input) → (old.stage ≡ Fresh → IsUnsupported way m input → ⊥)
      → IsStep way m input k (Ok found)
  step_answers new found is reports paths within supported = record {
    pair = λ pairs all. is ∙ ((reports k h.reported).1 pairs all).0;
    paths = λ cycles pairs all. is ∙ paths cycles k pairs h.reported all;
    clean = (new, (reports k h.reported).0);
    within = subst (λ (o : Option HalfMatch). IfSome o (LiesIn m input)) (sym is) within;
    ended = λ pairs all lt. tt;
    unsupported = λ u. absurd (supported (still_fresh way m input old.stage old.units old.reported k h.reported u) u);
    free = λ f. tt;
  }

  -- the walk after a call that returned Ok
  pub answered :
      (new : Walk) → ReportsNext way m input old new → (new.stage ≡ Ended → new.found ≡ None)
      → HasAnswered way m input new (k + 1)
  answered new reports unmatched =
      subst (λ n. HasAnswered way m input new n) (sym (add-one k)) (record {
        reported = (reports k h.reported).0;
        ended = λ pairs all. (past pairs all, λ lt. ((reports k h.reported).1 pairs all).1 (omega arith));
      })
    where
      past : (pairs : List Pair) → AreWalked way m input pairs → new.stage ≡ Ended → length pairs < suc k
      past pairs all over =
          let none : half_nth pairs k ≡ None = sym ((reports k h.reported).1 pairs all).0 ∙ unmatched over in
          let few : length pairs ≤ k = half_none pairs k none in omega arith

  -- a call that fails
  pub step_refused :
      (e : SearchError)
      → (old.stage ≡ Ended → ⊥)
      → (old.stage ≡ Fresh → IsUnsupported way m input → e ≡ unsupported_error input)
      → (IsUnhindered m input → IsMemory e)
      → IsStep way m input k (Err e)
  step_refused e goes_on unsupported free = record {
    pair = tt;
    paths = λ cycles. tt;
    clean = tt;
    within = tt;
    ended = λ pairs all lt. goes_on ((h.ended pairs all).1 lt);
    unsupported = λ u. ap Err (unsupported (still_fresh way m input old.stage old.units old.reported k h.reported u) u);
    free = free;
  }

  -- a call that fails leaves the walk unchanged
  pub stayed : (new : Walk) → new ≡ without_match old → HasAnswered way m input new k
  stayed new is =
      subst (λ (w : Walk). HasAnswered way m input w k) (sym is) (record { reported = h.reported; ended = h.ended })

-- a walk that has not begun has answered no call
pub fresh_answered :
    (way : Direction) (m : Machine) (input : Input) (w : Walk) → w ≡ fresh_walk → HasAnswered way m input w 0
fresh_answered way m input w is =
    subst (λ (v : Walk). HasAnswered way m input v 0) (sym is)
    (record { reported = (refl, refl); ended = λ pairs all. (λ over. absurd (cc), λ lt. absurd (omega arith)) })
