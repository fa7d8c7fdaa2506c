-- The effect of a search on what its cache knows, span by span.
use Rattle.std.proofs.Common.{ℕ, suc, ◌≡◌, ◌+◌, ◌<◌, ◌≤◌, None, Some, subst, arith}
use Rattle.automata_hybrid.proofs.Words.{Direction, Finds, HaveTried, Input, IsSearchRun, Known, later, Machine}
use Rattle.automata_hybrid.proofs.Words.{PassesEnd, PassFails, SearchError, Skips, Tries}
use Rattle.automata_hybrid.specs.Known.Passes.{PassEnds}
use Rattle.automata_hybrid.proofs.Searches.Progress.{spans_before, spans_tried}

-- a search has made the passes over the spans before the one that begins `k` places later
module _ (way : Direction) (m : Machine) (input : Input) (k : ℕ) (tries : Tries (Finds way m) (Skips m) way input k)
    (old between : Known) (ended : PassesEnd way m input k old between) where
  -- it tries no other span
  pub run_before : input.end < input.start + k → IsSearchRun way m input old between None
  run_before past = record {
    passes = k;
    tried = spans_before way m input k tries;
    last = λ next. omega (arith, past, next.1);
    ends = ended;
  }

  -- it makes the pass over that span
  module _ (now : Input) (same : now ≡ later way k input) (within : input.start + k ≤ input.end) (new : Known) where
    pub spans_ended : PassEnds way m now between new → PassesEnd way m input (suc k) old new
    spans_ended pass = (between, ended, subst (λ (i : Input). PassEnds way m i between new) same pass)

    pub spans_run : PassEnds way m now between new → HaveTried way m input (suc k) old new
    spans_run pass = record { tried = spans_tried way m input k tries within; ends = spans_ended pass }

    -- that pass is the last one
    pub run_after :
        PassEnds way m now between new
        → ((j : ℕ) → suc k ≤ j → Tries (Finds way m) (Skips m) way input j → input.start + j ≤ input.end → ⊥)
        → IsSearchRun way m input old new None
    run_after pass stops = record {
      passes = suc k;
      tried = spans_tried way m input k tries within;
      last = λ next. stops (suc k) (omega arith) next.0 next.1;
      ends = spans_ended pass;
    }

    -- that pass fails
    pub run_refused : (e : SearchError) → PassFails way m now between new e → IsSearchRun way m input old new (Some e)
    run_refused e left = record {
      passes = k;
      tried = spans_tried way m input k tries within;
      mid = between;
      ends = ended;
      fails = subst (λ (i : Input). PassFails way m i between new e) same left;
    }
