-- The list of the patterns of a set, and what walks report.
use Rattle.std.proofs.Common.{◌≡◌, ◌∙◌, ◌<◌, ◌≤◌, ◌⊎◌, ℕ, zero, suc, Bool, true, false, List, [], ◌∷◌, Option, Some}
use Rattle.std.proofs.Common.{None}
use Rattle.std.proofs.Common.{Result, Ok, Err, IfErr, OnOk, IfSome, arith, inl, inr, length, refl, subst, sym, ap}
use Rattle.std.specs.Prelude.{IsOk}
use Rattle.std.proofs.lemmas.List.{length-replicate}
use Rattle.std.specs.Result.{result_err}
use Rattle.automata_base.specs.Answers.Answers.{ArePatterns}
use Rattle.automata_base.specs.Haystacks.Input.{Input}
use Rattle.automata_base.specs.Haystacks.PatternSet.{members, members_from}
use Rattle.automata_base.specs.Paths.Selections.{Pair}
use Rattle.automata_base.specs.declared.util.search.Direction.TheVariants.{Forward}
use Rattle.automata_config.specs.declared.error.SearchError.{SearchError}
use Rattle.automata_config.specs.declared.error.SearchError.TheVariants as search
use Rattle.automata_hybrid.specs.Machines.Machine.{Machine}
use Rattle.automata_hybrid.specs.Searches.Contracts.{IsMemory}
use Rattle.automata_hybrid.specs.Known.Known.{Known}
use Rattle.automata_hybrid.specs.Known.Walks.{SetEnds, HaveCalled, IsSetRun, NoCall, OneMore}
use Rattle.automata_hybrid.specs.Walks.Progress.{IsOpenAfter}
use Rattle.automata_hybrid.specs.Walks.Answers.{HasReported}
use Rattle.automata_hybrid.specs.Walks.State.{Walk}
use Rattle.automata_hybrid.proofs.Searches.PassState.{false_true}
use Rattle.automata_base.proofs.Paths.Orders.{some_none}
use Rattle.regex_automata.specs.Spans.Contracts.{AreRising, ArePatternsUpto, HasReportedSet, empty_set}
use Rattle.std.proofs.lemmas.Bool.{cases_lt}

-- a list that rises from a number rises from a lower one
rising_from : (low k : ℕ) (ks : List ℕ) → low ≤ k → AreRising k ks → AreRising low ks
rising_from low k [] le all = tt
rising_from low k (j ∷ ks) le all = let at = all.0 in (omega arith, all.1)

members_rise_from : (k : ℕ) (set : List Bool) → AreRising k (members_from k set)
members_rise_from k [] = tt
members_rise_from k (true ∷ rest) = (omega arith, members_rise_from (suc k) rest)
members_rise_from k (false ∷ rest) =
    rising_from k (suc k) (members_from (suc k) rest) (omega arith) (members_rise_from (suc k) rest)

pub members_rise : (set : List Bool) (found : List ℕ) → found ≡ members set → AreRising 0 found
members_rise set found is = subst (λ (ks : List ℕ). AreRising 0 ks) (sym is) (members_rise_from 0 set)

-- a fresh set joined with the patterns that a walk reported
pub patterns_reported :
    (P : List Pair → Type 0) (input : Input) (capacity : ℕ) (old new : List Bool) (found : List ℕ)
    → old ≡ empty_set capacity → members old ≡ [] → found ≡ members new
    → ArePatterns P input (length old) (members old) (members new) → ArePatterns P input capacity [] found
patterns_reported P input capacity old new found fresh none is reported =
    subst (λ (ks : List ℕ). ArePatterns P input capacity [] ks) (sym is)
    (subst (λ (ks : List ℕ). ArePatterns P input capacity ks (members new)) none
    (subst (λ n. ArePatterns P input n (members old) (members new)) (ap length fresh ∙ length-replicate capacity false)
    reported))

-- if a call returned no error, what holds of an Ok result holds
pub reported_where :
    {E : Type 0} (r : Result (Unit {0}) E) (P : Type 0) → OnOk r P → result_err r ≡ None → P
reported_where (Ok x) P h none = h
reported_where (Err e) P h none = absurd (some_none none)

pub memory_where : (r : Result (Unit {0}) SearchError) → IfErr r IsMemory → IfSome (result_err r) IsMemory
memory_where (Ok x) h = h
memory_where (Err e) h = h

-- a property that holds below a number and at it holds up to it
up_to : (P : ℕ → Type 0) (n : ℕ) → ((k : ℕ) → k < n → P k) → P n → (k : ℕ) → k < suc n → P k
up_to P n below here k l = go (cases_lt k n) where
  go : (k < n) ⊎ (n ≤ k) → P k
  go (inl less) = below k less
  go (inr most) = let same : n ≡ k = omega (arith, l, most) in subst P same here

-- the calls that the walk of a set has made have reported as many pairs, each while the set could take more
called_reported :
    (m : Machine) (input : Input) (set : List Bool) (calls : ℕ) (old : Known) (walk : Walk) (new : Known)
    → HaveCalled m input set old calls walk new
    → HasReported Forward m input walk calls × ((k : ℕ) → k < calls → IsOpenAfter m input set k)
called_reported m input set zero old walk new (NoCall walk1 new1 fresh same) =
    (subst (λ (w : Walk). HasReported Forward m input w 0) (sym fresh) (refl, refl), λ k l. absurd (omega (arith, l)))
called_reported m input set (suc calls) old walk new
    (OneMore calls1 before walk1 mid new1 called is_open there reports ended) =
    let reported = called_reported m input set calls old before mid called in
    ((reports calls reported.0).0, up_to (IsOpenAfter m input set) calls reported.1 is_open)

pub reported_set :
    (m : Machine) (input : Input) (set : List Bool) (old new : Known) → SetEnds m input set old new
    → HasReportedSet m input set
reported_set m input set old new s =
    let reported = called_reported m input set s.calls old s.walk new s.called in
    record { calls = s.calls; walk = s.walk; reported = reported.0; on = reported.1; last = s.last }

-- the run of a search for a set that returned no error
pub run_ended :
    (m : Machine) (input : Input) (set joined : List Bool) (old new : Known) (error : Option SearchError) → error ≡ None
    → IsSetRun m input set joined old new error → SetEnds m input set old new
run_ended m input set joined old new None none run = run
run_ended m input set joined old new (Some e) none run = absurd (some_none none)

-- a call that returned Ok has no error
pub none_where : (r : Result (Unit {0}) SearchError) → IsOk r → IfSome (result_err r) IsMemory
none_where (Ok x) ok = tt
none_where (Err e) ok = absurd (false_true ok)

-- if there is no memory for the set or the list
pub no_patterns :
    (m : Machine) (input : Input) (capacity : ℕ) (found : List ℕ) → found ≡ []
    → ArePatternsUpto m input capacity found (Some search.OutOfMemory)
no_patterns m input capacity found none = record {
  rise = subst (λ (ks : List ℕ). AreRising 0 ks) (sym none) tt;
  paths = λ cycles e. absurd (some_none e);
  unsupported = λ u. (none, inr refl);
  free = λ f. refl;
  done = λ past. (none, refl);
}
