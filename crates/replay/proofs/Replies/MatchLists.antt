-- The matches that a replay lists, and why the next one fails.
use Rattle.std.proofs.Common.{◌≡◌, ◌∙◌, ◌≤◌, ℕ, suc, arith, Bool, Result, Ok, false, List, [], Option}
use Rattle.std.proofs.Common.{Some, None, Err, ap, subst, sym}
use Rattle.automata_base.specs.Haystacks.Input.{Input}
use Rattle.automata_base.specs.Haystacks.Matches.{Match}
use Rattle.automata_base.specs.Answers.Spans.{from}
use Rattle.automata_base.specs.declared.util.search.Direction.TheVariants.{Forward}
use Rattle.automata_config.specs.declared.error.SearchError.{SearchError}
use Rattle.automata_hybrid.specs.Searches.Contracts.{IsMemory, IsUnsupported, unsupported_error}
use Rattle.regex_automata.specs.Spans.Contracts.{ReportsUnsupported}
use Rattle.regex_automata.specs.Spans.Errors.{FailsHere, FailsLater, IsFree, IsNextError}
use Rattle.regex_automata.specs.Regexes.SoundPairs.{IsSoundPair}
use Rattle.regex_automata.specs.declared.hybrid.regex.Regex.{Regex}
use Rattle.regex_automata.specs.declared.hybrid.regex.caches.Cache.{Cache}
use Rattle.regex_automata.proofs.Spans.Returned.{memory_of_sound}

-- if the anchored mode is not supported nothing is listed, and the next item is that error
pub unreported_turn :
    (p q : Regex) (input now : Input) (ended : Bool) (item : Option (Result Match SearchError)) (ms : List Match)
    → p ≡ q → now ≡ from now.start input → ended ≡ false → ReportsUnsupported p now ended item
    → (IsUnsupported Forward q.forward input → (now.start ≡ input.start) × (ms ≡ []))
    → IsUnsupported Forward q.forward input → (ms ≡ []) × (item ≡ Some (Err (unsupported_error input)))
unreported_turn p q input now ended item ms regex is going reports unreported u =
    let at = unreported u in
    let same : now ≡ input = is ∙ ap (λ n. from n input) at.0 in (
      at.1,
      subst (λ (i : Input). ReportsUnsupported q i ended item) same
          (subst (λ (r : Regex). ReportsUnsupported r now ended item) regex reports) going u,
    )

pub match_error :
    {m : Match} {e : SearchError} → ◌≡◌ {A = Option (Result Match SearchError)} (Some (Ok m)) (Some (Err e)) → ⊥
match_error h = cc

pub none_error : {e : SearchError} → ◌≡◌ {A = Option (Result Match SearchError)} None (Some (Err e)) → ⊥
none_error h = cc

pub same_error :
    {e f : SearchError} → ◌≡◌ {A = Option (Result Match SearchError)} (Some (Err e)) (Some (Err f))
    → ◌≡◌ {A = Option SearchError} (Some e) (Some f)
same_error h = cc

-- if nothing prevents a search, nothing prevents one that starts later
free_from : (p : Regex) (input : Input) (start : ℕ) → input.start ≤ start → IsFree p input → IsFree p (from start input)
free_from p input start le free = record {
  forward = λ at byte l. free.forward at byte (omega (arith, le, l));
  reverse = λ at byte l. free.reverse at byte (omega (arith, le, l));
  supported = free.supported;
  forward_clears = free.forward_clears;
  reverse_clears = free.reverse_clears;
}

-- so over a sound pair the error of the search for the next match is out of memory
pub memory_next :
    (p : Regex) (old new : Cache) (input now : Input) (last : Option ℕ) (e : SearchError) → now ≡ from now.start input
    → input.start ≤ now.start → IsNextError p old new now last e → IsSoundPair p → IsFree p input → IsMemory e
memory_next p old new input now last e is le refused sound free = next refused where
  here : IsFree p now
  here = subst (IsFree p) (sym is) (free_from p input now.start le free)

  next : IsNextError p old new now last e → IsMemory e
  next (FailsHere first) = memory_of_sound p old new now e sound here first
  next (FailsLater m found empty between later) =
      memory_of_sound p between new (from (suc now.start) now) e sound
      (free_from p now (suc now.start) (omega arith) here) later
