-- What calls return, whatever the cache, from their clauses.
use Rattle.std.proofs.Common.{◌≡◌, ◌<◌, ◌≤◌, Option, None, Result, Ok, Err, IfErr, IfOk, Bool, true, false, inl, inr}
use Rattle.std.proofs.Common.{IfSome, ap, subst, sym, ◌∙◌, Some, List, slice_get}
use Rattle.std.specs.Result.{result_err}
use Rattle.automata_base.specs.Haystacks.Input.{Input}
use Rattle.automata_base.specs.Haystacks.Matches.{Match}
use Rattle.automata_base.specs.Nfas.Nodes.{nfa_of}
use Rattle.automata_base.specs.Paths.Paths.{KeepsCycles}
use Rattle.automata_base.specs.Answers.Spans.{IsMatch, IsSpan, TryFinds}
use Rattle.automata_base.specs.declared.util.search.Direction.TheVariants.{Forward}
use Rattle.automata_config.specs.declared.error.SearchError.{SearchError}
use Rattle.automata_hybrid.specs.Cache.Caches.{CacheView}
use Rattle.automata_hybrid.specs.Searches.Contracts.{IsMemory, unsupported_error}
use Rattle.automata_hybrid.specs.Searches.Passes.{NoQuitInReach, Skips, tape_in}
use Rattle.automata_hybrid.specs.Machines.StartSlots.{supports}
use Rattle.automata_hybrid.specs.Steps.Starts.{quit_behind}
use Rattle.regex_automata.specs.Spans.IsMatch.{IsNearestThere}
use Rattle.regex_automata.specs.Spans.Contracts.{IsSpanOf, IsSpanReported, IsTruthOf}
use Rattle.regex_automata.specs.Regexes.Caches.{AreCachesOf, AreFresh, AreKnown}
use Rattle.automata_base.proofs.Paths.Orders.{some_inj}
use Rattle.regex_automata.specs.Spans.Errors.{IsFree, IsOfMemory, IsRegexError}
use Rattle.regex_automata.specs.Regexes.SoundPairs.{BothKeepCycles, IsSoundPair, forward_engine, reverse_engine}
use Rattle.regex_automata.specs.declared.hybrid.regex.Regex.{Regex}
use Rattle.regex_automata.specs.declared.hybrid.regex.caches.Cache.{Cache}
use Rattle.automata_config.specs.Options.{minimum_cache_clear_count_of}

pub memory_of_sound :
    (p : Regex) (old new : Cache) (input : Input) (e : SearchError)
    → IsSoundPair p → IsFree p input → IsRegexError p old new input e → IsMemory e
memory_of_sound p old new input e sound free h = go (h.free free) where
  go : IsOfMemory e → IsMemory e
  go (inl memory) = memory
  go (inr apart) = absurd (h.sound sound apart)

refused_free :
    {T : Type 0} (r : Result T SearchError) (p : Regex) (old new : Cache) (input : Input)
    → IfSome (result_err r) (IsRegexError p old new input) → IsFree p input → IfErr r IsOfMemory
refused_free (Ok x) p old new input h free = tt
refused_free (Err e) p old new input h free = h.free free

refused_sound :
    {T : Type 0} (r : Result T SearchError) (p : Regex) (old new : Cache) (input : Input)
    → IfSome (result_err r) (IsRegexError p old new input) → IsSoundPair p → IsFree p input → IfErr r IsMemory
refused_sound (Ok x) p old new input h sound free = tt
refused_sound (Err e) p old new input h sound free = memory_of_sound p old new input e sound free h

-- a search for a span
pub span_returned :
    (p : Regex) (input : Input) (r : Result (Option Match) SearchError) (old new : Cache)
    → IsSpanReported p input r
    → (BothKeepCycles p → IfOk r (TryFinds (forward_engine p) (reverse_engine p) input))
    → (IsSoundPair p → IfOk r (IsSpan (forward_engine p) input))
    → IfSome (result_err r) (IsRegexError p old new input)
    → IsSpanOf p input r
span_returned p input r old new reported answer span errors = record {
  answer = answer;
  span = span;
  within = reported.within;
  unsupported = reported.unsupported;
  free = refused_free r p old new input errors;
  paired = refused_sound r p old new input errors;
  done = reported.done;
}

-- a search for whether there is a match
pub truth_returned :
    (p : Regex) (input : Input) (r : Result Bool SearchError)
    → (KeepsCycles (nfa_of p.forward.nfa) → IfOk r (IsMatch (forward_engine p) input))
    → ((Skips p.forward → ⊥) → IfOk r (IsNearestThere p.forward input))
    → (input.start ≤ input.end → quit_behind p.forward (tape_in Forward input).before ≡ None
    → supports p.forward input.anchored ≡ false → r ≡ Err (unsupported_error input))
    → (NoQuitInReach p.forward input → supports p.forward input.anchored ≡ true
    → minimum_cache_clear_count_of p.forward.config ≡ None
    → IfErr r IsMemory)
    → (input.end < input.start → r ≡ Ok false)
    → IsTruthOf p input r
truth_returned p input r answer nearest unsupported answers done = record {
  answer = answer;
  nearest = nearest;
  unsupported = λ u. unsupported u.undone u.behind u.mode;
  free = λ f. answers f.reach f.supported f.clears;
  done = done;
}
