-- Caches of a regex, and those of the current one.
use Rattle.std.proofs.Common.{◌≡◌, ◌<◌, ◌≤◌, Option, None, Result, Ok, Err, IfErr, IfOk, Bool, true, false, inl, inr}
use Rattle.std.proofs.Common.{IfSome, ap, subst, sym, ◌∙◌, Some, List, slice_get}
use Rattle.std.specs.Result.{result_err}
use Rattle.automata_base.specs.Haystacks.Input.{Input}
use Rattle.automata_base.specs.Haystacks.Matches.{Match}
use Rattle.automata_base.specs.Nfas.Nodes.{nfa_of}
use Rattle.automata_base.specs.Paths.Paths.{KeepsCycles}
use Rattle.automata_base.specs.Answers.Spans.{IsMatch, IsSpan, TryFinds}
use Rattle.automata_base.specs.declared.util.search.Direction.TheVariants.{Forward}
use Rattle.automata_config.specs.declared.error.SearchError.{SearchError}
use Rattle.automata_hybrid.specs.Cache.Caches.{CacheView}
use Rattle.automata_hybrid.specs.Searches.Contracts.{IsMemory, unsupported_error}
use Rattle.automata_hybrid.specs.Searches.Passes.{NoQuitInReach, Skips, tape_in}
use Rattle.automata_hybrid.specs.Machines.StartSlots.{supports}
use Rattle.automata_hybrid.specs.Steps.Starts.{quit_behind}
use Rattle.regex_automata.specs.Spans.IsMatch.{IsNearestThere}
use Rattle.regex_automata.specs.Spans.Contracts.{IsSpanOf, IsSpanReported, IsTruthOf}
use Rattle.regex_automata.specs.Regexes.Caches.{AreCachesOf, AreFresh, AreKnown}
use Rattle.replay.specs.Caches.{AreOfCurrent}
use Rattle.replay.specs.Histories.{History}
use Rattle.automata_base.proofs.Paths.Orders.{some_inj}
use Rattle.regex_automata.specs.Spans.Errors.{IsFree, IsOfMemory, IsRegexError}
use Rattle.regex_automata.specs.Regexes.SoundPairs.{BothKeepCycles, IsSoundPair, forward_engine, reverse_engine}
use Rattle.regex_automata.specs.declared.hybrid.regex.Regex.{Regex}
use Rattle.regex_automata.specs.declared.hybrid.regex.caches.Cache.{Cache}
use Rattle.automata_config.specs.Options.{minimum_cache_clear_count_of}

-- caches of the current regex, and what they know, are caches of the history's current regex
pub of_current :
    (regexes : List Regex) (h : History) (c : Cache) (p : Regex)
    → slice_get regexes h.current ≡ Some p → AreCachesOf c p → AreKnown p c → AreOfCurrent regexes h c
of_current regexes h c p at of known = λ r is.
    subst (λ (q : Regex). AreCachesOf c q × AreKnown q c) (some_inj (sym at ∙ is)) (of, known)

-- fresh caches of a regex belong to it
pub fresh_caches : (p : Regex) (c : Cache) → AreFresh p c → AreCachesOf c p
fresh_caches p c fresh =
    (ap (λ (v : CacheView). v.store.table.of) fresh.0, ap (λ (v : CacheView). v.store.table.of) fresh.1)
