-- A set that is joined with the patterns that match, over a cache whose set was emptied before.
use Rattle.std.proofs.Common.{◌≡◌, ◌∙◌, List, Bool, ap, length, subst, sym}
use Rattle.regex_automata.specs.Promises.{Input, IsWhich, JoinsReported, known_of, match_kind_of}
use Rattle.std.specs.Prelude.{OnOk, ◌==◌, ◌&&◌, not, nat_le}
use Rattle.std.specs.Result.{result_err}
use Rattle.automata_hybrid.specs.Known.Walks.{IsSetRun}
use Rattle.regex_automata.specs.declared.hybrid.regex.caches.Cache.{Cache}
use Rattle.meta.specs.Sets.{is_found_from, joined_with}
use Rattle.lazydfa_c.specs.Calls.{JoinsPatterns}
use Rattle.lazydfa_c.specs.Sets.{JoinsAfterFailure, JoinsByDfa, JoinsBySimulation, JoinsFor, SimulatesSet, can_list}
use Rattle.lazydfa_c.specs.Words.{ByPrograms, is_first_kind, is_unanchored}
use Rattle.lazydfa_c.specs.declared.object.Searcher.{Searcher}
use Rattle.lazydfa_c.specs.declared.object.Shared.{Shared}
use Rattle.lazydfa_c.specs.declared.status.Status.{Status}

-- two caches differ at most in their sets
pub record DifferInSet (r s : Searcher) : Type 0 where
  pub cache : r.cache ≡ s.cache
  pub same : r.shared ≡ s.shared
  pub pieces : r.pieces ≡ s.pieces

module _ (set : List Bool) (input : Input) (r s : Searcher) (differ : DifferInSet r s) where
  patterns_from : (t : Searcher) (status : Status) → JoinsPatterns set input r t status
      → JoinsPatterns set input s t status
  patterns_from t status j = record {
    result = j.result;
    told = j.told;
    returned =
        subst (λ (shared : Shared). IsWhich shared.pattern.value.regex.forward input set t.patterns j.result)
        differ.same j.returned;
    reported =
        subst (λ (shared : Shared).
        OnOk j.result (JoinsReported shared.pattern.value.regex.forward input set t.patterns)) differ.same j.reported;
    effect =
        subst (λ (cache : Cache).
        IsSetRun s.shared.pattern.value.regex.forward input set t.patterns (known_of cache.forward)
        (known_of t.cache.forward) (result_err j.result)) differ.cache
        (subst (λ (shared : Shared).
        IsSetRun shared.pattern.value.regex.forward input set t.patterns (known_of r.cache.forward)
        (known_of t.cache.forward) (result_err j.result)) differ.same j.effect);
    reverse = subst (λ (cache : Cache). t.cache.reverse ≡ cache.reverse) differ.cache j.reverse;
    same = j.same ∙ differ.same;
    pieces = j.pieces ∙ differ.pieces;
  }

  can_from : can_list r input ≡ can_list s input
  can_from =
      ap (λ (shared : Shared). (shared.words && (is_unanchored input.anchored
      && ((input.end == length input.haystack) && nat_le input.start input.end)))
      && (not input.earliest && not (is_first_kind (match_kind_of shared.pattern.value.regex.forward.config))))
      differ.same

  simulates_from : (t : Searcher) (status : Status) → SimulatesSet set input r t status
      → SimulatesSet set input s t status
  simulates_from t status m = record {
    told = m.told;
    meant =
        subst (λ (shared : Shared). ByPrograms shared
        (λ utf8 res. t.patterns ≡ joined_with (is_found_from utf8 input.haystack input.start) res set))
        differ.same m.meant;
    cache = m.cache ∙ differ.cache;
    same = m.same ∙ differ.same;
    pieces = m.pieces ∙ differ.pieces;
  }

  pub joins_from : (t : Searcher) (status : Status) → JoinsFor set input r t status → JoinsFor set input s t status
  joins_from t status (JoinsByDfa joins avoids) =
      JoinsByDfa (patterns_from t status joins) (λ can. avoids (can_from ∙ can))
  joins_from t status (JoinsAfterFailure can ascii m failed joins fails simulates) =
      JoinsAfterFailure (sym can_from ∙ can) ascii m failed (patterns_from m failed joins) fails simulates
  joins_from t status (JoinsBySimulation can other simulates) =
      JoinsBySimulation (sym can_from ∙ can) other (simulates_from t status simulates)
