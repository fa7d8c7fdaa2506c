-- What searches over a sound pair find are the spans of the ordered paths.
use Rattle.std.proofs.Common.{ℕ, Bool, true, false, [], ◌∷◌, Option, Some, None, refl}
use Rattle.std.specs.Prelude.{Result, Ok, Err}
use Rattle.automata_determinize.specs.Answers.OfPasses.{ReportedEndsAreRight, ReportedIsRight}
use Rattle.automata_base.specs.Answers.Spans.{IsNextItem, IsSpan, from}
use Rattle.automata_base.specs.Haystacks.Input.{Input}
use Rattle.automata_base.specs.Haystacks.Matches.{Match}
use Rattle.automata_determinize.specs.Laws.StartIsRight.{StartsAreRight}
use Rattle.automata_base.proofs.Answers.Rising.{first_right, matches_right}
use Rattle.automata_config.specs.declared.error.SearchError.{SearchError}
use Rattle.regex_automata.specs.Regexes.SoundPairs.{forward_engine}
use Rattle.regex_automata.specs.Spans.Iteration.{GivesItem, IsNextMatch}
use Rattle.regex_automata.specs.Spans.OfPaths.{IsItemOfPaths, LoopsCollect, MatchesAreSpans}
use Rattle.regex_automata.specs.Spans.Outcomes.{FindsMatch}
use Rattle.regex_automata.specs.declared.hybrid.regex.Regex.{Regex}
use Rattle.regex_automata.proofs.Spans.ByPaths.{match_right}
use Rattle.regex_automata.proofs.Spans.Lists.{collected_right, comes_all, comes_first, comes_on, item_match, item_none}
use Rattle.regex_automata.proofs.Spans.Lists.{item_of_rest}

-- if searches find what is right, the next match is right
next_right :
    (F G : Input → Option Match → Type 0) (input : Input)
    (right : (start : ℕ) (o : Option Match) → F (from start input) o → G (from start input) o)
    (start : ℕ) (last : Option ℕ) (o : Option Match) → IsNextItem F input start last o → IsNextItem G input start last o
next_right F G input right start last None h = matches_right F G input right start last [] h
next_right F G input right start last (Some m) h = (first_right F G input right start last (m ∷ []) (h, tt)).0

pub spans_of_paths :
    (p : Regex) → ReportedIsRight p.forward.nfa → ReportedEndsAreRight p.reverse.nfa → StartsAreRight
    → MatchesAreSpans p
spans_of_paths p front ends starts sound input given =
    record {
      found = λ answer f. right input.start answer f;
      next = next;
      item = item;
      list = λ ms error f. collected_right (FindsMatch p) (IsSpan (forward_engine p)) input right ms error f;
    } where
      right :
          (start : ℕ) (o : Option Match) → FindsMatch p (from start input) o
          → IsSpan (forward_engine p) (from start input) o
      right start o f = match_right p front ends starts sound (from start input) given o f

      next :
          (last : Option ℕ) (o : Option Match) → IsNextMatch p input last o
          → IsNextItem (IsSpan (forward_engine p)) input input.start last o
      next last o f = next_right (FindsMatch p) (IsSpan (forward_engine p)) input right input.start last o f

      item :
          (input' : Input) (last last' : Option ℕ) (ended ended' : Bool) (item : Option (Result Match SearchError))
          → GivesItem p item input input' last last' ended ended'
          → IsItemOfPaths (forward_engine p) input last ended item
      item input' last last' true ended' o g = g.0
      item input' last last' false ended' None g = next last None g.0
      item input' last last' false ended' (Some (Ok m)) g = next last (Some m) g.next
      item input' last last' false ended' (Some (Err e)) g = tt

pub loops_collect : LoopsCollect
loops_collect p input =
    record {
      begin = (refl, refl);
      turn = λ ms at last m input' last' ended ended' come g.
          comes_on (FindsMatch p) input input.start None ms at last m come
          (item_of_rest (FindsMatch p) input at at last (Some m)
          (item_match p (from at input) input' last last' ended ended' m g).0);
      all = λ ms at last input' last' ended' come g.
          comes_all (FindsMatch p) input input.start None ms at last come
          (item_of_rest (FindsMatch p) input at at last None
          (item_none p (from at input) input' last last' false ended' g refl));
      first = λ ms at last e come. comes_first (FindsMatch p) input input.start None ms at last come;
    }
