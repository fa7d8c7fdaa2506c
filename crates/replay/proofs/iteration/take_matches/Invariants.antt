use Rattle.std.proofs.Common.{◌≡◌, [], None, false}
use Rattle.automata_base.specs.Answers.Spans.{from}
use Rattle.automata_hybrid.specs.Searches.Contracts.{IsUnsupported}
use Rattle.regex_automata.specs.Spans.Iteration.{input_over}
use Rattle.automata_base.specs.declared.util.search.Direction.TheVariants.{Forward}
use Rattle.regex_automata.specs.Spans.Outcomes.{FindsMatch}
use Rattle.regex_automata.specs.Spans.Iteration.{ComesTo}
use Rattle.replay.proofs.Replies.Effects.{Searches}
use Rattle.replay.proofs.iteration.take_matches.Given as goal

abbrev pub invariant-loop-item : goal.invariant-loop-item
invariant-loop-item l = record {
  comes :
      ComesTo (FindsMatch l.fn.regex) l.fn.input l.fn.input.start None l.found.items l.item-iterator.start
      l.item-iterator.last;
  regex : l.item-iterator.regex.now ≡ l.fn.regex;
  input :
      input_over l.item-iterator.haystack.now l.item-iterator.start l.item-iterator.end l.item-iterator.anchored
      l.item-iterator.earliest ≡ from l.item-iterator.start l.fn.input;
  unreported :
      IsUnsupported Forward l.fn.regex.forward l.fn.input → (l.item-iterator.start ≡ l.fn.input.start)
      × (l.found.items ≡ []);
  going : l.item-iterator.ended ≡ false;
  made :
      Searches l.fn.regex l.fn.cache l.fn.input l.found.items l.item-iterator.cache.now
      (input_over l.item-iterator.haystack.now l.item-iterator.start l.item-iterator.end l.item-iterator.anchored
      l.item-iterator.earliest) l.item-iterator.last;
  same_cache : l.item-iterator.cache.ghost_name ≡ l.initial.item-iterator.cache.ghost_name;
}
