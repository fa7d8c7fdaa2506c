use Rattle.std.proofs.Common.{◌≡◌, false}
use Rattle.lgrep.proofs.Printing.{Prints}
use Rattle.lgrep.proofs.spans.SpanSearcher.push_matches.Given as goal

abbrev pub invariant-loop-found : goal.invariant-loop-found
invariant-loop-found l = record {
  shown :
      Prints l.fn.self.pattern.regex l.fn.prefix l.fn.frame l.fn.line l.fn.shown.items l.shown.items
      l.found-iterator.last;
  pattern : l.found-iterator.pattern.now ≡ l.fn.self.pattern;
  haystack : l.found-iterator.haystack.now ≡ l.fn.line;
  going : l.found-iterator.ended ≡ false;
  same_cache : l.found-iterator.cache.ghost_name ≡ l.initial.found-iterator.cache.ghost_name;
}
