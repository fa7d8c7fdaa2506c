use Rattle.std.proofs.Common.{◌≡◌, false}
use Rattle.replay.proofs.Replies.TokenLists.{Completes}
use Rattle.replay.proofs.Replies.Effects.{TokensSearch}
use Rattle.replay.proofs.tokens.take_tokens.Given as goal

abbrev pub invariant-loop-item : goal.invariant-loop-item
invariant-loop-item l = record {
  comes :
      Completes l.fn.regex.forward l.fn.input.haystack l.fn.input.end l.fn.input.start l.found.items
      l.item-iterator.offset;
  regex : l.item-iterator.regex.now ≡ l.fn.regex;
  haystack : l.item-iterator.haystack.now ≡ l.fn.input.haystack;
  end : l.item-iterator.end ≡ l.fn.input.end;
  going : l.item-iterator.failed ≡ false;
  made :
      TokensSearch l.fn.regex.forward l.fn.input.haystack l.fn.input.end l.fn.input.start l.fn.cache l.found.items
      l.item-iterator.cache.now l.item-iterator.offset;
  same_cache : l.item-iterator.cache.ghost_name ≡ l.initial.item-iterator.cache.ghost_name;
}
