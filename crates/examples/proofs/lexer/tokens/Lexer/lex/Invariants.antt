use Rattle.std.proofs.Common.{◌≡◌, ◌≤◌, false, length}
use Rattle.examples.specs.Tokens.{AreTokens}
use Rattle.examples.proofs.lexer.tokens.Lexer.lex.Given as goal

abbrev pub invariant-loop-item : goal.invariant-loop-item
invariant-loop-item l = record {
  tiling : AreTokens l.fn.self.regex.forward l.fn.text 0 l.item-iterator.offset l.tokens.items;
  within : l.item-iterator.offset ≤ length l.fn.text;
  regex : l.item-iterator.regex.now ≡ l.fn.self.regex;
  haystack : l.item-iterator.haystack.now ≡ l.fn.text;
  end : l.item-iterator.end ≡ length l.fn.text;
  going : l.item-iterator.failed ≡ false;
  same_cache : l.item-iterator.cache.ghost_name ≡ l.initial.item-iterator.cache.ghost_name;
}
