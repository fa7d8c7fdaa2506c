use Rattle.std.proofs.Common.{◌≡◌, ◌∙◌, [], ◌∷◌, ◌++◌, None, Some, Err, Ok, ap, refl, rules, sym, subst}
use Rattle.std.proofs.Common.{List}
use Rattle.automata_base.specs.Haystacks.Matches.{Match}
use Rattle.automata_config.specs.declared.error.SearchError.TheVariants as search
use Rattle.regex_automata.specs.Tokens.{AreGiven, match_of, LacksListMemory, IsErrorThere}
use Rattle.regex_automata.specs.declared.tokens.error.TokenError.TheVariants.{Search}
use Rattle.replay.proofs.Replies.TokenLists.{at_end, completes_end, completes_on, item_turn, match_is}
use Rattle.replay.proofs.Replies.Effects.{token_made_turn, tokens_end, tokens_left, tokens_turn}
use Rattle.replay.proofs.tokens.take_tokens.Goals as goal
use Rattle.replay.specs.Caches.{EndsTokenList, FailsTokenList, LacksTokenRoom}

pub loop-item-preserved : goal.loop-item-preserved
loop-item-preserved c =
    let i = c.loop-item.invariant in
    let s = c.loop-item.item-iterator in
    let t = match_of c.in-Ok.token in
    let input = c.args.input in
    let p = c.args.regex.now in
    let steps = rw c.in-Ok.is at c.in-Some.ensures.steps in
    let same : c.new.result ≡ t =
    match_is c.new.result t c.pattern.result c.span.result.start c.span.result.end c.new.ensures c.pattern.ensures
    c.span.ensures.start c.span.ensures.end in
    let items : c.push.new.self.items ≡ c.loop-item.found.items ++ t ∷ [] =
    c.in-Ok-push.ensures.items ∙ ap (λ (m : Match). c.loop-item.found.items ++ m ∷ []) same in
    record {
      comes =
          completes_on p.forward input.haystack input.end input.start c.loop-item.found.items c.push.new.self.items
          s.offset c.next.new.self.offset t i.comes
          (item_turn s.regex.now p s.haystack.now input.haystack s.end input.end s.offset (Ok t) i.regex i.haystack
          i.end steps.0.token.item) items steps.0.place;
      regex = steps.1 ∙ i.regex;
      haystack = steps.3 ∙ i.haystack;
      end = steps.4 ∙ i.end;
      going = steps.0.after;
      made =
          tokens_turn p.forward input.haystack input.end input.start c.args.cache.now s.cache.now
          c.next.new.self.cache.now c.loop-item.found.items c.push.new.self.items s.offset c.next.new.self.offset
          c.in-Ok.token i.made
          (token_made_turn s.regex.now p s.haystack.now input.haystack s.end input.end s.offset s.cache.now
          c.next.new.self.cache.now (Some (Ok c.in-Ok.token)) i.regex i.haystack i.end (steps.5, steps.6))
          items steps.0.place;
      same_cache = steps.2 ∙ i.same_cache;
    }

pub returns-in_default-clause-given : goal.returns-in_default-clause-given
returns-in_default-clause-given c =
    let input = c.args.input in
    let m = c.args.regex.now.forward in
    subst (λ (ts : List Match). AreGiven m input.haystack input.end input.start ts (Some (Search search.OutOfMemory)))
    (sym {A = List Match} c.in_default.ensures.items)
    (completes_end m input.haystack input.end input.start c.loop-item.found.items c.loop-item.item-iterator.offset
    (Some (Search search.OutOfMemory)) c.loop-item.invariant.comes (LacksListMemory refl))

pub returns-in-Err-clause-given : goal.returns-in-Err-clause-given
returns-in-Err-clause-given c =
    let i = c.loop-item.invariant in
    let s = c.loop-item.item-iterator in
    let input = c.args.input in
    let p = c.args.regex.now in
    let e = c.in-Err.error in
    let steps = rw c.in-Err.is at c.in-Some.ensures.steps in
    completes_end p.forward input.haystack input.end input.start c.loop-item.found.items s.offset (Some e) i.comes
    (IsErrorThere (item_turn s.regex.now p s.haystack.now input.haystack s.end input.end s.offset (Err e) i.regex
    i.haystack i.end steps.0.error.0))

pub returns-clause-given : goal.returns-clause-given
returns-clause-given c =
    let i = c.loop-item.invariant in
    let s = c.loop-item.item-iterator in
    let input = c.args.input in
    completes_end c.args.regex.now.forward input.haystack input.end input.start c.loop-item.found.items s.offset None
    i.comes
    (at_end s.failed s.end input.end s.offset c.in-None.ensures.steps.0.why i.going i.end)

pub returns-in_default-clause-made : goal.returns-in_default-clause-made
returns-in_default-clause-made c =
    let steps = rw c.in-Ok.is at c.in-Some.ensures.steps in
    let name : c.next.new.self.cache.ghost_name ≡ c.into_iter-item-iterator.result.cache.ghost_name =
    steps.2 ∙ c.loop-item.invariant.same_cache in
    tokens_left c.args.regex.now.forward c.args.input.haystack c.args.input.end c.args.input.start c.args.cache.now
    c.next.new.self.cache.now _ c.push.new.self.items (Some (Search search.OutOfMemory))
    (sym (c.cache-in_default-1.given.1 (search rules)))
    (let i = c.loop-item.invariant in
    let s = c.loop-item.item-iterator in
    let input = c.args.input in
    let p = c.args.regex.now in
    let new = c.next.new.self.cache.now in
    tokens_end p.forward input.haystack input.end input.start c.args.cache.now s.cache.now new c.loop-item.found.items
    c.push.new.self.items s.offset (Some (Search search.OutOfMemory)) i.made
    (LacksTokenRoom c.in-Ok.token refl
    (token_made_turn s.regex.now p s.haystack.now input.haystack s.end input.end s.offset s.cache.now new
    (Some (Ok c.in-Ok.token)) i.regex i.haystack i.end (steps.5, steps.6)))
    c.in_default.ensures.items)

pub returns-in-Err-clause-made : goal.returns-in-Err-clause-made
returns-in-Err-clause-made c =
    let steps = rw c.in-Err.is at c.in-Some.ensures.steps in
    let name : c.next.new.self.cache.ghost_name ≡ c.into_iter-item-iterator.result.cache.ghost_name =
    steps.2 ∙ c.loop-item.invariant.same_cache in
    tokens_left c.args.regex.now.forward c.args.input.haystack c.args.input.end c.args.input.start c.args.cache.now
    c.next.new.self.cache.now _ c.loop-item.found.items (Some c.in-Err.error)
    (sym (c.in-Err.cache-in-Err-item-1-own.given.1 (search rules)))
    (let i = c.loop-item.invariant in
    let s = c.loop-item.item-iterator in
    let input = c.args.input in
    let p = c.args.regex.now in
    let e = c.in-Err.error in
    let new = c.next.new.self.cache.now in
    tokens_end p.forward input.haystack input.end input.start c.args.cache.now s.cache.now new c.loop-item.found.items
    c.loop-item.found.items s.offset (Some e) i.made
    (FailsTokenList e refl
    (token_made_turn s.regex.now p s.haystack.now input.haystack s.end input.end s.offset s.cache.now new
    (Some (Err e)) i.regex i.haystack i.end (steps.5, steps.6))) refl)

pub returns-clause-made : goal.returns-clause-made
returns-clause-made c =
    tokens_left c.args.regex.now.forward c.args.input.haystack c.args.input.end c.args.input.start c.args.cache.now
    c.next.new.self.cache.now _ c.loop-item.found.items None (search rules)
    (let i = c.loop-item.invariant in
    let s = c.loop-item.item-iterator in
    let input = c.args.input in
    let p = c.args.regex.now in
    let new = c.next.new.self.cache.now in
    tokens_end p.forward input.haystack input.end input.start c.args.cache.now s.cache.now new c.loop-item.found.items
    c.loop-item.found.items s.offset None i.made
    (EndsTokenList refl (token_made_turn s.regex.now p s.haystack.now input.haystack s.end input.end s.offset
    s.cache.now new None i.regex i.haystack i.end (c.in-None.ensures.steps.5, c.in-None.ensures.steps.6))) refl)
