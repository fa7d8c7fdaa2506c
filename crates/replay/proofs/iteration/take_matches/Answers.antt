use Rattle.std.proofs.Common.{◌≡◌, ◌∙◌, [], ◌∷◌, ◌++◌, None, Some, Ok, Err, ap, refl, rules, sym, subst, List}
use Rattle.automata_base.specs.Answers.Answers.{IsInput}
use Rattle.automata_base.specs.Haystacks.Input.{Input}
use Rattle.automata_base.specs.Haystacks.Matches.{Match}
use Rattle.automata_config.specs.declared.error.SearchError.TheVariants as search
use Rattle.replay.specs.Caches.{EndsList, NoRoom}
use Rattle.regex_automata.specs.Spans.Iteration.{IsNextMatch, input_over}
use Rattle.automata_base.specs.Answers.Spans.{AreFirst}
use Rattle.regex_automata.specs.Spans.Outcomes.{FindsMatch}
use Rattle.regex_automata.proofs.Spans.Lists.{collected, comes_first, comes_turn, input_turn, item_match, item_none}
use Rattle.regex_automata.proofs.Spans.Lists.{turn}
use Rattle.replay.proofs.Replies.MatchLists.{match_error, memory_next, none_error, same_error}
use Rattle.replay.proofs.Replies.MatchLists.{unreported_turn}
use Rattle.regex_automata.specs.declared.hybrid.regex.Regex.{Regex}
use Rattle.replay.proofs.Replies.Effects.{run_turn, searches_end, searches_turn}
use Rattle.replay.proofs.Replies.Ends.{comes_on}
use Rattle.replay.proofs.iteration.take_matches.Goals as goal

pub loop-item-preserved : goal.loop-item-preserved
loop-item-preserved c =
    let i = c.loop-item.invariant in
    let s = c.loop-item.item-iterator in
    let t = c.next.new.self in
    let now = input_over s.haystack.now s.start s.end s.anchored s.earliest in
    let rest = input_over t.haystack.now t.start t.end t.anchored t.earliest in
    let steps = rw c.in-Ok.is at c.in-Some.ensures.steps in
    let step = item_match s.regex.now now rest s.last t.last s.ended t.ended c.in-Ok.next steps.0 in
    let items : c.push.new.self.items ≡ c.loop-item.found.items ++ c.in-Ok.next ∷ [] = c.in-Ok-push.ensures.items in
    record {
      comes =
          comes_turn (FindsMatch c.args.regex.now) c.args.input c.args.input.start None c.loop-item.found.items
          c.push.new.self.items s.start t.start s.last t.last c.in-Ok.next i.comes
          (turn s.regex.now c.args.regex.now c.args.input now s.last (Some c.in-Ok.next) i.regex i.input step.0) items
          (ap (λ (v : Input). v.start) step.1) step.2;
      regex = steps.1 ∙ i.regex;
      input = input_turn c.args.input now rest c.in-Ok.next.end i.input step.1;
      unreported =
          λ u. absurd
          (match_error
          (unreported_turn s.regex.now c.args.regex.now c.args.input now s.ended (Some (Ok c.in-Ok.next))
          c.loop-item.found.items
          i.regex i.input i.going steps.4 i.unreported u).1);
      going = step.4;
      made =
          searches_turn c.args.regex.now c.args.cache.now s.cache.now t.cache.now c.args.input now rest s.last t.last
          c.loop-item.found.items c.push.new.self.items c.in-Ok.next i.made
          (run_turn s.regex.now c.args.regex.now now s.last s.ended s.cache.now t.cache.now (Some (Ok c.in-Ok.next))
          i.regex i.going steps.3) step.1 step.2 items;
      same_cache = steps.2 ∙ i.same_cache;
    }

pub returns-in_default-clause-found : goal.returns-in_default-clause-found
returns-in_default-clause-found c =
    let i = c.loop-item.invariant in
    let s = c.loop-item.item-iterator in
    subst (λ (ms : List Match). AreFirst (FindsMatch c.args.regex.now) c.args.input c.args.input.start None ms)
    (sym {A = List Match} c.in_default.ensures.items)
    (comes_first (FindsMatch c.args.regex.now) c.args.input c.args.input.start None c.loop-item.found.items s.start
    s.last i.comes)

pub returns-in_default-clause-free : goal.returns-in_default-clause-free
returns-in_default-clause-free c = λ sound free. refl

pub returns-in-Err-clause-found : goal.returns-in-Err-clause-found
returns-in-Err-clause-found c =
    let i = c.loop-item.invariant in
    let s = c.loop-item.item-iterator in
    comes_first (FindsMatch c.args.regex.now) c.args.input c.args.input.start None c.loop-item.found.items s.start
    s.last i.comes

pub returns-in-Err-clause-free : goal.returns-in-Err-clause-free
returns-in-Err-clause-free c =
    let i = c.loop-item.invariant in
    let s = c.loop-item.item-iterator in
    let t = c.next.new.self in
    let q = c.args.regex.now in
    let now = input_over s.haystack.now s.start s.end s.anchored s.earliest in
    let steps = rw c.in-Err.is at c.in-Some.ensures.steps in
    let e = c.in-Err.error in
    let within = c.find_iter-item-items.ensures.valid.within.1 in
    memory_next q s.cache.now t.cache.now c.args.input now s.last e i.input
    (comes_on q c.args.input within c.args.input.start None c.loop-item.found.items s.start s.last i.comes)
    (c.spans_follow.ensures.refusals.nexts now s.last s.cache.now t.cache.now (Some e)
    (subst IsInput (sym i.input) (c.find_iter-item-items.ensures.valid.bytes, within))
    (run_turn s.regex.now q now s.last s.ended s.cache.now t.cache.now (Some (Err e)) i.regex i.going steps.3))

pub returns-clause-found : goal.returns-clause-found
returns-clause-found c =
    let i = c.loop-item.invariant in
    let s = c.loop-item.item-iterator in
    let t = c.next.new.self in
    let now = input_over s.haystack.now s.start s.end s.anchored s.earliest in
    let rest = input_over t.haystack.now t.start t.end t.anchored t.earliest in
    collected (FindsMatch c.args.regex.now) c.args.input c.loop-item.found.items None s.start s.last i.comes
    (λ none. turn s.regex.now c.args.regex.now c.args.input now s.last None i.regex i.input
    (item_none s.regex.now now rest s.last t.last s.ended t.ended c.in-None.ensures.steps.0 i.going))

pub returns-in_default-clause-unsupported : goal.returns-in_default-clause-unsupported
returns-in_default-clause-unsupported c =
    let i = c.loop-item.invariant in
    let s = c.loop-item.item-iterator in
    let now = input_over s.haystack.now s.start s.end s.anchored s.earliest in
    let steps = rw c.in-Ok.is at c.in-Some.ensures.steps in
    λ u. absurd
    (match_error
    (unreported_turn s.regex.now c.args.regex.now c.args.input now s.ended (Some (Ok c.in-Ok.next))
    c.loop-item.found.items i.regex i.input i.going steps.4 i.unreported u).1)

pub returns-in-Err-clause-unsupported : goal.returns-in-Err-clause-unsupported
returns-in-Err-clause-unsupported c =
    let i = c.loop-item.invariant in
    let s = c.loop-item.item-iterator in
    let now = input_over s.haystack.now s.start s.end s.anchored s.earliest in
    let steps = rw c.in-Err.is at c.in-Some.ensures.steps in
    λ u. (let reported = unreported_turn s.regex.now c.args.regex.now c.args.input now s.ended
    (Some (Err c.in-Err.error)) c.loop-item.found.items i.regex i.input i.going steps.4 i.unreported u in
    (reported.0, same_error reported.1))

pub returns-clause-unsupported : goal.returns-clause-unsupported
returns-clause-unsupported c =
    let i = c.loop-item.invariant in
    let s = c.loop-item.item-iterator in
    let now = input_over s.haystack.now s.start s.end s.anchored s.earliest in
    λ u. absurd
    (none_error
    (unreported_turn s.regex.now c.args.regex.now c.args.input now s.ended (None) c.loop-item.found.items i.regex
    i.input i.going c.in-None.ensures.steps.4 i.unreported u).1)

pub returns-in_default-clause-made : goal.returns-in_default-clause-made
returns-in_default-clause-made c =
    let i = c.loop-item.invariant in
    let s = c.loop-item.item-iterator in
    let t = c.next.new.self in
    let now = input_over s.haystack.now s.start s.end s.anchored s.earliest in
    let steps = rw c.in-Ok.is at c.in-Some.ensures.steps in
    let rest = input_over t.haystack.now t.start t.end t.anchored t.earliest in
    let run =
    run_turn s.regex.now c.args.regex.now now s.last s.ended s.cache.now t.cache.now (Some (Ok c.in-Ok.next)) i.regex
    i.going steps.3 in
    let next = (item_match s.regex.now now rest s.last t.last s.ended t.ended c.in-Ok.next steps.0).0 in
    searches_end c.args.regex.now c.args.cache.now s.cache.now t.cache.now _ c.args.input now s.last
    c.loop-item.found.items _ (Some search.OutOfMemory) i.made
    (NoRoom c.in-Ok.next (subst (λ (r : Regex). IsNextMatch r now s.last (Some c.in-Ok.next)) i.regex next) run refl)
    c.in_default.ensures.items (search rules)

pub returns-in-Err-clause-made : goal.returns-in-Err-clause-made
returns-in-Err-clause-made c =
    let i = c.loop-item.invariant in
    let s = c.loop-item.item-iterator in
    let t = c.next.new.self in
    let now = input_over s.haystack.now s.start s.end s.anchored s.earliest in
    let steps = rw c.in-Err.is at c.in-Some.ensures.steps in
    let e = c.in-Err.error in
    searches_end c.args.regex.now c.args.cache.now s.cache.now t.cache.now _ c.args.input now s.last
    c.loop-item.found.items c.loop-item.found.items (Some e) i.made
    (EndsList
    (run_turn s.regex.now c.args.regex.now now s.last s.ended s.cache.now t.cache.now (Some (Err e)) i.regex i.going
    steps.3)) refl (search rules)

pub returns-clause-made : goal.returns-clause-made
returns-clause-made c =
    let i = c.loop-item.invariant in
    let s = c.loop-item.item-iterator in
    let t = c.next.new.self in
    let now = input_over s.haystack.now s.start s.end s.anchored s.earliest in
    searches_end c.args.regex.now c.args.cache.now s.cache.now t.cache.now _ c.args.input now s.last
    c.loop-item.found.items c.loop-item.found.items None i.made
    (EndsList
    (run_turn s.regex.now c.args.regex.now now s.last s.ended s.cache.now t.cache.now None i.regex i.going
    c.in-None.ensures.steps.3)) refl (search rules)
