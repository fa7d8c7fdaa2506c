use Rattle.std.proofs.Common.{◌∙◌, ◌++◌, ap, ap₂}
use Rattle.std.specs.Prelude.{slice_range}
use Rattle.patterns.specs.declared.pattern.Pattern.{Pattern}
use Rattle.patterns.proofs.Items.{item_match, item_none}
use Rattle.lgrep.specs.Shown.{part_shown}
use Rattle.lgrep.proofs.Printing.{match_end, match_turn}
use Rattle.lgrep.proofs.spans.SpanSearcher.push_matches.Goals as goal

pub loop-found-preserved : goal.loop-found-preserved
loop-found-preserved c =
    let i = c.loop-found.invariant in
    let s = c.loop-found.found-iterator in
    let t = c.next.new.self in
    let steps = rw c.in_ok-found.was at c.in-Some.ensures.steps in
    let item =
    item_match s.pattern.now s.cache.now t.cache.now s.haystack.now c.in_ok-found.found s.last t.last s.ended
    t.ended steps.0 in
    record {
      shown =
          match_turn c.args.self.now.pattern.regex c.args.prefix.now c.args.frame.now c.args.line.now
          c.args.shown.now.items
          s.pattern.now.regex s.haystack.now
          (ap (λ (p : Pattern). p.regex) i.pattern) i.haystack c.loop-found.shown.items s.last i.shown
          c.push_part.new.shown.items
          c.in_ok-found.found t.last item.0 item.1
          (c.in_ok-push_part.ensures
          ∙ ap (λ start. c.loop-found.shown.items ++ part_shown c.args.prefix.now c.args.frame.now start
          (slice_range c.args.line.now c.start.result c.end.result)) c.start-in-loop-found.ensures.start
          ∙ ap₂ (λ a b. c.loop-found.shown.items ++ part_shown c.args.prefix.now c.args.frame.now
          c.in_ok-found.found.start (slice_range c.args.line.now a b)) c.start.ensures.start c.end.ensures.end);
      pattern = steps.1 ∙ i.pattern;
      haystack = steps.2 ∙ i.haystack;
      going = item.2;
      same_cache = steps.3 ∙ i.same_cache;
    }

pub returns-clause-shown : goal.returns-clause-shown
returns-clause-shown c =
    let i = c.loop-found.invariant in
    let s = c.loop-found.found-iterator in
    let t = c.next.new.self in
    match_end c.args.self.now.pattern.regex c.args.prefix.now c.args.frame.now c.args.line.now c.args.shown.now.items
    s.pattern.now.regex
    s.haystack.now
    (ap (λ (p : Pattern). p.regex) i.pattern) i.haystack c.loop-found.shown.items s.last i.shown
    (item_none s.pattern.now s.cache.now t.cache.now s.haystack.now s.last t.last s.ended t.ended
    c.in-None.ensures.steps.0 i.going)
