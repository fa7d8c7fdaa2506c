use Rattle.std.proofs.Common.{◌≡◌, ◌∙◌, ap, sym, subst, map, refl, rules, tests}
use Rattle.std.specs.Prelude.{◌==◌}
use Rattle.std.proofs.lemmas.Iterator.Splits.{YieldsList-from_slice_split}
use Rattle.meaning.specs.Patterns.{HasPart}
use Rattle.lgrep.specs.Lines.{AreMarked, IsSearcherFor, IsWanted, marked_line, position_after_all, positioned, starts}
use Rattle.lgrep.specs.declared.lines.Marked.{Marked}
use Rattle.lgrep.proofs.Numbers.{counted_mark, gone, marked, position_turn}
use Rattle.lgrep.proofs.lines.LineSearcher.marked.Goals as goal

pub loop-bytes-init : goal.loop-bytes-init
loop-bytes-init c = record {
  same = refl;
  next = refl;
  counted = rw c.new-marked.ensures.items refl;
  meant = λ insensitive res is. rw c.new-marked.ensures.items starts;
}

pub loop-bytes-preserved : goal.loop-bytes-preserved
loop-bytes-preserved c =
    let i = c.loop-bytes.invariant in
    let line = c.in-Some.bytes in
    let n = c.args.self.now.next in
    let taken = c.in_ok-is_taken in
    let own : Marked =
    record { line = record { position = c.loop-bytes.self.next; bytes = line }; is_taken = taken.is_taken } in
    record {
      same = taken.ensures.same ∙ i.same;
      next =
          position_turn n c.loop-bytes.yielded line c.loop-bytes.self.next _ i.next
          (taken.ensures.next ∙ c.after-self.ensures);
      counted =
          counted_mark c.loop-bytes.marked.items _ own c.args.count c.loop-bytes.count _ c.in_ok-push.ensures.items
          i.counted c.counted-count.ensures;
      meant =
          λ insensitive res is. marked n c.loop-bytes.yielded line
          (λ l. IsWanted c.args.flags.now.invert (HasPart res l))
          c.args.flags.now.max c.args.count c.loop-bytes.count c.loop-bytes.marked.items _ own
          (i.meant insensitive res is) i.counted
          (taken.ensures.meant insensitive res (subst (λ d. IsSearcherFor insensitive res d) (sym i.same) is))
          c.in_ok-push.ensures.items refl i.next;
    }

pub returns-clause-next : goal.returns-clause-next
returns-clause-next c =
    let made : c.into_iter-bytes-iterator.result ≡ c.split-bytes-items.result = cc in
    let all = gone _ _ _ c.loop-bytes.yielded (rw made at c.loop-bytes.yielded_by) c.in-None.is c.next.ensures.steps
    (YieldsList-from_slice_split _ (λ byte. byte == c.args.end) c.args.text.now c.split-bytes-items.ensures.rest
    c.split-bytes-items.ensures.done c.split-bytes-items.ensures.closure (λ x r q k. search (rules, tests))) in
    c.loop-bytes.invariant.next ∙ ap (position_after_all c.args.self.now.next) all

pub returns-clause-meant : goal.returns-clause-meant
returns-clause-meant c = λ insensitive res is.
    let made : c.into_iter-bytes-iterator.result ≡ c.split-bytes-items.result = cc in
    let all = gone _ _ _ c.loop-bytes.yielded (rw made at c.loop-bytes.yielded_by) c.in-None.is c.next.ensures.steps
    (YieldsList-from_slice_split _ (λ byte. byte == c.args.end) c.args.text.now c.split-bytes-items.ensures.rest
    c.split-bytes-items.ensures.done c.split-bytes-items.ensures.closure (λ x r q k. search (rules, tests))) in
    subst (λ v. AreMarked (λ line. IsWanted c.args.flags.now.invert (HasPart res line.1)) c.args.flags.now.max
    c.args.count (positioned c.args.self.now.next v) (map marked_line c.loop-bytes.marked.items)) all
    (c.loop-bytes.invariant.meant insensitive res is)
