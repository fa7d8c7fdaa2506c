use Rattle.std.proofs.Common.{◌∙◌, ap}
use Rattle.lgrep.specs.declared.lines.LineSearcher.{LineSearcher}
use Rattle.lgrep.proofs.Marks.{mark_counted, mark_next, marks_end}
use Rattle.lgrep.proofs.Printing.{grep_kept, view_next}
use Rattle.lgrep.proofs.search.Grep.push_all.Goals as goal

pub loop-line-preserved : goal.loop-line-preserved
loop-line-preserved c =
    let l = c.loop-line in
    let i = l.invariant in
    let p = c.in_ok-push_marked.ensures in
    record {
      show = p.same.0 ∙ i.show;
      lines = p.same.1 ∙ i.lines;
      view = view_next c.args.self.now.view l.self.view _ i.view p.view;
      count =
          mark_counted c.args.lines.now l.line-index _ c.loop-line-test.true c.args.self.now.count _ _ i.count p.count;
      shown = λ case_insensitive res rest is.
          mark_next c.args.lines.now l.line-index _ c.loop-line-test.true c.args.self.now.show l.self.show res
          l.self.context c.push_marked.new.self.context l.self.shown.items _ c.push_marked.new.self.shown.items rest
          i.show (i.shown case_insensitive res rest is)
          (λ xs. p.shown case_insensitive res xs (grep_kept case_insensitive res c.args.self.now l.self
          (ap (λ (s : LineSearcher). s.dfa) i.lines) i.show i.view is));
    }

pub returns-clause-shown : goal.returns-clause-shown
returns-clause-shown c = λ case_insensitive res rest is.
    let l = c.loop-line in
    marks_end c.args.lines.now l.line-index c.args.self.now.show res l.self.context l.self.shown.items _ rest
    c.loop-line-test.false (l.invariant.shown case_insensitive res rest is)
