use Rattle.std.proofs.Common.{◌∙◌, ap}
use Rattle.lgrep.specs.declared.lines.LineSearcher.{LineSearcher}
use Rattle.lgrep.proofs.Printing.{count_next, grep_kept, line_next, view_next}
use Rattle.lgrep.proofs.search.Grep.push_lines.Goals as goal

pub loop-line-preserved : goal.loop-line-preserved
loop-line-preserved c =
    let i = c.loop-line.invariant in
    let p = c.in_ok-push_line.ensures in
    record {
      show = p.same.0 ∙ i.show;
      lines = p.same.1 ∙ i.lines;
      view = view_next c.args.self.now.view c.loop-line.self.view _ i.view p.view;
      count =
          count_next c.args.lines.now c.loop-line.line-index c.loop-line-test.true c.args.self.now.count _ _ i.count
          p.count;
      shown = λ case_insensitive res is.
          line_next c.args.lines.now c.loop-line.line-index _ c.loop-line-test.true c.loop-line.self.show
          c.args.self.now.show res
          c.args.self.now.shown.items _ _ i.show (i.shown case_insensitive res is)
          (p.shown case_insensitive res (grep_kept case_insensitive res c.args.self.now c.loop-line.self
          (ap (λ (s : LineSearcher). s.dfa) i.lines) i.show i.view is));
    }
