use Rattle.std.proofs.Common.{◌∙◌, List, ap, map, refl, subst, sym}
use Rattle.meaning.specs.Patterns.{HasPart}
use Rattle.lgrep.specs.Lines.{AreMarked, IsWanted, lines, marked_line, positioned}
use Rattle.lgrep.specs.declared.lines.LineSearcher.{LineSearcher}
use Rattle.lgrep.specs.declared.lines.Marked.{Marked}
use Rattle.lgrep.proofs.Marks.{ended}
use Rattle.lgrep.proofs.Printing.{grep_kept, view_same}
use Rattle.lgrep.proofs.search.Grep.search_around.Goals as goal

pub returns : goal.returns
returns c = λ case_insensitive res is.
    let p = c.in_ok-push_all.ensures in
    let dfa = c.in_ok-marked.ensures.same in
    let self = c.args.self.now in (
      grep_kept case_insensitive res self c.push_all.new.self
          (ap (λ (s : LineSearcher). s.dfa) p.same.1 ∙ dfa) p.same.0 p.view is,
      record {
        marked = map marked_line c.as_slice.result.now;
        marks =
            subst (λ (v : List Marked). AreMarked
            (λ line. IsWanted self.show.flags.invert (HasPart res line.1)) self.show.flags.max self.count
            (positioned self.lines.next (lines self.show.flags.end c.args.text.now)) (map marked_line v))
            (sym c.as_slice.ensures.value) (c.in_ok-marked.ensures.meant case_insensitive res is.0);
        shown = λ rest. p.shown case_insensitive res rest
            (grep_kept case_insensitive res self (record self { lines = c.marked.new.self }) dfa
            refl (view_same self.view self.view refl) is);
        ended = ended self.show res c.push_all.new.self.context;
        count = p.count;
      },
    )
