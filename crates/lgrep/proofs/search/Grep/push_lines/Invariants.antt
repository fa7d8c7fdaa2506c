use Rattle.std.proofs.Common.{◌≡◌, ◌++◌, Bool, List, map, take}
use Rattle.regex_hir.specs.Re.{Re}
use Rattle.lgrep.specs.Lines.{count_after, found_line}
use Rattle.lgrep.specs.Greps.{IsGrepFor, KeepsView}
use Rattle.lgrep.specs.Shown.{lines_shown}
use Rattle.lgrep.proofs.search.Grep.push_lines.Given as goal

abbrev pub invariant-loop-line : goal.invariant-loop-line
invariant-loop-line l = record {
  show : l.self.show ≡ l.fn.self.show;
  lines : l.self.lines ≡ l.fn.self.lines;
  view : KeepsView l.fn.self.view l.self.view;
  count : l.self.count ≡ count_after l.fn.self.count (map found_line (take l.line-index l.lines));
  shown :
      (case_insensitive : Bool) (res : List Re) (is : IsGrepFor case_insensitive res l.fn.self)
      → l.self.shown.items ≡ l.fn.self.shown.items
      ++ lines_shown l.fn.self.show res (map found_line (take l.line-index l.lines));
}
