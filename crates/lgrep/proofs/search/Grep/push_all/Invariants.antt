use Rattle.std.proofs.Common.{◌≡◌, ◌++◌, ℕ, Bool, List, drop, map, take}
use Rattle.regex_hir.specs.Re.{Re}
use Rattle.lgrep.specs.Contexts.{shown_in}
use Rattle.lgrep.specs.Greps.{IsGrepFor, KeepsView}
use Rattle.lgrep.specs.Lines.{count_after, marked_line, taken_lines}
use Rattle.lgrep.specs.declared.position.Position.{Position}
use Rattle.lgrep.proofs.search.Grep.push_all.Given as goal

abbrev pub invariant-loop-line : goal.invariant-loop-line
invariant-loop-line l = record {
  show : l.self.show ≡ l.fn.self.show;
  lines : l.self.lines ≡ l.fn.self.lines;
  view : KeepsView l.fn.self.view l.self.view;
  count : l.self.count ≡ count_after l.fn.self.count (taken_lines (map marked_line (take l.line-index l.lines)));
  shown :
      (case_insensitive : Bool) (res : List Re) (rest : List ((Position × List ℕ) × Bool))
      (is : IsGrepFor case_insensitive res l.fn.self)
      → l.self.shown.items
      ++ shown_in l.fn.self.show res l.self.context (map marked_line (drop l.line-index l.lines) ++ rest)
      ≡ l.fn.self.shown.items ++ shown_in l.fn.self.show res l.fn.self.context (map marked_line l.lines ++ rest);
}
