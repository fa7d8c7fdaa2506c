use Rattle.std.proofs.Common.{◌≡◌, Bool, List, map}
use Rattle.regex_hir.specs.Re.{Re}
use Rattle.meaning.specs.Patterns.{HasPart}
use Rattle.lgrep.specs.Lines.{AreMarked, IsSearcherFor, IsWanted, count_after, marked_line, position_after_all}
use Rattle.lgrep.specs.Lines.{positioned, taken_lines}
use Rattle.lgrep.proofs.lines.LineSearcher.marked.Given as goal

abbrev pub invariant-loop-bytes : goal.invariant-loop-bytes
invariant-loop-bytes l = record {
  same : l.self.dfa ≡ l.fn.self.dfa;
  next : l.self.next ≡ position_after_all l.fn.self.next (map (λ bytes. bytes.now) l.yielded);
  counted : l.count ≡ count_after l.fn.count (taken_lines (map marked_line l.marked.items));
  meant :
      (case_insensitive : Bool) (res : List Re) (is : IsSearcherFor case_insensitive res l.fn.self.dfa)
      → AreMarked (λ line. IsWanted l.fn.flags.invert (HasPart res line.1)) l.fn.flags.max l.fn.count
      (positioned l.fn.self.next (map (λ bytes. bytes.now) l.yielded)) (map marked_line l.marked.items);
}
