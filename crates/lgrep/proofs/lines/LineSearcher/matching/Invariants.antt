use Rattle.std.proofs.Common.{◌≡◌, Bool, List, map}
use Rattle.regex_hir.specs.Re.{Re}
use Rattle.meaning.specs.Patterns.{HasPart}
use Rattle.lgrep.specs.Lines.{AreMatching, HasMatch, IsSearcherFor, IsWanted, found_line, position_after_all}
use Rattle.lgrep.specs.Lines.{positioned}
use Rattle.lgrep.proofs.lines.LineSearcher.matching.Given as goal

abbrev pub invariant-loop-bytes : goal.invariant-loop-bytes
invariant-loop-bytes l = record {
  same : l.self.dfa ≡ l.fn.self.dfa;
  next : l.self.next ≡ position_after_all l.fn.self.next (map (λ bytes. bytes.now) l.yielded);
  found :
      AreMatching (λ line. IsWanted l.fn.invert (HasMatch l.fn.self.dfa line.1))
      (positioned l.fn.self.next (map (λ bytes. bytes.now) l.yielded)) (map found_line l.found.items);
  meant :
      (case_insensitive : Bool) (res : List Re) (is : IsSearcherFor case_insensitive res l.fn.self.dfa)
      → AreMatching (λ line. IsWanted l.fn.invert (HasPart res line.1))
      (positioned l.fn.self.next (map (λ bytes. bytes.now) l.yielded)) (map found_line l.found.items);
}
