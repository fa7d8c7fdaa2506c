use Rattle.std.proofs.Common.{◌≡◌, ◌≤◌, false, length}
use Rattle.std.specs.Option.{unwrap_or}
use Rattle.patterns.specs.Iteration.{most_left}
use Rattle.lgrep.proofs.Replacing.{Replaces}
use Rattle.lgrep.proofs.replace.Replacer.replace.Given as goal

abbrev pub invariant-matches : goal.invariant-matches
invariant-matches l = record {
  replaced :
      Replaces l.fn.self.pattern.regex l.fn.self.groups.programs.list.items l.replacements l.line l.self.bytes.items
      l.last;
  inside : unwrap_or l.last 0 ≤ length l.line;
  pattern : l.self.pattern ≡ l.fn.self.pattern;
  programs : l.self.groups.programs ≡ l.fn.self.groups.programs;
}

abbrev pub decreases-matches : goal.decreases-matches
decreases-matches l = most_left false l.line l.last
