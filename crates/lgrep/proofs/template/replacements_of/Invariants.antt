use Rattle.std.proofs.Common.{◌≡◌, ◌<◌, ℕ, length}
use Rattle.lgrep.specs.Templates.{groups_before, pieces_for, template_pieces}
use Rattle.lgrep.proofs.template.replacements_of.Given as goal

abbrev pub invariant-loop-number : goal.invariant-loop-number
invariant-loop-number l = record {
  replaced :
      (k : ℕ) → k < l.number
      → pieces_for l.replacements.items k ≡ template_pieces l.programs l.template k;
  count : length l.replacements.items ≡ l.number;
  before : l.before ≡ groups_before l.programs l.number;
}
