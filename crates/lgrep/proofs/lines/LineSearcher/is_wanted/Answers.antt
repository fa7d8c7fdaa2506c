use Rattle.std.proofs.Common.{subst, sym}
use Rattle.std.specs.Prelude.{◌↔◌, IsTrue}
use Rattle.meaning.specs.Patterns.{HasPart}
use Rattle.lgrep.specs.Lines.{HasMatch, IsWanted}
use Rattle.lgrep.proofs.Numbers.{wanted}
use Rattle.lgrep.proofs.lines.LineSearcher.is_wanted.Goals as goal

pub returns-clause-found : goal.returns-clause-found
returns-clause-found c =
    subst (λ taken. IsTrue taken ↔ IsWanted c.args.invert (HasMatch c.args.self.now.dfa c.args.line.now))
    (sym c.is_taken.ensures)
    (wanted c.args.invert c.in_ok-has_match.has_match c.in_ok-has_match.ensures.found)

pub returns-clause-meant : goal.returns-clause-meant
returns-clause-meant c = λ insensitive res is.
    subst (λ taken. IsTrue taken ↔ IsWanted c.args.invert (HasPart res c.args.line.now)) (sym c.is_taken.ensures)
    (wanted c.args.invert c.in_ok-has_match.has_match (c.in_ok-has_match.ensures.meant insensitive res is))
