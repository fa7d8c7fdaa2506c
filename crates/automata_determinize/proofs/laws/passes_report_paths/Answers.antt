use Rattle.automata_determinize.proofs.Powersets.PassReports.{reported_selects, reported_nearest, reported_farthest}
use Rattle.std.proofs.Common.{◌∙◌, sym}
use Rattle.automata_determinize.specs.Answers.OfPasses.{ReportsOver}
use Rattle.automata_base.proofs.Answers.Answered.{answers_once}
use Rattle.automata_determinize.proofs.laws.passes_report_paths.Goals as goal

pub returns-clause-selects : goal.returns-clause-selects
returns-clause-selects c = reported_selects

pub returns-clause-nearest : goal.returns-clause-nearest
returns-clause-nearest c = reported_nearest

pub returns-clause-farthest : goal.returns-clause-farthest
returns-clause-farthest c = reported_farthest

pub returns-clause-one : goal.returns-clause-one
returns-clause-one c =
    λ way a kind input first second. answers_once (ReportsOver way a kind) _ way input (λ i x y e e'. e ∙ sym e') first
    second
