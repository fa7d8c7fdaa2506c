-- What a pass reports.
use Rattle.std.specs.Prelude.{ℕ, suc, ◌≡◌, List}
use Rattle.automata_base.specs.Nfas.Nfa.{Nfa}
use Rattle.automata_base.specs.Paths.Paths.{Tape}
use Rattle.automata_base.specs.declared.util.search.MatchKind.{MatchKind}
use Rattle.automata_determinize.specs.Powersets.Passes.{IsPass}
use Rattle.automata_base.specs.Powersets.Powerset.{Powerset}

-- What the pass reports at place `i`: the patterns of the state that the unit there leads to.
abbrev pub Reports : MatchKind → Nfa → Tape → ℕ → ℕ → List ℕ → Type 0
Reports kind n t start i patterns = (Q : Powerset) × IsPass n kind start t (suc i) Q × (Q.patterns ≡ patterns)
