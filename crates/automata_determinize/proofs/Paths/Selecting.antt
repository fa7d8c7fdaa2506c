-- What a pass over its span reports, to a walk and to a search.
use Rattle.std.specs.Prelude.{ℕ, suc, ◌<◌, ◌≤◌, Bool, true, false, List, [], ◌∷◌, length, Option, Some, None}
use Rattle.automata_base.specs.declared.util.search.MatchKind.{MatchKind}
use Rattle.automata_base.specs.Nfas.Nfa.{Nfa}
use Rattle.automata_base.specs.Paths.Paths.{Tape}
use Rattle.automata_base.specs.Paths.Selections.{Pair, Pairs}
use Rattle.automata_determinize.specs.Paths.Selections.{Reports}

-- The whole list of a walk, by its pass.
abbrev pub PassReports : MatchKind → Nfa → Tape → ℕ → List Pair → Type 0
PassReports kind n t start pairs = Pairs (Reports kind n t start) (suc (length t.bytes)) pairs

-- What a search reports from its pass: of the first state with patterns if it is earliest, otherwise of the last one,
-- the first pattern and the position whose unit led to it.
abbrev pub PassSelects : MatchKind → Bool → Nfa → Tape → ℕ → Option Pair → Type 0
PassSelects kind earliest n t start None =
    (i : ℕ) → i ≤ length t.bytes → Reports kind n t start i []
PassSelects kind true n t start (Some pair) =
    (rest : List ℕ) × (pair.place ≤ length t.bytes) × Reports kind n t start pair.place (pair.pattern ∷ rest)
    × ((j : ℕ) → j < pair.place → Reports kind n t start j [])
PassSelects kind false n t start (Some pair) =
    (rest : List ℕ) × (pair.place ≤ length t.bytes) × Reports kind n t start pair.place (pair.pattern ∷ rest)
    × ((j : ℕ) → pair.place < j → j ≤ length t.bytes → Reports kind n t start j [])
