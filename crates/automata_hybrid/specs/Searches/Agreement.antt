-- Answers agree, with any caches and with DFAs that differ only in settings.
use Rattle.std.specs.Prelude.{ℕ, ◌≡◌, Option}
use Rattle.automata_base.specs.Answers.Answers.{Half}
use Rattle.automata_base.specs.Haystacks.Input.{Input}
use Rattle.automata_base.specs.declared.util.search.Direction.{Direction}
use Rattle.automata_hybrid.specs.Machines.Machine.{Machine}
use Rattle.automata_hybrid.specs.Searches.Passes.{IsFound}
use Rattle.automata_hybrid.specs.Walks.Answers.{HasReported, ReportsNext}
use Rattle.automata_hybrid.specs.Walks.State.{Walk}
use Rattle.automata_config.specs.Options.{match_kind_of}

-- searches with two caches of one DFA find the same, and so do two DFAs with the same automaton and match kind, even if
-- they differ in capacity, limits, byte classes, tags of start states or quit bytes
abbrev pub AnswersAgree : Type 0
AnswersAgree =
    (way : Direction) (m other : Machine) (input : Input) (first second : Option Half)
    → m.nfa ≡ other.nfa → match_kind_of m.config ≡ match_kind_of other.config
    → IsFound way m input first → IsFound way other input second
    → first ≡ second

-- two walks over one input that have each reported `k` pairs report the same match by the next call that answers,
-- whatever cache it uses; and so do walks of two DFAs with the same NFA and match kind
abbrev pub WalksAgree : Machine → Type 0
WalksAgree m =
    (way : Direction) (other : Machine) (input : Input) (first second first_reported second_reported : Walk) (k : ℕ)
    → other.nfa ≡ m.nfa → match_kind_of other.config ≡ match_kind_of m.config
    → HasReported way m input first k → HasReported way other input second k
    → ReportsNext way m input first first_reported → ReportsNext way other input second second_reported
    → first_reported.found ≡ second_reported.found
