-- What the powerset states of an automaton consist of.
use Rattle.automata_base.specs.Nfas.Nodes.{Automaton}
use Rattle.automata_base.specs.Powersets.Powerset.{Powerset}
use Rattle.automata_determinize.specs.Paths.Starts.{IsOf, NeedsOwnLooks}
use Rattle.automata_determinize.specs.Answers.Within.{ReportsOwn}

-- the states, the looks and the patterns of a powerset state are the automaton's
unfoldable pub IsOwn : Automaton → Powerset → Type 0
IsOwn a q = IsOf a q × NeedsOwnLooks a q × ReportsOwn a q
