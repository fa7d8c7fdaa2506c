-- When the two lazy DFAs of a regex are a sound pair, which the promise of spans requires.
use Rattle.automata_base.specs.Nfas.Engines.{Engine}
use Rattle.automata_base.specs.Nfas.Nodes.{nfa_of}
use Rattle.automata_base.specs.Paths.Paths.{KeepsCycles}
use Rattle.automata_base.specs.declared.util.search.Direction.TheVariants.{Forward}
use Rattle.automata_base.specs.Answers.TruePairs.{IsTruePair, KeepsUtf8}
use Rattle.regex_automata.specs.declared.hybrid.regex.Regex.{Regex}
use Rattle.automata_hybrid.specs.Machines.Machine.{engine}

-- the forward DFA's NFA and match kind
abbrev pub forward_engine : Regex → Engine
forward_engine p = engine p.forward

-- the reverse DFA's NFA and match kind
abbrev pub reverse_engine : Regex → Engine
reverse_engine p = engine p.reverse

-- both NFAs keep their cycles
abbrev pub BothKeepCycles : Regex → Type 0
BothKeepCycles p = KeepsCycles (nfa_of p.forward.nfa) × KeepsCycles (nfa_of p.reverse.nfa)

-- the two DFAs are a true pair, and the forward NFA keeps its cycles and the UTF-8 promise
pub record IsSoundPair (p : Regex) : Type 0 where
  -- the forward NFA keeps its cycles
  pub cycles : KeepsCycles (nfa_of p.forward.nfa)
  -- the two are a true pair
  pub pair : IsTruePair (forward_engine p) (reverse_engine p)
  -- the forward NFA keeps the UTF-8 promise
  pub utf8 : KeepsUtf8 Forward (forward_engine p)
