use Rattle.std.proofs.Common.{◌∙◌, ap, subst}
use Rattle.automata_base.specs.Nfas.Nodes.{Automaton}
use Rattle.automata_base.specs.declared.util.search.MatchKind.{MatchKind}
use Rattle.regex_automata.specs.Promises.{Machine, engine_of, match_kind_of}
use Rattle.prefilters.specs.FirstBytes.{BeginsAtFirstByte}
use Rattle.patterns.proofs.Items.{given}
use Rattle.patterns.proofs.pattern.Pattern.try_first_bytes.Goals as goal

pub invariant_of-self-in-Ok : goal.invariant_of-self-in-Ok
invariant_of-self-in-Ok c = record {
  begins = λ needles e. c.args.self.now.begins needles e;
  first =
      λ table e.
      subst
      (λ (a : Automaton). BeginsAtFirstByte (engine_of a (match_kind_of c.args.self.now.regex.forward.config)) table)
      (c.get_nfa.ensures ∙ ap (λ (m : Machine). m.nfa) c.forward.ensures)
      (given (λ bytes. (kind : MatchKind) → BeginsAtFirstByte (engine_of c.get_nfa.result.now kind) bytes) e
      c.in-Ok.ensures (match_kind_of c.args.self.now.regex.forward.config));
}
