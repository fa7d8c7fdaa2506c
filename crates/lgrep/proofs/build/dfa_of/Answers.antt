use Rattle.std.proofs.Common.{subst}
use Rattle.automata_config.specs.Options.{Options, overwritten, unset}
use Rattle.automata_hybrid.specs.Machines.Builds.{Builds}
use Rattle.lgrep.proofs.build.dfa_of.Goals as goal

pub returns : goal.returns
returns c =
    subst (λ (o : Options). Builds (overwritten unset o) c.args.nfa c.in_ok-dfa.dfa) c.settings-config.ensures
    c.in_ok-dfa.ensures
