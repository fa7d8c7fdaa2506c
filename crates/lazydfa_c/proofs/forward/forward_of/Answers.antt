use Rattle.lazydfa_c.proofs.forward.forward_of.Goals as goal
use Rattle.automata_config.specs.Options.{overwritten, unset}
use Rattle.lazydfa_c.proofs.Texts.{forward_only}

pub returns-in-Ok-clause-built : goal.returns-in-Ok-clause-built
returns-in-Ok-clause-built c =
    forward_only (overwritten unset c.args.config) c.args.nfa c.in-Ok.none c.pair_of.result c.in-Ok.ensures.none
    c.pair_of.ensures.built
