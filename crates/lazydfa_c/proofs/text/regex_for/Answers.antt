use Rattle.automata_config.specs.Options.{overwritten, unset}
use Rattle.lazydfa_c.proofs.Texts.{is_forward, is_full, is_not_forward, is_not_full}
use Rattle.lazydfa_c.proofs.text.regex_for.Goals as goal

pub returns-then-forward_only-eq0-clause-built : goal.returns-then-forward_only-eq0-clause-built
returns-then-forward_only-eq0-clause-built c =
    is_full (overwritten unset c.args.config) c.args.nfa c.args.forward_only c.regex_of.result
    c.if-forward_only-eq0.true c.regex_of.ensures.built

pub returns-then-forward_only-eq0-clause-refused : goal.returns-then-forward_only-eq0-clause-refused
returns-then-forward_only-eq0-clause-refused c =
    is_not_full (overwritten unset c.args.config) c.args.nfa c.args.forward_only c.regex_of.result
    c.if-forward_only-eq0.true c.regex_of.ensures.refused

pub returns-else-forward_only-eq0-clause-built : goal.returns-else-forward_only-eq0-clause-built
returns-else-forward_only-eq0-clause-built c =
    is_forward (overwritten unset c.args.config) c.args.nfa c.args.forward_only c.forward_of.result
    c.if-forward_only-eq0.false c.forward_of.ensures.built

pub returns-else-forward_only-eq0-clause-refused : goal.returns-else-forward_only-eq0-clause-refused
returns-else-forward_only-eq0-clause-refused c =
    is_not_forward (overwritten unset c.args.config) c.args.nfa c.args.forward_only c.forward_of.result
    c.if-forward_only-eq0.false c.forward_of.ensures.refused
