use Rattle.patterns.proofs.Trees.{facts_of_text}
use Rattle.patterns.proofs.facts.read_facts.Goals as goal

pub returns-in-Ok-clause-facts : goal.returns-in-Ok-clause-facts
returns-in-Ok-clause-facts c =
    facts_of_text c.args.options.now c.args.text.now c.in_ok-parsed.parsed.hir _ c.in-Ok.facts
    c.in_ok-parsed.ensures.read c.in-Ok.ensures
