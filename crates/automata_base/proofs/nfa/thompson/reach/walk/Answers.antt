use Rattle.automata_base.specs.Retraced.Reach.{targets_of}
use Rattle.automata_base.proofs.Nfas.Reach.Walked.{roots_once}
use Rattle.automata_base.proofs.nfa.thompson.reach.walk.Goals as goal

pub returns-clause-reached : goal.returns-clause-reached
returns-clause-reached c = λ q.
    let walked = c.walk_on.ensures.reached q in
    let same =
    roots_once (targets_of c.args.edges c.args.states.now) c.clear.new.self.items c.add_ids.new.set.items
    c.args.roots.now q
    c.clear.ensures.empty c.add_ids.ensures.items in
    (λ i. same.0 (walked.0 i), λ h. walked.1 (same.1 h))
