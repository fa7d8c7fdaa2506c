use Rattle.std.proofs.Common.{◌<◌, subst}
use Rattle.automata_hybrid.proofs.Steps.Steps.{known_answer}
use Rattle.automata_hybrid.proofs.cache.Cache.known_step.Goals as goal

pub returns-clause-answer : goal.returns-clause-answer
returns-clause-answer c = λ low.
    known_answer c.args.dfa.now c.args.id c.args.unit c.args.self.now c.unit_class.result c.cell.result
    c.requires.sound.of
    c.requires.valid
    c.unit_class.ensures.value c.unit_class.ensures.small c.unit_class.ensures.quit c.unit_class.ensures.free
    c.cell.ensures.value c.cell.ensures.named
    (c.requires.sound.table.low c.args.id c.requires.valid.0 c.requires.valid.1) low c.cell.ensures.tag
    c.unit_class.ensures.unit

pub returns-clause-below : goal.returns-clause-below
returns-clause-below c = subst (λ n. n < c.args.dfa.now.stride) c.unit_class.ensures.value c.unit_class.ensures.below
