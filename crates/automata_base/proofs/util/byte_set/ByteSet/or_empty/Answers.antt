use Rattle.automata_base.specs.ByteClasses.WordsBack.{whole}
use Rattle.automata_base.proofs.util.byte_set.ByteSet.or_empty.Goals as goal

pub returns-in-Some-clause-whole : goal.returns-in-Some-clause-whole
returns-in-Some-clause-whole c = whole _
