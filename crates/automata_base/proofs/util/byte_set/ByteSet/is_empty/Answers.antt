use Rattle.std.proofs.Common.{sym, ap, ◌∙◌}
use Rattle.automata_base.specs.ByteClasses.Classes.{is_quit}
use Rattle.automata_base.proofs.ByteClasses.ByteSets.{no_bytes, none_or, or_none}
use Rattle.automata_base.proofs.util.byte_set.ByteSet.is_empty.Goals as goal

pub returns-clause-yes : goal.returns-clause-yes
returns-clause-yes c = λ none byte l.
    let words = c.self.inside.words in
    ap (λ t. is_quit t byte) (sym c.self.view_is) ∙ no_bytes words (or_none words none) byte l

pub returns-clause-no : goal.returns-clause-no
returns-clause-no c = λ nothing.
    none_or c.self.inside.words c.self.invariant (λ byte l. ap (λ t. is_quit t byte) c.self.view_is ∙ nothing byte l)
