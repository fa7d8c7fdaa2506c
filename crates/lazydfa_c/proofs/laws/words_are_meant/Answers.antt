use Rattle.lazydfa_c.proofs.Meant.{built_is_searched, find_is_meant}
use Rattle.lazydfa_c.proofs.laws.words_are_meant.Goals as goal

pub returns-clause-meant : goal.returns-clause-meant
returns-clause-meant c = λ options res s t hay at found status is bytes text.
    find_is_meant options res s t hay at found status is bytes text c.narrowed_inputs_are_enough.ensures.kept
    c.narrowed_inputs_are_enough.ensures.none

pub returns-clause-built : goal.returns-clause-built
returns-clause-built c = built_is_searched
