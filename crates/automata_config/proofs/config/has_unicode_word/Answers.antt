use Rattle.std.proofs.Common.{◌∙◌}
use Rattle.automata_base.specs.Haystacks.LookSets.{truth_of}
use Rattle.automata_config.specs.Settling.{has_unicode_word, occurs, unicode_word_looks}
use Rattle.automata_config.proofs.Refusing.{list_any-same}
use Rattle.automata_config.proofs.config.has_unicode_word.Goals as goal

pub returns : goal.returns
unfolding has_unicode_word
returns c =
    c.contains_any.ensures
    ∙ list_any-same (truth_of c.look_set_any.result) (occurs c.args.nfa.now) unicode_word_looks
    c.look_set_any.ensures.same
