-- What settings make of an NFA does not depend on whether it keeps unions.
use Rattle.std.proofs.Common.{◌≡◌, Bool, refl}
use Rattle.automata_base.specs.ByteClasses.Classes.{is_boundary}
use Rattle.automata_base.specs.Nfas.Nodes.{Automaton}
use Rattle.automata_config.specs.Options.{Options}
use Rattle.automata_config.specs.Settling.{greatest_offset, has_unicode_word, settled_minimum, settled_quits}
use Rattle.automata_config.specs.Settling.{settling_error}

pub settling_with :
    (o : Options) (a : Automaton) (v : Bool) → settling_error o (record a { keeps_unions = v }) ≡ settling_error o a
unfolding greatest_offset has_unicode_word settled_minimum settled_quits is_boundary
settling_with o a v = refl
