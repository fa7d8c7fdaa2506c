-- An NFA that `NFA::from_states` accepts is sound.
use Rattle.std.proofs.Common.{Bool, ◌≡◌, ◌↔◌, None, length}
use Rattle.std.specs.Prelude.{IsTrue}
use Rattle.automata_base.specs.declared.nfa.thompson.Data.{Data}
use Rattle.automata_base.specs.Nfas.Nodes.{stack_room}
use Rattle.automata_base.specs.Nfas.Accepted.{IsLooks}
use Rattle.automata_base.specs.Nfas.Automata.{automaton_of, IsConsistent}
use Rattle.automata_base.specs.Retraced.Reach.{AreLooksAcyclic, ReachesMatch}
use Rattle.automata_base.specs.Nfas.Getters.{SkipsLazily}
use Rattle.automata_base.specs.Nfas.Errors.{states_error}
use Rattle.automata_base.proofs.Powersets.ListTests.{checked_range, checked_starts, patterns_fit}
use Rattle.automata_base.proofs.Nfas.Reach.Led.{acyclic_is, empty_is}
use Rattle.automata_base.proofs.Nfas.Reach.Refused.{passing, room_small}

pub sound :
    (d : Data) (keeps_unions : Bool)
    → states_error d.states.items d.start_anchored d.start_unanchored d.start_pattern.items ≡ None
    → IsLooks (automaton_of d keeps_unions) d.looks → d.room ≡ stack_room d.states.items
    → IsTrue d.has_empty ↔ ReachesMatch d.states.items d.start_pattern.items
    → IsTrue d.skips_lazily ↔ SkipsLazily (automaton_of d keeps_unions)
    → IsTrue d.is_look_acyclic ↔ AreLooksAcyclic d.states.items
    → IsConsistent d keeps_unions
sound d keeps_unions none looks room empty skips acyclic =
    let tests = passing d.states.items d.start_anchored d.start_unanchored d.start_pattern.items none in
    record {
      checked = record {
        small = tests.small;
        few = tests.few;
        range = checked_range (automaton_of d keeps_unions) tests.range;
        anchored = tests.anchored;
        unanchored = tests.unanchored;
        starts = checked_starts (length d.states.items) d.start_pattern.items tests.starts;
        ordered = tests.ordered;
        room = room_small d.states.items tests.narrow;
        patterns = λ q p. patterns_fit (length d.start_pattern.items) d.states.items q p tests.patterns;
      };
      looks = looks;
      room = room;
      empty = empty_is (automaton_of d keeps_unions) (IsTrue d.has_empty) empty;
      skips = skips;
      acyclic = acyclic_is (automaton_of d keeps_unions) (IsTrue d.is_look_acyclic) acyclic;
    }
