use Rattle.std.proofs.Common.{◌≡◌, ◌<◌, ◌≤◌, ◌↔◌, true, false, eqb, length, sym, ap, ◌∙◌, subst}
use Rattle.std.specs.Prelude.{IsTrue}
use Rattle.automata_base.specs.Nfas.Automata.{IsConsistent, automaton}
use Rattle.automata_base.specs.Lists.{all_below}
use Rattle.automata_base.specs.Nfas.Nfa.{any_node}
use Rattle.automata_base.specs.Haystacks.Looks.{look_index}
use Rattle.automata_base.specs.Nfas.Nodes.{nodes_of}
use Rattle.automata_base.specs.Retraced.Reach.{AreLooksAcyclic, ReachesMatch}
use Rattle.automata_base.specs.Nfas.Getters.{SkipsLazily}
use Rattle.automata_base.specs.Nfas.Errors.{states_below, states_ordered}
use Rattle.automata_base.specs.declared.nfa.thompson.Data.{Data}
use Rattle.automata_base.proofs.Powersets.Sound.{sound}
use Rattle.automata_base.proofs.Nfas.Reach.Refused.{passing}
use Rattle.automata_base.proofs.nfa.thompson.NFA.plain.Goals as goal

pub set_for-requires : goal.set_for-requires
set_for-requires c =
    let tests =
    passing c.args.states.items c.args.start_anchored c.args.start_unanchored c.args.start_pattern.items
    c.requires.passed in
    record { few = subst (λ s. length s ≤ 134217728) (sym c.as_slice.ensures.value) tests.small }

pub reaches_match_in-has_empty-requires : goal.reaches_match_in-has_empty-requires
reaches_match_in-has_empty-requires c =
    let tests =
    passing c.args.states.items c.args.start_anchored c.args.start_unanchored c.args.start_pattern.items
    c.requires.passed in
    record {
      few = subst (λ s. length s ≤ 134217728) (sym c.as_slice-2.ensures.value) tests.small;
      range = subst (λ s. states_below (length s) s ≡ true) (sym c.as_slice-2.ensures.value) tests.range;
      capacity = c.in_ok-set.ensures ∙ ap length (c.as_slice.ensures.value ∙ sym c.as_slice-2.ensures.value);
      roots =
          subst (λ s. all_below (length s) c.as_slice-3.result.now ≡ true) (sym c.as_slice-2.ensures.value)
          (subst (λ t. all_below (length c.args.states.items) t ≡ true) (sym c.as_slice-3.ensures.value) tests.starts);
    }

pub skips_lazily-skips_lazily-requires : goal.skips_lazily-skips_lazily-requires
skips_lazily-skips_lazily-requires c =
    let tests =
    passing c.args.states.items c.args.start_anchored c.args.start_unanchored c.args.start_pattern.items
    c.requires.passed in
    record {
      few = subst (λ s. length s ≤ 134217728) (sym c.as_slice-4.ensures.value) tests.small;
      range = subst (λ s. states_below (length s) s ≡ true) (sym c.as_slice-4.ensures.value) tests.range;
      ordered = subst (λ s. states_ordered s ≡ true) (sym c.as_slice-4.ensures.value) tests.ordered;
      anchored = subst (λ s. c.args.start_anchored < length s) (sym c.as_slice-4.ensures.value) tests.anchored;
      capacity =
          c.reaches_match_in-has_empty.ensures.capacity
          ∙ ap length (c.as_slice-2.ensures.value ∙ sym c.as_slice-4.ensures.value);
      unanchored = subst (λ s. c.args.start_unanchored < length s) (sym c.as_slice-4.ensures.value) tests.unanchored;
    }

pub are_looks_acyclic-requires : goal.are_looks_acyclic-requires
are_looks_acyclic-requires c =
    let tests =
    passing c.args.states.items c.args.start_anchored c.args.start_unanchored c.args.start_pattern.items
    c.requires.passed in
    record {
      few = subst (λ s. length s ≤ 134217728) (sym c.as_slice-5.ensures.value) tests.small;
      range = subst (λ s. states_below (length s) s ≡ true) (sym c.as_slice-5.ensures.value) tests.range;
      looks =
          λ look. c.requires.totals.looks look
          ∙ ap (λ z. any_node (λ other. eqb (look_index other) (look_index look)) (nodes_of z))
          (sym c.as_slice-5.ensures.value);
    }

pub invariant_of-result : goal.invariant_of-result
invariant_of-result c =
    let d : Data = record {
      states = c.args.states;
      start_anchored = c.args.start_anchored;
      start_unanchored = c.args.start_unanchored;
      start_pattern = c.args.start_pattern;
      flags = c.args.flags;
      looks = c.args.totals.looks;
      room = c.args.totals.room;
      has_empty = c.reaches_match_in-has_empty.result;
      skips_lazily = c.skips_lazily-skips_lazily.result;
      is_look_acyclic = c.in_ok-is_look_acyclic.is_look_acyclic;
    } in (
      subst (λ (d : Data). IsConsistent d false) (sym c.in-Ok.ensures.ok)
          (sound d false c.requires.passed
          c.requires.totals.looks
          c.requires.totals.room
          (subst (λ s. IsTrue c.reaches_match_in-has_empty.result ↔ ReachesMatch s c.args.start_pattern.items)
          c.as_slice-2.ensures.value
          (subst (λ t. IsTrue c.reaches_match_in-has_empty.result ↔ ReachesMatch c.as_slice-2.result.now t)
          c.as_slice-3.ensures.value c.reaches_match_in-has_empty.ensures.found))
          (subst (λ s. IsTrue c.skips_lazily-skips_lazily.result
          ↔ SkipsLazily
          (automaton s c.args.start_anchored c.args.start_unanchored c.args.start_pattern.items c.args.flags))
          c.as_slice-4.ensures.value
          (c.skips_lazily-skips_lazily.ensures c.args.start_pattern.items c.args.flags))
          (subst (λ s. IsTrue c.in_ok-is_look_acyclic.is_look_acyclic ↔ AreLooksAcyclic s) c.as_slice-5.ensures.value
          c.in_ok-is_look_acyclic.ensures)),
      tt,
    )
