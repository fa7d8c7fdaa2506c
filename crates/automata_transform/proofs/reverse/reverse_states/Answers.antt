use Rattle.std.proofs.Common.{ℕ, List, ◌∷◌, [], ◌++◌, ◌↔◌, ◌≡◌, ◌<◌, true, length, ap, sym, ◌∙◌, subst, arith}
use Rattle.std.specs.Prelude.{sum_by}
use Rattle.automata_base.specs.declared.nfa.thompson.state.State.{State}
use Rattle.automata_base.specs.declared.nfa.thompson.reach.Edges.TheVariants.{Every}
use Rattle.automata_base.specs.Lists.{In, all_below, Distinct}
use Rattle.automata_base.specs.Nfas.Nfa.{Split}
use Rattle.automata_base.specs.Nfas.Nodes.{nodes_of}
use Rattle.automata_transform.specs.Retraced.Copies.{AreCopyable}
use Rattle.automata_base.specs.Retraced.Reach.{IsReached}
use Rattle.automata_base.specs.Nfas.Errors.{alternates_of}
use Rattle.automata_transform.specs.Retraced.ReversedEdges.{HaveCopies}
use Rattle.automata_base.proofs.Powersets.Walking.{nodes_length}
use Rattle.automata_transform.proofs.Nfas.Mirrors.Fits.{made_fits, parts_large, root_large, turned_large}
use Rattle.automata_transform.proofs.Nfas.Mirrors.Lists.{err_is}
use Rattle.automata_transform.proofs.Nfas.Mirrors.Ranges.{states_whole, states_in_range}
use Rattle.automata_transform.proofs.Nfas.Mirrors.Sizes.{turned_length, turned_ordered, turned_alternates}
use Rattle.automata_transform.proofs.reverse.reverse_states.Goals as goal
use Rattle.automata_base.proofs.Powersets.Belows.{all_below_from}

pub turned_states-requires-clause-below : goal.turned_states-requires-clause-below
turned_states-requires-clause-below c =
    ap (all_below (length c.args.states.now)) c.as_slice-ids.ensures.items
    ∙ all_below_from (length c.args.states.now) c.in_ok-reached.reached.items
    (λ q i. subst (λ z. q < z) c.in_ok-reached.ensures.capacity (c.as_slice-ids.ensures.below q i))

pub parts_of-requires-clause-below : goal.parts_of-requires-clause-below
parts_of-requires-clause-below c =
    ap (all_below (length c.args.states.now)) c.as_slice-ids.ensures.items
    ∙ all_below_from (length c.args.states.now) c.in_ok-reached.reached.items
    (λ q i. subst (λ z. q < z) c.in_ok-reached.ensures.capacity (c.as_slice-ids.ensures.below q i))

pub parts_of-requires-clause-turned : goal.parts_of-requires-clause-turned
parts_of-requires-clause-turned c =
    let small : all_below (length c.args.states.now) c.as_slice-ids.result.now ≡ true =
    ap (all_below (length c.args.states.now)) c.as_slice-ids.ensures.items
    ∙ all_below_from (length c.args.states.now) c.in_ok-reached.reached.items
    (λ q i. subst (λ z. q < z) c.in_ok-reached.ensures.capacity (c.as_slice-ids.ensures.below q i)) in
    let distinct : Distinct c.as_slice-ids.result.now =
    subst (λ (z : List ℕ). Distinct z) (sym c.as_slice-ids.ensures.items) c.as_slice-ids.ensures.distinct in
    record {
      range =
          states_in_range c.args.states.now c.in_ok-turned.turned.items c.as_slice-ids.result.now c.args.first
          c.requires.range c.requires.first small
          c.in_ok-turned.ensures.turned;
      ordered =
          turned_ordered c.args.states.now c.in_ok-turned.turned.items c.as_slice-ids.result.now c.args.first distinct
          small
          c.in_ok-turned.ensures.turned c.requires.ordered;
      whole =
          states_whole c.args.states.now c.in_ok-turned.turned.items c.as_slice-ids.result.now c.args.first
          c.requires.range c.requires.first small
          c.in_ok-turned.ensures.turned;
    }

pub returns-in_err-turned-clause-large : goal.returns-in_err-turned-clause-large
returns-in_err-turned-clause-large c = λ e.
    turned_large c.args.states.now c.args.patterns
    (c.in_err-turned.ensures.large
    (err_is c.from_residual-in_err-turned.result _ _ c.from_residual-in_err-turned.ensures.1 e))

pub returns-in_err-parts-clause-large : goal.returns-in_err-parts-clause-large
returns-in_err-parts-clause-large c = λ e.
    let small : all_below (length c.args.states.now) c.as_slice-ids.result.now ≡ true =
    ap (all_below (length c.args.states.now)) c.as_slice-ids.ensures.items
    ∙ all_below_from (length c.args.states.now) c.in_ok-reached.reached.items
    (λ q i. subst (λ z. q < z) c.in_ok-reached.ensures.capacity (c.as_slice-ids.ensures.below q i)) in
    let distinct : Distinct c.as_slice-ids.result.now =
    subst (λ (z : List ℕ). Distinct z) (sym c.as_slice-ids.ensures.items) c.as_slice-ids.ensures.distinct in
    let long =
    turned_length c.args.states.now c.in_ok-turned.turned.items c.as_slice-ids.result.now c.args.first distinct small
    c.in_ok-turned.ensures.turned in
    parts_large c.args.states.now c.in_ok-turned.turned.items c.args.patterns long
    (c.in_err-parts.ensures.large
    (err_is c.from_residual-in_err-parts.result _ _ c.from_residual-in_err-parts.ensures.1 e))

pub returns-in_err-mirror-clause-large : goal.returns-in_err-mirror-clause-large
returns-in_err-mirror-clause-large c = λ e.
    let small : all_below (length c.args.states.now) c.as_slice-ids.result.now ≡ true =
    ap (all_below (length c.args.states.now)) c.as_slice-ids.ensures.items
    ∙ all_below_from (length c.args.states.now) c.in_ok-reached.reached.items
    (λ q i. subst (λ z. q < z) c.in_ok-reached.ensures.capacity (c.as_slice-ids.ensures.below q i)) in
    let distinct : Distinct c.as_slice-ids.result.now =
    subst (λ (z : List ℕ). Distinct z) (sym c.as_slice-ids.ensures.items) c.as_slice-ids.ensures.distinct in
    let long =
    turned_length c.args.states.now c.in_ok-turned.turned.items c.as_slice-ids.result.now c.args.first distinct small
    c.in_ok-turned.ensures.turned in
    root_large c.args.states.now c.in_ok-turned.turned.items c.as_slice-ids.result.now c.args.patterns
    (nodes_of c.in_ok-parts.parts.states.items)
    c.in_ok-parts.parts.entries.items (length c.in_ok-parts.parts.states.items) c.in_ok-parts.ensures.fit
    (sym (nodes_length c.in_ok-parts.parts.states.items)) long
    (c.in_err-mirror.ensures.large
    (err_is c.from_residual-in_err-mirror.result _ _ c.from_residual-in_err-mirror.ensures.1 e))

pub returns-clause-fit : goal.returns-clause-fit
returns-clause-fit c =
    let small : all_below (length c.args.states.now) c.as_slice-ids.result.now ≡ true =
    ap (all_below (length c.args.states.now)) c.as_slice-ids.ensures.items
    ∙ all_below_from (length c.args.states.now) c.in_ok-reached.reached.items
    (λ q i. subst (λ z. q < z) c.in_ok-reached.ensures.capacity (c.as_slice-ids.ensures.below q i)) in
    let distinct : Distinct c.as_slice-ids.result.now =
    subst (λ (z : List ℕ). Distinct z) (sym c.as_slice-ids.ensures.items) c.as_slice-ids.ensures.distinct in
    let long =
    turned_length c.args.states.now c.in_ok-turned.turned.items c.as_slice-ids.result.now c.args.first distinct small
    c.in_ok-turned.ensures.turned in
    let wide =
    turned_alternates c.args.states.now c.in_ok-turned.turned.items c.as_slice-ids.result.now c.args.first distinct
    small c.in_ok-turned.ensures.turned
    c.requires.ordered in
    let few : length c.as_slice-ids.result.now ≡ length c.in_ok-reached.reached.items =
    ap (λ z. length z) c.as_slice-ids.ensures.items in
    made_fits c.args.states.now c.in_ok-turned.turned.items c.in_ok-mirror.mirror.states.items c.as_slice-ids.result.now
    c.args.patterns
    (nodes_of c.in_ok-parts.parts.states.items) c.in_ok-parts.parts.entries.items c.in_ok-mirror.mirror.entries.items
    c.in_ok-mirror.mirror.root
    (length c.in_ok-parts.parts.states.items) c.in_ok-parts.ensures.fit c.in_ok-mirror.ensures.nodes
    c.in_ok-mirror.ensures.root
    (sym (nodes_length c.in_ok-parts.parts.states.items)) c.in_ok-mirror.ensures.small c.in_ok-mirror.ensures.entries
    c.in_ok-parts.ensures.count
    (omega (arith, few, c.as_slice-ids.ensures.few, c.in_ok-reached.ensures.capacity)) long
    wide

pub returns-clause-mirrored : goal.returns-clause-mirrored
returns-clause-mirrored c = record {
  turned = c.in_ok-turned.turned.items;
  reached = c.as_slice-ids.result.now;
  nodes = nodes_of c.in_ok-parts.parts.states.items;
  reach =
      subst (λ z. (q : ℕ) → In q z ↔ IsReached Every c.args.states.now (c.args.first ∷ []) q)
      (sym c.as_slice-ids.ensures.items)
      c.in_ok-reached.ensures.reached;
  distinct = subst (λ (z : List ℕ). Distinct z) (sym c.as_slice-ids.ensures.items) c.as_slice-ids.ensures.distinct;
  below = λ q i.
      subst (λ z. q < z) c.in_ok-reached.ensures.capacity
      (c.as_slice-ids.ensures.below q (subst (λ z. In q z) c.as_slice-ids.ensures.items i));
  turns = c.in_ok-turned.ensures.turned;
  whole =
      c.in_ok-mirror.ensures.nodes
      ∙ ap (λ z. nodes_of c.in_ok-parts.parts.states.items ++ Split z ∷ []) (sym c.in_ok-mirror.ensures.entries);
  starts = c.in_ok-mirror.ensures.root ∙ sym (nodes_length c.in_ok-parts.parts.states.items);
  copies =
      subst (λ (z : List ℕ). HaveCopies (nodes_of c.in_ok-parts.parts.states.items) c.args.states.now
      c.in_ok-turned.turned.items c.as_slice-ids.result.now z)
      (sym c.in_ok-mirror.ensures.entries)
      c.in_ok-parts.ensures.copies;
  few = ap (λ z. length z) c.in_ok-mirror.ensures.entries ∙ c.in_ok-parts.ensures.count;
}
