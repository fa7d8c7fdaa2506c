use Rattle.std.proofs.Common.{◌≤◌, ◌+◌, length, ap, sym, ◌∙◌, subst, arith}
use Rattle.std.specs.Prelude.{sum_by}
use Rattle.automata_base.specs.declared.nfa.thompson.state.State.TheVariants.{Match}
use Rattle.automata_transform.specs.Nfas.ReversedSizes.{asking_edges}
use Rattle.automata_transform.specs.Retraced.ReversedEdges.{AreTurned, Turns, turn_by, turn_states, turns_of, size}
use Rattle.automata_transform.proofs.Nfas.Mirrors.Lists.{err_is}
use Rattle.automata_transform.proofs.Nfas.Mirrors.Sizes.{size_by, states_large, turned_length}
use Rattle.automata_transform.proofs.reverse.turned_states.Goals as goal

pub returns-in_err-turn_states-clause-large : goal.returns-in_err-turn_states-clause-large
returns-in_err-turn_states-clause-large c = λ e.
    let a = c.in_err-turn_states.ensures.large
    (err_is c.from_residual-in_err-turn_states.result _ _ c.from_residual-in_err-turn_states.ensures.1 e) in
    let b : size (turn_states (turns_of c.in_ok-turning.turning) c.args.states.now c.args.reached.now)
    ≤ length c.args.states.now + sum_by asking_edges c.args.states.now =
    subst (λ (t : Turns). size (turn_states t c.args.states.now c.args.reached.now) ≤ length c.args.states.now
    + sum_by asking_edges c.args.states.now)
    (sym c.in_ok-turning.ensures.none)
    (states_large c.args.states.now c.args.reached.now c.requires.distinct c.requires.below) in
    omega (arith, a, b)

pub returns-in_err-report-clause-large : goal.returns-in_err-report-clause-large
returns-in_err-report-clause-large c = λ e.
    let a = c.in_err-report.ensures.large
    (err_is c.from_residual-in_err-report.result _ _ c.from_residual-in_err-report.ensures.1 e) in
    let b : size (turns_of c.turn_states.new.self) ≤ length c.args.states.now + sum_by asking_edges c.args.states.now =
    subst (λ (t : Turns). size t ≤ length c.args.states.now + sum_by asking_edges c.args.states.now)
    (ap (λ (t : Turns). turn_states t c.args.states.now c.args.reached.now) (sym c.in_ok-turning.ensures.none)
    ∙ sym c.in_ok-turn_states.ensures.turned)
    (states_large c.args.states.now c.args.reached.now c.requires.distinct c.requires.below) in
    let d = size_by (turns_of c.turn_states.new.self) (Match 0) c.args.first in
    omega (arith, a, b, d)

pub returns-then-len-gt-MAX_STATES-clause-large : goal.returns-then-len-gt-MAX_STATES-clause-large
returns-then-len-gt-MAX_STATES-clause-large c = λ e.
    let are : AreTurned c.args.states.now c.args.reached.now c.args.first c.in_ok-turned.turned.items = (
      turns_of c.report.new.self,
      c.in_ok-turned.ensures,
      c.in_ok-report.ensures.turned
          ∙ ap (λ (t : Turns). turn_by t (Match 0) c.args.first)
          (c.in_ok-turn_states.ensures.turned
          ∙ ap (λ (t : Turns). turn_states t c.args.states.now c.args.reached.now) c.in_ok-turning.ensures.none),
    ) in
    let long =
    turned_length c.args.states.now c.in_ok-turned.turned.items c.args.reached.now c.args.first c.requires.distinct
    c.requires.below are in
    omega (arith, long, c.if-len-gt-MAX_STATES.true, c.len.ensures, c.in_ok-turned.turned.ok.0)
