use Rattle.std.proofs.Common.{◌≡◌, ◌++◌, ◌≤◌, ◌||◌, ◌&&◌, eqb, refl, sym, ◌∙◌, ap, length, ◌+◌, arith, vec_len}
use Rattle.std.proofs.Common.{vec_capacity}
use Rattle.automata_base.specs.Lists.{pick}
use Rattle.automata_base.specs.Nfas.Nodes.{nfa_of, node_of}
use Rattle.automata_base.specs.Haystacks.LookSets.{truth_of}
use Rattle.automata_base.specs.Nfas.Nfa.{stays_at, splits_at, node, keep, looks_at}
use Rattle.automata_base.specs.Retraced.Computed.{any_state}
use Rattle.automata_base.specs.Haystacks.Looks.{look_index}
use Rattle.automata_base.proofs.Powersets.Walking.{node_at}
use Rattle.automata_base.proofs.Powersets.Keeping.{below_at, keep_next, room_next, looks_next}
use Rattle.automata_base.proofs.Powersets.Keeping.{looks_done, kept_done}
use Rattle.automata_base.proofs.nfa.thompson.keeping.append_kept.Goals as goal
use Rattle.automata_base.proofs.Powersets.Walking.{state_read}

pub state_at-state-requires-clause-id : goal.state_at-state-requires-clause-id
state_at-state-requires-clause-id c =
    let below =
    below_at c.args.states.now (length c.args.nfa.now.states) c.loop-i.i c.index-states-i.result c.requires.below
    c.loop-i-test.true c.index-states-i.is in
    let same = ap length c.states-nodes.ensures.same in
    omega (arith, below, same)

pub loop-i-init : goal.loop-i-init
loop-i-init c = (refl, omega arith, (λ other. refl), omega arith)

pub push_if-requires : goal.push_if-requires
push_if-requires c =
    let a : vec_len c.loop-i.kept ≡ length c.loop-i.kept.items = c.loop-i.kept.ok.0 in
    let b : length c.loop-i.kept.items ≤ length c.args.kept.now.items + c.loop-i.i = c.loop-i.invariant.1 in
    let d : vec_capacity c.args.kept.now ≤ vec_capacity c.loop-i.kept = c.loop-i.invariant.3 in
    omega (arith, a, b, d, c.requires.room, c.loop-i-test.true)

pub loop-i-preserved : goal.loop-i-preserved
loop-i-preserved c =
    let below =
    below_at c.args.states.now (length c.args.nfa.now.states) c.loop-i.i c.index-states-i.result c.requires.below
    c.loop-i-test.true c.index-states-i.is in
    let here : node (nfa_of c.args.nfa.now) c.index-states-i.result ≡ node_of c.state_at-state.result.now =
    node_at c.args.nfa.now.states c.index-states-i.result c.state_at-state.result.now c.state_at-state.result.now below
    (state_read c.args.nfa.now.states c.index-states-i.result c.state_at-state.result.now
    c.state_at-state.ensures.same) in (
      keep_next (nfa_of c.args.nfa.now) c.args.states.now c.loop-i.kept.items c.push_if.new.kept.items
          (c.args.kept.now.items ++ pick (keep (nfa_of c.args.nfa.now)) c.args.states.now) c.loop-i.i
          c.index-states-i.result c.is_kept.result
          c.loop-i-test.true c.index-states-i.is
          (c.is_kept.ensures
          ∙ (ap (λ m. stays_at m || (splits_at m && c.keeps_unions-keeps_unions.result)) (sym here)
          ∙ ap (λ w. stays_at (node (nfa_of c.args.nfa.now) c.index-states-i.result)
          || (splits_at (node (nfa_of c.args.nfa.now) c.index-states-i.result) && w))
          c.keeps_unions-keeps_unions.ensures)) c.push_if.ensures.items c.loop-i.invariant.0,
      room_next c.loop-i.kept.items c.push_if.new.kept.items (length c.args.kept.now.items) c.loop-i.i
          c.index-states-i.result c.is_kept.result c.push_if.ensures.items c.loop-i.invariant.1,
      (λ other. looks_next (nfa_of c.args.nfa.now) (λ look. eqb (look_index look) (look_index other)) c.args.states.now
          c.loop-i.i c.index-states-i.result
          (truth_of c.loop-i.all other) (truth_of c.add_look-all.result other)
          (truth_of c.args.looks other
          || any_state (λ look. eqb (look_index look) (look_index other)) (nfa_of c.args.nfa.now) c.args.states.now)
          c.loop-i-test.true c.index-states-i.is
          (c.add_look-all.ensures other
          ∙ ap (λ z. looks_at (λ look. eqb (look_index look) (look_index other)) z || truth_of c.loop-i.all other)
          (sym here)) (c.loop-i.invariant.2 other)),
      (let a : vec_capacity c.args.kept.now ≤ vec_capacity c.loop-i.kept = c.loop-i.invariant.3 in
          let b : vec_capacity c.loop-i.kept ≤ vec_capacity c.push_if.new.kept = c.push_if.ensures.capacity in
          omega arith),
    )

pub returns-clause-kept : goal.returns-clause-kept
returns-clause-kept c =
    kept_done (nfa_of c.args.nfa.now) c.args.states.now c.loop-i.kept.items
    (c.args.kept.now.items ++ pick (keep (nfa_of c.args.nfa.now)) c.args.states.now)
    c.loop-i.i c.loop-i-test.false c.loop-i.invariant.0

pub returns-clause-looks : goal.returns-clause-looks
returns-clause-looks c = λ other.
    looks_done (nfa_of c.args.nfa.now) (λ look. eqb (look_index look) (look_index other)) c.args.states.now c.loop-i.i
    (truth_of c.loop-i.all other)
    (truth_of c.args.looks other
    || any_state (λ look. eqb (look_index look) (look_index other)) (nfa_of c.args.nfa.now) c.args.states.now)
    c.loop-i-test.false (c.loop-i.invariant.2 other)
