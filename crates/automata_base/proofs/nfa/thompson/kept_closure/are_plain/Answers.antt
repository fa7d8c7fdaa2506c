use Rattle.std.proofs.Common.{◌≡◌, length, ap, sym, ◌∙◌, arith}
use Rattle.automata_base.specs.Nfas.Nodes.{nfa_of}
use Rattle.automata_base.specs.Nfas.Nfa.{accepts, accepts_at}
use Rattle.automata_base.specs.Powersets.Cuts.{has_match}
use Rattle.automata_base.proofs.Powersets.Walking.{node_at, state_read}
use Rattle.automata_base.proofs.Powersets.Keeping.{below_at}
use Rattle.automata_base.proofs.Powersets.Endings.{match_next_test, match_done}
use Rattle.automata_base.proofs.nfa.thompson.kept_closure.are_plain.Goals as goal

pub state_at-state-requires-clause-id : goal.state_at-state-requires-clause-id
state_at-state-requires-clause-id c =
    let below =
    below_at c.args.kept.now (length c.args.nfa.now.states) c.loop-i.i c.index-kept-i.result c.requires.below
    c.loop-i-test.true c.index-kept-i.is in
    let same = ap length c.states-states.ensures.same in
    omega (arith, below, same)

pub loop-i-preserved : goal.loop-i-preserved
loop-i-preserved c =
    let n = nfa_of c.args.nfa.now in
    let q = c.index-kept-i.result in
    let below =
    below_at c.args.kept.now (length c.args.nfa.now.states) c.loop-i.i q c.requires.below c.loop-i-test.true
    c.index-kept-i.is in
    let here : accepts n q ≡ c.pattern_of.result =
    ap accepts_at
    (node_at c.args.nfa.now.states q c.state_at-state.result.now c.state_at-state.result.now below
    (state_read c.args.nfa.now.states q c.state_at-state.result.now c.state_at-state.ensures.same))
    ∙ sym c.pattern_of.ensures in
    match_next_test n c.args.kept.now c.loop-i.i q c.pattern_of.result (has_match n c.args.kept.now) c.loop-i-test.true
    c.index-kept-i.is here
    (sym c.is_some.ensures ∙ c.if-is_some.false) c.loop-i.invariant

pub returns : goal.returns
returns c = λ _.
    sym (match_done (nfa_of c.args.nfa.now) c.args.kept.now c.loop-i.i
    (has_match (nfa_of c.args.nfa.now) c.args.kept.now) c.loop-i-test.false c.loop-i.invariant)
