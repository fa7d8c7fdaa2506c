use Rattle.std.proofs.Common.{◌≡◌, ◌<◌, ◌≤◌, length, sym, ap, ◌∙◌, arith, vec_len, vec_capacity}
use Rattle.automata_base.specs.Nfas.Nodes.{nfa_of}
use Rattle.automata_base.specs.Nfas.Nfa.{accepts, accepts_at}
use Rattle.automata_base.proofs.Powersets.Walking.{node_at}
use Rattle.automata_base.proofs.Powersets.Distinct.{distinct_below}
use Rattle.automata_base.proofs.Powersets.Keeping.{below_at}
use Rattle.automata_determinize.proofs.Powersets.Keeping.{pattern_next, pattern_room, once_done}
use Rattle.automata_base.proofs.Powersets.Walking.{state_read}
use Rattle.automata_determinize.proofs.determinize.lists.read_patterns.Goals as goal

pub state-requires : goal.state-requires
state-requires c =
    below_at c.args.list.now (length c.args.nfa.now.states) c.loop-i.i c.index-list-i.result c.requires.below
    c.loop-i-test.true c.index-list-i.is

pub add_maybe-requires-clause-room : goal.add_maybe-requires-clause-room
add_maybe-requires-clause-room c = λ p s new.
    let below =
    below_at c.args.list.now (length c.args.nfa.now.states) c.loop-i.i c.index-list-i.result c.requires.below
    c.loop-i-test.true c.index-list-i.is in
    let here : accepts (nfa_of c.args.nfa.now) c.index-list-i.result ≡ c.pattern_of.result =
    ap accepts_at
    (node_at c.args.nfa.now.states c.index-list-i.result c.state.result.now c.state.result.now below
    (state_read c.args.nfa.now.states c.index-list-i.result c.state.result.now c.state.ensures.same))
    ∙ sym c.pattern_of.ensures in
    let room : length c.loop-i.patterns.items < length c.args.nfa.now.start_pattern =
    pattern_room c.loop-i.patterns.items p (length c.args.nfa.now.start_pattern) c.loop-i.invariant.patterns.1
    c.loop-i.invariant.patterns.2
    (c.state.ensures.checked.patterns c.index-list-i.result p (here ∙ s)) new in
    let len : vec_len c.loop-i.patterns ≡ length c.loop-i.patterns.items = c.loop-i.patterns.ok.0 in
    let kept : vec_capacity c.args.patterns.now ≤ vec_capacity c.loop-i.patterns = c.loop-i.invariant.capacity in
    omega (arith, room, len, kept, c.requires.room)

pub loop-i-preserved : goal.loop-i-preserved
loop-i-preserved c =
    let below =
    below_at c.args.list.now (length c.args.nfa.now.states) c.loop-i.i c.index-list-i.result c.requires.below
    c.loop-i-test.true c.index-list-i.is in
    let here : accepts (nfa_of c.args.nfa.now) c.index-list-i.result ≡ c.pattern_of.result =
    ap accepts_at
    (node_at c.args.nfa.now.states c.index-list-i.result c.state.result.now c.state.result.now below
    (state_read c.args.nfa.now.states c.index-list-i.result c.state.result.now c.state.ensures.same))
    ∙ sym c.pattern_of.ensures in
    let kept : vec_capacity c.args.patterns.now ≤ vec_capacity c.loop-i.patterns = c.loop-i.invariant.capacity in
    let more : vec_capacity c.loop-i.patterns ≤ vec_capacity c.add_maybe.new.patterns = c.add_maybe.ensures.room in
    record {
      patterns =
          pattern_next (accepts (nfa_of c.args.nfa.now)) c.args.list.now c.loop-i.i c.index-list-i.result
          (length c.args.nfa.now.start_pattern) c.pattern_of.result
          c.loop-i.patterns.items c.add_maybe.new.patterns.items c.loop-i-test.true c.index-list-i.is here
          (λ p s. c.state.ensures.checked.patterns c.index-list-i.result p (here ∙ s)) c.add_maybe.ensures.some
          c.add_maybe.ensures.none c.loop-i.invariant.patterns;
      capacity = omega arith;
      marks = c.add_maybe.ensures.marks;
      whole = c.add_maybe.ensures.whole ∙ c.loop-i.invariant.whole;
    }

pub returns-clause-matched : goal.returns-clause-matched
returns-clause-matched c = record {
  once =
      once_done (accepts (nfa_of c.args.nfa.now)) c.args.list.now c.loop-i.patterns.items c.loop-i.i c.loop-i-test.false
      c.loop-i.invariant.patterns.0;
  distinct = c.loop-i.invariant.patterns.1;
  few =
      distinct_below (length c.args.nfa.now.start_pattern) c.loop-i.patterns.items c.loop-i.invariant.patterns.1
      c.loop-i.invariant.patterns.2;
}
