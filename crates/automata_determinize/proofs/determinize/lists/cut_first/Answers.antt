use Rattle.std.proofs.Common.{sym, ◌∙◌, ◌≡◌, ◌<◌, ◌≤◌, ◌++◌, [], ◌∷◌, ap, subst, length, Some, None, vec_len}
use Rattle.std.proofs.Common.{vec_capacity, arith}
use Rattle.automata_base.specs.Powersets.Cuts.{cut}
use Rattle.automata_determinize.specs.Powersets.Results.{AreMatched}
use Rattle.automata_base.specs.Nfas.Nodes.{nfa_of}
use Rattle.automata_base.specs.Nfas.Nfa.{accepts_at, accepts}
use Rattle.automata_base.proofs.Powersets.Walking.{node_at}
use Rattle.automata_base.proofs.Powersets.Keeping.{below_at}
use Rattle.automata_determinize.proofs.Powersets.Keeping.{cut_next, cut_here, cut_done, cut_picks_next}
use Rattle.automata_determinize.proofs.Powersets.Keeping.{cut_picks_here, cut_picks_done, matched_one, matched_none}
use Rattle.automata_base.proofs.Powersets.Walking.{state_read}
use Rattle.automata_determinize.proofs.determinize.lists.cut_first.Goals as goal

pub state-requires : goal.state-requires
state-requires c =
    below_at c.args.states.now (length c.args.nfa.now.states) c.loop-i.i c.index-states-i.result c.requires.below
    c.loop-i-test.true c.index-states-i.is

pub unwrap-requires : goal.unwrap-requires
unwrap-requires c =
    let low =
    below_at c.args.states.now (length c.args.nfa.now.states) c.loop-i.i c.index-states-i.result c.requires.below
    c.loop-i-test.true c.index-states-i.is in
    let here : accepts (nfa_of c.args.nfa.now) c.index-states-i.result ≡ Some c.in-Some.pattern =
    ap accepts_at
    (node_at c.args.nfa.now.states c.index-states-i.result c.state.result.now c.state.result.now low
    (state_read c.args.nfa.now.states c.index-states-i.result c.state.result.now c.state.ensures.same))
    ∙ (sym c.pattern_of.ensures ∙ c.in-Some.is) in
    let below : c.in-Some.pattern < length c.args.nfa.now.start_pattern =
    c.state.ensures.checked.patterns c.index-states-i.result c.in-Some.pattern here in
    let none : length c.loop-i.patterns.items ≡ 0 = ap length c.loop-i.invariant.2 in
    let len : vec_len c.loop-i.patterns ≡ length c.loop-i.patterns.items = c.loop-i.patterns.ok.0 in
    let kept : vec_capacity c.args.patterns.now ≤ vec_capacity c.loop-i.patterns = c.loop-i.invariant.3 in
    let room : length c.args.nfa.now.start_pattern ≤ vec_capacity c.args.patterns.now = c.requires.room in
    c.push.ensures.succeeds (omega arith)

pub returns-in-Some-clause-cut : goal.returns-in-Some-clause-cut
returns-in-Some-clause-cut c =
    let low =
    below_at c.args.states.now (length c.args.nfa.now.states) c.loop-i.i c.index-states-i.result c.requires.below
    c.loop-i-test.true c.index-states-i.is in
    let here : accepts (nfa_of c.args.nfa.now) c.index-states-i.result ≡ Some c.in-Some.pattern =
    ap accepts_at
    (node_at c.args.nfa.now.states c.index-states-i.result c.state.result.now c.state.result.now low
    (state_read c.args.nfa.now.states c.index-states-i.result c.state.result.now c.state.ensures.same))
    ∙ (sym c.pattern_of.ensures ∙ c.in-Some.is) in
    cut_here (nfa_of c.args.nfa.now) c.args.states.now c.loop-i.i c.index-states-i.result c.in-Some.pattern
    c.loop-i-test.true c.index-states-i.is here c.loop-i.invariant.0

pub returns-in-Some-clause-matched : goal.returns-in-Some-clause-matched
returns-in-Some-clause-matched c =
    let low =
    below_at c.args.states.now (length c.args.nfa.now.states) c.loop-i.i c.index-states-i.result c.requires.below
    c.loop-i-test.true c.index-states-i.is in
    let here : accepts (nfa_of c.args.nfa.now) c.index-states-i.result ≡ Some c.in-Some.pattern =
    ap accepts_at
    (node_at c.args.nfa.now.states c.index-states-i.result c.state.result.now c.state.result.now low
    (state_read c.args.nfa.now.states c.index-states-i.result c.state.result.now c.state.ensures.same))
    ∙ (sym c.pattern_of.ensures ∙ c.in-Some.is) in
    let below : c.in-Some.pattern < length c.args.nfa.now.start_pattern =
    c.state.ensures.checked.patterns c.index-states-i.result c.in-Some.pattern here in
    let items : c.push.new.self.items ≡ c.loop-i.patterns.items ++ c.in-Some.pattern ∷ [] =
    rw c.unwrap.ensures at c.push.ensures.items in
    let one : c.push.new.self.items ≡ c.in-Some.pattern ∷ [] =
    items ∙ ap (λ z. z ++ c.in-Some.pattern ∷ []) c.loop-i.invariant.2 in
    subst (AreMatched c.args.nfa.now (cut (nfa_of c.args.nfa.now) c.args.states.now)) (sym one)
    (matched_one c.args.nfa.now (cut (nfa_of c.args.nfa.now) c.args.states.now) c.in-Some.pattern below
    (cut_picks_here (nfa_of c.args.nfa.now) c.args.states.now c.loop-i.i c.index-states-i.result c.in-Some.pattern
    c.loop-i-test.true c.index-states-i.is here c.loop-i.invariant.1))

pub loop-i-preserved : goal.loop-i-preserved
loop-i-preserved c =
    let here : accepts (nfa_of c.args.nfa.now) c.index-states-i.result ≡ None =
    ap accepts_at (node_at c.args.nfa.now.states c.index-states-i.result c.state.result.now c.state.result.now
    (below_at c.args.states.now (length c.args.nfa.now.states) c.loop-i.i c.index-states-i.result c.requires.below
    c.loop-i-test.true c.index-states-i.is)
    (state_read c.args.nfa.now.states c.index-states-i.result c.state.result.now c.state.ensures.same))
    ∙ (sym c.pattern_of.ensures ∙ c.in-None.is) in (
      cut_next (nfa_of c.args.nfa.now) c.args.states.now c.loop-i.i c.index-states-i.result c.loop-i-test.true
          c.index-states-i.is here c.loop-i.invariant.0,
      cut_picks_next (nfa_of c.args.nfa.now) c.args.states.now c.loop-i.i c.index-states-i.result c.loop-i-test.true
          c.index-states-i.is here c.loop-i.invariant.1,
      c.loop-i.invariant.2,
      c.loop-i.invariant.3,
    )

pub returns-clause-cut : goal.returns-clause-cut
returns-clause-cut c =
    cut_done (nfa_of c.args.nfa.now) c.args.states.now c.loop-i.i c.loop-i-test.false c.loop-i.invariant.0

pub returns-clause-matched : goal.returns-clause-matched
returns-clause-matched c =
    subst (AreMatched c.args.nfa.now (cut (nfa_of c.args.nfa.now) c.args.states.now)) (sym c.loop-i.invariant.2)
    (matched_none c.args.nfa.now (cut (nfa_of c.args.nfa.now) c.args.states.now)
    (cut_picks_done (nfa_of c.args.nfa.now) c.args.states.now c.loop-i.i c.loop-i-test.false c.loop-i.invariant.1))
