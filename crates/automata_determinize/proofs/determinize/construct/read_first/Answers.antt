use Rattle.std.proofs.Common.{List, ℕ, ◌≡◌, ◌<◌, ◌≤◌, ◌++◌, [], ◌∷◌, length, Some, None, sym, ap, ◌∙◌, subst, refl, ◌+◌}
use Rattle.std.proofs.Common.{drop}
use Rattle.std.proofs.Common.{vec_len, vec_capacity, arith}
use Rattle.automata_base.specs.Nfas.Nodes.{nfa_of}
use Rattle.automata_base.specs.Haystacks.LookSets.{truth_of}
use Rattle.automata_base.specs.Lists.{cons_some}
use Rattle.automata_determinize.specs.Powersets.Results.{AreMatched}
use Rattle.automata_base.specs.Nfas.Nfa.{takes, takes_at, accepts, accepts_at}
use Rattle.automata_base.specs.Powersets.Cuts.{cut, has_match, targets}
use Rattle.automata_base.specs.Powersets.Closure.{IsUnderWay}
use Rattle.automata_determinize.proofs.Powersets.Endings.{cons_both, match_here}
use Rattle.automata_base.proofs.Powersets.Endings.{match_next, match_done}
use Rattle.automata_base.proofs.Powersets.Walking.{node_at, nodes_length}
use Rattle.automata_base.proofs.Powersets.Keeping.{below_at}
use Rattle.automata_determinize.proofs.Powersets.Keeping.{cut_picks_next, cut_picks_here, cut_picks_done}
use Rattle.automata_determinize.proofs.Powersets.Keeping.{cut_targets_next, cut_targets_here, cut_targets_done}
use Rattle.automata_determinize.proofs.Powersets.Keeping.{matched_one, matched_none}
use Rattle.automata_base.proofs.Powersets.Walking.{state_read}
use Rattle.automata_determinize.proofs.determinize.construct.read_first.Goals as goal

pub state_at-state-requires-clause-id : goal.state_at-state-requires-clause-id
state_at-state-requires-clause-id c =
    let below =
    below_at c.args.list.now (length c.args.nfa.now.states) c.loop-i.i c.index-list-i.result c.requires.below
    c.loop-i-test.true c.index-list-i.is in
    let same = ap length c.states-states.ensures.same in
    omega (arith, below, same)

pub loop-i-init : goal.loop-i-init
loop-i-init c =
    let same : vec_capacity c.clear.new.self ≡ vec_capacity c.args.patterns.now = c.clear.ensures.capacity in
    record {
      way = λ roots tail h. h;
      matches = refl;
      room = c.requires.room;
      picks = refl;
      none = c.clear.ensures.items;
      capacity = omega arith;
    }

pub push_reserved-requires : goal.push_reserved-requires
push_reserved-requires c =
    let low =
    below_at c.args.list.now (length c.args.nfa.now.states) c.loop-i.i c.index-list-i.result c.requires.below
    c.loop-i-test.true c.index-list-i.is in
    let here : accepts (nfa_of c.args.nfa.now) c.index-list-i.result ≡ Some c.in-Some.pattern =
    ap accepts_at
    (node_at c.args.nfa.now.states c.index-list-i.result c.state_at-state.result.now c.state_at-state.result.now low
    (state_read c.args.nfa.now.states c.index-list-i.result c.state_at-state.result.now c.state_at-state.ensures.same))
    ∙ (sym c.pattern_of.ensures ∙ c.in-Some.is) in
    let below : c.in-Some.pattern < length c.args.nfa.now.start_pattern =
    c.state_at-state.ensures.checked.patterns c.index-list-i.result c.in-Some.pattern here in
    let none : length c.loop-i.patterns.items ≡ 0 = ap length c.loop-i.invariant.none in
    let len : vec_len c.loop-i.patterns ≡ length c.loop-i.patterns.items = c.loop-i.patterns.ok.0 in
    let kept : vec_capacity c.args.patterns.now ≤ vec_capacity c.loop-i.patterns = c.loop-i.invariant.capacity in
    let room : length c.args.nfa.now.start_pattern ≤ vec_capacity c.args.patterns.now = c.requires.patterns in
    omega arith

pub returns-in-Some-clause-matched : goal.returns-in-Some-clause-matched
returns-in-Some-clause-matched c =
    let low =
    below_at c.args.list.now (length c.args.nfa.now.states) c.loop-i.i c.index-list-i.result c.requires.below
    c.loop-i-test.true c.index-list-i.is in
    let here : accepts (nfa_of c.args.nfa.now) c.index-list-i.result ≡ Some c.in-Some.pattern =
    ap accepts_at
    (node_at c.args.nfa.now.states c.index-list-i.result c.state_at-state.result.now c.state_at-state.result.now low
    (state_read c.args.nfa.now.states c.index-list-i.result c.state_at-state.result.now c.state_at-state.ensures.same))
    ∙ (sym c.pattern_of.ensures ∙ c.in-Some.is) in
    let below : c.in-Some.pattern < length c.args.nfa.now.start_pattern =
    c.state_at-state.ensures.checked.patterns c.index-list-i.result c.in-Some.pattern here in
    let one : c.push_reserved.new.self.items ≡ c.in-Some.pattern ∷ [] =
    c.push_reserved.ensures.items ∙ ap (λ z. z ++ c.in-Some.pattern ∷ []) c.loop-i.invariant.none in
    subst (AreMatched c.args.nfa.now (cut (nfa_of c.args.nfa.now) c.args.list.now)) (sym one)
    (matched_one c.args.nfa.now (cut (nfa_of c.args.nfa.now) c.args.list.now) c.in-Some.pattern below
    (cut_picks_here (nfa_of c.args.nfa.now) c.args.list.now c.loop-i.i c.index-list-i.result c.in-Some.pattern
    c.loop-i-test.true c.index-list-i.is here c.loop-i.invariant.picks))

pub returns-in-Some-clause-way : goal.returns-in-Some-clause-way
returns-in-Some-clause-way c = λ roots tail h.
    let low =
    below_at c.args.list.now (length c.args.nfa.now.states) c.loop-i.i c.index-list-i.result c.requires.below
    c.loop-i-test.true c.index-list-i.is in
    let here : accepts (nfa_of c.args.nfa.now) c.index-list-i.result ≡ Some c.in-Some.pattern =
    ap accepts_at
    (node_at c.args.nfa.now.states c.index-list-i.result c.state_at-state.result.now c.state_at-state.result.now low
    (state_read c.args.nfa.now.states c.index-list-i.result c.state_at-state.result.now c.state_at-state.ensures.same))
    ∙ (sym c.pattern_of.ensures ∙ c.in-Some.is) in
    subst (λ (z : List ℕ). IsUnderWay (nfa_of c.args.nfa.now) (truth_of c.args.known) roots (z ++ tail)
    c.loop-i.set.items)
    (cut_targets_here (nfa_of c.args.nfa.now) c.args.list.now c.args.u c.loop-i.i c.index-list-i.result
    c.in-Some.pattern c.loop-i-test.true c.index-list-i.is here)
    (c.loop-i.invariant.way roots tail h)

pub returns-in-Some-clause-matches : goal.returns-in-Some-clause-matches
returns-in-Some-clause-matches c =
    let low =
    below_at c.args.list.now (length c.args.nfa.now.states) c.loop-i.i c.index-list-i.result c.requires.below
    c.loop-i-test.true c.index-list-i.is in
    let here : accepts (nfa_of c.args.nfa.now) c.index-list-i.result ≡ Some c.in-Some.pattern =
    ap accepts_at
    (node_at c.args.nfa.now.states c.index-list-i.result c.state_at-state.result.now c.state_at-state.result.now low
    (state_read c.args.nfa.now.states c.index-list-i.result c.state_at-state.result.now c.state_at-state.ensures.same))
    ∙ (sym c.pattern_of.ensures ∙ c.in-Some.is) in
    match_here (nfa_of c.args.nfa.now) c.args.list.now c.loop-i.i c.index-list-i.result c.in-Some.pattern
    (has_match (nfa_of c.args.nfa.now) c.args.list.now)
    c.loop-i-test.true c.index-list-i.is here c.loop-i.invariant.matches

pub close_maybe-requires-clause-start : goal.close_maybe-requires-clause-start
close_maybe-requires-clause-start c = λ q s.
    let low =
    below_at c.args.list.now (length c.args.nfa.now.states) c.loop-i.i c.index-list-i.result c.requires.below
    c.loop-i-test.true c.index-list-i.is in
    let at =
    node_at c.args.nfa.now.states c.index-list-i.result c.state_at-state.result.now c.state_at-state.result.now low
    (state_read c.args.nfa.now.states c.index-list-i.result c.state_at-state.result.now
    c.state_at-state.ensures.same) in
    let none : accepts (nfa_of c.args.nfa.now) c.index-list-i.result ≡ None =
    ap accepts_at at ∙ (sym c.pattern_of.ensures ∙ c.in-None.is) in
    let here : takes (nfa_of c.args.nfa.now) c.index-list-i.result c.args.u ≡ c.target.result =
    ap (λ m. takes_at m c.args.u) at ∙ sym c.target.ensures in
    subst (λ z. q < z) (nodes_length c.args.nfa.now.states)
    (c.state_at-state.ensures.checked.range.1 c.index-list-i.result c.args.u q (here ∙ s))

pub loop-i-preserved : goal.loop-i-preserved
loop-i-preserved c =
    let low =
    below_at c.args.list.now (length c.args.nfa.now.states) c.loop-i.i c.index-list-i.result c.requires.below
    c.loop-i-test.true c.index-list-i.is in
    let at =
    node_at c.args.nfa.now.states c.index-list-i.result c.state_at-state.result.now c.state_at-state.result.now low
    (state_read c.args.nfa.now.states c.index-list-i.result c.state_at-state.result.now
    c.state_at-state.ensures.same) in
    let none : accepts (nfa_of c.args.nfa.now) c.index-list-i.result ≡ None =
    ap accepts_at at ∙ (sym c.pattern_of.ensures ∙ c.in-None.is) in
    let here : takes (nfa_of c.args.nfa.now) c.index-list-i.result c.args.u ≡ c.target.result =
    ap (λ m. takes_at m c.args.u) at ∙ sym c.target.ensures in
    let rest =
    targets (nfa_of c.args.nfa.now) (Some c.args.u)
    (cut (nfa_of c.args.nfa.now) (drop (c.loop-i.i + 1) c.args.list.now)) in
    record {
      way = λ roots tail h.
          c.close_maybe.ensures.way roots (rest ++ tail)
          (subst (λ z. IsUnderWay (nfa_of c.args.nfa.now) (truth_of c.args.known) roots z c.loop-i.set.items)
          (ap (λ z. z ++ tail)
          (cut_targets_next (nfa_of c.args.nfa.now) c.args.list.now c.args.u c.loop-i.i c.index-list-i.result
          c.loop-i-test.true c.index-list-i.is none
          ∙ ap (λ z. cons_some z rest) here)
          ∙ sym (cons_both c.target.result rest tail))
          (c.loop-i.invariant.way roots tail h));
      matches =
          match_next (nfa_of c.args.nfa.now) c.args.list.now c.loop-i.i c.index-list-i.result
          (has_match (nfa_of c.args.nfa.now) c.args.list.now)
          c.loop-i-test.true c.index-list-i.is none c.loop-i.invariant.matches;
      room = c.close_maybe.ensures.room;
      picks =
          cut_picks_next (nfa_of c.args.nfa.now) c.args.list.now c.loop-i.i c.index-list-i.result c.loop-i-test.true
          c.index-list-i.is none c.loop-i.invariant.picks;
      none = c.loop-i.invariant.none;
      capacity = c.loop-i.invariant.capacity;
    }

pub returns-clause-matched : goal.returns-clause-matched
returns-clause-matched c =
    subst (AreMatched c.args.nfa.now (cut (nfa_of c.args.nfa.now) c.args.list.now)) (sym c.loop-i.invariant.none)
    (matched_none c.args.nfa.now (cut (nfa_of c.args.nfa.now) c.args.list.now)
    (cut_picks_done (nfa_of c.args.nfa.now) c.args.list.now c.loop-i.i c.loop-i-test.false c.loop-i.invariant.picks))

pub returns-clause-way : goal.returns-clause-way
returns-clause-way c = λ roots tail h.
    subst (λ (z : List ℕ). IsUnderWay (nfa_of c.args.nfa.now) (truth_of c.args.known) roots (z ++ tail)
    c.loop-i.set.items)
    (cut_targets_done (nfa_of c.args.nfa.now) c.args.list.now c.args.u c.loop-i.i c.loop-i-test.false)
    (c.loop-i.invariant.way roots tail h)

pub returns-clause-matches : goal.returns-clause-matches
returns-clause-matches c =
    match_done (nfa_of c.args.nfa.now) c.args.list.now c.loop-i.i (has_match (nfa_of c.args.nfa.now) c.args.list.now)
    c.loop-i-test.false c.loop-i.invariant.matches
