use Rattle.std.proofs.Common.{List, ℕ, ◌++◌, ◌≡◌, ◌<◌, length, Some, sym, ap, ◌∙◌, subst, ◌+◌, drop}
use Rattle.std.proofs.lemmas.List.{drop_all}
use Rattle.automata_base.specs.Nfas.Nodes.{nfa_of}
use Rattle.automata_base.specs.Haystacks.LookSets.{truth_of}
use Rattle.automata_base.specs.Lists.{cons_some}
use Rattle.automata_base.specs.Nfas.Nfa.{takes, takes_at}
use Rattle.automata_base.specs.Powersets.Cuts.{targets}
use Rattle.automata_base.specs.Powersets.Closure.{IsUnderWay}
use Rattle.automata_determinize.proofs.Powersets.Endings.{cons_both}
use Rattle.automata_base.proofs.Powersets.Walking.{node_at, nodes_length}
use Rattle.automata_base.proofs.Powersets.Keeping.{below_at, pick_next}
use Rattle.automata_base.proofs.Powersets.Walking.{state_read}
use Rattle.automata_determinize.proofs.determinize.construct.close_targets.Goals as goal

pub state-requires : goal.state-requires
state-requires c =
    below_at c.args.list.now (length c.args.nfa.now.states) c.loop-i.i c.index-list-i.result c.requires.below
    c.loop-i-test.true c.index-list-i.is

pub loop-i-init : goal.loop-i-init
loop-i-init c = (λ roots tail h. h, c.requires.room)

pub close_maybe-requires-clause-start : goal.close_maybe-requires-clause-start
close_maybe-requires-clause-start c = λ q s.
    let below =
    below_at c.args.list.now (length c.args.nfa.now.states) c.loop-i.i c.index-list-i.result c.requires.below
    c.loop-i-test.true c.index-list-i.is in
    let here : takes (nfa_of c.args.nfa.now) c.index-list-i.result c.args.u ≡ c.target.result =
    ap (λ m. takes_at m c.args.u)
    (node_at c.args.nfa.now.states c.index-list-i.result c.state.result.now c.state.result.now below
    (state_read c.args.nfa.now.states c.index-list-i.result c.state.result.now c.state.ensures.same))
    ∙ sym c.target.ensures in
    subst (λ z. q < z) (nodes_length c.args.nfa.now.states)
    (c.state.ensures.checked.range.1 c.index-list-i.result c.args.u q (here ∙ s))

pub loop-i-preserved : goal.loop-i-preserved
loop-i-preserved c =
    let below =
    below_at c.args.list.now (length c.args.nfa.now.states) c.loop-i.i c.index-list-i.result c.requires.below
    c.loop-i-test.true c.index-list-i.is in
    let here : takes (nfa_of c.args.nfa.now) c.index-list-i.result c.args.u ≡ c.target.result =
    ap (λ m. takes_at m c.args.u)
    (node_at c.args.nfa.now.states c.index-list-i.result c.state.result.now c.state.result.now below
    (state_read c.args.nfa.now.states c.index-list-i.result c.state.result.now c.state.ensures.same))
    ∙ sym c.target.ensures in
    let n = nfa_of c.args.nfa.now in
    let rest = targets n (Some c.args.u) (drop (c.loop-i.i + 1) c.args.list.now) in (
      λ roots tail h.
          c.close_maybe.ensures.way roots (rest ++ tail)
          (subst (λ z. IsUnderWay n (truth_of c.args.known) roots z c.loop-i.set.items)
          (ap (λ z. z ++ tail)
          (pick_next (λ b. takes n b c.args.u) c.args.list.now c.loop-i.i c.index-list-i.result c.loop-i-test.true
          c.index-list-i.is
          ∙ ap (λ z. cons_some z rest) here)
          ∙ sym (cons_both c.target.result rest tail))
          (c.loop-i.invariant.0 roots tail h)),
      c.close_maybe.ensures.room,
    )

pub returns-clause-way : goal.returns-clause-way
returns-clause-way c = λ roots tail h.
    subst (λ (s : List ℕ). IsUnderWay (nfa_of c.args.nfa.now) (truth_of c.args.known) roots
    (targets (nfa_of c.args.nfa.now) (Some c.args.u) s ++ tail) c.loop-i.set.items)
    (drop_all c.loop-i.i c.args.list.now c.loop-i-test.false) (c.loop-i.invariant.0 roots tail h)
