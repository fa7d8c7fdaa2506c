use Rattle.std.proofs.Common.{List, ℕ, ◌++◌, length, sym, ap, ◌∙◌, subst}
use Rattle.automata_base.specs.Lists.{In}
use Rattle.automata_base.specs.Haystacks.LookSets.{truth_of}
use Rattle.automata_base.specs.Nfas.Nodes.{nfa_of}
use Rattle.automata_base.specs.Powersets.Closure.{IsUnderWay}
use Rattle.automata_base.proofs.Paths.Walks.{in_left}
use Rattle.automata_determinize.proofs.Powersets.Keeping.{all_in}
use Rattle.automata_determinize.proofs.Powersets.Endings.{targets_cut, targets_whole, matched_front, found_below}
use Rattle.automata_determinize.proofs.determinize.construct.read_with.Goals as goal

pub read_kind-requires-clause-below : goal.read_kind-requires-clause-below
read_kind-requires-clause-below c = λ q i.
    c.requires.below q
    (subst (λ z. In q z) (sym c.in-Some.ensures) (in_left q c.in-Some.front.now c.as_slice.result.now i))

pub close_all-requires-clause-roots : goal.close_all-requires-clause-roots
close_all-requires-clause-roots c =
    all_in c.in-Some-row.row.now (length c.args.nfa.now.states)
    (found_below c.args.nfa.now c.args.closure.now.kept.items c.in-Some-row.row.now c.args.u
    c.states-states.ensures.checked c.in-Some-row.ensures)

pub returns-then-not-read_kind-clause-matched : goal.returns-then-not-read_kind-clause-matched
returns-then-not-read_kind-clause-matched c =
    matched_front c.args.kind c.args.nfa.now c.args.list.now c.in-Some.front.now c.args.closure.now.kept.items
    c.read_kind.new.patterns.items c.read_kind.result
    (c.in-Some.ensures ∙ ap (λ z. c.in-Some.front.now ++ z) c.as_slice.ensures.value)
    (sym c.read_kind.ensures.cut) c.in-Some-row.ensures.unmatched c.read_kind.ensures.matched

pub returns-then-not-read_kind-clause-way : goal.returns-then-not-read_kind-clause-way
returns-then-not-read_kind-clause-way c = λ roots tail h.
    c.close_all.ensures.way roots tail
    (c.read_kind.ensures.way roots (c.in-Some-row.row.now ++ tail)
    (subst (λ z. IsUnderWay (nfa_of c.args.nfa.now) (truth_of c.args.known) roots z c.args.set.now.items)
    (targets_whole c.args.kind (nfa_of c.args.nfa.now) c.args.u c.args.list.now c.in-Some.front.now
    c.args.closure.now.kept.items c.in-Some-row.row.now tail
    (c.in-Some.ensures ∙ ap (λ z. c.in-Some.front.now ++ z) c.as_slice.ensures.value)
    (sym c.read_kind.ensures.cut ∙ c.if-not-read_kind.true) c.in-Some-row.ensures)
    h))

pub returns-else-not-read_kind-clause-matched : goal.returns-else-not-read_kind-clause-matched
returns-else-not-read_kind-clause-matched c =
    matched_front c.args.kind c.args.nfa.now c.args.list.now c.in-Some.front.now c.args.closure.now.kept.items
    c.read_kind.new.patterns.items c.read_kind.result
    (c.in-Some.ensures ∙ ap (λ z. c.in-Some.front.now ++ z) c.as_slice.ensures.value)
    (sym c.read_kind.ensures.cut) c.in-Some-row.ensures.unmatched c.read_kind.ensures.matched

pub returns-else-not-read_kind-clause-way : goal.returns-else-not-read_kind-clause-way
returns-else-not-read_kind-clause-way c = λ roots tail h.
    c.read_kind.ensures.way roots tail
    (subst (λ (z : List ℕ). IsUnderWay (nfa_of c.args.nfa.now) (truth_of c.args.known) roots (z ++ tail)
    c.args.set.now.items)
    (targets_cut c.args.kind (nfa_of c.args.nfa.now) c.args.u c.args.list.now c.in-Some.front.now
    c.args.closure.now.kept.items
    (c.in-Some.ensures ∙ ap (λ z. c.in-Some.front.now ++ z) c.as_slice.ensures.value)
    (sym c.read_kind.ensures.cut ∙ c.if-not-read_kind.false))
    h)
