use Rattle.std.proofs.Common.{◌<◌, List, length, refl, sym, subst}
use Rattle.automata_base.specs.declared.nfa.thompson.state.State.{State}
use Rattle.automata_base.specs.Nfas.Nodes.{node_of, nodes_of}
use Rattle.automata_transform.specs.Retraced.Folds.{IsFoldOf, SomeReads, IsNotFree}
use Rattle.automata_transform.proofs.Nfas.Folds.Parts.{state_at}
use Rattle.automata_transform.proofs.Nfas.Folds.Placed.{set_here, set_other}
use Rattle.automata_transform.proofs.Nfas.Folds.States.{folded_here}
use Rattle.automata_transform.proofs.folding.fold_at.Goals as goal

pub fold_union-requires-clause-below : goal.fold_union-requires-clause-below
fold_union-requires-clause-below c = λ y i.
    subst (λ (z : List State). y < length z) (sym c.as_slice.ensures.value)
    (c.requires.below c.index.result.now c.in-Some.alternates.now
    (state_at c.args.states.now.items c.args.x c.args.x c.index.result.now c.requires.at c.index.ensures refl)
    c.in-Some.ensures.some.0 y i)

pub fold_union-requires-clause-kept : goal.fold_union-requires-clause-kept
fold_union-requires-clause-kept c = λ u t k.
    let r = subst (λ (z : List State). SomeReads z c.in-Some.alternates.now u t) c.as_slice.ensures.value k in
    subst (λ v. IsNotFree c.args.free.now v) r.leads (c.requires.kept r.state r.range r.reads)

pub returns-clause-folded : goal.returns-clause-folded
returns-clause-folded c =
    let states = c.args.states.now.items in
    folded_here states _ c.args.free.now (nodes_of c.fold_union.new.made.items) c.args.x c.index.result.now
    c.in_ok-folded.folded
    c.in-Some.alternates.now (state_at states c.args.x c.args.x c.index.result.now c.requires.at c.index.ensures refl)
    (set_here states c.args.x c.in_ok-folded.folded c.requires.at) c.in-Some.ensures.some.0
    (subst (λ (z : List State). IsFoldOf z c.args.free.now (nodes_of c.fold_union.new.made.items)
    c.in-Some.alternates.now
    (node_of c.in_ok-folded.folded)) c.as_slice.ensures.value c.in_ok-folded.ensures.folded)
    c.in_ok-folded.ensures.reads

pub returns-clause-others : goal.returns-clause-others
returns-clause-others c = λ q f. set_other c.args.states.now.items c.args.x q c.in_ok-folded.folded f
