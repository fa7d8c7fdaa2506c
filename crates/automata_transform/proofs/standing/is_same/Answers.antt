use Rattle.std.proofs.Common.{ℕ, List, ap, sym, ◌∙◌}
use Rattle.std.proofs.lemmas.Slice.Eq.{slice_eq-Decides}
use Rattle.automata_base.specs.Nfas.Nfa.{Split, Read}
use Rattle.automata_base.specs.Nfas.Nodes.{node_of, dense_from, ranges_of}
use Rattle.automata_base.specs.declared.nfa.thompson.state.Transition.{Transition}
use Rattle.automata_transform.proofs.Nfas.Standing.{same_id, same_range}
use Rattle.automata_transform.proofs.standing.is_same.Goals as goal

pub returns-in-Sparse-Sparse : goal.returns-in-Sparse-Sparse
returns-in-Sparse-Sparse c = λ t.
    ap node_of c.in-Sparse-Sparse.is-1
    ∙ (ap (λ (xs : List Transition). Read (ranges_of xs))
    (sym c.as_slice-in-Sparse-Sparse.ensures.value
    ∙ (sym ((slice_eq-Decides same_range c.as_slice.result.now c.as_slice-in-Sparse-Sparse.result.now
    c.eq-in-Sparse-Sparse.result
    c.eq-in-Sparse-Sparse.ensures).0 t)
    ∙ c.as_slice.ensures.value))
    ∙ sym (ap node_of c.in-Sparse-Sparse.is-0))

pub returns-in-Dense-Dense : goal.returns-in-Dense-Dense
returns-in-Dense-Dense c = λ t.
    ap node_of c.in-Dense-Dense.is-1
    ∙ (ap (λ (xs : List ℕ). Read (dense_from 0 xs))
    (sym (c.as_slice-in-Dense-Dense-2.ensures ∙ c.deref-in-Dense-Dense.ensures)
    ∙ (sym ((slice_eq-Decides same_id c.as_slice-in-Dense-Dense.result.now c.as_slice-in-Dense-Dense-2.result.now
    c.eq-in-Dense-Dense.result
    c.eq-in-Dense-Dense.ensures).0 t)
    ∙ (c.as_slice-in-Dense-Dense.ensures ∙ c.deref.ensures)))
    ∙ sym (ap node_of c.in-Dense-Dense.is-0))

pub returns-in-Union-Union : goal.returns-in-Union-Union
returns-in-Union-Union c = λ t.
    ap node_of c.in-Union-Union.is-1
    ∙ (ap (λ (xs : List ℕ). Split xs)
    (sym c.as_slice-in-Union-Union-2.ensures.value
    ∙ (sym ((slice_eq-Decides same_id c.as_slice-in-Union-Union.result.now c.as_slice-in-Union-Union-2.result.now
    c.eq-in-Union-Union.result
    c.eq-in-Union-Union.ensures).0 t)
    ∙ c.as_slice-in-Union-Union.ensures.value))
    ∙ sym (ap node_of c.in-Union-Union.is-0))
