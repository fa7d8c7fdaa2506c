use Rattle.std.proofs.Common.{ℕ, ◌<◌, ◌∙◌, [], ◌∷◌, length, subst, sym}
use Rattle.automata_base.specs.Haystacks.LookSets.{truth_of}
use Rattle.automata_base.specs.Lists.{In}
use Rattle.automata_base.specs.Nfas.Nodes.{nfa_of}
use Rattle.automata_base.specs.Paths.Paths.{IsClosure}
use Rattle.automata_base.specs.Retraced.Reach.{node_in}
use Rattle.prefilters.specs.FirstBytes.{ReadsFirstBytes}
use Rattle.prefilters.proofs.FirstSteps.{all_looks, begins}
use Rattle.prefilters.proofs.first_bytes.FirstBytes.new.Goals as goal

pub add_all-requires : goal.add_all-requires
add_all-requires c = λ q i.
    let below = c.as_slice.ensures.below q (subst (λ z. In q z) c.as_slice.ensures.items i) in
    subst (λ z. q < length z) (sym c.states-2.ensures.same) (subst (λ z. q < z) c.close.ensures.room.whole below)

pub returns-then-contains : goal.returns-then-contains
returns-then-contains c =
    begins c.args.nfa.now c.from_bits-looks.result c.as_slice.result.now c.close.new.set.items c.add_all.new.table
    (λ look. c.from_bits-looks.ensures look ∙ all_looks look) c.as_slice.ensures.items
    (subst (λ z. IsClosure (nfa_of c.args.nfa.now) (truth_of c.from_bits-looks.result) (z ∷ []) c.close.new.set.items)
    c.start_anchored.ensures c.close.ensures.closure)
    (subst (λ z. (q : ℕ) → In q c.as_slice.result.now → ReadsFirstBytes c.add_all.new.table (node_in z q))
    c.states-2.ensures.same (c.add_all.ensures c.if-add_all.true))
