use Rattle.std.proofs.Common.{ℕ, ◌≡◌, ◌<◌, ◌↔◌, [], ◌∷◌, false, length, subst, sym}
use Rattle.std.specs.Prelude.{IsTrue}
use Rattle.automata_base.specs.Haystacks.LookSets.{truth_of}
use Rattle.automata_base.specs.Lists.{In}
use Rattle.automata_base.specs.Nfas.Nfa.{ends_at}
use Rattle.automata_base.specs.Nfas.Nodes.{nfa_of}
use Rattle.automata_base.specs.Paths.Paths.{IsClosure}
use Rattle.automata_base.specs.Retraced.Reach.{node_in}
use Rattle.automata_transform.proofs.Nfas.Anchored.{needs_found}
use Rattle.automata_transform.proofs.anchoring.needs_start.Goals as goal

pub have_no_end-requires : goal.have_no_end-requires
have_no_end-requires c = λ q i.
    let below = c.as_slice.ensures.below q (subst (λ z. In q z) c.as_slice.ensures.items i) in
    subst (λ z. q < length z) (sym c.states-2.ensures.same) (subst (λ z. q < z) c.close.ensures.room.whole below)

pub returns : goal.returns
returns c =
    needs_found c.args.nfa.now c.from_bits-looks.result c.as_slice.result.now c.close.new.set.items
    c.have_no_end.result c.from_bits-looks.ensures c.as_slice.ensures.items
    (subst (λ z. IsClosure (nfa_of c.args.nfa.now) (truth_of c.from_bits-looks.result) (z ∷ []) c.close.new.set.items)
    c.start_anchored.ensures c.close.ensures.closure)
    (subst (λ z. IsTrue c.have_no_end.result
    ↔ ((q : ℕ) → In q c.as_slice.result.now → ends_at (node_in z q) ≡ false)) c.states-2.ensures.same
    c.have_no_end.ensures)
