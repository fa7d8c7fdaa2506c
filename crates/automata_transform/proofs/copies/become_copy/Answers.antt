use Rattle.std.proofs.Common.{ℕ, List, [], sym, subst, inl, refl}
use Rattle.automata_base.specs.declared.nfa.thompson.state.State.{State}
use Rattle.automata_base.specs.declared.nfa.thompson.reach.Edges.TheVariants.{Every}
use Rattle.automata_base.specs.Lists.{In}
use Rattle.automata_base.specs.Nfas.Nodes.{node_of}
use Rattle.automata_base.specs.Retraced.Reach.{targets_at}
use Rattle.automata_base.proofs.Paths.Walks.{in_left}
use Rattle.automata_transform.proofs.copies.become_copy.Goals as goal

pub copy_id-requires-clause-member : goal.copy_id-requires-clause-member
copy_id-requires-clause-member c =
    c.requires.members c.in-ByteRange.next
    (subst (λ (s : State). In c.in-ByteRange.next (targets_at Every (node_of s))) (sym c.in-ByteRange.is) (inl refl))

pub copy_id-requires-in-Look-clause-member : goal.copy_id-requires-in-Look-clause-member
copy_id-requires-in-Look-clause-member c =
    c.requires.members c.in-Look.next
    (subst (λ (s : State). In c.in-Look.next (targets_at Every (node_of s))) (sym c.in-Look.is) (inl refl))

pub renumber-requires-clause-members : goal.renumber-requires-clause-members
renumber-requires-clause-members c = λ q i.
    c.requires.members q
    (subst (λ (s : State). In q (targets_at Every (node_of s))) (sym c.in-Union.is)
    (in_left q c.in-Union.alternates.items [] (subst (λ (xs : List ℕ). In q xs) c.as_mut_slice.ensures.value i)))
