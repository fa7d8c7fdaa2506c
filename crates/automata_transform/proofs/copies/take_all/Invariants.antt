use Rattle.std.proofs.Common.{ℕ, ◌≡◌, ◌++◌, drop, get_or, length}
use Rattle.automata_base.specs.declared.nfa.thompson.state.State.TheVariants.{Fail}
use Rattle.automata_base.specs.Lists.{In}
use Rattle.automata_base.specs.Nfas.Nodes.{nodes_of}
use Rattle.automata_transform.specs.Retraced.ReversedEdges.{copy_of, copies}
use Rattle.automata_transform.proofs.copies.take_all.Given as goal

abbrev pub invariant-loop-id : goal.invariant-loop-id
invariant-loop-id l = record {
  copied :
      nodes_of l.out.items
      ++ copies (copy_of l.base l.set.items) l.pattern l.fn.turned.items (drop l.id-index l.members)
      ≡ nodes_of l.fn.out.items ++ copies (copy_of l.base l.set.items) l.pattern l.fn.turned.items l.members;
  rest :
      (q : ℕ) → In q (drop l.id-index l.members) → get_or l.turned.items q Fail ≡ get_or l.fn.turned.items q Fail;
  same : length l.turned.items ≡ length l.fn.turned.items;
}
