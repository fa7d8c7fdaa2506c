use Rattle.std.proofs.Common.{[], ◌∷◌, ◌++◌, ◌+◌, length, length-append, ap, sym, ◌∙◌}
use Rattle.automata_base.proofs.Nfas.Mirrors.Lists.{none_more}
use Rattle.automata_transform.specs.Retraced.ReversedEdges.{alternate_lists}
use Rattle.automata_transform.specs.declared.alternates.Alternates.TheVariants.{Empty}
use Rattle.automata_transform.proofs.Nfas.Mirrors.Lists.{alternates_append}
use Rattle.automata_transform.proofs.alternates.no_alternates.Goals as goal

pub loop-i-preserved : goal.loop-i-preserved
loop-i-preserved c = record {
  none =
      ap alternate_lists c.in_ok-push.ensures.items
      ∙ (alternates_append c.loop-i.lists.items Empty
      ∙ (ap (λ xs. xs ++ [] ∷ []) c.loop-i.invariant.none ∙ sym (none_more c.loop-i.i)));
  few =
      ap (λ xs. length xs) c.in_ok-push.ensures.items
      ∙ (length-append c.loop-i.lists.items (Empty ∷ []) ∙ ap (λ n. n + 1) c.loop-i.invariant.few);
}
