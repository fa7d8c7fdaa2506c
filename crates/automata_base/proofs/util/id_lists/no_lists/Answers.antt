use Rattle.std.proofs.Common.{[], ◌∷◌, ◌++◌, ◌+◌, length, length-append, ap, ap₂, sym, ◌∙◌}
use Rattle.automata_base.specs.Retraced.ReversedEdges.{lists_of}
use Rattle.automata_base.proofs.Nfas.Mirrors.Lists.{lists_append, none_more}
use Rattle.automata_base.proofs.util.id_lists.no_lists.Goals as goal

pub loop-i-preserved : goal.loop-i-preserved
loop-i-preserved c = record {
  none =
      ap lists_of c.in_ok-push.ensures.items
      ∙ (lists_append c.loop-i.lists.items c.new.result
      ∙ (ap₂ (λ xs ys. xs ++ ys ∷ []) c.loop-i.invariant.none c.new.ensures.items ∙ sym (none_more c.loop-i.i)));
  few =
      ap (λ xs. length xs) c.in_ok-push.ensures.items
      ∙ (length-append c.loop-i.lists.items (c.new.result ∷ []) ∙ ap (λ n. n + 1) c.loop-i.invariant.few);
}
