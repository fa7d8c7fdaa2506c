use Rattle.std.proofs.lemmas.Result.{IfOk-weaker}
use Rattle.patterns.proofs.compile.simplified.Goals as goal

pub returns : goal.returns
returns c =
    IfOk-weaker c.anchored.result _ _
    (λ nfa anchors. record {
      flat = c.in_ok-flat.flat;
      flattens = c.in_ok-flat.ensures.flattened;
      bounds = c.in_ok-flat.ensures.bounds;
      merged = c.in_ok-merged.merged;
      merges = c.in_ok-merged.ensures;
      anchors = anchors;
    })
    c.anchored.ensures.anchored
