use Rattle.std.proofs.Common.{sym, ap, ◌∙◌, arith}
use Rattle.automata_base.specs.Retraced.ReversedEdges.{lists_of}
use Rattle.automata_transform.specs.Retraced.ReversedEdges.{list_match}
use Rattle.automata_base.proofs.Nfas.Mirrors.Lists.{lists_length}
use Rattle.automata_transform.proofs.Nfas.Mirrors.Lists.{push_past}
use Rattle.automata_transform.proofs.copies.list_match.Goals as goal

pub returns-then-at-len-clause-listed : goal.returns-then-at-len-clause-listed
returns-then-at-len-clause-listed c =
    let long = lists_length c.args.lists.now.items in
    sym
    (ap (λ found. list_match (lists_of c.args.lists.now.items) found c.args.id) c.in-Some.is
    ∙ push_past (lists_of c.args.lists.now.items) c.in-Some.pattern c.args.id
    (omega (arith, long, c.if-at-len.true, c.len.ensures, c.as_usize-at.ensures.value)))
