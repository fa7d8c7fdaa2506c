use Rattle.std.proofs.Common.{◌≡◌, ◌/◌, ◌%◌, get_or, ap, sym, subst, ◌∙◌, ◌↔◌}
use Rattle.std.specs.Prelude.{IsTrue}
use Rattle.automata_base.specs.Nfas.Nodes.{node_of}
use Rattle.automata_base.specs.Retraced.Reach.{node_in, IsMatchAt}
use Rattle.automata_base.proofs.Powersets.Walking.{node_at}
use Rattle.automata_base.proofs.Nfas.Utf8.Product.{test_not}
use Rattle.automata_base.proofs.nfa.thompson.utf8.is_boundary.Goals as goal

pub returns-else-number-eq0 : goal.returns-else-number-eq0
returns-else-number-eq0 c =
    let same : c.as_usize-number.result ≡ c.args.id = c.as_usize-number.ensures.value in
    let here : node_in c.args.states.now (c.args.id / 11) ≡ node_of c.index-states-number.result =
    node_at c.args.states.now (c.args.id / 11) c.index-states-number.result c.index-states-number.result c.requires
    (c.index-states-number.is ∙ ap (λ z. get_or c.args.states.now (z / 11) c.index-states-number.result) same) in
    test_not (IsMatchAt (node_in c.args.states.now (c.args.id / 11))) (c.args.id % 11 ≡ 0) c.is_match.result
    (subst (λ x. IsTrue c.is_match.result ↔ IsMatchAt x) (sym here) c.is_match.ensures)
    (λ e. c.if-number-eq0.false (ap (λ z. z % 11) same ∙ e))
