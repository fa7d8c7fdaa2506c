use Rattle.std.proofs.Common.{◌≡◌, ◌+◌, ◌∙◌, leb, length, sym, arith}
use Rattle.automata_transform.specs.Retraced.ReversedEdges.{alternate_lists}
use Rattle.automata_transform.proofs.Nfas.Mirrors.Lists.{alternates_length, some_id, none_large}
use Rattle.automata_transform.proofs.turn.EdgesByTarget.next_helper.Goals as goal

pub returns-clause-some : goal.returns-clause-some
returns-clause-some c = λ id e.
    let n = c.len.result + c.len-2.result in
    let same : id ≡ c.len.result + c.len-2.result = some_id (leb n 2147483646) n id (sym c.new.ensures ∙ e) in
    let lists : length (alternate_lists c.args.self.now.lists.items) ≡ length c.args.self.now.lists.items =
    alternates_length c.args.self.now.lists.items in
    let a = c.args.self.now.lists.ok.0 in
    let b = c.args.self.now.helpers.ok.0 in
    omega (arith, same, lists, a, b, c.len.ensures, c.len-2.ensures)

pub returns-clause-none : goal.returns-clause-none
returns-clause-none c = λ e.
    let n = c.len.result + c.len-2.result in
    let more = none_large n 2147483646 (sym c.new.ensures ∙ e) in
    let lists : length (alternate_lists c.args.self.now.lists.items) ≡ length c.args.self.now.lists.items =
    alternates_length c.args.self.now.lists.items in
    let a = c.args.self.now.lists.ok.0 in
    let b = c.args.self.now.helpers.ok.0 in
    omega (arith, more, lists, a, b, c.len.ensures, c.len-2.ensures)
