use Rattle.std.proofs.Common.{◌≡◌, ◌<◌, ◌≤◌, length, get_or, subst, arith}
use Rattle.automata_base.proofs.Powersets.Keeping.{below_at}
use Rattle.automata_base.proofs.Powersets.ListTests.{some_same}
use Rattle.automata_base.proofs.nfa.thompson.reach.member.Goals as goal

pub returns-clause-some : goal.returns-clause-some
returns-clause-some c = λ id e.
    let same : c.index-items-at.result ≡ id = some_same c.index-items-at.result id e in
    let within : c.args.at < length c.as_slice-items.result.now = c.if-at-items.false in
    let inside : c.args.at < length c.args.set.now.items =
    subst (λ z. c.args.at < length z) c.as_slice-items.ensures.items within in
    let here : id ≡ get_or c.args.set.now.items c.args.at id =
    subst (λ z. z ≡ get_or c.args.set.now.items c.args.at z) same
    (subst (λ z. c.index-items-at.result ≡ get_or z c.args.at c.index-items-at.result) c.as_slice-items.ensures.items
    c.index-items-at.is) in
    let few : length c.args.set.now.items ≤ c.args.set.now.capacity = c.as_slice-items.ensures.few in (
      inside,
      here,
      below_at c.args.set.now.items c.args.set.now.capacity c.args.at id c.as_slice-items.ensures.below
          inside here,
      omega arith,
    )
