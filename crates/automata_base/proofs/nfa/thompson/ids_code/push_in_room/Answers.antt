use Rattle.std.proofs.Common.{ap, sym, ◌∙◌, List, ◌++◌, ℕ}
use Rattle.automata_base.proofs.Powersets.Code.Groups.{varint-last}
use Rattle.automata_base.proofs.nfa.thompson.ids_code.push_in_room.Goals as goal

pub returns-then-n-lt128-clause-ok : goal.returns-then-n-lt128-clause-ok
returns-then-n-lt128-clause-ok c =
    c.push_reserved.ensures.items
    ∙ ap (λ (x : List ℕ). c.args.out.now.items ++ x) (sym (varint-last c.args.n c.if-n-lt128.true))
