use Rattle.std.proofs.Common.{List, ℕ, ◌++◌, ◌-◌, length, take, drop, ap, ◌∙◌}
use Rattle.automata_base.specs.Powersets.Code.{ids_code}
use Rattle.automata_base.proofs.Powersets.Code.Groups.{split_at_item}
use Rattle.automata_base.proofs.Powersets.Endings.{rest_code}
use Rattle.automata_base.proofs.nfa.thompson.kept_closure.code_of.Goals as goal

pub returns-in_ok-push_ids-in-len1-up : goal.returns-in_ok-push_ids-in-len1-up
returns-in_ok-push_ids-in-len1-up c =
    let kept = c.args.kept.now in
    let first = c.first-item.result in
    let rest : List ℕ = take (length kept - 1) (drop 1 kept) in
    rest_code kept rest c.push_ids.new.out.items first
    (split_at_item kept first c.in-len1-up.len_at_least c.first-item.is)
    (c.in_ok-push_ids-in-len1-up.ensures.ok
    ∙ ap (λ (z : List ℕ). z ++ ids_code c.as_u32.result rest) c.new-code.ensures.items
    ∙ ap (λ z. ids_code z rest) c.as_u32.ensures.value)
    c.in_ok-push_ids-in-len1-up.ensures.ids
