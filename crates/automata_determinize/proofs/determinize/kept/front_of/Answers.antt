use Rattle.std.proofs.Common.{ℕ, ◌≡◌, ◌-◌, ◌++◌, length, take, drop, ap, sym, ◌∙◌}
use Rattle.std.specs.Bool.{Decides}
use Rattle.std.specs.Cmp.{unsigned_Decides}
use Rattle.std.proofs.lemmas.List.{take_rest, take-append-drop}
use Rattle.std.proofs.lemmas.Slice.Eq.{slice_eq-Decides}
use Rattle.automata_base.specs.contracts.util.primitives.StateIDPartialEq.TheImpl.{ghosts}
use Rattle.automata_determinize.proofs.determinize.kept.front_of.Goals as goal

same_id : (a b : ℕ) → Decides (ghosts.eq a b) (a ≡ b)
same_id a b = unsigned_Decides a b

pub returns-then-eq : goal.returns-then-eq
returns-then-eq c =
    let list = c.args.list.now in
    let split : ℕ = length list - length c.args.end.now in
    sym (take-append-drop split list)
    ∙ ap (λ z. take split list ++ z)
    (sym (take_rest list split)
    ∙ (slice_eq-Decides same_id (take (length list - split) (drop split list)) c.args.end.now c.eq.result
    c.eq.ensures).0 c.if-eq.true)
