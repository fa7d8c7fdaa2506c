-- The bytes of a reversed span.
use Rattle.std.proofs.Common.{ℕ, suc, ◌-◌, List, length}
use Rattle.std.proofs.Common.{reverse, sym, ◌∙◌, arith}
use Rattle.automata_base.specs.Haystacks.Tapes.{IsHaystack}
use Rattle.automata_base.proofs.Answers.Bytes.{nth_reverse, reverse_length}
use Rattle.automata_base.proofs.Paths.Searches.{nth_inside}

pub reverse_bytes : (xs : List ℕ) → IsHaystack xs → IsHaystack (reverse xs)
reverse_bytes xs b o u e =
    let l = nth_inside (reverse xs) o u e in
    let k = reverse_length xs in
    b (length xs - suc o) u (sym (nth_reverse xs o (length xs - suc o) (omega (arith, l, k))) ∙ e)
