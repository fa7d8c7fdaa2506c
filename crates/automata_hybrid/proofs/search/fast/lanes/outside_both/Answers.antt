use Rattle.std.proofs.Common.{◌≡◌, arith, ⊎_elim, inl, inr}
use Rattle.automata_hybrid.proofs.Words.{bit_at}
use Rattle.std.proofs.lemmas.Nat.{and_le_l}
use Rattle.automata_hybrid.specs.Private.Fast.SelfLoops.{lane_of}
use Rattle.automata_hybrid.proofs.Fast.Lanes.{both_clear}
use Rattle.automata_hybrid.proofs.search.fast.lanes.outside_both.Goals as goal

pub returns-clause-small : goal.returns-clause-small
returns-clause-small c = omega (arith, and_le_l c.outside_at.result c.outside_at-2.result, c.outside_at.ensures.small)

pub returns-clause-near : goal.returns-clause-near
returns-clause-near c = λ k few clear. ⊎_elim
    (λ (first : bit_at c.outside_at.result (lane_of c.args.way k) ≡ 0). inl (c.outside_at.ensures.near k few first))
    (λ (second : bit_at c.outside_at-2.result (lane_of c.args.way k) ≡ 0). inr
    (c.outside_at-2.ensures.near k few second))
    (both_clear c.outside_at.result c.outside_at-2.result (lane_of c.args.way k) clear)
