-- What is least up to some place.
use Rattle.std.proofs.Common.{ℕ, ◌≡◌, List, inl, inr}
use Rattle.std.proofs.Common.{sym}
use Rattle.automata_base.specs.Paths.Order.{Upto}
use Rattle.automata_base.proofs.Paths.Orders.{before_irrefl, before_trans}

pub upto_both : (p q : List ℕ) → Upto p q → Upto q p → p ≡ q
upto_both p q (inl e) k = e
upto_both p q (inr b) (inl e) = sym e
upto_both p q (inr b) (inr c) = absurd (before_irrefl p (before_trans p q p b c))
