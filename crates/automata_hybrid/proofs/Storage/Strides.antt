-- A stride is the power of two that its logarithm gives.
use Rattle.std.proofs.Common.{ℕ, zero, suc, ◌≡◌, ◌*◌, ◌<◌, ◌≤◌, ◌^◌, arith}
use Rattle.std.proofs.Math.Nat.{pow-le-pow_right}
use Rattle.std.proofs.lemmas.Bool.Decides.{nat_tests}
use Rattle.automata_base.specs.ByteClasses.Classes.{stride_for}
use Rattle.automata_base.proofs.ByteClasses.Boundaries.{stride_for-few}

big_power : (r : ℕ) → 10 ≤ r → 1024 ≤ 2 ^ r
big_power r h = pow-le-pow_right {n = 2} (omega arith) {i = 10} {j = r} h

pub stride_log : (len r : ℕ) → 2 ^ r ≤ stride_for len → stride_for len < 2 * 2 ^ r → 2 ^ r ≡ stride_for len
unfolding stride_for
stride_log len zero h l = grind (arith, nat_tests)
stride_log len (suc zero) h l = grind (arith, nat_tests)
stride_log len (suc (suc zero)) h l = grind (arith, nat_tests)
stride_log len (suc (suc (suc zero))) h l = grind (arith, nat_tests)
stride_log len (suc (suc (suc (suc zero)))) h l = grind (arith, nat_tests)
stride_log len (suc (suc (suc (suc (suc zero))))) h l = grind (arith, nat_tests)
stride_log len (suc (suc (suc (suc (suc (suc zero)))))) h l = grind (arith, nat_tests)
stride_log len (suc (suc (suc (suc (suc (suc (suc zero))))))) h l = grind (arith, nat_tests)
stride_log len (suc (suc (suc (suc (suc (suc (suc (suc zero)))))))) h l = grind (arith, nat_tests)
stride_log len (suc (suc (suc (suc (suc (suc (suc (suc (suc zero))))))))) h l = grind (arith, nat_tests)
stride_log len (suc (suc (suc (suc (suc (suc (suc (suc (suc (suc r)))))))))) h l =
    absurd (omega (
      arith,
      h,
      stride_for-few len,
      big_power (suc (suc (suc (suc (suc (suc (suc (suc (suc (suc r)))))))))) (omega arith),
    ))
