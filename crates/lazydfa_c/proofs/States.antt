-- Numbers of states.
use Rattle.std.proofs.Common.{ℕ, ◌≡◌, ◌&&◌, Bool, true, false, refl}
use Rattle.std.specs.Prelude.{IsTrue, Ok, Err, if◌then◌else◌}
use Rattle.lazydfa_c.specs.Drafts.{is_state, state_of}
use Rattle.lazydfa_c.specs.Statuses.{plain}
use Rattle.lazydfa_c.specs.declared.code.Code.TheVariants as code

chosen : (n i : ℕ) (is : Bool) → Ok i ≡ (if is then Ok n else Err (plain code.Argument)) → IsTrue is × (i ≡ n)
chosen n i true e = (refl, cc)
chosen n i false e = absurd cc

-- a number that is accepted as a state ID is valid, and is unchanged
pub state_is : (n i : ℕ) → Ok i ≡ state_of n → IsTrue (is_state n) × (i ≡ n)
state_is n i e = chosen n i (is_state n) e

pub both : (a b : Bool) → IsTrue a → IsTrue b → IsTrue (a && b)
both true b p q = q
both false b p q = p
