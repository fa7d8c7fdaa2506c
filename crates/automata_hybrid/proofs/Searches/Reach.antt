-- The bytes that a pass over a span may look at: those of the span, and the one on either side.
use Rattle.std.proofs.Common.{ℕ, zero, suc, ◌≡◌, ◌∙◌, ◌≤◌, ◌+◌, ◌-◌, Bool, true, false, cond, length, Option, Some}
use Rattle.std.proofs.Common.{None, refl, sym, ap, subst, arith}
use Rattle.automata_hybrid.proofs.Words.{Backward, byte_before, Direction, Forward, Input, is_quit, later, Machine}
use Rattle.automata_hybrid.proofs.Words.{next, quit_behind, slice_get, tape_in}
use Rattle.automata_base.proofs.Paths.Orders.{some_inj, none_some}
use Rattle.automata_hybrid.proofs.Searches.Units.{forward_unit, forward_units, backward_unit, backward_units}

-- a byte of the haystack in reach of a span
abbrev pub InReach : Input → ℕ → Type 0
InReach input byte = (at : ℕ) × (input.start ≤ at + 1) × (at ≤ input.end) × (slice_get input.haystack at ≡ Some byte)

before_reach :
    (input : Input) (o byte : ℕ) → input.start ≤ o → o ≤ input.end → byte_before input.haystack o ≡ Some byte
    → InReach input byte
before_reach input zero byte s e h = absurd (none_some h)
before_reach input (suc o) byte s e h = (o, omega (arith, s), omega (arith, e), h)

-- the look-behind byte of a pass is in reach
pub behind_reach :
    (way : Direction) (input : Input) (byte : ℕ) → input.start ≤ input.end → (tape_in way input).before ≡ Some byte
    → InReach input byte
behind_reach Forward input byte l h = before_reach input input.start byte (omega arith) l h
behind_reach Backward input byte l h = (input.end, omega (arith, l), omega arith, h)

-- each unit that a pass reads is in reach
pub unit_reach :
    (way : Direction) (input : Input) (k byte : ℕ)
    → input.start ≤ input.end → input.end ≤ length input.haystack → k ≤ length (tape_in way input).bytes
    → next (tape_in way input) k ≡ Some byte → InReach input byte
unit_reach Forward input k byte l w n h =
    let u : input.end - input.start ≡ length (tape_in Forward input).bytes = forward_units input l w in
    let e : input.start + k - input.start ≡ k = omega arith in
    let read : slice_get input.haystack (input.start + k) ≡ Some byte =
    sym (forward_unit input (input.start + k) (omega arith) (omega (arith, u, n, l)) w)
    ∙ (ap (next (tape_in Forward input)) e ∙ h) in
    (input.start + k, omega arith, omega (arith, u, n, l), read)
unit_reach Backward input k byte l w n h =
    let u : input.end - input.start ≡ length (tape_in Backward input).bytes = backward_units input l w in
    let e : input.end - (input.end - k) ≡ k = omega (arith, u, n, l) in
    let read : byte_before input.haystack (input.end - k) ≡ Some byte =
    sym (backward_unit input (input.end - k) (omega (arith, u, n, l)) (omega arith) w)
    ∙ (ap (next (tape_in Backward input)) e ∙ h) in
    before_reach input (input.end - k) byte (omega (arith, u, n, l)) (omega arith) read

pub later_reach :
    (way : Direction) (k : ℕ) (input : Input) (byte : ℕ) → input.start + k ≤ input.end
    → InReach (later way k input) byte → InReach input byte
later_reach Forward k input byte l r = (r.0, (let a : input.start + k ≤ r.0 + 1 = r.1 in omega (arith, a)), r.2, r.3)
later_reach Backward k input byte l r = (r.0, r.1, (let a : r.0 ≤ input.end - k = r.2 in omega (arith, a)), r.3)

pub is_behind :
    (m : Machine) (o : Option ℕ) (byte : ℕ) → quit_behind m o ≡ Some byte → (o ≡ Some byte)
    × (is_quit m.quits byte ≡ true)
is_behind m None byte e = absurd (none_some e)
is_behind m (Some b) byte e = go (is_quit m.quits b) refl e where
  go :
      (v : Bool) → is_quit m.quits b ≡ v → ◌≡◌ {A = Option ℕ} (cond v (Some b) None) (Some byte)
      → (◌≡◌ {A = Option ℕ} (Some b) (Some byte)) × (is_quit m.quits byte ≡ true)
  go true f e = (e, subst (λ n. is_quit m.quits n ≡ true) (some_inj e) f)
  go false f e = absurd (none_some e)
