-- What the passes of a search cost.
use Rattle.std.proofs.Common.{ℕ, zero, suc, ◌≡◌, ◌<◌, ◌≤◌, ◌+◌, ◌*◌, ◌-◌, ◌⊎◌, inl, inr, Option, refl, sym, subst}
use Rattle.std.proofs.Common.{arith, eq-or-lt_of_le}
use Rattle.automata_hybrid.proofs.Words.{Direction, Input, IsFirstSpan, Pair, Tries}
use Rattle.automata_base.specs.Answers.Answers.{MayTry, SkipsToIt}
use Rattle.automata_hybrid.specs.Known.Follows.{passes_most}

-- one more pass
pub most_more :
    (passes bytes units old between new : ℕ)
    → between ≤ old + passes_most passes bytes → new ≤ between + (units + 2) → units ≤ bytes - passes
    → new ≤ old + passes_most (suc passes) bytes
most_more passes bytes units old between new before pass few =
    let one : passes_most (suc passes) bytes ≡ passes_most passes bytes + (bytes - passes + 2) = refl in
    omega (arith, one, before, pass, few)

-- fewer passes
pub most_fewer : (few passes bytes : ℕ) → few ≤ passes → passes_most few bytes ≤ passes_most passes bytes
most_fewer few zero bytes l =
    let none : few ≡ 0 = omega (arith, l) in
    subst (λ n. passes_most n bytes ≤ 0) (sym none) (omega arith)
most_fewer few (suc passes) bytes l = go (λ less. most_fewer few passes bytes less) (eq-or-lt_of_le l) where
  go :
      (few ≤ passes → passes_most few bytes ≤ passes_most passes bytes) → (few ≡ suc passes) ⊎ (few < suc passes)
      → passes_most few bytes ≤ passes_most (suc passes) bytes
  go before (inl same) = subst (λ n. passes_most few bytes ≤ passes_most n bytes) same (omega arith)
  go before (inr less) =
      let most : passes_most few bytes ≤ passes_most passes bytes = before (omega (arith, less)) in
      let one : passes_most (suc passes) bytes ≡ passes_most passes bytes + (bytes - passes + 2) = refl in
      omega (arith, most, one)

-- each costs at most what the first may
pub most_times : (passes bytes : ℕ) → passes_most passes bytes ≤ passes * (bytes + 2)
most_times zero bytes = omega arith
most_times (suc passes) bytes =
    let before : passes_most passes bytes ≤ passes * (bytes + 2) = most_times passes bytes in
    let most : passes_most (suc passes) bytes ≡ passes_most passes bytes + (bytes - passes + 2) = refl in
    let one : suc passes * (bytes + 2) ≡ passes * (bytes + 2) + (bytes + 2) = grind arith in
    omega (arith, before, most, one)

-- a search that tries a span tries every span before it
pub tries_before :
    (T : Input → Option Pair → Type 0) (S : Type 0) (way : Direction) (input : Input) (j k : ℕ)
    → j ≤ k → Tries T S way input k → Tries T S way input j
tries_before T S way input j k l tries = record {
  comes = first tries.comes;
  before = λ i less. tries.before i (omega (arith, less, l));
} where
  first : MayTry S input k → MayTry S input j
  first (IsFirstSpan e) = IsFirstSpan (omega (arith, e, l))
  first (SkipsToIt skips free) = SkipsToIt skips free
