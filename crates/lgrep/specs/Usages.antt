-- How caches were used, summed up.
use Rattle.std.specs.Prelude.{ℕ, ◌+◌, ◌-◌, ◌^◌, min}
use Rattle.lgrep.specs.declared.stats.Usage.{Usage}

-- the sum of two counts, which stops at the largest 64-bit number
abbrev pub capped_sum : ℕ → ℕ → ℕ
capped_sum a b = min (a + b) (2 ^ 64 - 1)

-- the sum of two usages
abbrev pub usage_sum : Usage → Usage → Usage
usage_sum a b = record {
  clears = capped_sum a.clears b.clears;
  states = capped_sum a.states b.states;
  bytes = capped_sum a.bytes b.bytes;
}
