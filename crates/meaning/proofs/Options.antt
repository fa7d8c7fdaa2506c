-- A function that is applied to an optional value.
use Rattle.std.proofs.Common.{◌≡◌, ℕ, ◌+◌, Option, None, Some, option_map, refl}
use Rattle.std.specs.Prelude.{Bool, true, false, cond, is_some, option_and_then}
use Rattle.std.specs.Option.{option_or}
use Rattle.regex_hir.specs.Re.{Trace, write}
use Rattle.automata_base.specs.Haystacks.Matches.{HalfMatch}

pub map_cond :
    (b : Bool) (base r : ℕ) → cond b (Some (base + r)) None ≡ option_map (λ q. base + q) (cond b (Some r) None)
map_cond true base r = refl
map_cond false base r = refl

module _ {A B : Type 0} (f : A → B) where
  pub map_then : {C : Type 0} (go : C → Option A) (o : Option C) →
      option_and_then (λ r. option_map f (go r)) o ≡ option_map f (option_and_then go o)
  map_then go None = refl
  map_then go (Some r) = refl

  pub map_or : (o o2 : Option A) → option_or (option_map f o) (option_map f o2) ≡ option_map f (option_or o o2)
  map_or None o2 = refl
  map_or (Some x) o2 = refl

  pub some_map : (o : Option A) → is_some (option_map f o) ≡ is_some o
  some_map None = refl
  some_map (Some x) = refl

-- A trace's end, as the end of a match of a pattern.
abbrev pub half_of : (pattern : ℕ) → Trace → HalfMatch
half_of pattern trace = record { pattern = pattern; offset = trace.end }

pub half_written : (pattern slot i : ℕ) (o : Option Trace) →
    option_map (half_of pattern) o ≡ option_map (half_of pattern) (write slot i o)
half_written pattern slot i None = refl
half_written pattern slot i (Some trace) = refl
