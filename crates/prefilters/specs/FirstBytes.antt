-- First bytes, with one of which every match begins: where none of them is, no match begins.
use Rattle.std.specs.Prelude.{ℕ, ◌≡◌, ◌<◌, ◌≤◌, ◌+◌, Bool, true, false, List, Option, None, Some, is_some, min}
use Rattle.std.specs.Prelude.{count_by, slice_index}
use Rattle.automata_base.specs.Haystacks.Tapes.{IsHaystack}
use Rattle.automata_base.specs.Nfas.Engines.{Engine}
use Rattle.automata_base.specs.Nfas.Nfa.{Node, takes_at}
use Rattle.automata_base.specs.Retraced.Reach.{IsMatchAt}
use Rattle.prefilters.specs.Bytes.{in_table}
use Rattle.prefilters.specs.Skipping.{NoneBeginsAt}

-- the number of first bytes
abbrev pub count_first_bytes : (table : List Bool) → ℕ
count_first_bytes table = count_by (λ is_first. is_first) table

-- the offset is before the end `e` of a span, and its byte is a first byte
abbrev pub HasFirstByte : (table : List Bool) → List ℕ → (e o : ℕ) → Type 0
HasFirstByte table hay e o = (o < e) × (in_table table (slice_index hay o) ≡ true)

-- no match begins where no first byte is, nor at the end of a span, wherever the span ends
abbrev pub BeginsAtFirstByte : Engine → (table : List Bool) → Type 0
BeginsAtFirstByte d table =
    (hay : List ℕ) (e o : ℕ) → IsHaystack hay → (HasFirstByte table hay e o → ⊥) → NoneBeginsAt d hay e o

-- no first byte is at an offset from `s` to before offset `p`
abbrev pub HasNoFirstByte : (table : List Bool) → List ℕ → (s p : ℕ) → Type 0
HasNoFirstByte table hay s p = (o : ℕ) → s ≤ o → o < p → in_table table (slice_index hay o) ≡ false

-- the least offset from `s` on that has a first byte, if it is before the end `e` of the span and less than 32 bytes
-- away; or None
abbrev pub FindsFirstByte : (table : List Bool) → List ℕ → (s e : ℕ) → Option ℕ → Type 0
FindsFirstByte table hay s e None = HasNoFirstByte table hay s (min e (s + 32))
FindsFirstByte table hay s e (Some p) =
    (s ≤ p) × (p < min e (s + 32)) × (in_table table (slice_index hay p) ≡ true) × HasNoFirstByte table hay s p

-- the state is not a match state, and each byte that it reads is a first byte
pub record ReadsFirstBytes (table : List Bool) (x : Node) : Type 0 where
  -- it is not a match state
  pub unmatched : IsMatchAt x → ⊥
  -- each byte that it reads is a first byte
  pub reads : (byte : ℕ) → byte < 256 → is_some (takes_at x byte) ≡ true → in_table table byte ≡ true
