-- Searches by steps: the state of a search that ends at its first match, and what a step of it means.
use Rattle.std.specs.Prelude.{ℕ, ◌≡◌, ◌+◌, ◌-◌, ◌<◌, ◌≤◌, true, length, Option, Some, None, slice_index}
use Rattle.automata_base.specs.Haystacks.Input.{Input}
use Rattle.automata_base.specs.Haystacks.Matches.{HalfMatch}
use Rattle.automata_base.specs.Powersets.Powerset.{Powerset}
use Rattle.automata_base.specs.Haystacks.Tapes.{IsHaystack}
use Rattle.automata_base.specs.declared.util.search.Direction.TheVariants.{Forward}
use Rattle.automata_base.specs.Answers.OfPasses.{IsNearestAnswer}
use Rattle.automata_hybrid.specs.Cache.Caches.{CacheView, HoldsRow}
use Rattle.automata_hybrid.specs.Cache.Ids.{dead_id, HasMatchTag, HasDeadTag, HasQuitTag}
use Rattle.automata_hybrid.specs.Machines.Machine.{Machine, engine}
use Rattle.automata_hybrid.specs.Searches.PassContracts.{IsPassAnswer, IsUnderway}
use Rattle.automata_hybrid.specs.Searches.Passes.{IsFound, Skips, WithoutBase}
use Rattle.automata_hybrid.specs.Cache.Table.{Names}

-- one pass over the span of an input answers this: in an earliest search, the first match or none
abbrev pub IsFirstMatch : Machine → Input → Option HalfMatch → Type 0
IsFirstMatch m input half = IsPassAnswer Forward m input half

-- the bytes of the span before an offset lead a search that ends at its first match to this ID
pub data LeadsToId (m : Machine) (c : CacheView) (input : Input) (at id : ℕ) : Type 0 where
  -- it is dead, and there is no match
  IsDead : id ≡ dead_id m.stride → IsFirstMatch m input None → LeadsToId m c input at id
  -- they lead to the ID's state, without a match and without a quit byte
  IsUnmatched : IsUnderway Forward m c.store.table input (at - input.start) id None → LeadsToId m c input at id

-- a search over an input that ends at its first match has read the bytes of the span before an offset, and is in the
-- state of this ID
pub record StandsAt (m : Machine) (c : CacheView) (input : Input) (at id : ℕ) : Type 0 where
  -- it ends at its first match
  pub early : input.earliest ≡ true
  -- the offset is at or after the span's start
  pub from : input.start ≤ at
  -- the offset is at or before the span's end
  pub upto : at ≤ input.end
  -- the span ends in the haystack
  pub inside : input.end ≤ length input.haystack
  -- the cache has the row of the ID
  pub row : HoldsRow c id
  -- the bytes led to the ID
  pub state : LeadsToId m c input at id

-- the unit at an offset: this byte of the haystack, or its end
abbrev pub IsUnitAt : Input → (at : ℕ) → Option ℕ → Type 0
IsUnitAt input at None = length input.haystack ≤ at
IsUnitAt input at (Some byte) = (at < length input.haystack) × (byte ≡ slice_index input.haystack at)

-- this is the first pattern that matches at an ID's state
abbrev pub IsFirstPattern : CacheView → (id pattern : ℕ) → Type 0
IsFirstPattern c id pattern = (q : Powerset) → Names c.store.table id q → pattern ≡ slice_index q.patterns 0

-- some pattern matches at an ID's state
abbrev pub HasPatterns : CacheView → (id : ℕ) → Type 0
HasPatterns c id = (q : Powerset) → Names c.store.table id q → 0 < length q.patterns

-- a step on the unit at an offset led to this ID
pub record IsStepAt (m : Machine) (c : CacheView) (input : Input) (at next : ℕ) : Type 0 where
  -- the cache has the row of the ID
  pub row : HoldsRow c next
  -- if it has the match tag, its state has patterns
  pub reports : HasMatchTag next → HasPatterns c next
  -- if it has the match tag, a match ends at the offset, since matches are delayed by one unit
  pub found :
      HasMatchTag next → (pattern : ℕ) → IsFirstPattern c next pattern
      → IsFirstMatch m input (Some (record { pattern = pattern; offset = at }))
  -- if it has the dead tag, there is no match
  pub dead : HasDeadTag next → IsFirstMatch m input None
  -- without the match tag, if the unit was not a quit byte and the span has more bytes, the search is one offset later
  pub on : (HasMatchTag next → ⊥) → (HasQuitTag next → ⊥) → at < input.end → StandsAt m c input (at + 1) next
  -- if the span has no more bytes, there is no match
  pub last : (HasMatchTag next → ⊥) → (HasQuitTag next → ⊥) → at ≡ input.end → IsFirstMatch m input None

-- a search that ends at its first match, and whose span is not done, is at its start with this ID
abbrev pub StartsAt : Machine → CacheView → Input → (id : ℕ) → Type 0
StartsAt m c input id = input.earliest ≡ true → input.start ≤ input.end → StandsAt m c input input.start id

-- a step on a unit leads every search that is at the ID `id` to the ID `next`
abbrev pub StepsOn : Machine → (old new : CacheView) → (id : ℕ) → (unit : Option ℕ) → (next : ℕ) → Type 0
StepsOn m old new id unit next =
    (input : Input) (at : ℕ) → StandsAt m old input at id → IsUnitAt input at unit → IsStepAt m new input at next

-- if no place is skipped, a search finds what one pass answers; an earliest search finds the nearest end of a path
abbrev pub FirstMatchIsFound : Machine → Type 0
FirstMatchIsFound m =
    (input : Input) (half : Option HalfMatch)
    → (Skips m → ⊥) → IsHaystack input.haystack → input.start ≤ input.end → input.end ≤ length input.haystack
    → IsFirstMatch m input half
    → WithoutBase (IsFound Forward m input) half
    × (input.earliest ≡ true
    → WithoutBase (IsNearestAnswer Forward (engine m) input) half)
