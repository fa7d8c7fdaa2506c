-- A set of patterns as contracts see it: a flag for each pattern below its capacity.
use Rattle.std.specs.Prelude.{ℕ, suc, ◌≡◌, Bool, true, false, List, [], ◌∷◌, drop, length, slice_index_or}
use Rattle.automata_base.specs.Powersets.Powerset.{IsId}

-- Whether the pattern is a member.
abbrev pub has : List Bool → ℕ → Bool
has set pattern = slice_index_or set pattern false

-- The patterns whose flags are set, in increasing order, if the first flag belongs to the pattern `k`.
abbrev pub members_from : ℕ → List Bool → List ℕ
members_from k [] = []
members_from k (true ∷ rest) = k ∷ members_from (suc k) rest
members_from k (false ∷ rest) = members_from (suc k) rest

-- The members, in increasing order.
abbrev pub members : List Bool → List ℕ
members set = members_from 0 set

-- Each member is a number that a pattern may have.
abbrev pub AreSmall : List Bool → Type 0
AreSmall set = (pattern : ℕ) → has set pattern ≡ true → IsId pattern

-- The count is the number of members, each of which is a number that a pattern may have.
pub record IsCounted (set : List Bool) (len : ℕ) : Type 0 where
  -- the count is the number of members
  pub counted : len ≡ length (members set)
  -- each member is a number that a pattern may have
  pub small : AreSmall set

-- The members from a flag on: how many they are, and that each is a number that a pattern may have.
pub record AreLeft (set : List Bool) (at left : ℕ) : Type 0 where
  -- the number of these members
  pub counted : left ≡ length (members_from at (drop at set))
  -- each member is a number that a pattern may have
  pub small : AreSmall set

-- A pattern that a set has no room for, and the capacity of the set.
pub record Misfit : Type 0 where
  -- the pattern that was to be inserted
  pub attempted : ℕ
  -- the capacity of the set
  pub capacity : ℕ
