-- How a sparse set holds its members.
use Rattle.std.specs.Prelude.{◌≡◌, ◌<◌, ◌≤◌, ◌^◌, ℕ, length, take, slice_index}
use Rattle.automata_base.specs.Powersets.Members.{Members}
use Rattle.automata_base.specs.declared.util.sparse_set.SparseSet.TheInside.{Inside}

-- the members of a sparse set, the oldest first, and the bound that they are below
abbrev pub members_of : Inside → Members
members_of s = record { items = take s.len s.dense.items; capacity = length s.dense.items }

-- the first `len` of `dense` are the members, and `sparse` has the index of each in `dense`
pub record IsSparse (s : Inside) : Type 0 where
  -- there are no more members than numbers below the bound
  pub within : s.len ≤ length s.dense.items
  -- both vectors have the same length, the bound
  pub same : length s.sparse.items ≡ length s.dense.items
  -- the bound is at most 2^32
  pub small : length s.dense.items ≤ 2 ^ 32
  -- each member is below the bound
  pub below : (k : ℕ) → k < s.len → slice_index s.dense.items k < length s.dense.items
  -- `sparse` has at each member its index in `dense`
  pub back : (k : ℕ) → k < s.len → slice_index s.sparse.items (slice_index s.dense.items k) ≡ k
