-- The tags of the IDs that a run over cached transitions follows: none, or the match tag.
use Rattle.std.specs.Prelude.{ℕ, ◌+◌, ◌%◌, ◌<◌, ◌≤◌, ◌≡◌}
use Rattle.automata_hybrid.specs.Cache.Ids.{offset_limit}

-- no tag, or the match tag
pub record IsRunTag (tag : ℕ) : Type 0 where
  -- it is at most the match tag
  pub upto : tag ≤ offset_limit
  -- it has none of the bits of an offset
  pub whole : tag % offset_limit ≡ 0

-- this is the only tag of an ID, or the ID has none if this is 0
pub record HasOnly (tag id : ℕ) : Type 0 where
  -- the ID is at least the tag
  pub from : tag ≤ id
  -- it exceeds the tag by less than the limit of offsets
  pub below : id < tag + offset_limit
