-- IDs of states: the offset of a row with tags, or one of the three fixed IDs.
use Rattle.std.specs.Prelude.{ℕ, ◌+◌, ◌*◌, ◌^◌, Bool, IsBitSet, if◌then◌else◌}

-- the tags of a row's ID: whether it is a start state, and whether it has patterns
abbrev pub tags : Bool → Bool → ℕ
tags started matches = (if started then 2 ^ 28 else 0) + (if matches then 2 ^ 27 else 0)

-- all offsets of rows are less than this
abbrev pub offset_limit : ℕ
offset_limit = 2 ^ 27

-- an ID has the match tag
abbrev pub HasMatchTag : ℕ → Type 0
HasMatchTag id = IsBitSet id 27

-- an ID has the start tag
abbrev pub HasStartTag : ℕ → Type 0
HasStartTag id = IsBitSet id 28

-- an ID has the quit tag
abbrev pub HasQuitTag : ℕ → Type 0
HasQuitTag id = IsBitSet id 29

-- an ID has the dead tag
abbrev pub HasDeadTag : ℕ → Type 0
HasDeadTag id = IsBitSet id 30

-- IDs of rows are less than this, and the three fixed IDs are not
abbrev pub fixed_from : ℕ
fixed_from = 2 ^ 29

-- the value of an empty cell or start slot
abbrev pub unknown_id : ℕ
unknown_id = 2 ^ 31

-- the ID of the dead row, which is the second, with its tag
abbrev pub dead_id : ℕ → ℕ
dead_id stride = stride + 2 ^ 30

-- the ID of the quit row, which is the third, with its tag
abbrev pub quit_id : ℕ → ℕ
quit_id stride = 2 * stride + 2 ^ 29
