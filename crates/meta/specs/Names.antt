-- The names of groups.
use Rattle.std.specs.Prelude.{ℕ, List, [], Option, Some, None, map, option_map, slice_get, string_bytes}
use Rattle.meta.specs.declared.program.Program.{Program}
use Rattle.meta.specs.declared.program.Programs.{Programs}

-- the names of the groups that a program finds, from group 0 on
abbrev pub names_of : Option Program → List (Option (List ℕ))
names_of None = []
names_of (Some program) = map (option_map string_bytes) program.names.items

-- the names of the groups of the text with this number; there are none if there is no such text
abbrev pub group_names : Programs → (pattern : ℕ) → List (Option (List ℕ))
group_names programs pattern = names_of (slice_get programs.list.items pattern)
