use Rattle.std.proofs.Common.{map, option_map, string_bytes}
use Rattle.regex.specs.Names.{IsNotBelow}
use Rattle.meta.proofs.programs.index_of.Given as goal

abbrev pub invariant-names : goal.invariant-names
invariant-names l = IsNotBelow (map (option_map string_bytes) l.names) l.name l.index
