-- The start slots: one for each anchored mode and each kind of look-behind.
use Rattle.std.specs.Prelude.{ℕ, suc, ◌+◌, ◌*◌, Bool, true, Option}
use Rattle.automata_determinize.specs.ByteClasses.LookBehind.{behind_of}
use Rattle.automata_hybrid.specs.Machines.Machine.{Machine}
use Rattle.automata_base.specs.declared.util.search.Anchored.{Anchored}
use Rattle.automata_base.specs.declared.util.search.Anchored.TheVariants.{No, Yes, Pattern}
use Rattle.automata_config.specs.Options.{starts_for_each_pattern_of}

-- the group of start slots of an anchored mode
abbrev pub group_of : Anchored → ℕ
group_of No = 0
group_of Yes = 1
group_of (Pattern pattern) = suc (suc pattern)

-- the slot of an anchored mode and a kind of look-behind
abbrev pub slot_of : Anchored → ℕ → ℕ
slot_of mode kind = group_of mode * 6 + kind

-- the slot of an anchored mode after a look-behind byte, or without one
abbrev pub slot_behind : Machine → Anchored → Option ℕ → ℕ
slot_behind m mode behind = slot_of mode (behind_of m.nfa.flags.line_terminator behind)

-- `Anchored::Pattern` is supported if each pattern has start states of its own; the other modes always are
abbrev pub supports : Machine → Anchored → Bool
supports m No = true
supports m Yes = true
supports m (Pattern pattern) = starts_for_each_pattern_of m.config
