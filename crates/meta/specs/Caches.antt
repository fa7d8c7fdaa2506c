-- The memory of searches for matches and their groups.
use Rattle.std.specs.Prelude.{ℕ, ◌≡◌, ◌-◌, ◌*◌, ◌≤◌, All, List, map, vec_len}
use Rattle.regex_vm.specs.Pike.{Room}
use Rattle.regex_automata.specs.Promises.{AreCachesOf}
use Rattle.meta.specs.declared.cache.Cache.{Cache}
use Rattle.meta.specs.declared.captures.Captures.{Captures}
use Rattle.meta.specs.declared.program.Program.{Program}
use Rattle.meta.specs.declared.program.Programs.{Programs}
use Rattle.meta.specs.declared.regexes.Regex.{Regex}
use Rattle.meta.specs.declared.simulation.Simulation.{Simulation}

-- the memory of a simulation has room for the states of a program, and for its slots after those of group 0
pub record HasRoomOf (program : Program) (simulation : Simulation) : Type 0 where
  -- it simulates with room for them
  pub room :
      simulation.vm ≡ record { states = vec_len program.nfa.states; groups = program.nfa.slot_count - 2 }
  -- it keeps these slots
  pub slots : vec_len simulation.slots ≡ program.nfa.slot_count - 2

-- the room of a simulation, and the slots that it keeps
abbrev pub room_in : Simulation → Room × ℕ
room_in simulation = (simulation.vm, vec_len simulation.slots)

-- the room that a program needs, and the slots
abbrev pub room_of : Program → Room × ℕ
room_of program = (
  record { states = vec_len program.nfa.states; groups = program.nfa.slot_count - 2 },
  program.nfa.slot_count - 2,
)

-- each simulation has the room that the program at its place needs
abbrev pub AreRoomsOf : List Simulation → List Program → Type 0
AreRoomsOf simulations programs = map room_in simulations ≡ map room_of programs

-- the memory is of this regex
abbrev pub IsMetaCacheOf : Cache → Regex → Type 0
IsMetaCacheOf cache regex =
    AreCachesOf cache.dfas regex.pattern.regex × AreRoomsOf cache.simulations.items regex.programs.list.items

-- no program has more slots than this
abbrev pub HaveAtMost : (slots : ℕ) → List Program → Type 0
HaveAtMost slots programs = All (λ (p : Program). p.nfa.slot_count ≤ slots) programs

-- captures have room for the groups of each text, which have two slots each
abbrev pub HaveRoomFor : Captures → Programs → Type 0
HaveRoomFor captures programs = HaveAtMost (2 * vec_len captures.spans) programs.list.items
