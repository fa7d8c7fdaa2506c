-- What finds the groups of a regex, and the memory for it.
use Rattle.std.specs.Prelude.{ℕ, zero, suc, ◌≡◌, ◌-◌, Bool, false, true, List, map, Option, None, Some, is_some}
use Rattle.std.specs.Prelude.{option_map, vec_len}
use Rattle.std.specs.Option.{ForSome}
use Rattle.regex_hir.specs.Re.{Re}
use Rattle.regex_syntax.specs.declared.Config.{Config}
use Rattle.meta.specs.Caches.{HaveRoomFor}
use Rattle.meta.specs.Groups.{FindAllGroups}
use Rattle.meta.specs.Programs.{AreProgramsOf}
use Rattle.patterns.specs.Patterns.{AreMeanings}
use Rattle.meta.specs.declared.program.Program.{Program}
use Rattle.meta.specs.declared.program.Programs.{Programs}
use Rattle.meta.specs.declared.simulation.Simulation.{Simulation}
use Rattle.lazydfa_c.specs.declared.object.GroupMemory.{GroupMemory}
use Rattle.lazydfa_c.specs.declared.object.Shared.{Shared}
use Rattle.patterns.specs.declared.pattern.Pattern.{Pattern}

-- the programs that a regex shares, if it has them
abbrev pub programs_of : Shared → Option Programs
programs_of shared = option_map (λ programs. programs.value) shared.programs

-- what the handles and caches of a regex share
pub record Contents : Type 0 where
  -- the regex, with its needles
  pub pattern : Pattern
  -- the programs that find groups and matches, if it has them
  pub programs : Option Programs
  -- whether some text has a Unicode word boundary, so that searches are answered by the programs where DFAs cannot
  pub words : Bool

-- the contents that an owner shares
abbrev pub contents_of : Shared → Contents
contents_of shared = record { pattern = shared.pattern.value; programs = programs_of shared; words = shared.words }

-- a regex of this kind, with these programs; the flag says whether some text has a Unicode word boundary
abbrev pub HasPrograms : Option Programs → (words : Bool) → (Makes : Pattern → Type 0) → Contents → Type 0
HasPrograms programs words Makes contents =
    Makes contents.pattern × (contents.programs ≡ programs) × (contents.words ≡ words)

-- the sizes of a simulation's memory: the states and the slots that it has room for, and the slots that it keeps
abbrev pub sizes_in : Simulation → ℕ × ℕ × ℕ
sizes_in simulation = (simulation.vm.states, simulation.vm.groups, vec_len simulation.slots)

-- the sizes that the simulation of a program needs
abbrev pub sizes_of : Program → ℕ × ℕ × ℕ
sizes_of program = (vec_len program.nfa.states, program.nfa.slot_count - 2, program.nfa.slot_count - 2)

-- the memory has room for the simulation of each program, and for the groups of each pattern
abbrev pub HasRoomForGroups : GroupMemory → Programs → Type 0
HasRoomForGroups memory programs =
    (map sizes_in memory.simulations.items ≡ map sizes_of programs.list.items) × HaveRoomFor memory.captures programs

-- there is memory for groups exactly if there are programs, and then it has room for them
abbrev pub FitsPrograms : Option GroupMemory → Option Programs → Type 0
FitsPrograms memory programs =
    (is_some memory ≡ is_some programs) × ForSome memory (λ m. ForSome programs (λ p. HasRoomForGroups m p))

-- the programs find the matches and the groups of what these texts mean, and have their names
pub record AreProgramsFor (config : Config) (texts : List (List ℕ)) (programs : Programs) : Type 0 where
  -- there is one of each text, with its names
  pub named : AreProgramsOf config texts programs.list.items
  -- they find what the texts mean
  pub meant : (res : List Re) → AreMeanings config texts res → FindAllGroups programs.list.items res
  -- they search text if the configuration says so, otherwise bytes
  pub text : programs.utf8 ≡ config.utf8

-- the programs are those of these texts, if they are needed; otherwise there are none
abbrev pub HasProgramsIf : (needed : Bool) → Config → (texts : List (List ℕ)) → Option Programs → Type 0
HasProgramsIf false config texts programs = programs ≡ None
HasProgramsIf true config texts None = ⊥
HasProgramsIf true config texts (Some programs) = AreProgramsFor config texts programs

-- whether programs are needed: groups are asked for, or some text has a Unicode word boundary
abbrev pub needs_programs : (groups : ℕ) → (words : Bool) → Bool
needs_programs zero words = words
needs_programs (suc n) words = true

-- the programs are those of these texts, if they are needed
abbrev pub HasProgramsFor : (groups : ℕ) → (words : Bool) → Config → (texts : List (List ℕ)) → Option Programs → Type 0
HasProgramsFor groups words config texts programs = HasProgramsIf (needs_programs groups words) config texts programs
