-- What owners of a regex share, and the programs that are compiled for it.
use Rattle.std.proofs.Common.{ℕ, zero, suc, ◌≡◌, ◌∙◌, Bool, true, false, List, ap, arith, map, refl, sym, true≢false}
use Rattle.std.specs.Prelude.{None, Some}
use Rattle.std.proofs.lemmas.Simd.{map-map}
use Rattle.regex_vm.specs.Pike.{Room}
use Rattle.regex_syntax.specs.declared.Config.{Config}
use Rattle.meta.specs.Caches.{AreRoomsOf, room_in, room_of}
use Rattle.meta.specs.declared.program.Program.{Program}
use Rattle.meta.specs.declared.program.Programs.{Programs}
use Rattle.meta.specs.declared.simulation.Simulation.{Simulation}
use Rattle.lazydfa_c.specs.Programs.{AreProgramsFor, Contents, HasProgramsFor, contents_of, programs_of}
use Rattle.lazydfa_c.specs.Programs.{sizes_in, sizes_of}
use Rattle.lazydfa_c.specs.declared.object.Shared.{Shared}

-- two owners share the same if their patterns and their programs are the same
pub same_contents :
    (s : Shared) (contents : Contents) → s.pattern.value ≡ contents.pattern → programs_of s ≡ contents.programs
    → s.words ≡ contents.words → contents_of s ≡ contents
same_contents s contents patterns programs words =
    λ i. record { pattern = patterns i; programs = programs i; words = words i }

-- without a request for groups and without a Unicode word boundary there are no programs
pub no_programs :
    (groups : ℕ) (words : Bool) (config : Config) (texts : List (List ℕ)) → groups ≡ 0 → words ≡ false
    → HasProgramsFor groups words config texts None
no_programs zero false config texts is plain = refl
no_programs zero true config texts is plain = absurd (true≢false plain)
no_programs (suc n) words config texts is plain = absurd (omega arith)

-- with a request for groups these are the programs
pub some_programs :
    (groups : ℕ) (words : Bool) (config : Config) (texts : List (List ℕ)) (programs : Programs) → (groups ≡ 0 → ⊥)
    → AreProgramsFor config texts programs → HasProgramsFor groups words config texts (Some programs)
some_programs zero words config texts programs is_not are = absurd (is_not refl)
some_programs (suc n) words config texts programs is_not are = are

-- with a Unicode word boundary these are the programs
pub word_programs :
    (groups : ℕ) (words : Bool) (config : Config) (texts : List (List ℕ)) (programs : Programs) → words ≡ true
    → AreProgramsFor config texts programs → HasProgramsFor groups words config texts (Some programs)
word_programs zero true config texts programs is are = are
word_programs (suc n) true config texts programs is are = are
word_programs groups false config texts programs is are = absurd (true≢false (sym is))

-- the sizes of memory as rooms
abbrev room : ℕ × ℕ × ℕ → Room × ℕ
room n = (record { states = n.0; groups = n.1 }, n.2)

abbrev sizes : Room × ℕ → ℕ × ℕ × ℕ
sizes r = (r.0.states, r.0.groups, r.1)

pub rooms_from :
    (simulations : List Simulation) (programs : List Program) → map sizes_in simulations ≡ map sizes_of programs
    → AreRoomsOf simulations programs
rooms_from simulations programs same =
    sym (map-map room sizes_in simulations) ∙ ap (map room) same ∙ map-map room sizes_of programs

pub sizes_from :
    (simulations : List Simulation) (programs : List Program) → AreRoomsOf simulations programs
    → map sizes_in simulations ≡ map sizes_of programs
sizes_from simulations programs rooms =
    sym (map-map sizes room_in simulations) ∙ ap (map sizes) rooms ∙ map-map sizes room_of programs
