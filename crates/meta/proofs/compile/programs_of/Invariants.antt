use Rattle.std.proofs.Common.{◌≤◌, map, take, vec_len}
use Rattle.meta.specs.Programs.{AreProgramsOf}
use Rattle.patterns.specs.Patterns.{config_of}
use Rattle.meta.proofs.compile.programs_of.Given as goal

abbrev pub invariant-loop-text : goal.invariant-loop-text
invariant-loop-text l =
    AreProgramsOf (config_of l.options) (map (λ text. text.now) (take l.text-index l.texts)) l.programs.items
    × (vec_len l.programs ≤ 2147483647)
