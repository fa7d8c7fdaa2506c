-- The programs that find the groups of patterns.
use Rattle.std.specs.Prelude.{List, [], ◌∷◌, map, option_map, string_bytes, ℕ}
use Rattle.regex_hir.specs.Meaning.{meaning}
use Rattle.regex_hir.specs.declared.hir.Hir.{Hir}
use Rattle.regex_syntax.specs.Verdict.{Reads}
use Rattle.regex_syntax.specs.declared.Config.{Config}
use Rattle.meta.specs.Groups.{FindsGroups}
use Rattle.meta.specs.declared.program.Program.{Program}

-- a program of a text has the names of the text's groups, and finds the groups
pub record IsProgramOf (config : Config) (text : List ℕ) (program : Program) : Type 0 where
  -- the tree that the text is parsed to
  pub tree : Hir
  -- its groups have these names
  pub reads : Reads config text tree (map (option_map string_bytes) program.names.items)
  -- the NFA finds the groups of what the text means
  pub finds : FindsGroups program.nfa (meaning tree)

-- a program of each text, in their order
abbrev pub AreProgramsOf : Config → (texts : List (List ℕ)) → List Program → Type 0
AreProgramsOf config [] [] = Unit {0}
AreProgramsOf config [] (program ∷ programs) = ⊥
AreProgramsOf config (text ∷ texts) [] = ⊥
AreProgramsOf config (text ∷ texts) (program ∷ programs) =
    IsProgramOf config text program × AreProgramsOf config texts programs
