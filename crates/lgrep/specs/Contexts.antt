-- What is shown of lines by what precedes them.
use Rattle.std.specs.Prelude.{ℕ, ◌≡◌, ◌++◌, Bool, List, [], Option, map, unwrap_or}
use Rattle.regex_hir.specs.Re.{Re}
use Rattle.lgrep.specs.Around.{held_line, shown_around}
use Rattle.lgrep.specs.declared.show.Around.{Around}
use Rattle.lgrep.specs.declared.around.Context.{Context}
use Rattle.lgrep.specs.declared.around.Last.{Last}
use Rattle.lgrep.specs.declared.around.Last.TheVariants as last
use Rattle.lgrep.specs.declared.position.Position.{Position}
use Rattle.lgrep.specs.declared.show.Show.{Show}

-- what is shown of the next lines, and before them of lines that are held
abbrev pub shown_in : Show → List Re → Context → (lines : List ((Position × List ℕ) × Bool)) → List ℕ
shown_in show res context lines =
    shown_around show res context.around context.left context.last (map held_line context.held.items ++ lines)

-- no line of the file precedes the next one
pub record IsFileStart (settings : Around) (previous : Last) (context : Context) : Type 0 where
  -- the numbers of lines that are shown around a line stay
  pub around : context.around ≡ settings
  -- no line is held
  pub held : context.held.items ≡ []
  -- the next line does not follow one that is taken
  pub left : context.left ≡ 0
  -- what was shown of earlier files
  pub last : context.last ≡ previous

-- nothing precedes the first line of the first file; no lines are shown around a line unless this is asked for
abbrev pub IsFirstContext : (asked : Option Around) → Context → Type 0
IsFirstContext asked context = IsFileStart (unwrap_or asked (record { before = 0; after = 0 })) last.Nothing context
