-- What searches and iterations return are preferred matches, whose groups are found.
use Rattle.std.specs.Prelude.{ℕ, ◌≡◌, List, Option, Some, option_map}
use Rattle.regex_hir.specs.Find as kit
use Rattle.regex_hir.specs.Re.{Re}
use Rattle.automata_base.specs.Haystacks.Matches.{Match}
use Rattle.meaning.specs.Patterns.{IsFirstLeft, find_any, left_any, numbered_match}
use Rattle.patterns.specs.declared.compile.Options.{Options}
use Rattle.meta.specs.Groups.{IsPreferredMatch}

-- the match is a preferred one of these patterns
abbrev pub IsOfPreferred : List Re → List ℕ → Match → Type 0
IsOfPreferred res hay found =
    (m : kit.Match) × IsPreferredMatch res hay m × (found ≡ numbered_match res hay m)

-- the match that a search returns, which is what the patterns find from an offset on, is a preferred one
abbrev pub FoundIsPreferred : Type 0
FoundIsPreferred =
    (options : Options) (res : List Re) (hay : List ℕ) (start : ℕ) (found : Match)
    → Some found ≡ option_map (numbered_match res hay) (find_any options.utf8 res hay start)
    → IsOfPreferred res hay found

-- the match that an iteration returns, which is the first of the remaining ones, is a preferred one
abbrev pub NextIsPreferred : Type 0
NextIsPreferred =
    (options : Options) (res : List Re) (hay : List ℕ) (last : Option ℕ) (found : Match)
    → IsFirstLeft (left_any options.utf8 res hay) last (Some found) → IsOfPreferred res hay found
