-- What a grep searches for, and what a search of a text adds to what is printed.
use Rattle.std.specs.Prelude.{ℕ, ◌≡◌, ◌&&◌, Bool, false, true, IsTrue, is_some, not, List, [], ◌++◌}
use Rattle.regex_hir.specs.Re.{Re}
use Rattle.meaning.specs.Patterns.{HasPart}
use Rattle.meta.specs.Groups.{FindAllGroups}
use Rattle.meta.specs.declared.program.Programs.{Programs}
use Rattle.patterns.specs.Patterns.{IsRegexOf}
use Rattle.patterns.specs.Sets.{IsDfaOf}
use Rattle.lgrep.specs.Contexts.{shown_in}
use Rattle.lgrep.specs.Lines.{AreMarked, AreMatching, IsSearcherFor, IsWanted, bytewise, count_after, first_lines}
use Rattle.lgrep.specs.Lines.{lines, positioned, taken_lines}
use Rattle.lgrep.specs.Shown.{is_silent, lines_shown}
use Rattle.lgrep.specs.declared.position.Position.{Position}
use Rattle.lgrep.specs.declared.replace.Replacer.{Replacer}
use Rattle.lgrep.specs.declared.search.Grep.{Grep}
use Rattle.lgrep.specs.declared.show.How.{How}
use Rattle.lgrep.specs.declared.show.How.TheVariants as how
use Rattle.lgrep.specs.declared.show.Show.{Show}
use Rattle.lgrep.specs.declared.view.View.{View}
use Rattle.lgrep.specs.declared.view.View.TheVariants as view

-- the replacer searches for patterns with these meanings, and finds their groups
abbrev pub IsReplacerFor : (case_insensitive : Bool) → List Re → Replacer → Type 0
IsReplacerFor case_insensitive res r =
    IsRegexOf (bytewise case_insensitive) res r.pattern.regex × FindAllGroups r.groups.programs.list.items res

-- the replacer keeps its patterns and what finds their groups
abbrev pub KeepsReplacer : Replacer → Replacer → Type 0
KeepsReplacer old new = (new.pattern ≡ old.pattern) × (new.groups.programs ≡ old.groups.programs)

-- the searcher for what is shown of lines is for patterns with these meanings
abbrev pub IsViewFor : (case_insensitive : Bool) → How → List Re → View → Type 0
IsViewFor case_insensitive how.Whole res view.Whole = Unit {0}
IsViewFor case_insensitive how.Matches res (view.Matches s) = IsRegexOf (bytewise case_insensitive) res s.pattern.regex
IsViewFor case_insensitive how.Which res (view.Which s) = IsDfaOf (bytewise case_insensitive) res s.set.dfa
IsViewFor case_insensitive how.Replaced res (view.Replaced r) = IsReplacerFor case_insensitive res r
IsViewFor case_insensitive how.Replacements res (view.Replacements r) = IsReplacerFor case_insensitive res r
IsViewFor case_insensitive how res view = ⊥

-- the searcher for what is shown of lines keeps its patterns
abbrev pub KeepsView : View → View → Type 0
KeepsView view.Whole view.Whole = Unit {0}
KeepsView (view.Matches old) (view.Matches new) = new.pattern ≡ old.pattern
KeepsView (view.Which old) (view.Which new) = new.set ≡ old.set
KeepsView (view.Replaced old) (view.Replaced new) = KeepsReplacer old new
KeepsView (view.Replacements old) (view.Replacements new) = KeepsReplacer old new
KeepsView old new = ⊥

-- whether matches are replaced
abbrev pub replaces : How → Bool
replaces how.Whole = false
replaces how.Matches = false
replaces how.Which = false
replaces how.Replaced = true
replaces how.Replacements = true

-- the programs find the groups of patterns with these meanings, if matches are replaced
abbrev pub HasGroupsFor : How → List Re → Programs → Type 0
HasGroupsFor how res programs = IsTrue (replaces how) → FindAllGroups programs.list.items res

-- a grep searches only for patterns with these meanings
abbrev pub IsGrepFor : (case_insensitive : Bool) → List Re → Grep → Type 0
IsGrepFor case_insensitive res grep =
    IsSearcherFor case_insensitive res grep.lines.dfa
    × IsViewFor case_insensitive grep.show.flags.how res grep.view

-- whether lines around those that are taken are shown
abbrev pub shows_around : Show → Bool
shows_around show = is_some show.flags.around && not (is_silent show)

-- what searching the lines of a text adds, if only lines that are taken are shown
pub record ShowsLines (res : List Re) (text : List ℕ) (old new : Grep) : Type 0 where
  -- the lines in which some part is a match of some pattern, or with `-v` the others, with their positions
  pub wanted : List (Position × List ℕ)
  -- they are all such lines, in order
  pub matching :
      AreMatching (λ line. IsWanted old.show.flags.invert (HasPart res line.1))
      (positioned old.lines.next (lines old.show.flags.end text)) wanted
  -- the lines that are found
  pub found : List (Position × List ℕ)
  -- they are all of these or, with `-m`, the first ones, up to that many of a file
  pub first : found ≡ first_lines old.show.flags.max old.count wanted
  -- they are shown
  pub shown : new.shown.items ≡ old.shown.items ++ lines_shown old.show res found
  -- they are counted
  pub count : new.count ≡ count_after old.count found

-- what searching the lines of a text adds, if lines around those that are taken are shown
pub record ShowsAround (res : List Re) (text : List ℕ) (old new : Grep) : Type 0 where
  -- the lines with their positions, each with whether it is taken
  pub marked : List ((Position × List ℕ) × Bool)
  -- a line is taken if some part of it is a match of some pattern, or with `-v` if none is; with `-m` only the first
  -- of these lines are, up to that many of a file
  pub marks :
      AreMarked (λ line. IsWanted old.show.flags.invert (HasPart res line.1)) old.show.flags.max old.count
      (positioned old.lines.next (lines old.show.flags.end text)) marked
  -- whatever lines follow, what is shown with them is what is shown of all these lines
  pub shown :
      (rest : List ((Position × List ℕ) × Bool))
      → new.shown.items ++ shown_in old.show res new.context rest
      ≡ old.shown.items ++ shown_in old.show res old.context (marked ++ rest)
  -- if none follow, nothing more is shown
  pub ended : shown_in old.show res new.context [] ≡ []
  -- those that are taken are counted
  pub count : new.count ≡ count_after old.count (taken_lines marked)
