-- The numbers of the codes, as in the header.
use Rattle.std.specs.Prelude.{ℕ, ◌≡◌}
use Rattle.lazydfa_c.specs.declared.code.Code.{Code}
use Rattle.lazydfa_c.specs.declared.code.Code.TheVariants.{Done, Nothing, Closed, Open, Kind, Argument, Memory}
use Rattle.lazydfa_c.specs.declared.code.Code.TheVariants.{NoPattern, UnfinishedPattern, PatchRange, SparsePatch}
use Rattle.lazydfa_c.specs.declared.code.Code.TheVariants.{TooLarge, StateRange, StartRange, PatternRange, Ranges}
use Rattle.lazydfa_c.specs.declared.code.Code.TheVariants.{NotLazy, NotUtf8, Starts, Unsupported, Capacity}
use Rattle.lazydfa_c.specs.declared.code.Code.TheVariants.{StateIDs, PatternCounts, OneStart, Quit, GaveUp, Anchored}
use Rattle.lazydfa_c.specs.declared.code.Code.TheVariants.{NotAPair, NoToken, Skips, NotBegun, NoGroups}
use Rattle.lazydfa_c.specs.declared.code.Code.TheVariants.{Syntax, NotText, NotCompiled}

-- the number of a code
abbrev pub number_of : Code → ℕ
number_of Done = 0
number_of Nothing = 1
number_of Closed = 2
number_of Open = 3
number_of Kind = 4
number_of Argument = 5
number_of Memory = 6
number_of NoPattern = 10
number_of UnfinishedPattern = 11
number_of PatchRange = 12
number_of SparsePatch = 13
number_of TooLarge = 14
number_of StateRange = 15
number_of StartRange = 16
number_of PatternRange = 17
number_of Ranges = 18
number_of NotLazy = 20
number_of NotUtf8 = 22
number_of Starts = 23
number_of Unsupported = 24
number_of Capacity = 25
number_of StateIDs = 26
number_of PatternCounts = 27
number_of OneStart = 28
number_of Quit = 30
number_of GaveUp = 31
number_of Anchored = 32
number_of NotAPair = 33
number_of NoToken = 34
number_of Skips = 35
number_of NotBegun = 36
number_of NoGroups = 37
number_of Syntax = 40
number_of NotText = 41
number_of NotCompiled = 42

-- Different codes have different numbers.
abbrev pub CodesDiffer : Type 0
CodesDiffer = (a b : Code) → number_of a ≡ number_of b → a ≡ b
