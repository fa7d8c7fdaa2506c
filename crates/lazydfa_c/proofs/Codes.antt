-- Different codes have different numbers: each number determines its code.
use Rattle.std.proofs.Common.{ℕ, ◌≡◌, ◌==◌, Option, if◌then◌else◌, ap, refl}
use Rattle.std.specs.Prelude.{Some, None}
use Rattle.lazydfa_c.specs.Codes.{number_of}
use Rattle.lazydfa_c.specs.declared.code.Code.{Code}
use Rattle.lazydfa_c.specs.declared.code.Code.TheVariants.{Done, Nothing, Closed, Open, Kind, Argument, Memory}
use Rattle.lazydfa_c.specs.declared.code.Code.TheVariants.{NoPattern, UnfinishedPattern, PatchRange, SparsePatch}
use Rattle.lazydfa_c.specs.declared.code.Code.TheVariants.{TooLarge, StateRange, StartRange, PatternRange, Ranges}
use Rattle.lazydfa_c.specs.declared.code.Code.TheVariants.{NotLazy, NotUtf8, Starts, Unsupported, Capacity}
use Rattle.lazydfa_c.specs.declared.code.Code.TheVariants.{StateIDs, PatternCounts, OneStart, Quit, GaveUp, Anchored}
use Rattle.lazydfa_c.specs.declared.code.Code.TheVariants.{NotAPair, NoToken, Skips, NotBegun, NoGroups}
use Rattle.lazydfa_c.specs.declared.code.Code.TheVariants.{Syntax, NotText, NotCompiled}

-- the code of a number
abbrev code_of : ℕ → Option Code
code_of n =
    if n == 0 then Some Done else
    if n == 1 then Some Nothing else
    if n == 2 then Some Closed else
    if n == 3 then Some Open else
    if n == 4 then Some Kind else
    if n == 5 then Some Argument else
    if n == 6 then Some Memory else
    if n == 10 then Some NoPattern else
    if n == 11 then Some UnfinishedPattern else
    if n == 12 then Some PatchRange else
    if n == 13 then Some SparsePatch else
    if n == 14 then Some TooLarge else
    if n == 15 then Some StateRange else
    if n == 16 then Some StartRange else
    if n == 17 then Some PatternRange else
    if n == 18 then Some Ranges else
    if n == 20 then Some NotLazy else
    if n == 22 then Some NotUtf8 else
    if n == 23 then Some Starts else
    if n == 24 then Some Unsupported else
    if n == 25 then Some Capacity else
    if n == 26 then Some StateIDs else
    if n == 27 then Some PatternCounts else
    if n == 28 then Some OneStart else
    if n == 30 then Some Quit else
    if n == 31 then Some GaveUp else
    if n == 32 then Some Anchored else
    if n == 33 then Some NotAPair else
    if n == 34 then Some NoToken else
    if n == 35 then Some Skips else
    if n == 36 then Some NotBegun else
    if n == 37 then Some NoGroups else
    if n == 40 then Some Syntax else
    if n == 41 then Some NotText else
    if n == 42 then Some NotCompiled else
    None

-- the code of a code's number
gives_back : (c : Code) → code_of (number_of c) ≡ Some c
gives_back Done = refl
gives_back Nothing = refl
gives_back Closed = refl
gives_back Open = refl
gives_back Kind = refl
gives_back Argument = refl
gives_back Memory = refl
gives_back NoPattern = refl
gives_back UnfinishedPattern = refl
gives_back PatchRange = refl
gives_back SparsePatch = refl
gives_back TooLarge = refl
gives_back StateRange = refl
gives_back StartRange = refl
gives_back PatternRange = refl
gives_back Ranges = refl
gives_back NotLazy = refl
gives_back NotUtf8 = refl
gives_back Starts = refl
gives_back Unsupported = refl
gives_back Capacity = refl
gives_back StateIDs = refl
gives_back PatternCounts = refl
gives_back OneStart = refl
gives_back Quit = refl
gives_back GaveUp = refl
gives_back Anchored = refl
gives_back NotAPair = refl
gives_back NoToken = refl
gives_back Skips = refl
gives_back NotBegun = refl
gives_back NoGroups = refl
gives_back Syntax = refl
gives_back NotText = refl
gives_back NotCompiled = refl

-- the number determines the code
pub codes_differ : (a b : Code) → number_of a ≡ number_of b → a ≡ b
codes_differ a b same =
    let back = gives_back a in
    let back' = gives_back b in let image : code_of (number_of a) ≡ code_of (number_of b) = ap code_of same in cc
