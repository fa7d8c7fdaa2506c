-- What a regex's builder builds from two NFAs, or why it fails.
use Rattle.std.specs.Prelude.{ℕ, ◌≡◌, ◌==◌, false, true, if◌then◌else◌, length, max, Option, None, Some}
use Rattle.automata_base.specs.Nfas.Getters.{SkipsLazily}
use Rattle.automata_transform.specs.Nfas.Mirrors.{BeginsAlike, IsReversalOf}
use Rattle.automata_base.specs.Nfas.Nodes.{Automaton}
use Rattle.automata_transform.specs.Nfas.ReversedSizes.{MayBeTooLarge}
use Rattle.automata_base.specs.declared.util.search.Direction.TheVariants.{Forward}
use Rattle.automata_base.specs.Nfas.Unions.{IsKeepingUnions}
use Rattle.automata_base.specs.Nfas.Utf8.{ReadsUtf8}
use Rattle.automata_transform.specs.declared.reverse.ReverseError.{ReverseError}
use Rattle.automata_transform.specs.declared.reverse.ReverseError.TheVariants as reverse
use Rattle.automata_base.specs.declared.util.search.MatchKind.TheVariants.{All}
use Rattle.automata_config.specs.Options.{Options}
use Rattle.automata_config.specs.Settling as settling
use Rattle.automata_config.specs.declared.error.BuildError.{BuildError}
use Rattle.automata_config.specs.declared.error.BuildError.TheVariants.{InsufficientCacheCapacity, PatternCounts}
use Rattle.automata_config.specs.declared.error.BuildError.TheVariants.{Unsupported}
use Rattle.automata_hybrid.specs.Machines.Builds as dfa
use Rattle.regex_automata.specs.declared.hybrid.regex.Regex.{Regex}
use Rattle.regex_automata.specs.declared.hybrid.regex.build.RegexBuildError.{RegexBuildError}
use Rattle.regex_automata.specs.declared.hybrid.regex.build.RegexBuildError.TheVariants as is

-- the settings of the reverse DFA: its match kind is `MatchKind::All`, and its start states are not tagged
abbrev pub backward : Options → Options
backward o = record o { match_kind = Some All; specialize_start_states = Some false }

-- each DFA is built from its NFA with its settings
abbrev pub BuildsPair : Options → Automaton → Automaton → Regex → Type 0
BuildsPair o forward reverse p = dfa.Builds o forward p.forward × dfa.Builds (backward o) reverse p.reverse

-- the number of patterns of an NFA
abbrev pub pattern_count : Automaton → ℕ
pattern_count a = length a.start_pattern

-- two errors joined: the first one; if the capacity is too small for both, with the greater minimum
abbrev pub joined_error : BuildError → BuildError → BuildError
joined_error (InsufficientCacheCapacity minimum given) (InsufficientCacheCapacity other asked) =
    InsufficientCacheCapacity (max minimum other) given
joined_error first second = first

-- the errors of both DFAs joined, or the only one of them, if there is any
abbrev pub error_of_two : (forward reverse : Option BuildError) → Option BuildError
error_of_two (Some first) (Some second) = Some (joined_error first second)
error_of_two (Some first) None = Some first
error_of_two None reverse = reverse

-- why a DFA cannot be built from one of two NFAs
abbrev pub error_of_both : Options → Automaton → Automaton → Option BuildError
error_of_both o forward reverse =
    error_of_two (settling.settling_error o forward) (settling.settling_error (backward o) reverse)

-- why no regex is built: the NFAs do not have the same number of patterns, or a DFA cannot be built, the forward one
-- first
abbrev pub pair_error : Options → Automaton → Automaton → Option BuildError
pair_error o forward reverse =
    if pattern_count forward == pattern_count reverse
    then error_of_both o forward reverse
    else Some (PatternCounts (pattern_count forward) (pattern_count reverse))

-- with this capacity, and with the other settings and both NFAs unchanged, a build does not fail for its capacity
abbrev pub IsEnough : Options → Automaton → Automaton → (capacity : ℕ) → Type 0
IsEnough o forward reverse capacity =
    (minimum given : ℕ)
    → pair_error (record o { cache_capacity = Some capacity }) forward reverse
    ≡ Some (InsufficientCacheCapacity minimum given)
    → ⊥

-- if the error is that the capacity is too small, the minimum that it names is enough for both DFAs
abbrev pub NamesEnough : Options → Automaton → Automaton → BuildError → Type 0
NamesEnough o forward reverse error =
    (minimum given : ℕ) → error ≡ InsufficientCacheCapacity minimum given → IsEnough o forward reverse minimum

-- the build error for each error of `reversed`
abbrev pub reverse_build_error : ReverseError → RegexBuildError
reverse_build_error reverse.Starts = is.Starts
reverse_build_error reverse.TooLarge = is.TooLarge
reverse_build_error reverse.OutOfMemory = is.OutOfMemory

-- in UTF-8 mode the NFA reads valid UTF-8
abbrev pub IsUtf8 : Automaton → Type 0
IsUtf8 forward = forward.flags.utf8 ≡ true → ReadsUtf8 Forward forward

-- the NFA passes the first two tests: it skips lazily, and in UTF-8 mode it reads valid UTF-8
abbrev pub PassesTwo : Automaton → Type 0
PassesTwo forward = SkipsLazily forward × IsUtf8 forward

-- the NFA passes all three tests: the first two, and it begins alike
abbrev pub PassesAll : Automaton → Type 0
PassesAll forward = PassesTwo forward × BeginsAlike forward

-- the regex is built from the NFA, which keeps unions if it has a look cycle, and from the reversed NFA
abbrev pub BuildsOne : Options → Automaton → Regex → Type 0
BuildsOne o forward p =
    (kept reverse : Automaton) × IsKeepingUnions forward kept × IsReversalOf forward reverse
    × BuildsPair o kept reverse p

-- why no pair of DFAs can be built from an NFA and its reverse
pub record IsUnpaired (o : Options) (forward : Automaton) (error : BuildError) : Type 0 where
  -- the NFA passes all tests
  pub passes : PassesAll forward
  -- the reversed NFA
  pub reverse : Automaton
  -- it is the NFA reversed
  pub reversed : IsReversalOf forward reverse
  -- the two cannot be built
  pub fails : pair_error o forward reverse ≡ Some error
  -- if the capacity is too small, the error names a minimum that is enough
  pub enough : NamesEnough o forward reverse error
  -- if a Unicode word boundary is not supported, the NFA itself has one
  pub unicode : error ≡ Unsupported → settling.has_unicode_word forward ≡ true

-- why no regex is built from one NFA: it fails a test after it passed the previous ones; or it passes all, and cannot
-- be reversed, or no pair can be built from it and its reverse. Memory is used only after the first test
abbrev pub IsBuildError : Options → Automaton → RegexBuildError → Type 0
IsBuildError o forward is.NotLazy = SkipsLazily forward → ⊥
IsBuildError o forward is.NotUtf8 = SkipsLazily forward × (IsUtf8 forward → ⊥)
IsBuildError o forward is.Starts = PassesTwo forward × (BeginsAlike forward → ⊥)
IsBuildError o forward is.TooLarge = PassesAll forward × MayBeTooLarge forward
IsBuildError o forward is.OutOfMemory = SkipsLazily forward
IsBuildError o forward (is.Build error) = IsUnpaired o forward error
