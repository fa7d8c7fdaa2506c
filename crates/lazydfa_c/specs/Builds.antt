-- Contracts of the calls that open a handle on a regex or on a cache, and why they fail.
use Rattle.std.specs.Prelude.{◌≡◌, Bool, false, true, length, replicate, Some, IsSomeAnd, Result, Ok, Err, ℕ, zero}
use Rattle.std.specs.Prelude.{suc, ◌==◌, ◌&&◌, not, List, [], ◌∷◌, Option, None, IsTrue, IsFalse, if◌then◌else◌}
use Rattle.std.specs.Prelude.{slice_set}
use Rattle.automata_base.specs.Nfas.Drafts.{Draft}
use Rattle.automata_base.specs.Nfas.Nodes.{Automaton}
use Rattle.automata_base.specs.Nfas.Unions.{IsKeepingUnions}
use Rattle.automata_base.specs.declared.util.search.MatchKind.{MatchKind}
use Rattle.automata_base.specs.declared.util.search.MatchKind.TheVariants.{All, LeftmostFirst}
use Rattle.automata_config.specs.Options.{Options, overwritten, quits_of, unset}
use Rattle.automata_config.specs.declared.error.BuildError.{BuildError}
use Rattle.regex_automata.specs.Regexes.Builds.{BuildsOne, BuildsPair, IsBuildError, NamesEnough, pair_error}
use Rattle.regex_automata.specs.Regexes.Caches.{AreFresh}
use Rattle.regex_automata.specs.Regexes.SoundPairs.{IsSoundPair}
use Rattle.regex_automata.specs.declared.hybrid.regex.Regex.{Regex}
use Rattle.regex_automata.specs.declared.hybrid.regex.build.RegexBuildError.{RegexBuildError}
use Rattle.lazydfa_c.specs.Calls.{ReadsHandle}
use Rattle.lazydfa_c.specs.Drafts.{MakesNfa, is_state}
use Rattle.lazydfa_c.specs.Handles.{is_open}
use Rattle.lazydfa_c.specs.Programs.{Contents, contents_of}
use Rattle.lazydfa_c.specs.Statuses.{build_status, done_status, plain, regex_status}
use Rattle.lazydfa_c.specs.declared.code.Code.TheVariants as code
use Rattle.lazydfa_c.specs.declared.handle.Handle.{Handle}
use Rattle.lazydfa_c.specs.declared.object.Object.{Object}
use Rattle.lazydfa_c.specs.declared.object.Object.TheVariants.{Builder, Regex as RegexObject, Searcher as CacheObject}
use Rattle.lazydfa_c.specs.declared.object.Searcher.{Searcher}
use Rattle.lazydfa_c.specs.declared.object.Shared.{Shared}
use Rattle.lazydfa_c.specs.declared.regex.StartStates.{StartStates}
use Rattle.lazydfa_c.specs.declared.settings.Settings.{Settings}
use Rattle.lazydfa_c.specs.declared.status.Status.{Status}

-- the regex that `build_from_nfa` returns for an NFA: its forward DFA is built from the NFA, which then keeps unions if
-- it has a look cycle, and its reverse DFA from the reversed NFA; the two DFAs are a sound pair
abbrev pub IsBuiltRegex : Options → Automaton → Regex → Type 0
IsBuiltRegex o nfa regex = BuildsOne o nfa regex × IsSoundPair regex

-- the status is the status of an error of `build_from_nfa`
abbrev pub IsBuildErrorStatus : Options → Automaton → Status → Type 0
IsBuildErrorStatus o nfa status = (e : RegexBuildError) × IsBuildError o nfa e × (status ≡ regex_status e)

-- the regex that `build_from_nfas` returns for two NFAs
abbrev pub IsPairOf : Options → (forward reverse : Automaton) → Regex → Type 0
IsPairOf o forward reverse regex = BuildsPair o forward reverse regex

-- the status is the status of an error of `build_from_nfas`
abbrev pub IsPairError : Options → (forward reverse : Automaton) → Status → Type 0
IsPairError o forward reverse status =
    (e : BuildError)
    × (pair_error o forward reverse ≡ Some e) × NamesEnough o forward reverse e × (status ≡ build_status e)

-- each NFA keeps unions if it has a look cycle
pub record AreKeeping (forward reverse front back : Automaton) : Type 0 where
  -- `front` is the forward NFA, and keeps unions exactly if the forward NFA has a look cycle
  pub ahead : IsKeepingUnions forward front
  -- `back` is the reverse NFA, and keeps unions by the same rule
  pub behind : IsKeepingUnions reverse back

-- the regex that `build_from_nfas` returns for two NFAs, each made to keep unions if it has a look cycle
abbrev pub IsKeepingPairOf : Options → (forward reverse : Automaton) → Regex → Type 0
IsKeepingPairOf o forward reverse regex =
    (front back : Automaton) × AreKeeping forward reverse front back × IsPairOf o front back regex

-- the status is the status of an error of `build_from_nfas` for two NFAs, each made to keep unions if it has a look
-- cycle
abbrev pub IsKeepingPairError : Options → (forward reverse : Automaton) → Status → Type 0
IsKeepingPairError o forward reverse status =
    (front back : Automaton) × AreKeeping forward reverse front back × IsPairError o front back status

-- the object is this regex, with its needles and programs
abbrev pub IsRegexObject : Contents → Object → Type 0
IsRegexObject contents (RegexObject r) = contents_of r ≡ contents
IsRegexObject contents (Builder b) = ⊥
IsRegexObject contents (CacheObject s) = ⊥

-- the handle is open on this regex, with its needles and programs
pub record IsRegexIn (contents : Contents) (handle : Handle) : Type 0 where
  -- the handle is open
  pub opened : handle.live ≡ 1
  -- its object is this regex
  pub object : IsSomeAnd handle.slot.value (IsRegexObject contents)

-- a regex of this kind, without needles or programs
abbrev pub HasNoExtras : (Makes : Regex → Type 0) → Contents → Type 0
HasNoExtras Makes contents =
    Makes contents.pattern.regex × (contents.pattern.prefilter ≡ None) × (contents.programs ≡ None)
    × (contents.words ≡ false)

-- a regex of this kind, without needles or programs, whose iterations make no attempts to find matches at once
abbrev pub MakesNoAttempts : (Makes : Regex → Type 0) → Contents → Type 0
MakesNoAttempts Makes contents = HasNoExtras Makes contents × (contents.pattern.attempts ≡ false)

-- whether both starts are valid state IDs
abbrev pub are_starts : StartStates → Bool
are_starts starts = is_state starts.anchored && is_state starts.unanchored

-- the NFA that a builder makes with these starts, or the status that says why there is none
pub data IsNfaOfDraft (starts : StartStates) (draft : Draft) (result : Result Automaton Status) : Type 0 where
  -- the starts are valid state IDs, and the result is what the builder returns
  HasStarts :
      IsTrue (are_starts starts) → MakesNfa draft starts.anchored starts.unanchored result
      → IsNfaOfDraft starts draft result
  -- a start is not a valid state ID, which is reported first
  LacksOneStart : IsFalse (are_starts starts) → result ≡ Err (plain code.Argument) → IsNfaOfDraft starts draft result

-- the NFA of a builder object; for any other object its kind is reported
abbrev pub IsNfaIn : StartStates → Object → Result Automaton Status → Type 0
IsNfaIn starts (Builder draft) result = IsNfaOfDraft starts draft result
IsNfaIn starts (RegexObject r) result = result ≡ Err (plain code.Kind)
IsNfaIn starts (CacheObject s) result = result ≡ Err (plain code.Kind)

-- the match kind of a number that C gave, or the error if there is none
abbrev pub kind_of : ℕ → Result MatchKind Status
kind_of zero = Ok LeftmostFirst
kind_of (suc zero) = Ok All
kind_of (suc (suc n)) = Err (plain code.Argument)

-- the capacity of a cache, in bytes: 8 MiB, unless it is set
abbrev pub capacity_of : Settings → ℕ
capacity_of s = if s.has_cache_capacity == 0 then 8388608 else s.cache_capacity

-- the bytes up to which the capacity is raised for a regex whose minimum is large: 256 MiB, unless they are set; a
-- capacity that is set is raised only if they are set too
abbrev pub limit_of : Settings → ℕ
limit_of s =
    if s.has_cache_limit == 0 then (if s.has_cache_capacity == 0 then 268435456 else 0) else s.cache_limit

-- a limit that C gave: it is set to the number, or it is not set
abbrev pub limit_if : (has number : ℕ) → Option (Option ℕ)
limit_if has number = if has == 0 then None else Some (Some number)

-- whether both starts are one state, so that every search is anchored, although the settings do not allow that
abbrev pub has_one_start : Settings → StartStates → Bool
has_one_start s starts = (starts.anchored == starts.unanchored) && (s.always_anchored == 0)

-- the options with these quit bytes added
abbrev pub with_quits : Options → List ℕ → Options
with_quits o [] = o
with_quits o (byte ∷ bytes) = with_quits (record o { quits = Some (slice_set (quits_of o) byte true) }) bytes

-- the settings that C gave, as options with this match kind; no quit bytes are set yet
abbrev pub options_in : Settings → MatchKind → Options
options_in s kind = record {
  match_kind = Some kind;
  starts_for_each_pattern = Some (not (s.starts_for_each_pattern == 0));
  byte_classes = Some (s.no_byte_classes == 0);
  unicode_word_boundary = Some (not (s.unicode_word_boundary == 0));
  quits = None;
  specialize_start_states = Some (not (s.specialize_start_states == 0));
  cache_capacity = Some (capacity_of s);
  cache_limit = Some (limit_of s);
  skip_cache_capacity_check = Some (not (s.skip_cache_capacity_check == 0));
  minimum_cache_clear_count = limit_if s.has_minimum_cache_clear_count s.minimum_cache_clear_count;
  minimum_bytes_per_state = limit_if s.has_minimum_bytes_per_state s.minimum_bytes_per_state;
}

-- the settings that C gave, as options with these quit bytes, or the error of the match kind
abbrev pub options_of : Settings → (quits : List ℕ) → Result MatchKind Status → Result Options Status
options_of s quits (Ok kind) = Ok (with_quits (options_in s kind) quits)
options_of s quits (Err e) = Err e

-- the options for an NFA with these starts, or an error if both are one state and the settings do not allow that
abbrev pub options_for : Settings → (quits : List ℕ) → StartStates → Result Options Status
options_for s quits starts =
    if has_one_start s starts then Err (plain code.OneStart) else options_of s quits (kind_of s.match_kind)

-- a handle is open on a regex of this kind
pub record HoldsRegex (Makes : Contents → Type 0) (new : Handle) : Type 0 where
  -- the regex, with its needles and programs
  pub contents : Contents
  -- it is of this kind
  pub made : Makes contents
  -- the handle is open on it
  pub opened : IsRegexIn contents new

-- why no handle is opened on a regex
pub data IsNotOpened (Refuses : Status → Type 0) (e : Status) : Type 0 where
  -- the library's call returned this error
  RefusesRegex : Refuses e → IsNotOpened Refuses e
  -- the allocation of the handle's object failed
  LacksObject : e ≡ plain code.Memory → IsNotOpened Refuses e

-- a handle is opened on the regex that the library's call returned, or is unchanged, and the status says why
abbrev pub OpensRegex : (Makes : Contents → Type 0) → (Refuses : Status → Type 0)
    → (old new : Handle) → Result (Unit {0}) Status → Type 0
OpensRegex Makes Refuses old new (Ok u) = HoldsRegex Makes new
OpensRegex Makes Refuses old new (Err e) = (new ≡ old) × IsNotOpened Refuses e

-- a handle is opened on the regex of an NFA, if there is one
abbrev pub OpensOf : Options → (old new : Handle) → Result Automaton Status → Result (Unit {0}) Status → Type 0
OpensOf o old new (Ok nfa) done =
    OpensRegex (HasNoExtras (IsBuiltRegex o nfa)) (IsBuildErrorStatus o nfa) old new done
OpensOf o old new (Err e) done = (new ≡ old) × (done ≡ Err e)

-- a handle is opened on the regex of two NFAs, if there are both
abbrev pub OpensPair : Options → (old new : Handle) → Automaton → Result Automaton Status
    → Result (Unit {0}) Status → Type 0
OpensPair o old new forward (Ok reverse) done =
    OpensRegex (MakesNoAttempts (IsKeepingPairOf o forward reverse)) (IsKeepingPairError o forward reverse) old new done
OpensPair o old new forward (Err e) done = (new ≡ old) × (done ≡ Err e)

-- a handle is opened on the regex of the NFA of a builder, which is put back
abbrev pub OpensIn : Options → StartStates → (old new from left : Handle) → Result (Unit {0}) Status → Type 0
OpensIn o starts old new from left done =
    (nfa : Result Automaton Status) × ReadsHandle (IsNfaIn starts) from left nfa × OpensOf o old new nfa done

-- the first of two builders gave its NFA: the second is read, and a handle is opened on the regex of both NFAs
pub record OpensBoth (o : Options) (starts : StartStates) (old new from left : Handle) (forward : Automaton)
    (done : Result (Unit {0}) Status) : Type 0 where
  -- the result of the second builder
  pub reverse : Result Automaton Status
  -- the second builder is put back
  pub read : ReadsHandle (IsNfaIn starts) from left reverse
  -- the handle is opened on the regex of both NFAs
  pub opens : OpensPair o old new forward reverse done

-- the first of two builders gave no NFA: the second is not read, and no handle is opened
pub record OpensNeither (old new from left : Handle) (e : Status) (done : Result (Unit {0}) Status) : Type 0 where
  -- the handle is unchanged
  pub same : new ≡ old
  -- the handle of the second builder is unchanged
  pub unread : left ≡ from
  -- the error is returned
  pub told : done ≡ Err e

-- a handle is opened on the regex of the NFAs of two builders; the second is read only if the first gave its NFA
abbrev pub OpensAfter : Options → StartStates → (old new from left : Handle) → Result Automaton Status
    → Result (Unit {0}) Status → Type 0
OpensAfter o starts old new from left (Ok forward) done = OpensBoth o starts old new from left forward done
OpensAfter o starts old new from left (Err e) done = OpensNeither old new from left e done

-- a handle is opened on the regex of the NFAs of two builders, which are put back: the first NFA is built, and then, if
-- that succeeds, the second
abbrev pub OpensPairIn : Options → (forward reverse : StartStates) → (old new : Handle)
    → (from left : Handle) → (from_reverse left_reverse : Handle) → Result (Unit {0}) Status → Type 0
OpensPairIn o forward reverse old new from left from_reverse left_reverse done =
    (nfa : Result Automaton Status) × ReadsHandle (IsNfaIn forward) from left nfa
    × OpensAfter o reverse old new from_reverse left_reverse nfa done

-- a handle is to be opened on a regex: if it is already open, or the options have an error, nothing is done
abbrev pub WithOptions : (Does : Options → Result (Unit {0}) Status → Type 0) → (Stays : Type 0) → (is_taken : Bool)
    → Result Options Status → Result (Unit {0}) Status → Type 0
WithOptions Does Stays true options done = Stays × (done ≡ Err (plain code.Open))
WithOptions Does Stays false (Ok o) done = Does (overwritten unset o) done
WithOptions Does Stays false (Err e) done = Stays × (done ≡ Err e)

-- `lazydfa_regex_build`
abbrev pub BuildsRegex : Settings → (quits : List ℕ) → StartStates → (old new from left : Handle) → Status → Type 0
BuildsRegex settings quits starts old new from left status =
    (done : Result (Unit {0}) Status)
    × WithOptions (λ o d. OpensIn o starts old new from left d) ((new ≡ old) × (left ≡ from)) (is_open old.live)
    (options_for settings quits starts) done
    × (status ≡ done_status done)

-- a handle is unchanged, and so are the handles of two builders
pub record AllStay (old new from left from_reverse left_reverse : Handle) : Type 0 where
  -- the handle is unchanged
  pub same : new ≡ old
  -- the handle of the first builder is unchanged
  pub forward : left ≡ from
  -- the handle of the second builder is unchanged
  pub reverse : left_reverse ≡ from_reverse

-- `lazydfa_regex_build_pair`, which reports `LAZYDFA_ONE_START` for the forward NFA alone
abbrev pub BuildsRegexPair : Settings → (quits : List ℕ) → (forward reverse : StartStates) → (old new : Handle)
    → (from left : Handle) → (from_reverse left_reverse : Handle) → Status → Type 0
BuildsRegexPair settings quits forward reverse old new from left from_reverse left_reverse status =
    (done : Result (Unit {0}) Status)
    × WithOptions (λ o d. OpensPairIn o forward reverse old new from left from_reverse left_reverse d)
    (AllStay old new from left from_reverse left_reverse) (is_open old.live)
    (options_for settings quits forward) done
    × (status ≡ done_status done)

-- the object's regex is shared, with its needles and programs, if the object is a regex and the allocation succeeds
abbrev pub IsShareOf : Object → Result Shared Status → Type 0
IsShareOf (RegexObject r) (Ok s) = contents_of s ≡ contents_of r
IsShareOf (RegexObject r) (Err status) = status ≡ plain code.Memory
IsShareOf (Builder b) result = result ≡ Err (plain code.Kind)
IsShareOf (CacheObject s) result = result ≡ Err (plain code.Kind)

-- the handle's regex is shared
abbrev pub SharesRegex : (old new : Handle) → Result Shared Status → Type 0
SharesRegex old new result = ReadsHandle IsShareOf old new result

-- the regex whose two DFAs are swapped: it reads backward what the other one reads forward, and the other way round
abbrev pub reversed : Regex → Regex
reversed r = record { forward = r.reverse; reverse = r.forward }

-- the two DFAs of a regex differ in their numbers of patterns
abbrev pub HasTwoCounts : Regex → Type 0
HasTwoCounts r = length r.forward.nfa.start_pattern ≡ length r.reverse.nfa.start_pattern → ⊥

-- why a regex is not reversed
pub data IsNotReversed (r : Regex) (status : Status) : Type 0 where
  -- an allocation failed
  HasNoMemory : status ≡ plain code.Memory → IsNotReversed r status
  -- its DFAs differ in their numbers of patterns
  DiffersInCounts : HasTwoCounts r → status ≡ plain code.PatternCounts → IsNotReversed r status

-- the object's regex is reversed, if the object is a regex, its DFAs have equally many patterns, and the allocation
-- succeeds
abbrev pub IsReverseOf : Object → Result Shared Status → Type 0
IsReverseOf (RegexObject r) (Ok s) =
    MakesNoAttempts (λ regex. regex ≡ reversed r.pattern.value.regex) (contents_of s)
IsReverseOf (RegexObject r) (Err status) = IsNotReversed r.pattern.value.regex status
IsReverseOf (Builder b) result = result ≡ Err (plain code.Kind)
IsReverseOf (CacheObject s) result = result ≡ Err (plain code.Kind)

-- the handle's regex is reversed
abbrev pub ReversesRegex : (old new : Handle) → Result Shared Status → Type 0
ReversesRegex old new result = ReadsHandle IsReverseOf old new result

-- a fresh cache of a regex, with an empty set of its patterns
pub record IsFreshOf (contents : Contents) (s : Searcher) : Type 0 where
  -- it belongs to this regex, and has its needles and programs
  pub regex_is : contents_of s.shared ≡ contents
  -- the caches of both DFAs are fresh
  pub cache : AreFresh contents.pattern.regex s.cache
  -- its set has room for all patterns of the regex, and is empty
  pub patterns : s.patterns ≡ replicate (length contents.pattern.regex.forward.nfa.start_pattern) false
  -- neither a search nor a walk in pieces was begun over it
  pub pieces : s.pieces ≡ record { search = None; walk = None }

-- the object is a fresh cache of this regex
abbrev pub IsCacheObject : Contents → Object → Type 0
IsCacheObject contents (CacheObject s) = IsFreshOf contents s
IsCacheObject contents (Builder b) = ⊥
IsCacheObject contents (RegexObject r) = ⊥

-- the handle is open on a fresh cache of this regex
pub record IsCacheIn (contents : Contents) (handle : Handle) : Type 0 where
  -- the handle is open
  pub opened : handle.live ≡ 1
  -- its object is a fresh cache of this regex
  pub object : IsSomeAnd handle.slot.value (IsCacheObject contents)

-- a handle is opened on a shared regex, or on a cache of it; without a regex, or if the allocation fails, it is
-- unchanged
abbrev pub OpensOn : (IsIn : Contents → Handle → Type 0) → (old new : Handle) → Result Shared Status
    → Result (Unit {0}) Status → Type 0
OpensOn IsIn old new (Ok shared) (Ok u) = IsIn (contents_of shared) new
OpensOn IsIn old new (Ok shared) (Err status) = (new ≡ old) × (status ≡ plain code.Memory)
OpensOn IsIn old new (Err e) done = (new ≡ old) × (done ≡ Err e)

-- a handle is opened on the regex that another handle gives, or on a cache of it
pub record OpensFrom
    (Gives : (from left : Handle) → Result Shared Status → Type 0) (IsIn : Contents → Handle → Type 0)
    (old new : Handle) (from left : Handle) (done : Result (Unit {0}) Status)
    : Type 0 where
  -- if the handle is already open, both handles are unchanged, and that is reported
  pub taken : is_open old.live ≡ true → (new ≡ old) × (left ≡ from) × (done ≡ Err (plain code.Open))
  -- otherwise the other handle gives a regex, and this handle is opened on it, or is unchanged
  pub made :
      is_open old.live ≡ false
      → (shared : Result Shared Status) × Gives from left shared × OpensOn IsIn old new shared done

-- `lazydfa_regex_share`: the handle is opened on the other handle's regex
abbrev pub SharesHandle : (old new : Handle) → (from left : Handle) → Status → Type 0
SharesHandle old new from left status =
    (done : Result (Unit {0}) Status) × OpensFrom SharesRegex IsRegexIn old new from left done
    × (status ≡ done_status done)

-- `lazydfa_regex_reverse`: the handle is opened on the reverse of the other handle's regex
abbrev pub ReversesHandle : (old new : Handle) → (from left : Handle) → Status → Type 0
ReversesHandle old new from left status =
    (done : Result (Unit {0}) Status)
    × OpensFrom ReversesRegex IsRegexIn old new from left done × (status ≡ done_status done)

-- `lazydfa_cache_new`: the handle is opened on a fresh cache of the other handle's regex
abbrev pub NewsCache : (old new : Handle) → (from left : Handle) → Status → Type 0
NewsCache old new from left status =
    (done : Result (Unit {0}) Status) × OpensFrom SharesRegex IsCacheIn old new from left done
    × (status ≡ done_status done)
