-- The groups of matches, and their names: contracts of the calls that report them.
use Rattle.std.specs.Prelude.{ℕ, ◌≡◌, ◌≢◌, ◌⊎◌, ◌<◌, ◌-◌, ◌^◌, ◌&&◌, nat_le, List, [], ◌∷◌, All, length, map, slice_get}
use Rattle.std.specs.Prelude.{Option, None, Some, IfSome, Result, Ok, Err, MatchOption, if◌then◌else◌}
use Rattle.std.specs.Prelude.{slice_index_or}
use Rattle.std.specs.List.{range_with_len}
use Rattle.core.specs.Str.{IsValidUpTo}
use Rattle.regex_hir.specs.Find as kit
use Rattle.regex_hir.specs.Re.{Re}
use Rattle.automata_base.specs.declared.util.search.Span.{Span}
use Rattle.meaning.specs.Patterns.{numbered_match}
use Rattle.regex_automata.specs.Promises.{Match}
use Rattle.meta.specs.Groups.{FindAllGroups, IsPreferredMatch, group_span}
use Rattle.meta.specs.Names.{group_names}
use Rattle.meta.specs.Slots.{LiesInMatch}
use Rattle.meta.specs.declared.program.Programs.{Programs}
use Rattle.lazydfa_c.specs.Caches.{KeepsCaches, written_over}
use Rattle.lazydfa_c.specs.Calls.{OnHandle}
use Rattle.lazydfa_c.specs.Programs.{programs_of}
use Rattle.lazydfa_c.specs.Requests.{match_of_found}
use Rattle.lazydfa_c.specs.Statuses.{plain, status_at}
use Rattle.lazydfa_c.specs.Texts.{WritesMessage}
use Rattle.lazydfa_c.specs.declared.code.Code.TheVariants as code
use Rattle.lazydfa_c.specs.declared.groups.GroupSpan.{GroupSpan}
use Rattle.lazydfa_c.specs.declared.handle.Handle.{Handle}
use Rattle.lazydfa_c.specs.declared.input.Found.{Found}
use Rattle.lazydfa_c.specs.declared.object.Object.{Object}
use Rattle.lazydfa_c.specs.declared.object.Object.TheVariants.{Builder, Regex as RegexObject, Searcher as CacheObject}
use Rattle.lazydfa_c.specs.declared.object.Searcher.{Searcher}
use Rattle.lazydfa_c.specs.declared.status.Status.{Status}

-- the names of the groups of the pattern with this number, from group 0 on; there are none if there is no such pattern
abbrev pub groups_at : Programs → (pattern : ℕ) → List (Option (List ℕ))
groups_at programs pattern = if nat_le pattern 2147483646 then group_names programs pattern else []

-- the span of a group as C lays it out: a group that took no part in the match has the greatest number twice
abbrev pub span_as_read : Option Span → GroupSpan
span_as_read None = record { start = 2 ^ 64 - 1; end = 2 ^ 64 - 1 }
span_as_read (Some span) = record { start = span.start; end = span.end }

-- the library's match, from one as C lays it out, if it lies in a haystack of this length and its pattern is a valid ID
abbrev pub match_in : (length : ℕ) → Found → Option Match
match_in length f =
    if nat_le f.start f.end && (nat_le f.end length && nat_le f.pattern 2147483646)
    then Some (match_of_found f)
    else None

-- these are the spans of the groups of a match, from group 0 on
pub record AreGroupsOf (programs : Programs) (haystack : List ℕ) (m : Match) (spans : List (Option Span)) :
    Type 0 where
  -- the pattern exists
  pub exists : 0 < length (group_names programs m.pattern)
  -- there is one span for each of its groups
  pub count : length spans ≡ length (group_names programs m.pattern)
  -- if it is the match that the patterns prefer where it starts, they are the spans that the preferred path wrote last
  pub groups :
      (res : List Re) (k : kit.Match) → FindAllGroups programs.list.items res → IsPreferredMatch res haystack k
      → m ≡ numbered_match res haystack k
      → spans ≡ map (group_span k) (range_with_len 0 (length (group_names programs m.pattern)))
  -- each lies in the match, whatever match it is
  pub within : All (λ span. IfSome span (LiesInMatch m)) spans

-- the groups of a match are reported, or why there are none
pub data ReportsGroups (programs : Programs) (haystack : List ℕ) (found : Found) (old new : List GroupSpan)
    (count : ℕ) (status : Status) : Type 0 where
  -- their spans are written, as many as there is room for, and counted
  AreReported :
      (m : Match) (spans : List (Option Span)) → match_in (length haystack) found ≡ Some m
      → AreGroupsOf programs haystack m spans → new ≡ written_over (map span_as_read spans) old
      → count ≡ length spans → status ≡ plain code.Done
      → ReportsGroups programs haystack found old new count status
  -- the match does not lie in the haystack, or its pattern does not exist: nothing is written
  IsNoMatch :
      (match_in (length haystack) found ≡ None) ⊎ (groups_at programs found.pattern ≡ []) → new ≡ old → count ≡ 0
      → status ≡ plain code.Argument → ReportsGroups programs haystack found old new count status

-- the same, by the programs of a regex; without programs nothing is written, and that is reported
abbrev pub ReportsGroupsBy : Option Programs → (haystack : List ℕ) → Found → (old new : List GroupSpan) → (count : ℕ)
    → Status → Type 0
ReportsGroupsBy None haystack found old new count status = (new ≡ old) × (count ≡ 0) × (status ≡ plain code.NoGroups)
ReportsGroupsBy (Some programs) haystack found old new count status =
    ReportsGroups programs haystack found old new count status

-- `lazydfa_groups`
pub record ReadsGroups (haystack : List ℕ) (found : Found) (old new : List GroupSpan) (count : ℕ) (s t : Searcher)
    (status : Status) : Type 0 where
  -- the groups are reported, by the programs of the regex
  pub reports : ReportsGroupsBy (programs_of s.shared) haystack found old new count status
  -- the cache is unchanged
  pub keeps : KeepsCaches s t

-- the names of the groups of a pattern, or the status if there is no such pattern
abbrev pub names_or_status : List (Option (List ℕ)) → Result (List (Option (List ℕ))) Status
names_or_status [] = Err (plain code.Argument)
names_or_status (name ∷ names) = Ok (name ∷ names)

-- the names of the groups of a pattern, by the programs of a regex; or the status if it has none
abbrev pub names_by : Option Programs → (pattern : ℕ) → Result (List (Option (List ℕ))) Status
names_by None pattern = Err (plain code.NoGroups)
names_by (Some programs) pattern = names_or_status (groups_at programs pattern)

-- the names of the groups of a pattern of a regex object; for any other object its kind is reported
abbrev pub names_in : Object → (pattern : ℕ) → Result (List (Option (List ℕ))) Status
names_in (RegexObject r) pattern = names_by (programs_of r) pattern
names_in (Builder b) pattern = Err (plain code.Kind)
names_in (CacheObject s) pattern = Err (plain code.Kind)

-- the number of groups is written, or the status says why there is none
abbrev pub IsCountTold : (written : ℕ) → Result (List (Option (List ℕ))) Status → Status → Type 0
IsCountTold written (Ok names) status = (written ≡ length names) × (status ≡ plain code.Done)
IsCountTold written (Err e) status = status ≡ e

-- no group below this number has the name
abbrev pub LacksNameBelow : List (Option (List ℕ)) → (name : List ℕ) → ℕ → Type 0
LacksNameBelow names name n = (k : ℕ) → k < n → slice_index_or names k None ≢ Some name

-- the number of the first group that has the name, or none if no group has it
abbrev pub IsFirstNamed : List (Option (List ℕ)) → (name : List ℕ) → Option ℕ → Type 0
IsFirstNamed names name group =
    MatchOption group (LacksNameBelow names name (length names))
    (λ n. (n < length names) × (slice_index_or names n None ≡ Some name) × LacksNameBelow names name n)

-- the number of the first group that has a name is written, if there is one
abbrev pub IsFoundTold : (written : ℕ) → Option ℕ → Status → Type 0
IsFoundTold written (Some group) status = (written ≡ group) × (status ≡ plain code.Done)
IsFoundTold written None status = status ≡ plain code.Nothing

-- a name is looked up among the names of groups; one that is not UTF-8 is reported
pub data LooksUp (name : List ℕ) (written : ℕ) (names : List (Option (List ℕ))) (status : Status) : Type 0 where
  -- the first group that has the name, if there is one
  IsLookedUp :
      (group : Option ℕ) → IsFirstNamed names name group → IsFoundTold written group status
      → LooksUp name written names status
  -- the name is UTF-8 up to this offset, and not up to a later one
  IsNoName :
      (offset : ℕ) → IsValidUpTo name offset → status ≡ status_at code.NotText offset
      → LooksUp name written names status

-- the number of the group with a name is written, or the status says why there is none
abbrev pub IsIndexTold : (name : List ℕ) → (written : ℕ) → Result (List (Option (List ℕ))) Status → Status → Type 0
IsIndexTold name written (Ok names) status = LooksUp name written names status
IsIndexTold name written (Err e) status = status ≡ e

-- a name is written, with its length; without a name the status says that
abbrev pub IsNameWritten : (old new : List ℕ) → (length : ℕ) → Option (Option (List ℕ)) → Status → Type 0
IsNameWritten old new n (Some (Some name)) status =
    WritesMessage name old new × (n ≡ length name) × (status ≡ plain code.Done)
IsNameWritten old new n (Some None) status = status ≡ plain code.Nothing
IsNameWritten old new n None status = status ≡ plain code.Argument

-- the name of a group is written, or the status says why there is none
abbrev pub IsNameTold : (group : ℕ) → (old new : List ℕ) → (length : ℕ) → Result (List (Option (List ℕ))) Status
    → Status → Type 0
IsNameTold group old new n (Ok names) status = IsNameWritten old new n (slice_get names group) status
IsNameTold group old new n (Err e) status = status ≡ e

-- a call that reports this of a regex, which is unchanged
abbrev pub TellsOfHandle : (Tells : Object → Status → Type 0) → (old new : Handle) → Status → Type 0
TellsOfHandle Tells old new status =
    OnHandle (λ o p status. (p ≡ o) × Tells o status) (plain code.Closed) old new status
