-- The sizes of the tables of regexes.
use Rattle.std.specs.Prelude.{ℕ, ◌≡◌, ◌+◌, ◌*◌, ◌-◌, ◌^◌, List, length, min, sum_by, Result, Ok, Err}
use Rattle.automata_base.specs.declared.nfa.thompson.state.State.{State}
use Rattle.automata_base.specs.declared.nfa.thompson.state.State.TheVariants as is
use Rattle.lazydfa_c.specs.Calls.{ReadsHandle}
use Rattle.lazydfa_c.specs.Statuses.{plain}
use Rattle.lazydfa_c.specs.declared.code.Code.TheVariants as code
use Rattle.lazydfa_c.specs.declared.handle.Handle.{Handle}
use Rattle.lazydfa_c.specs.declared.object.Object.{Object}
use Rattle.lazydfa_c.specs.declared.object.Object.TheVariants.{Builder, Regex as RegexObject, Searcher as CacheObject}
use Rattle.lazydfa_c.specs.declared.status.Status.{Status}

-- the number of byte ranges of a sparse state, and 0 for any other state
abbrev pub range_count : State → ℕ
range_count (is.Sparse ranges) = length ranges.items
range_count (is.ByteRange lo hi next) = 0
range_count (is.Dense targets) = 0
range_count (is.Look look next) = 0
range_count (is.Union alternates) = 0
range_count (is.BinaryUnion alt1 alt2) = 0
range_count (is.Capture next pattern index slot) = 0
range_count is.Fail = 0
range_count (is.Match pattern) = 0

-- the size of a state, in bytes: 16, and 8 for each of its ranges
abbrev pub state_size : State → ℕ
state_size state = 16 + 8 * range_count state

-- the sum of the sizes of all states, or the largest 64-bit number if the sum exceeds it
abbrev pub table_size : List State → ℕ
table_size states = min (sum_by state_size states) (2 ^ 64 - 1)

-- the size of the forward NFA of a regex object; for any other object its kind is reported
abbrev pub IsSizeIn : Object → Result ℕ Status → Type 0
IsSizeIn (RegexObject r) result = result ≡ Ok (table_size r.pattern.value.regex.forward.nfa.states)
IsSizeIn (Builder b) result = result ≡ Err (plain code.Kind)
IsSizeIn (CacheObject s) result = result ≡ Err (plain code.Kind)

-- the size is written, or the status says why there is none
abbrev pub IsSizeTold : (written : ℕ) → Result ℕ Status → Status → Type 0
IsSizeTold written (Ok size) status = (written ≡ size) × (status ≡ plain code.Done)
IsSizeTold written (Err e) status = status ≡ e

-- `lazydfa_regex_size`: the regex is unchanged
abbrev pub ReportsSize : (written : ℕ) → (old new : Handle) → Status → Type 0
ReportsSize written old new status =
    (result : Result ℕ Status) × ReadsHandle IsSizeIn old new result × IsSizeTold written result status
