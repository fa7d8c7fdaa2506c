-- Contracts of the calls on a builder, each stated by the draft in its handle before and after the call and by the
-- result.
use Rattle.std.specs.Prelude.{ℕ, ◌≡◌, ◌⊎◌, ◌+◌, ◌*◌, ◌<◌, ◌≤◌, ◌&&◌, List, [], ◌∷◌, Bool, true, false}
use Rattle.std.specs.Prelude.{IsTrue, IsFalse, length, map, nat_le, nat_lt, set, slice_get}
use Rattle.std.specs.Prelude.{Some, None, Result, Ok, Err, if◌then◌else◌, IfOk, OnOk, OnErr, IsOk, IsOkUnless}
use Rattle.std.specs.List.{list_all}
use Rattle.automata_base.specs.Haystacks.LookSets.{nth_look}
use Rattle.automata_base.specs.Nfas.Drafts.{Draft, IsAdding, IsAddingOf, blank, default_flags, draft_error, finished}
use Rattle.automata_base.specs.Nfas.Drafts.{built, outline, prefix_of, started, with_flags, with_states}
use Rattle.automata_base.specs.Nfas.Nodes.{Automaton}
use Rattle.automata_base.specs.Nfas.Shapes.{Shape, patched, EmptyShape, RangeShape, SparseShape, LookShape, UnionShape}
use Rattle.automata_base.specs.Nfas.Shapes.{UnionReverseShape, CaptureShape, FailShape, MatchShape}
use Rattle.automata_base.specs.declared.nfa.thompson.state.NfaError.{NfaError}
use Rattle.automata_base.specs.declared.nfa.thompson.state.Transition.{Transition}
use Rattle.automata_base.specs.declared.nfa.thompson.building.BuildError.{BuildError}
use Rattle.automata_base.specs.declared.nfa.thompson.building.BuildError.TheVariants.{NoPattern, UnfinishedPattern}
use Rattle.automata_base.specs.declared.nfa.thompson.building.BuildError.TheVariants.{StateRange, SparsePatch, TooLarge}
use Rattle.automata_base.specs.declared.nfa.thompson.building.BuildError.TheVariants.{OutOfMemory}
use Rattle.lazydfa_c.specs.Calls.{OnHandle}
use Rattle.lazydfa_c.specs.Handles.{is_open}
use Rattle.lazydfa_c.specs.Statuses.{builder_status, done_status, nfa_code, plain}
use Rattle.lazydfa_c.specs.declared.builder.Added.{Added}
use Rattle.lazydfa_c.specs.declared.builder.Added.TheVariants as add
use Rattle.lazydfa_c.specs.declared.builder.Change.{Change}
use Rattle.lazydfa_c.specs.declared.builder.Change.TheVariants as change
use Rattle.lazydfa_c.specs.declared.builder.Edge.{Edge}
use Rattle.lazydfa_c.specs.declared.code.Code.TheVariants as code
use Rattle.lazydfa_c.specs.declared.handle.Handle.{Handle}
use Rattle.lazydfa_c.specs.declared.object.Object.{Object}
use Rattle.lazydfa_c.specs.declared.object.Object.TheVariants.{Builder, Regex as RegexObject, Searcher as CacheObject}
use Rattle.lazydfa_c.specs.declared.status.Status.{Status}

-- whether a number is a valid state ID
abbrev pub is_state : ℕ → Bool
is_state n = nat_le n 2147483646

-- whether all of these numbers are valid state IDs
abbrev pub are_states : List ℕ → Bool
are_states ns = list_all is_state ns

-- the state ID of a number, or the error if the number is not a valid one
abbrev pub state_of : ℕ → Result ℕ Status
state_of n = if is_state n then Ok n else Err (plain code.Argument)

-- the transition of an edge as C lays it out
abbrev pub transition_of : Edge → Transition
transition_of e = record { lo = e.lo; hi = e.hi; next = e.next }

-- whether all edges lead to valid state IDs
abbrev pub lead_on : List Edge → Bool
lead_on es = list_all (λ e. is_state e.next) es

-- the result of the library's call, with its error as a status
abbrev pub answer_of_build : {A : Type 0} → Result A BuildError → Result A Status
answer_of_build (Ok a) = Ok a
answer_of_build (Err e) = Err (builder_status e)

-- what the library's call that adds a state of this group does: a group that is too large is an error
abbrev pub AddsGroup : (group : ℕ) → (shape : ℕ → Shape) → Draft → Draft → Result ℕ BuildError → Type 0
AddsGroup group shape b c r =
    (group ≤ 2147483646 → IsAddingOf b c r shape) × (2147483646 < group → (r ≡ Err TooLarge) × (c ≡ b))

-- what the library's call that adds this state does and returns
abbrev pub AddsState : Added → Draft → Draft → Result ℕ BuildError → Type 0
AddsState add.Empty b c r = IsAdding b c r (EmptyShape 0 ∷ [])
AddsState (add.Range e) b c r = IsAdding b c r (RangeShape e.lo e.hi e.next ∷ [])
AddsState (add.Sparse es) b c r = IsAdding b c r (SparseShape (map transition_of es.now) ∷ [])
AddsState (add.Look look next) b c r = IsAdding b c r (LookShape (nth_look look) next ∷ [])
AddsState (add.Union ns) b c r = IsAdding b c r (UnionShape ns.now ∷ [])
AddsState (add.UnionReverse ns) b c r = IsAdding b c r (UnionReverseShape ns.now ∷ [])
AddsState (add.CaptureStart next group) b c r = AddsGroup group (λ p. CaptureShape next p group (2 * group)) b c r
AddsState (add.CaptureEnd next group) b c r = AddsGroup group (λ p. CaptureShape next p group (2 * group + 1)) b c r
AddsState add.Fail b c r = IsAdding b c r (FailShape ∷ [])
AddsState add.Match b c r = IsAddingOf b c r (λ p. MatchShape p)
AddsState (add.UnanchoredPrefix start) b c r = IsAdding b c r (prefix_of b start)

-- whether the numbers are valid state IDs and look numbers
abbrev pub allows : Added → Bool
allows add.Empty = true
allows (add.Range e) = is_state e.next
allows (add.Sparse es) = lead_on es.now
allows (add.Look look next) = is_state next && nat_lt look 18
allows (add.Union ns) = are_states ns.now
allows (add.UnionReverse ns) = are_states ns.now
allows (add.CaptureStart next group) = is_state next
allows (add.CaptureEnd next group) = is_state next
allows add.Fail = true
allows add.Match = true
allows (add.UnanchoredPrefix start) = is_state start

-- whether the state has a list, which is copied first
abbrev pub has_list : Added → Bool
has_list (add.Sparse es) = true
has_list (add.Union ns) = true
has_list (add.UnionReverse ns) = true
has_list add.Empty = false
has_list (add.Range e) = false
has_list (add.Look look next) = false
has_list (add.CaptureStart next group) = false
has_list (add.CaptureEnd next group) = false
has_list add.Fail = false
has_list add.Match = false
has_list (add.UnanchoredPrefix start) = false

-- the library's call is made, and its result is returned with the error as a status
abbrev pub IsPassed : {A : Type 0} → (Does : Result A BuildError → Type 0) → Result A Status → Type 0
IsPassed {A = A} Does result = (r : Result A BuildError) × Does r × (result ≡ answer_of_build r)

-- the builder is unchanged, and this status is returned
abbrev pub RefusesWith : Status → Draft → Draft → Result ℕ Status → Type 0
RefusesWith status b c result = (c ≡ b) × (result ≡ Err status)

-- a state is added to a builder
pub data AddsTo (added : Added) (b c : Draft) (result : Result ℕ Status) : Type 0 where
  -- the numbers are valid state IDs and look numbers, and the library's call is made
  PassesState : IsTrue (allows added) → IsPassed (AddsState added b c) result → AddsTo added b c result
  -- a number is not valid, and the builder is unchanged
  LacksNumber : IsFalse (allows added) → RefusesWith (plain code.Argument) b c result → AddsTo added b c result
  -- the allocation of a copy of the list fails, and the builder is unchanged
  LacksCopy : IsTrue (has_list added) → RefusesWith (plain code.Memory) b c result → AddsTo added b c result

-- what `Builder::start_pattern` does
pub record StartsPattern (old new : Draft) (result : Result ℕ BuildError) : Type 0 where
  -- it returns the ID of the pattern, which is the number of patterns that were finished before it
  pub id : IfOk result (λ p. p ≡ length old.starts)
  -- if it does not fail, that pattern is started, and nothing else changes
  pub started : OnOk result (new ≡ started old)
  -- if it fails, the builder is unchanged
  pub same : OnErr result (new ≡ old)
  -- it fails if the previous pattern is not finished
  pub unfinished : (p : ℕ) → old.pattern ≡ Some p → result ≡ Err UnfinishedPattern
  -- it fails if no pattern ID is left
  pub large : old.pattern ≡ None → 2147483646 < length old.starts → result ≡ Err TooLarge
  -- otherwise it does not fail
  pub few : old.pattern ≡ None → length old.starts ≤ 2147483646 → IsOk result

-- what `Builder::finish_pattern` does, given the state in which the pattern's searches start
pub record FinishesPattern (start : ℕ) (old new : Draft) (result : Result ℕ BuildError) : Type 0 where
  -- it returns the ID of the pattern that was started
  pub id : IfOk result (λ p. old.pattern ≡ Some p)
  -- if it does not fail, that pattern is finished and starts at this state, and nothing else changes
  pub finished : OnOk result (new ≡ finished old start)
  -- if it fails, the builder is unchanged
  pub same : OnErr result (new ≡ old)
  -- it fails if no pattern was started, or the last one was finished
  pub none : old.pattern ≡ None → result ≡ Err NoPattern
  -- otherwise it fails only if the allocation fails
  pub memory : (p : ℕ) → old.pattern ≡ Some p → IsOkUnless result OutOfMemory

-- what `Builder::patch` does
pub record Patches (from to : ℕ) (old new : Draft) (result : Result (Unit {0}) BuildError) : Type 0 where
  -- if it does not fail, the state `from` is patched with the target `to`, and nothing else changes
  pub placed :
      OnOk result ((was shape : Shape) → slice_get old.states from ≡ Some was
      → patched was to ≡ Some shape → new ≡ with_states old (set old.states from shape))
  -- if it fails, the builder is unchanged
  pub same : OnErr result (new ≡ old)
  -- it fails if the state `from` does not exist
  pub range : length old.states ≤ from → result ≡ Err StateRange
  -- it fails if that state is of a kind that cannot be patched
  pub sparse :
      (was : Shape) → slice_get old.states from ≡ Some was → patched was to ≡ None → result ≡ Err SparsePatch
  -- otherwise it fails only if the allocation fails
  pub memory :
      (was shape : Shape) → slice_get old.states from ≡ Some was → patched was to ≡ Some shape
      → IsOkUnless result OutOfMemory

-- a call with state numbers
pub data OfStates (are : Bool) (Does : Type 0) (b c : Draft) (result : Result ℕ Status) : Type 0 where
  -- all numbers are valid state IDs, and the call does this
  HasStates : IsTrue are → Does → OfStates are Does b c result
  -- a number is not a valid state ID: `Code::Argument` is returned, and the builder is unchanged
  LacksOneState : IsFalse are → RefusesWith (plain code.Argument) b c result → OfStates are Does b c result

-- the same result, with 0 as its value
abbrev pub zeroed : {E : Type 0} → Result (Unit {0}) E → Result ℕ E
zeroed (Ok u) = Ok 0
zeroed (Err e) = Err e

-- the builder is now this one, and the value of the result is 0
abbrev pub Becomes : (wanted : Draft) → Draft → Result ℕ Status → Type 0
Becomes wanted c result = (c ≡ wanted) × (result ≡ Ok 0)

-- a state is patched, and the value of the result is 0
abbrev pub IsPatched : (from to : ℕ) → Draft → Draft → Result ℕ Status → Type 0
IsPatched from to b c result =
    (r : Result (Unit {0}) BuildError) × Patches from to b c r × (result ≡ answer_of_build (zeroed r))

-- the builder is changed, and the value of the result is the pattern that the change starts or finishes, or else 0
abbrev pub Changes : Change → Draft → Draft → Result ℕ Status → Type 0
Changes change.Clear b c result = Becomes (blank b.flags) c result
Changes change.StartPattern b c result = IsPassed (StartsPattern b c) result
Changes (change.FinishPattern start) b c result =
    OfStates (is_state start) (IsPassed (FinishesPattern start b c) result) b c result
Changes (change.Patch from to) b c result =
    OfStates (is_state from && is_state to) (IsPatched from to b c result) b c result
Changes (change.Utf8 is_on) b c result = Becomes (with_flags b (record b.flags { utf8 = is_on })) c result
Changes (change.Reverse is_on) b c result = Becomes (with_flags b (record b.flags { reverse = is_on })) c result
Changes (change.LineTerminator byte) b c result =
    Becomes (with_flags b (record b.flags { line_terminator = byte })) c result

-- a call on an object, which does this to a builder; any other object is unchanged, and its kind is reported
abbrev pub OfBuilder : (Does : Draft → Draft → Result ℕ Status → Type 0) → Object → Object → Result ℕ Status → Type 0
OfBuilder Does (Builder b) (Builder c) result = Does b c result
OfBuilder Does (Builder b) (RegexObject r) result = ⊥
OfBuilder Does (Builder b) (CacheObject s) result = ⊥
OfBuilder Does (RegexObject r) new result = (new ≡ RegexObject r) × (result ≡ Err (plain code.Kind))
OfBuilder Does (CacheObject s) new result = (new ≡ CacheObject s) × (result ≡ Err (plain code.Kind))

-- a call on a builder's handle
abbrev pub OfDraft : (Does : Draft → Draft → Result ℕ Status → Type 0) → (old new : Handle) → Result ℕ Status → Type 0
OfDraft Does old new result = OnHandle (OfBuilder Does) (Err (plain code.Closed)) old new result

-- the number of a result is written, or nothing is written and its error is reported
abbrev pub IsNumberTold : (was written : ℕ) → Result ℕ Status → Status → Type 0
IsNumberTold was written (Ok n) status = (written ≡ n) × (status ≡ plain code.Done)
IsNumberTold was written (Err e) status = (written ≡ was) × (status ≡ e)

-- the status of a result, whatever its number
abbrev pub number_status : Result ℕ Status → Status
number_status (Ok n) = plain code.Done
number_status (Err e) = e

-- the exports that add a state and write its ID
abbrev pub AddsToHandle : Added → (was written : ℕ) → (old new : Handle) → Status → Type 0
AddsToHandle added was written old new status =
    (result : Result ℕ Status) × OfDraft (AddsTo added) old new result × IsNumberTold was written result status

-- the exports that start or finish a pattern, whose ID they write if they succeed
abbrev pub ChangesPattern : Change → (was written : ℕ) → (old new : Handle) → Status → Type 0
ChangesPattern wanted was written old new status =
    (result : Result ℕ Status) × OfDraft (Changes wanted) old new result × IsNumberTold was written result status

-- the exports that change a builder and write nothing
abbrev pub ChangesDraft : Change → (old new : Handle) → Status → Type 0
ChangesDraft wanted old new status =
    (result : Result ℕ Status) × OfDraft (Changes wanted) old new result × (status ≡ number_status result)

-- a handle is opened on this draft, or is unchanged if the allocation fails
abbrev pub OpensDraft : Draft → (old new : Handle) → Result (Unit {0}) Status → Type 0
OpensDraft draft old new (Ok u) = (new.live ≡ 1) × (new.slot.value ≡ Some (Builder draft))
OpensDraft draft old new (Err e) = (new ≡ old) × (e ≡ plain code.Memory)

-- a handle is to be opened on a builder without states
pub record CreatesDraft (old new : Handle) (done : Result (Unit {0}) Status) : Type 0 where
  -- a handle that is already open is unchanged, and that is reported
  pub taken : is_open old.live ≡ true → (new ≡ old) × (done ≡ Err (plain code.Open))
  -- otherwise it is opened on a builder without states, or is unchanged if the allocation fails
  pub made : is_open old.live ≡ false → OpensDraft (blank default_flags) old new done

-- `lazydfa_builder_new`
abbrev pub NewsDraft : (old new : Handle) → Status → Type 0
NewsDraft old new status =
    (done : Result (Unit {0}) Status) × CreatesDraft old new done × (status ≡ done_status done)

-- the result of `Builder::build` with these starts, with its error as a status
pub record MakesNfa (draft : Draft) (anchored unanchored : ℕ) (result : Result Automaton Status) : Type 0 where
  -- the NFA has the builder's states, the starts of its patterns and its flags, and these two starts
  pub same : IfOk result (λ nfa. outline nfa ≡ built draft anchored unanchored)
  -- it fails if the pattern that was started is not finished
  pub unfinished : (p : ℕ) → draft.pattern ≡ Some p → result ≡ Err (plain code.UnfinishedPattern)
  -- if the states and starts do not form a valid NFA, it fails with that error or with out of memory
  pub refused :
      (error : NfaError) → draft.pattern ≡ None → draft_error draft anchored unanchored ≡ Some error
      → (result ≡ Err (plain (nfa_code error))) ⊎ (result ≡ Err (plain code.Memory))
  -- otherwise it fails only if the allocation fails
  pub memory :
      draft.pattern ≡ None → draft_error draft anchored unanchored ≡ None → IsOkUnless result (plain code.Memory)
