-- A builder of NFAs, as contracts see it.
use Rattle.std.specs.Prelude.{ℕ, ◌≡◌, ◌+◌, ◌≤◌, ◌<◌, List, [], ◌∷◌, ◌++◌, length, map, Option, Some, None, false}
use Rattle.std.specs.Prelude.{Result, Err, IfOk, OnOk, OnErr, IsOkUnless}
use Rattle.automata_base.specs.declared.nfa.thompson.state.Flags.{Flags}
use Rattle.automata_base.specs.declared.nfa.thompson.state.State.{State}
use Rattle.automata_base.specs.declared.nfa.thompson.builder.Builder.TheInside.{Inside}
use Rattle.automata_base.specs.declared.nfa.thompson.building.BuildError.{BuildError}
use Rattle.automata_base.specs.declared.nfa.thompson.building.BuildError.TheVariants.{TooLarge, OutOfMemory}
use Rattle.automata_base.specs.declared.nfa.thompson.building.BuildError.TheVariants.{NoPattern, NFA}
use Rattle.automata_base.specs.declared.nfa.thompson.state.NfaError.{NfaError}
use Rattle.automata_base.specs.declared.nfa.thompson.state.NfaError.TheVariants as nfa_error
use Rattle.automata_base.specs.Nfas.Accepted.{IsChecked}
use Rattle.automata_base.specs.Nfas.Errors.{shapes_error}
use Rattle.automata_base.specs.Nfas.Getters.{SkipsLazily}
use Rattle.automata_base.specs.Nfas.Nodes.{Automaton}
use Rattle.automata_base.specs.Nfas.Shapes.{Shape, UnionShape, RangeShape, shape_of, shape_added, built_of}

-- A draft of an NFA: its states as they were added and patched, the pattern that was started and not finished, the
-- starts of the finished patterns, and the flags.
pub record Draft : Type 0 where
  -- the states, as they were added and patched
  pub states : List Shape
  -- the pattern that was started and not finished, if there is one
  pub pattern : Option ℕ
  -- the starts of the finished patterns
  pub starts : List ℕ
  -- the flags that the NFA will have
  pub flags : Flags

-- The draft that a builder holds.
abbrev pub draft_of : Inside → Draft
draft_of b = record {
  states = map shape_added b.states.items;
  pattern = b.pattern;
  starts = b.starts.items;
  flags = b.flags;
}

-- A draft without states and patterns.
abbrev pub blank : Flags → Draft
blank flags = record { states = []; pattern = None; starts = []; flags = flags }

-- The flags of a new builder: neither UTF-8 nor reverse, and lines end at `\n`.
abbrev pub default_flags : Flags
default_flags = record { utf8 = false; reverse = false; line_terminator = 10 }

-- The same draft with these states.
abbrev pub with_states : Draft → List Shape → Draft
with_states draft states =
    record { states = states; pattern = draft.pattern; starts = draft.starts; flags = draft.flags }

-- The same draft with the next pattern started.
abbrev pub started : Draft → Draft
started draft =
    record { states = draft.states; pattern = Some (length draft.starts); starts = draft.starts; flags = draft.flags }

-- The same draft with its pattern finished, whose start is this state.
abbrev pub finished : Draft → ℕ → Draft
finished draft start =
    record { states = draft.states; pattern = None; starts = draft.starts ++ start ∷ []; flags = draft.flags }

-- The same draft with these flags.
abbrev pub with_flags : Draft → Flags → Draft
with_flags draft flags =
    record { states = draft.states; pattern = draft.pattern; starts = draft.starts; flags = flags }

-- The lazy loop over any bytes before a start, whose union comes next.
abbrev pub prefix_of : Draft → (start : ℕ) → List Shape
prefix_of draft start =
    UnionShape (start ∷ (length draft.states + 1) ∷ []) ∷ RangeShape 0 255 (length draft.states) ∷ []

-- A call that adds states returns the ID of the first of them, or an error, after which nothing has changed. It fails
-- if IDs run out, and otherwise only if the allocation fails.
pub record IsAdding (old new : Draft) (result : Result ℕ BuildError) (shapes : List Shape) : Type 0 where
  -- the ID that it returns is the ID of the first state added
  pub id : IfOk result (λ id. id ≡ length old.states)
  -- if it returns an ID, these states come after those that were there
  pub added : OnOk result (new ≡ with_states old (old.states ++ shapes))
  -- if it fails, it changes nothing
  pub same : OnErr result (new ≡ old)
  -- it fails with this error if IDs run out
  pub large : 2147483647 < length old.states + length shapes → result ≡ Err TooLarge
  -- otherwise it fails only if the allocation fails
  pub memory : length old.states + length shapes ≤ 2147483647 → IsOkUnless result OutOfMemory

-- A call adds a state for the started pattern. Without a started pattern it fails, and changes nothing.
pub record IsAddingOf
    (old new : Draft) (result : Result ℕ BuildError) (shape : ℕ → Shape)
    : Type 0 where
  -- without a started pattern it fails, and changes nothing
  pub none : old.pattern ≡ None → (result ≡ Err NoPattern) × (new ≡ old)
  -- with one it adds a state for that pattern
  pub one : (p : ℕ) → old.pattern ≡ Some p → IsAdding old new result (shape p ∷ [])

-- An NFA by the shapes of its states.
pub record Outline : Type 0 where
  -- the shapes of its states
  pub states : List Shape
  -- the state where anchored searches begin
  pub start_anchored : ℕ
  -- the state where unanchored searches begin
  pub start_unanchored : ℕ
  -- the state where anchored searches of each pattern begin
  pub start_pattern : List ℕ
  -- its UTF-8 flag, its reverse flag and its line terminator
  pub flags : Flags

-- The outline of an NFA.
abbrev pub outline : Automaton → Outline
outline a = record {
  states = map shape_of a.states;
  start_anchored = a.start_anchored;
  start_unanchored = a.start_unanchored;
  start_pattern = a.start_pattern;
  flags = a.flags;
}

-- The NFA that is built, with these starts.
abbrev pub built : Draft → (anchored unanchored : ℕ) → Outline
built draft anchored unanchored = record {
  states = map built_of draft.states;
  start_anchored = anchored;
  start_unanchored = unanchored;
  start_pattern = draft.starts;
  flags = draft.flags;
}

-- The states are those that are built.
abbrev pub AreBuilt : Draft → List State → Type 0
AreBuilt draft states = map shape_of states ≡ map built_of draft.states

-- The error of the first test of `NFA::from_states` that the built states fail; none if they pass all.
abbrev pub draft_error : Draft → (anchored unanchored : ℕ) → Option NfaError
draft_error draft anchored unanchored = shapes_error (map built_of draft.states) anchored unanchored draft.starts

-- The builder's error for an error of `NFA::from_states`: out of memory is an error of the builder itself.
abbrev pub build_error : NfaError → BuildError
build_error nfa_error.StateRange = NFA nfa_error.StateRange
build_error nfa_error.StartRange = NFA nfa_error.StartRange
build_error nfa_error.PatternRange = NFA nfa_error.PatternRange
build_error nfa_error.Ranges = NFA nfa_error.Ranges
build_error nfa_error.TooLarge = NFA nfa_error.TooLarge
build_error nfa_error.OutOfMemory = OutOfMemory

-- An NFA that starts at the lazy loop of a builder skips lazily, if the states before the loop lead only to each other.
abbrev pub PrefixesSkipLazily : Type 0
PrefixesSkipLazily =
    (draft : Draft) (start : ℕ) (before after : Automaton) → IsChecked before → AreBuilt draft before.states
    → start < length draft.states
    → outline after ≡ built (with_states draft (draft.states ++ prefix_of draft start)) start (length draft.states)
    → SkipsLazily after
