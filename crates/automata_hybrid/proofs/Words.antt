-- The names that most proofs of this crate use. A proof imports them from here, and other names from where they are
-- defined. Of the crate's own definitions only those are here that most of its proofs depend on anyway, so that a
-- change to any other definition does not invalidate more proofs.
pub use Rattle.std.specs.Int.{bit_at}
pub use Rattle.std.specs.Prelude.{Err, IfErr, IfOk, IfSome, is_some, IsBitSet, nat_le, nat_lt, Ok, OnOk}
pub use Rattle.std.specs.Prelude.{option_and_then, option_map, Result, slice_get, slice_index, sum_by, unwrap_or, ◌&&◌}
pub use Rattle.std.specs.Prelude.{◌||◌, ◌↔◌}
pub use Rattle.std.specs.Result.{result_err}
pub use Rattle.automata_base.specs.Answers.Answers.{AreUnsplit, Half, HasPattern, IsFirstSpan, IsInput, KeepsSplit}
pub use Rattle.automata_base.specs.Answers.Answers.{later, offset_in, SkipsSplit, Tries}
pub use Rattle.automata_determinize.specs.Answers.OfPasses.{ReportedEndsAreRight, ReportedIsRight}
pub use Rattle.automata_determinize.specs.Answers.Within.{ReportedLiesWithin, StatesReportOwn, WalkLiesWithin}
pub use Rattle.automata_base.specs.ByteClasses.Classes.{class_in, eoi_class, is_quit}
pub use Rattle.automata_determinize.specs.ByteClasses.LookBehind.{behind_of}
pub use Rattle.automata_base.specs.Haystacks.Input.{Input}
pub use Rattle.automata_base.specs.Haystacks.Matches.{HalfMatch}
pub use Rattle.automata_base.specs.Haystacks.PatternSet.{members}
pub use Rattle.automata_base.specs.Haystacks.Tapes.{byte_before, is_split}
pub use Rattle.automata_determinize.specs.Laws.Walks.{WalksAreReported}
pub use Rattle.automata_base.specs.Lists.{In}
pub use Rattle.automata_base.specs.Nfas.Nodes.{Automaton, nfa_of}
pub use Rattle.automata_base.specs.Paths.Paths.{next}
pub use Rattle.automata_base.specs.Paths.Selections.{Pair}
pub use Rattle.automata_determinize.specs.Powersets.Accounting.{cell_size, entry_size, fixed_rows_cost, max_cost}
pub use Rattle.automata_determinize.specs.Powersets.Accounting.{minimum_capacity, row_size, start_slots}
pub use Rattle.automata_determinize.specs.Powersets.Equal.{powerset_eq, powerset_eq-Decides}
pub use Rattle.automata_determinize.specs.Powersets.Passes.{IsUnit}
pub use Rattle.automata_base.specs.Powersets.Powerset.{cost, dead, Powerset}
pub use Rattle.automata_determinize.specs.Retraced.Passes.{earlier_or, first_among, pair_at}
unfoldable pub use Rattle.automata_determinize.specs.Retraced.Steps.{start_state_of, successor}
pub use Rattle.automata_base.specs.declared.util.search.Anchored.{Anchored}
pub use Rattle.automata_base.specs.declared.util.search.Anchored.TheVariants.{No}
pub use Rattle.automata_base.specs.declared.util.search.Direction.{Direction}
pub use Rattle.automata_base.specs.declared.util.search.Direction.TheVariants.{Backward, Forward}
pub use Rattle.automata_base.specs.declared.util.search.MatchKind.{MatchKind}
pub use Rattle.automata_config.specs.Options.{match_kind_of, minimum_cache_clear_count_of}
pub use Rattle.automata_config.specs.declared.error.SearchError.{SearchError}
pub use Rattle.automata_config.specs.declared.error.StartError.{StartError}
pub use Rattle.automata_config.specs.declared.error.StepError.{StepError}
pub use Rattle.automata_hybrid.specs.Cache.Caches.{CacheView, HoldsRow, IsCacheOf, with_store}
pub use Rattle.automata_hybrid.specs.Cache.Ids.{dead_id, fixed_from, HasDeadTag, offset_limit, quit_id, unknown_id}
pub use Rattle.automata_hybrid.specs.Cache.Progress.{progress_finished, progress_started, saturated, total_len}
pub use Rattle.automata_hybrid.specs.Cache.Stores.{cell_of, Stored, with_searched}
pub use Rattle.automata_hybrid.specs.Cache.Table.{cell_at, find_id, fresh, has_patterns, id_of, IsRowId, IsRowState}
pub use Rattle.automata_hybrid.specs.Cache.Table.{Leads, LeadsToDead, LeadsToNamed, Names, row_cost, row_id, row_of}
pub use Rattle.automata_hybrid.specs.Cache.Table.{Rows}
pub use Rattle.automata_hybrid.specs.Known.Events.{after_event, fits, is_cached, made, usage, with_new_row}
pub use Rattle.automata_hybrid.specs.Known.Known.{begun, cleared, counted, ended, has_state, keep_row, Known, moved}
pub use Rattle.automata_hybrid.specs.Known.Known.{row_in, rows_of_starts, with_row}
pub use Rattle.automata_hybrid.specs.Known.Passes.{after_unit, CannotStart, CannotStep, EventFails, FailsLater, GivesUp}
pub use Rattle.automata_hybrid.specs.Known.Passes.{HaveTried, IsSearchRun, LacksMemory, LacksMode, MeetsQuit, PassesEnd}
pub use Rattle.automata_hybrid.specs.Known.Passes.{PassFails, QuitsBehind, ReadFails, UnitFails, UnitsEnd}
unfoldable pub use Rattle.automata_hybrid.specs.Known.Passes.{after_many}
pub use Rattle.automata_hybrid.specs.Known.Stores.{known_of, start_named}
pub use Rattle.automata_hybrid.specs.Machines.FullDfas.{full_dfa}
unfoldable pub use Rattle.automata_hybrid.specs.Machines.FullDfas.{state_on}
pub use Rattle.automata_hybrid.specs.Machines.Machine.{Machine, quits_on, unit_class}
unfoldable pub use Rattle.automata_hybrid.specs.Machines.Machine.{marked}
unfoldable pub use Rattle.automata_hybrid.specs.Machines.OwnStates.{IsOwn}
pub use Rattle.automata_hybrid.specs.Machines.Reachable.{IsStateOf}
pub use Rattle.automata_hybrid.specs.Machines.StartSlots.{slot_behind, supports}
pub use Rattle.automata_hybrid.specs.Private.Cache.Caches.{IsStoreOf, with_count}
pub use Rattle.automata_hybrid.specs.Private.Cache.Clears.{AllStarts, IsSlot, LeadsToStart}
pub use Rattle.automata_hybrid.specs.Private.Cache.Ids.{HasOnly, IsRunTag}
pub use Rattle.automata_hybrid.specs.Private.Cache.Stores.{IsKnownStart, known_in, with_next, with_slot}
pub use Rattle.automata_hybrid.specs.Private.Cache.Stores.{with_table}
pub use Rattle.automata_hybrid.specs.Private.Cache.Table.{CellLeads, CellQuits, CellUnknown, IsCell, IsNewState, Lacks}
pub use Rattle.automata_hybrid.specs.Private.Cache.Table.{RowsFitCells, with_cell, with_row_cells}
pub use Rattle.automata_hybrid.specs.Private.Cache.Usage.{IsCache, MustGiveUp}
pub use Rattle.automata_hybrid.specs.Private.Machines.Machine.{IsMachine, IsTemplate}
pub use Rattle.automata_hybrid.specs.Private.Searches.Traces.{IsTrace}
pub use Rattle.automata_hybrid.specs.Private.Steps.Steps.{IsCellRead, KnowsStep}
pub use Rattle.automata_hybrid.specs.Searches.PassState.{half_at, half_of, IsAt, IsAtAlong}
pub use Rattle.automata_hybrid.specs.Searches.Passes.{behind_offset, Finds, given_up_offset, HasReadNoQuit, IsFound}
pub use Rattle.automata_hybrid.specs.Searches.Passes.{Reads, reported_along, reported_in, Skips, state_in, tape_in}
pub use Rattle.automata_hybrid.specs.Searches.Passes.{unit_offset}
pub use Rattle.automata_hybrid.specs.Searches.Passes.{with_base, WithoutBase}
pub use Rattle.automata_hybrid.specs.Searches.Progress.{start_event, unit_event}
pub use Rattle.automata_hybrid.specs.Searches.Traces.{pass_trace, Trace}
pub use Rattle.automata_hybrid.specs.Steps.Events.{Event, Start, Step}
pub use Rattle.automata_hybrid.specs.Steps.Starts.{IsStartAnswer, MayStart, quit_behind, start_row, start_search_error}
pub use Rattle.automata_hybrid.specs.Steps.Steps.{IsStepAnswer, known_step}
pub use Rattle.automata_hybrid.specs.declared.cache.progress.Searched.{Searched}
pub use Rattle.automata_hybrid.specs.declared.cache.row.Row.{Row}
pub use Rattle.automata_hybrid.specs.declared.cache.settings.Settings.{Settings}
