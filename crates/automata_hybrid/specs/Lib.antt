-- The definitions by subject, in the order in which a reader needs them. To learn what a call promises, begin with the
-- record that its contract names, and follow the names in its fields:
--
--     what a search returns                                Searches.Contracts: IsHalf, IsBased
--     what a call of a walk returns                        Walks.Contracts: IsWalkCall
--     what a set of patterns is joined with                Walks.Contracts: IsWhich; Walks.SetsByPaths
--     what a step returns, and a start state               Steps.Steps: IsStepAnswer; Steps.Starts: IsStartAnswer
--     a search by steps                                    Steps.BySteps: StandsAt, IsStepAt; Cache.Caches: HoldsRow
--     a search in pieces                                   Pieces.Answers: HasBegun, ReadsOn, EndsHere
--     a walk over a haystack in pieces                     Pieces.Walks: HasWalked, IsWalked, EndsWith; Pieces.Matching
--     a search, or a walk, whose pieces are all of it      Pieces.Whole: PiecesAreWhole, WalksAreWhole
--     the full DFA, of which a cache holds a part           Machines.FullDfas: FullDfa, full_dfa
--     what a cache knows                                   Known.Known: Known; Known.Stores: known_of; Known.Bounds
--     how much memory, and when a clear is allowed         Known.Events: usage, fits, refuses_to_clear
--     what a call does to it, event by event               Known.Events: after_event, made
--     what a search does to it, and what follows           Known.Passes: IsSearchRun; Known.Follows
--     what walks and sets do to it, and what follows       Known.Walks: IsWalkRun, IsSetRun; Known.WalksFollow
--     what a step does to it, when it fails, what follows  Known.Steps: IsStepRun, StepFails, IsStartRun; Known.Effects
--     what a search in pieces does to it                   Known.Pieces: IsBeginRun, IsPieceRun, IsAnswerRun
--     what a walk in pieces does to it                     Known.Pieces: IsBeginRun, IsWalkCallRun, IsWalkEndRun
--     what follows from both                               Known.PiecesFollow: PieceFollows, AnswerFollows
--     what every call keeps of it                          Known.Growth: IsGrown; Known.Cached
--
-- What calls do to caches is stated over the full DFA. Only `full_dfa` says how an NFA determines it, by the powerset
-- construction: a reader of what follows Known.Known need not follow that name.
--
-- Machines defines what a DFA is; Cache.Ids, Cache.Table and Cache.States define its IDs, for steps and for inspecting
-- a cache. Private has, in the same folders, the definitions for private functions and for proofs: no contract of a
-- public call reaches them. There the cache's own functions use rows, cells and slots, and cite the rules of Known by
-- what a store knows (`known_in`); `with_row_cells`, `with_cell` and `with_slot` write cells and slots, whose IDs Known
-- does not have. Steps.BySteps uses `IsPassAnswer` and `IsUnderway` of Searches.PassContracts to say where a search by
-- steps is. `marked` of Machines.Machine follows a loop of the code.
pub mod Machines
pub mod Cache
pub mod Steps
pub mod Searches
pub mod Walks
pub mod Pieces
pub mod Known
pub mod Private
