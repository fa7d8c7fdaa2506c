-- The definitions by subject:
--
--     Powersets    passes over the powerset states of automata_base (Passes); the start states and successors that are
--                  computed (Results); the encoding of powerset states (Code, Key, Equal) and their cost (Accounting)
--     Paths        the powerset state where a search starts, and what a pass reports
--     Answers      what the passes of a search report, for every NFA (OfPasses), and where that lies (Within)
--     ByteClasses  the look-behind bytes that start states distinguish
--     Laws         the theorems, as statements: passes report what the ordered paths select, and the start that a
--                  reverse search finds is the right one; functions of `laws` have them as contracts
--
-- Retraced has powerset states, steps and passes as functions. The law `steps_are_right` ties them to the relations of
-- Powersets.
pub mod ByteClasses
pub mod Paths
pub mod Answers
pub mod Powersets
pub mod Laws
pub mod Retraced
