-- The definitions by subject. Callers begin with one module, Promises, which has the names for their own contracts.
-- What the calls of a regex promise is defined in these:
--
--     Regexes    the two DFAs of a regex, when they are a sound pair, how a builder makes them; the two caches
--     Spans      what a search for a match with its start returns (Contracts); iterations, errors; the effect on
--                the caches (Runs), and its consequences (Follows)
--     Tokens     the tokens of an input, one after another
pub mod Regexes
pub mod Spans
pub mod Tokens
pub mod Promises
