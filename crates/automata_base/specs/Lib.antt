-- The definitions by subject, in the order in which a reader needs them. What an answer means is defined in these:
--
--     Haystacks    haystacks, spans, the tape of a span in each direction, where a look holds
--     ByteClasses  which bytes are of one class
--     Nfas         an NFA as paths see it (Nfa, Engines), and what its builder and its constructor do
--     Paths        edges and paths, their order, which path a search selects
--     Answers      what a search, a walk, a span and a set answer by paths (Answers, Spans); the nearest and the
--                  farthest end (OfPasses)
--     Powersets    powerset states as six parts (Powerset), closures, and the bytes of lists of NFA states
--     Laws         laws about NFAs, as statements; functions of `laws` have them as contracts
--     Lists        members, sets and orders of lists of numbers, which all of these use
--
-- Retraced has definitions that follow a loop of the code. No contract of a public function of NFAs rests on one of
-- them alone.
pub mod Haystacks
pub mod ByteClasses
pub mod Nfas
pub mod Paths
pub mod Answers
pub mod Powersets
pub mod Laws
pub mod Retraced
pub mod Lists
