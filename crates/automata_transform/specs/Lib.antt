-- The definitions by subject:
--
--     Nfas     when an NFA is another one reversed (Mirrors), and how large that may be (ReversedSizes); when it is
--              another one with its unions merged (Merges, MergedNfas), its chains of unions flattened (FlattenedNfas),
--              or its lazy loop left out (AnchoredNfas)
--     Answers  when two NFAs have the same answers
--     Laws     what merging and flattening unions and leaving the loop out preserve, as statements: the contracts of
--              the laws
--
-- Retraced has definitions that follow a loop of the code. No contract of a public function rests on one of them.
pub mod Nfas
pub mod Answers
pub mod Laws
pub mod Retraced
