-- How many bytes a pass reads, and how many one that begins later reads.
use Rattle.std.proofs.Common.{ℕ, ◌-◌, ◌≤◌, List, length, arith, drop}
use Rattle.std.proofs.lemmas.List.{length-reverse, length-take}
use Rattle.automata_hybrid.proofs.Words.{Backward, Direction, Forward, Input, later, tape_in}
use Rattle.automata_base.specs.Haystacks.Tapes.{between}

-- a tape has at most as many bytes as its span
few_between : (h : List ℕ) (s e : ℕ) → length (between h s e) ≤ e - s
few_between h s e = let l = length-take (e - s) (drop s h) in omega (arith, l)

pub tape_few : (way : Direction) (input : Input) → length (tape_in way input).bytes ≤ input.end - input.start
tape_few Forward input = few_between input.haystack input.start input.end
tape_few Backward input =
    let l = length-reverse (between input.haystack input.start input.end) in
    omega (arith, l, few_between input.haystack input.start input.end)

-- a span that begins `k` places later is `k` bytes shorter
pub later_few :
    (way : Direction) (k : ℕ) (input : Input)
    → (later way k input).end - (later way k input).start ≤ input.end - input.start - k
later_few Forward k input = omega arith
later_few Backward k input = omega arith
