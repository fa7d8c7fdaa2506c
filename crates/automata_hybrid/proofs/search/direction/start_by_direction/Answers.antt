use Rattle.std.proofs.Common.{ℕ, ◌≡◌, ◌+◌, ◌-◌, Option, arith, sym, subst}
use Rattle.automata_hybrid.proofs.Words.{Anchored, behind_offset, byte_before, CacheView, Direction, Err, IfErr, IfOk}
use Rattle.automata_hybrid.proofs.Words.{Input, IsStartAnswer, known_of, Machine, offset_in, Ok, OnOk, Result}
use Rattle.automata_hybrid.proofs.Words.{SearchError, slice_get, tape_in}
use Rattle.automata_hybrid.specs.Known.Steps.{IsStartRun, StartFailsAt}
use Rattle.automata_hybrid.specs.Private.Steps.Starts.{IsStartResult}
use Rattle.automata_hybrid.proofs.search.direction.start_by_direction.Goals as goal

-- what a public call for a start state ensures, in one clause
started :
    (m : Machine) (mode : Anchored) (behind : Option ℕ) (behind_at start_at : ℕ) (old new : CacheView)
    (r : Result ℕ SearchError)
    → IfOk r (IsStartAnswer m mode behind old new) → OnOk r (IsStartRun m mode behind (known_of old) (known_of new))
    → IfErr r (StartFailsAt m mode behind behind_at start_at (known_of old) (known_of new))
    → IsStartResult m mode behind behind_at start_at old new r
started m mode behind behind_at start_at old new (Ok id) answer run fails = record { answer = answer; run = run }
started m mode behind behind_at start_at old new (Err e) answer run fails = fails

pub returns-in-Forward-clause-started : goal.returns-in-Forward-clause-started
returns-in-Forward-clause-started c =
    let m : Machine = c.args.dfa.now in
    let i : Input = c.args.input.now in
    let s = c.start_state_forward in
    let before : Option ℕ = byte_before i.haystack i.start in
    let at : i.start ≡ i.start + 0 = omega arith in
    subst
    (λ (w : Direction). IsStartResult m i.anchored (tape_in w i).before (behind_offset w i) (offset_in w i 0)
    c.args.cache.now s.new.cache s.result) (sym c.in-Forward.is)
    (subst
    (λ (n : ℕ). IsStartResult m i.anchored before (i.start - 1) n c.args.cache.now s.new.cache s.result) at
    (started m i.anchored before (i.start - 1) i.start c.args.cache.now s.new.cache s.result s.ensures.answer
    s.ensures.run s.ensures.refusal))

pub returns-in-Backward-clause-started : goal.returns-in-Backward-clause-started
returns-in-Backward-clause-started c =
    let m : Machine = c.args.dfa.now in
    let i : Input = c.args.input.now in
    let s = c.start_state_reverse in
    let before : Option ℕ = slice_get i.haystack i.end in
    let at : i.end ≡ i.end - 0 = omega arith in
    subst
    (λ (w : Direction). IsStartResult m i.anchored (tape_in w i).before (behind_offset w i) (offset_in w i 0)
    c.args.cache.now s.new.cache s.result) (sym c.in-Backward.is)
    (subst
    (λ (n : ℕ). IsStartResult m i.anchored before i.end n c.args.cache.now s.new.cache s.result) at
    (started m i.anchored before i.end i.end c.args.cache.now s.new.cache s.result s.ensures.answer s.ensures.run
    s.ensures.refusal))
