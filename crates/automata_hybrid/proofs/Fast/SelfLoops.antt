-- What is learned about the bytes on which a row is a self-loop, and what follows for a pass at that row.
use Rattle.std.proofs.Common.{ℕ, zero, suc, ◌≡◌, ◌∙◌, ◌+◌, ◌-◌, ◌<◌, ◌≤◌, ◌^◌, List, Some, sym}
use Rattle.std.proofs.Common.{subst, arith, get_or, length, slice_index, ⊎_elim}
use Rattle.std.proofs.lemmas.Bool.{cases_lt}
use Rattle.automata_hybrid.proofs.Words.{Backward, cell_of, class_in, Direction, Forward, HasOnly, Input, IsCell}
use Rattle.automata_hybrid.proofs.Words.{IsMachine, IsRowId, IsRunTag, Machine, Names, next, Powerset, Stored, tape_in}
use Rattle.automata_hybrid.proofs.Words.{Trace}
use Rattle.automata_base.specs.ByteClasses.Classes.{AreClasses}
use Rattle.automata_hybrid.specs.Private.Fast.SelfLoops.{HasByte, HasEither, IsKnownLoop, IsLoopRange, IsLoopRun}
use Rattle.automata_hybrid.specs.Private.Fast.SelfLoops.{IsSelfLoop, LoopsAt, LoopsOn, LoopsOver, byte_in}
use Rattle.automata_hybrid.specs.Private.Searches.PassState.{IsFollowedAlong, IsOnTrace, IsRun, IsTagAt}
use Rattle.automata_hybrid.specs.declared.cache.self_loops.LoopRange.{LoopRange}
use Rattle.automata_hybrid.specs.declared.cache.self_loops.KnownLoop.{KnownLoop}
use Rattle.automata_hybrid.proofs.Fast.Runs.{followed_none, followed_on, followed_one}
use Rattle.automata_hybrid.proofs.Searches.PassState.{false_true}
use Rattle.automata_hybrid.proofs.Steps.Steps.{byte_leads}

-- an empty range
pub range_none : (m : Machine) (c : Stored) (id : ℕ) (r : LoopRange) → r.size ≡ 0 → IsLoopRange m c id r
range_none m c id r none = record { loops = λ byte l has. absurd (omega (arith, has, none)) }

-- classes do not decrease from byte to byte
rising :
    (classes : List ℕ) → AreClasses classes → (from n : ℕ) → from + n < 256
    → class_in classes from ≤ class_in classes (from + n)
rising classes are from zero l =
    let e : from ≡ from + 0 = omega arith in
    subst (λ k. class_in classes from ≤ class_in classes k) e (omega arith)
rising classes are from (suc n) l =
    let e : from + n + 1 ≡ from + suc n = omega arith in
    let next : class_in classes (from + n) ≤ class_in classes (from + n + 1) =
    (are.rising (from + n) (omega (arith, l))).0 in
    let before : class_in classes from ≤ class_in classes (from + n) = rising classes are from n (omega (arith, l)) in
    subst (λ k. class_in classes from ≤ class_in classes k) e (omega (arith, next, before))

rises :
    (classes : List ℕ) → AreClasses classes → (from to : ℕ) → from ≤ to → to < 256
    → class_in classes from ≤ class_in classes to
rises classes are from to ahead l =
    let e : from + (to - from) ≡ to = omega (arith, ahead) in
    subst (λ k. class_in classes from ≤ class_in classes k) e
    (rising classes are from (to - from) (omega (arith, e, l)))

-- the cell of a row at a class holds the row's own ID
abbrev pub LoopsIn : Stored → ℕ → ℕ → Type 0
LoopsIn c id class = (cell_of c id class ≡ id) × ((q : Powerset) → Names c.table id q → IsCell c.table q class id)

-- then the row is a self-loop on every byte of the class
loops_in :
    (m : Machine) (c : Stored) (id byte : ℕ)
    → IsMachine m → AreClasses m.classes → c.table.of ≡ m
    → IsRowId c.table id → id < 2 ^ 29 → byte < 256 → LoopsIn c id (class_in m.classes byte) → LoopsOn m c id byte
loops_in m c id byte machine are of valid plain few loops = record {
  clean = (byte_leads m c valid.0 id byte machine of plain few (loops.1 valid.0 valid.1)).0;
  known = subst (λ n. n < 2 ^ 31) (sym loops.0) (omega (arith, plain));
  below =
      subst (λ (n : Machine). class_in m.classes byte < n.stride) (sym of)
      (omega (arith, machine.below, are.below byte few));
  back = λ q n. (byte_leads m c q id byte machine of plain few (loops.1 q n)).1;
}

-- a row is a self-loop on a range of bytes if it is one at every class from the first byte's to the last byte's
pub loops_among :
    (m : Machine) (c : Stored) (id from to first last : ℕ)
    → IsMachine m → AreClasses m.classes → c.table.of ≡ m
    → IsRowId c.table id → id < 2 ^ 29 → from < to → to ≤ 256
    → first ≡ class_in m.classes from → last ≡ class_in m.classes (to - 1)
    → ((class : ℕ) → first ≤ class → class < last + 1 → LoopsIn c id class)
    → (byte : ℕ) → from ≤ byte → byte < to → LoopsOn m c id byte
loops_among m c id from to first last machine are of valid plain some within low high each byte ahead below =
    let few : byte < 256 = omega (arith, below, within) in
    let above : class_in m.classes from ≤ class_in m.classes byte = rises m.classes are from byte ahead few in
    let under : class_in m.classes byte ≤ class_in m.classes (to - 1) =
    rises m.classes are byte (to - 1) (omega (arith, below)) (omega (arith, some, within)) in
    loops_in m c id byte machine are of valid plain few
    (each (class_in m.classes byte) (omega (arith, low, above)) (omega (arith, high, under)))

-- a range that ends at or before byte 256, and one that wraps around to 0
pub range_within :
    (m : Machine) (c : Stored) (id : ℕ) (r : LoopRange) → r.low + r.size ≤ 256
    → ((byte : ℕ) → r.low ≤ byte → byte < r.low + r.size → LoopsOn m c id byte) → IsLoopRange m c id r
range_within m c id r within each = record {
  loops = λ byte l has. each byte (omega (arith, l, has, within)) (omega (arith, l, has, within));
}

pub range_past :
    (m : Machine) (c : Stored) (id : ℕ) (r : LoopRange) → 256 < r.low + r.size
    → ((byte : ℕ) → r.low ≤ byte → byte < 256 → LoopsOn m c id byte)
    → ((byte : ℕ) → 0 ≤ byte → byte < r.low + r.size - 256 → LoopsOn m c id byte) → IsLoopRange m c id r
range_past m c id r past high low = record {
  loops = λ byte l has. ⊎_elim
      (λ (under : byte < r.low). low byte (omega arith) (omega (arith, l, has, past, under)))
      (λ (above : r.low ≤ byte). high byte above l)
      (cases_lt byte r.low);
}

-- a byte is less than 256 in either direction
pub byte_small :
    (way : Direction) (bytes : List ℕ) → ((k : ℕ) → slice_index bytes k < 256) → (k : ℕ) → byte_in way bytes k < 256
byte_small Forward bytes small k = small k
byte_small Backward bytes small k = small (length bytes - 1 - k)

-- one more byte
pub over_more :
    (m : Machine) (c : Stored) (id : ℕ) (way : Direction) (bytes : List ℕ) (from at : ℕ)
    → LoopsOn m c id (byte_in way bytes at) → LoopsOver m c id way bytes from at
    → LoopsOver m c id way bytes from (at + 1)
over_more m c id way bytes from at loops over k l below = ⊎_elim
    (λ (old : k < at). over k l old)
    (λ (new : at ≤ k). let same : at ≡ k = omega (arith, new, below) in
    subst (λ j. LoopsOn m c id (byte_in way bytes j)) same loops)
    (cases_lt k at)

module _ {m : Machine} {c : Stored} {id : ℕ} {way : Direction} {bytes : List ℕ} where
  -- an empty run
  pub run_none : (from : ℕ) → from ≤ length bytes → IsLoopRun m c id way bytes from from
  run_none from within =
      record { more = omega arith; within = within; loops = λ k l below. absurd (omega (arith, l, below)) }

  -- two runs joined
  pub run_on :
      {from at to : ℕ} → IsLoopRun m c id way bytes from at → IsLoopRun m c id way bytes at to
      → IsLoopRun m c id way bytes from to
  run_on {from} {at} {to} a b = record {
    more = omega (arith, a.more, b.more);
    within = b.within;
    loops = λ k l below. ⊎_elim
        (λ (old : k < at). a.loops k l old)
        (λ (new : at ≤ k). b.loops k new below)
        (cases_lt k at);
  }

  -- a run and some more bytes
  pub run_over :
      {from at : ℕ} (n : ℕ) → at + n ≤ length bytes → LoopsOver m c id way bytes at (at + n)
      → IsLoopRun m c id way bytes from at → IsLoopRun m c id way bytes from (at + n)
  run_over {from} {at} n within over run =
      let on : IsLoopRun m c id way bytes at (at + n) = record { more = omega arith; within = within; loops = over } in
      run_on run on

  pub run_more :
      {from at : ℕ} → at < length bytes → LoopsOn m c id (byte_in way bytes at)
      → IsLoopRun m c id way bytes from at → IsLoopRun m c id way bytes from (at + 1)
  run_more {from} {at} within loops run =
      run_over 1 (omega (arith, within))
      (over_more m c id way bytes at at loops (λ k l below. absurd (omega (arith, l, below)))) run

  -- a run and bytes of two ranges
  pub run_known :
      {from at : ℕ} (n : ℕ) (known : KnownLoop) → at + n ≤ length bytes → ((k : ℕ) → get_or bytes k 0 < 256)
      → IsKnownLoop m c id known
      → ((k : ℕ) → at ≤ k → k < at + n → HasEither known.first known.second (byte_in way bytes k))
      → IsLoopRun m c id way bytes from at → IsLoopRun m c id way bytes from (at + n)
  run_known {from} {at} n known within small are has run = run_over n within
      (λ k l below. ⊎_elim
      (λ (in_first : HasByte known.first (byte_in way bytes k)). are.first.loops (byte_in way bytes k)
      (byte_small way bytes small k) in_first)
      (λ (in_second : HasByte known.second (byte_in way bytes k)). are.second.loops (byte_in way bytes k)
      (byte_small way bytes small k) in_second)
      (has k l below))
      run

module _ {s : Trace} {way : Direction} {m : Machine} {c : Stored} {input : Input} {id from : ℕ} where
  followed_upto :
      (n tag : ℕ) → IsRunTag tag → HasOnly tag id → ((k : ℕ) → from ≤ k → k < from + n → LoopsAt way m c input id k)
      → IsOnTrace s way m c.table input from id → IsFollowedAlong s way m c input tag from (from + n) id
  followed_upto zero tag kind only each on =
      let e : from ≡ from + 0 = omega arith in
      subst (λ k. IsFollowedAlong s way m c input tag from k id) e (followed_none way m c input tag from id on.named)
  followed_upto (suc n) tag kind only each on =
      let e : suc (from + n) ≡ from + suc n = omega arith in
      let f = followed_upto n tag kind only (λ k l below. each k l (omega (arith, below))) on in
      subst (λ k. IsFollowedAlong s way m c input tag from k id) e
      (followed_on f (here (record { trace = on.trace; named = f.named }))) where
        here :
            IsOnTrace s way m c.table input (from + n) id
            → IsFollowedAlong s way m c input tag (from + n) (suc (from + n)) id
        here at =
            let there : LoopsAt way m c input id (from + n) = each (from + n) (omega arith) (omega arith) in
            let loops : LoopsOn m c id there.0 = there.2 in
            followed_one way m c input tag (from + n) id id there.0 kind only there.1 loops.known loops.below
            (λ quits. absurd (false_true (sym loops.clean ∙ quits))) (λ _ _ q n. loops.back q n) at

  -- a run stays at a row as long as the row is a self-loop
  pub run_loop :
      {tag to : ℕ} → IsTagAt s way m c.table input tag from id → IsSelfLoop way m c input id from to
      → IsRun s way m c input tag from to id
  run_loop {tag} {to} at loop =
      let e : from + (to - from) ≡ to = omega (arith, loop.more) in
      record {
        followed =
            subst (λ k. IsFollowedAlong s way m c input tag from k id) e
            (followed_upto (to - from) tag at.kind at.only (λ k l below. loop.loops k l (omega (arith, below, e)))
            at.on);
        only = at.only;
      }

-- a run over the bytes from a place on is a self-loop of a pass at that place
pub loop_along :
    {way : Direction} {m : Machine} {c : Stored} {input : Input} {id place n : ℕ} {bytes : List ℕ}
    → ((k : ℕ) → k < length bytes → next (tape_in way input) (place + k) ≡ Some (byte_in way bytes k))
    → IsLoopRun m c id way bytes 0 n → IsSelfLoop way m c input id place (place + n)
loop_along {way} {m} {c} {input} {id} {place} {n} {bytes} units run = record {
  more = omega arith;
  loops = λ k from below.
      let i : ℕ = k - place in
      let low : i < n = omega (arith, from, below) in
      let here : place + i ≡ k = omega (arith, from) in (
        byte_in way bytes i,
        subst (λ j. next (tape_in way input) j ≡ Some (byte_in way bytes i)) here
            (units i (omega (arith, low, run.within))),
        run.loops i (omega arith) low,
      );
}
