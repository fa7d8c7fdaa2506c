use Rattle.std.proofs.Common.{ℕ, Option, suc, ◌≡◌, ◌∙◌, ◌+◌, ◌-◌, ◌<◌, ◌≤◌, true, length, Some, None, refl, sym, subst}
use Rattle.std.proofs.Common.{arith}
use Rattle.automata_hybrid.proofs.Words.{CacheView, Direction, given_up_offset, HasReadNoQuit, IsAt}
use Rattle.automata_hybrid.proofs.Words.{IsCellRead, IsUnit, known_of, Leads, next, Reads, state_in, tape_in}
use Rattle.automata_hybrid.specs.Searches.PassContracts.{IsUnderway}
use Rattle.automata_hybrid.proofs.Searches.PassContracts.{dead_answer, dead_stops, first_answer, first_stops}
use Rattle.automata_hybrid.proofs.Searches.Goes.{GoesTo, ended_here, goes_known, goes_more, goes_none, last_rest}
use Rattle.automata_hybrid.proofs.Searches.Goes.{left_here, pass_last, pass_stopped, taken_here}
use Rattle.automata_hybrid.proofs.Searches.PassState.{at_reads, more_at, more_clean, more_leads, false_true, none_is}
use Rattle.automata_hybrid.proofs.Searches.PassState.{some_is}
use Rattle.automata_hybrid.proofs.Searches.Traces.{pass_is_trace}
use Rattle.automata_hybrid.proofs.Searches.Directions.{quit_free, span_unit, units_in}
use Rattle.automata_hybrid.proofs.Searches.Units as units
use Rattle.automata_hybrid.proofs.Steps.Ids.{dead_tagged}
use Rattle.automata_hybrid.specs.Private.Cache.Sound.{IsSoundCacheOf}
use Rattle.automata_hybrid.proofs.Storage.Sound.{sound_searched, sound_still}
use Rattle.automata_hybrid.proofs.search.pass.find.Goals as goal
use Rattle.automata_hybrid.proofs.search.pass.find.Goals.{After-byte_at-byte, After-last_place-last, In-Ok}
use Rattle.automata_hybrid.proofs.search.pass.find.Goals.{else-get_earliest-via-then-get_earliest+else-is_some}
use Rattle.automata_hybrid.proofs.search.pass.find.Goals.{else-get_earliest-via-else-get_earliest}

-- the units of the span are bytes, or the end
are_units : (c : After-last_place-last) → (j : ℕ) → IsUnit (next (tape_in c.args.way c.args.input.now) j)
are_units c =
    units.units_in c.args.way c.args.input.now
    (c.last_place-last.ensures.valid.bytes, c.last_place-last.ensures.valid.within.1) c.requires.at.at.undone

-- the unit that is read is at a place of the span
few : (c : After-byte_at-byte) → c.follow_reports-stop.result.at ≤ length (tape_in c.args.way c.args.input.now).bytes
few c =
    let u = units_in c.args.way c.args.input.now c.requires.at.at.undone c.last_place-last.ensures.valid.within.1 in
    omega (arith, u, c.follow_reports-stop.ensures.within)

-- the offset of the "gave up" error of its step is its own offset
given :
    (c : After-byte_at-byte)
    → given_up_offset c.args.way c.args.input.now c.follow_reports-stop.result.at ≡ c.byte_offset-offset.result
given c =
    span_unit c.args.way c.args.input.now c.follow_reports-stop.result.at c.follow_reports-stop.ensures.within
    ∙ sym c.byte_offset-offset.ensures.unit

-- the effect of the units before it
before :
    (c : After-byte_at-byte) → ((j : ℕ) → IsUnit (next (tape_in c.args.way c.args.input.now) j))
    → GoesTo c.args.way c.args.dfa.now c.args.input.now 0 c.follow_reports-stop.result.at (known_of c.args.cache.now)
    (known_of c.loop-run.cache)
before c are =
    goes_known c.args.way c.args.dfa.now c.args.input.now 0 (known_of c.args.cache.now) c.requires.sound.machine
    are c.loop-run.run.at c.follow_reports-stop.result.at c.loop-run.cache c.loop-run.invariant.sound.store
    c.loop-run.invariant.progress c.follow_reports-stop.ensures.run.more c.follow_reports-stop.ensures.at.clean
    c.follow_reports-stop.ensures.run.known

-- the effect of these units and of the unit itself
upto :
    (c : In-Ok)
    → given_up_offset c.args.way c.args.input.now c.follow_reports-stop.result.at ≡ c.byte_offset-offset.result
    → GoesTo c.args.way c.args.dfa.now c.args.input.now 0 c.follow_reports-stop.result.at (known_of c.args.cache.now)
    (known_of c.loop-run.cache)
    → GoesTo c.args.way c.args.dfa.now c.args.input.now 0 (suc c.follow_reports-stop.result.at)
    (known_of c.args.cache.now)
    (known_of c.read_peeked.new.cache)
upto c at before =
    goes_more c.args.way c.args.dfa.now c.args.input.now 0 (known_of c.args.cache.now) c.follow_reports-stop.result.at
    (known_of c.loop-run.cache) (known_of c.read_peeked.new.cache) before
    (taken_here c.args.way c.args.dfa.now c.args.input.now c.follow_reports-stop.result.at
    c.follow_reports-stop.result.id
    c.byte_offset-offset.result (Some _) c.loop-run.cache c.read_peeked.new.cache c.byte_at-byte.ensures at
    c.follow_reports-stop.ensures.at.named c.in-Ok.ensures.read.taken)

-- none of these is a quit byte
clean : (c : In-Ok) → HasReadNoQuit c.args.way c.args.dfa.now c.args.input.now (suc c.follow_reports-stop.result.at)
clean c =
    more_clean c.args.way c.args.dfa.now c.loop-run.cache.store.table c.read_peeked.new.cache.store.table
    c.args.input.now
    c.follow_reports-stop.result.at c.follow_reports-stop.result.id c.in-Ok.next _ c.follow_reports-stop.result.found
    None c.follow_reports-stop.ensures.at
    c.byte_at-byte.ensures c.in-Ok.ensures.read.answer.named
    (quit_free c.args.dfa.now _ c.in-Ok.ensures.read.answer.clean)

-- the pass reads the unit
reads :
    (c : In-Ok) → c.follow_reports-stop.result.at ≤ length (tape_in c.args.way c.args.input.now).bytes
    → Reads c.args.way c.args.dfa.now c.args.input.now c.follow_reports-stop.result.at
reads c few =
    at_reads c.args.way c.args.dfa.now c.loop-run.cache.store.table c.args.input.now c.follow_reports-stop.result.at
    c.follow_reports-stop.result.id c.follow_reports-stop.result.found c.follow_reports-stop.ensures.at few
    c.in-Ok.ensures.read.alive

-- the pass is at that place
underway :
    (c : After-byte_at-byte)
    → IsUnderway c.args.way c.args.dfa.now c.loop-run.cache.store.table c.args.input.now c.follow_reports-stop.result.at
    c.follow_reports-stop.result.id c.follow_reports-stop.result.found
underway c = record {
  undone = c.requires.at.at.undone;
  may = c.requires.at.at.may;
  at = c.follow_reports-stop.ensures.at;
}

pub loop-run-init : goal.loop-run-init
loop-run-init c =
    record {
      within = omega (arith, c.requires.at.within, c.last_place-last.ensures.place);
      upto = omega (arith, c.near_end-end.ensures, c.last_place-last.ensures.place);
      at = c.requires.at.at.at;
      read = c.requires.next;
      sound = c.requires.sound;
      progress =
          goes_known c.args.way c.args.dfa.now c.args.input.now 0 (known_of c.args.cache.now)
          c.requires.sound.machine (are_units (goal.at.loop-run-init c).After-last_place-last) 0 c.args.from.at
          c.args.cache.now c.requires.sound.store
          (goes_none c.args.way c.args.dfa.now c.args.input.now 0 (known_of c.args.cache.now)) (omega arith)
          c.requires.at.at.at.clean (λ j from below. c.requires.at.known j below);
    }

pub read_peeked-requires-clause-cell : goal.read_peeked-requires-clause-cell
read_peeked-requires-clause-cell c =
    subst
    (λ (u : Option ℕ). IsCellRead c.args.dfa.now c.loop-run.cache.store c.follow_reports-stop.result.id u
    c.follow_reports-stop.result.next)
    c.byte_at-byte.ensures c.follow_reports-stop.ensures.next

pub find_end-requires-clause-at : goal.find_end-requires-clause-at
find_end-requires-clause-at c =
    let same : c.loop-run.run.at ≡ c.args.input.now.end - c.args.input.now.start =
    omega (arith, c.loop-run-test.false, c.loop-run.invariant.within, c.last_place-last.ensures.place) in
    record {
      undone = c.requires.at.at.undone;
      may = c.requires.at.at.may;
      at =
          subst
          (λ k. IsAt c.args.way c.args.dfa.now c.loop-run.cache.store.table c.args.input.now k c.loop-run.run.id
          c.loop-run.run.found)
          same c.loop-run.invariant.at;
    }

pub found_at-found-requires-clause-leads : goal.found_at-found-requires-clause-leads
found_at-found-requires-clause-leads c = (
  _,
  more_leads c.args.way c.args.dfa.now c.loop-run.cache.store.table c.read_peeked.new.cache.store.table c.args.input.now
      c.follow_reports-stop.result.at c.follow_reports-stop.result.id c.in-Ok.next _ c.follow_reports-stop.result.found
      None
      c.follow_reports-stop.ensures.at c.byte_at-byte.ensures c.in-Ok.ensures.read.answer.named
      (quit_free c.args.dfa.now _ c.in-Ok.ensures.read.answer.clean),
)

pub run_to_match-near-requires : goal.run_to_match-near-requires
run_to_match-near-requires c =
    let d : Direction = c.args.way in
    let k : ℕ = c.follow_reports-stop.result.at in
    let first : c.args.input.now.earliest ≡ true → c.found_at-found.result ≡ None =
    elim c.else-get_earliest.branch [
      | else-get_earliest-via-then-get_earliest+else-is_some w ↦
          λ e. none_is c.found_at-found.result (sym w.is_some.ensures ∙ w.if-is_some.false)
      | else-get_earliest-via-else-get_earliest w ↦
          λ e. absurd (false_true (sym w.if-get_earliest.false ∙ (c.get_earliest.ensures ∙ e)))
    ] in
    let more : suc k ≡ c.follow_reports-stop.result.at + 1 = omega arith in
    let at =
    subst
    (λ n. IsAt d c.args.dfa.now c.read_peeked.new.cache.store.table c.args.input.now n c.in-Ok.next
    c.found_at-found.result)
    more
    (more_at d c.args.dfa.now c.loop-run.cache.store.table c.read_peeked.new.cache.store.table c.args.input.now k
    c.follow_reports-stop.result.id c.in-Ok.next _ c.follow_reports-stop.result.found c.found_at-found.result
    c.follow_reports-stop.ensures.at
    c.byte_at-byte.ensures c.in-Ok.ensures.read.answer.named
    (quit_free c.args.dfa.now _ c.in-Ok.ensures.read.answer.clean)
    (c.place_offset.result, c.place_offset.ensures.value, c.found_at-found.ensures) first
    (λ l. (dead_tagged c.read_peeked.new.cache.store.table c.in-Ok.next
    (c.in-Ok.ensures.sound.table.low c.in-Ok.next) c.in-Ok.ensures.sound.store.small _ l).1
    (λ b. false_true (c.if-is_dead.ensures.1 b)))) in (
      c.in-Ok.ensures.sound,
      (
        record {
          on = record { trace = pass_is_trace d c.args.dfa.now c.args.input.now; named = at.named };
          undone = c.requires.at.at.undone;
          within = omega (arith, c.follow_reports-stop.ensures.within);
          upto = c.loop-run.invariant.upto;
        },
        at,
      ),
    )

pub follow_with_leaps-far-requires : goal.follow_with_leaps-far-requires
follow_with_leaps-far-requires c =
    let trace = pass_is_trace c.args.way c.args.dfa.now c.args.input.now in
    let near = c.run_to_match-near.ensures.runs in (
      c.in-Ok.ensures.sound,
      (
        record {
          on = record { trace = trace; named = near.at.named };
          undone = c.requires.at.at.undone;
          within = near.run.within;
          upto = c.loop-run.invariant.upto;
        },
        (near.peeked, c.run_to_match-near.ensures.read),
      ),
    )

pub loop-run-preserved : goal.loop-run-preserved
loop-run-preserved c =
    let m = c.args.dfa.now in
    let past = goal.at.loop-run-preserved c in
    let units = are_units past.After-last_place-last in
    let more : suc c.follow_reports-stop.result.at ≡ c.follow_reports-stop.result.at + 1 = omega arith in
    let behind :
    GoesTo c.args.way m c.args.input.now 0 (c.follow_reports-stop.result.at + 1) (known_of c.args.cache.now)
    (known_of c.read_peeked.new.cache) =
    subst
    (λ n. GoesTo c.args.way m c.args.input.now 0 n (known_of c.args.cache.now) (known_of c.read_peeked.new.cache)) more
    (upto past.In-Ok (given past.After-byte_at-byte) (before past.After-byte_at-byte units)) in
    let far = c.follow_with_leaps-far.ensures.runs (c.follow_reports-stop.result.at + 1)
    c.run_to_match-near.ensures.runs in
    let sound : IsSoundCacheOf c.follow_with_leaps-far.new.cache m =
    sound_still c.follow_with_leaps-far.ensures.same c.in-Ok.ensures.sound in
    record {
      within = omega (arith, far.run.within, c.last_place-last.ensures.place);
      upto = c.follow_with_leaps-far.ensures.upto;
      at = far.at;
      read = c.follow_with_leaps-far.ensures.read;
      sound = sound;
      progress =
          goes_known c.args.way m c.args.input.now 0 (known_of c.args.cache.now) c.requires.sound.machine units
          (c.follow_reports-stop.result.at + 1) c.follow_with_leaps-far.result.0.at c.follow_with_leaps-far.new.cache
          sound.store
          (subst
          (λ (v : CacheView). GoesTo c.args.way m c.args.input.now 0 (c.follow_reports-stop.result.at + 1)
          (known_of c.args.cache.now) (known_of v))
          (sym c.follow_with_leaps-far.ensures.same) behind)
          far.run.more far.at.clean far.run.known;
    }

pub read_peeked-requires-clause-valid : goal.read_peeked-requires-clause-valid
read_peeked-requires-clause-valid c = (_, c.follow_reports-stop.ensures.at.named)

pub returns-in-Err-clause-rest : goal.returns-in-Err-clause-rest
returns-in-Err-clause-rest c =
    let past = goal.at.returns-in-Err-clause-rest c in
    let at = c.follow_reports-stop.ensures.at in
    pass_stopped c.args.way c.args.dfa.now c.args.input.now c.follow_reports-stop.result.at (known_of c.args.cache.now)
    (known_of c.loop-run.cache) (known_of c.read_peeked.new.cache) c.in-Err.error
    (at_reads c.args.way c.args.dfa.now c.loop-run.cache.store.table c.args.input.now c.follow_reports-stop.result.at
    c.follow_reports-stop.result.id c.follow_reports-stop.result.found at (few past.After-byte_at-byte)
    c.in-Err.ensures.read.alive)
    at.clean (before past.After-byte_at-byte (are_units past.After-last_place-last))
    (left_here c.args.way c.args.dfa.now c.args.input.now c.follow_reports-stop.result.at
    c.follow_reports-stop.result.id
    c.byte_offset-offset.result (Some _) c.loop-run.cache c.read_peeked.new.cache c.byte_at-byte.ensures
    (given past.After-byte_at-byte) at.named c.byte_offset-offset.result c.in-Err.error
    (sym c.byte_offset-offset.ensures.unit) c.in-Err.ensures.read.fails)

pub returns-then-is_dead-clause-rest : goal.returns-then-is_dead-clause-rest
returns-then-is_dead-clause-rest c =
    let m = c.args.dfa.now in
    let k : ℕ = c.follow_reports-stop.result.at in
    let past = goal.at.returns-then-is_dead-clause-rest c in
    let at = past.After-byte_at-byte in
    let after = state_in c.args.way m c.args.input.now (suc k) in
    let dies = λ (l : Leads c.read_peeked.new.cache.store.table c.in-Ok.next after).
    (dead_tagged c.read_peeked.new.cache.store.table c.in-Ok.next (c.in-Ok.ensures.sound.table.low
    c.in-Ok.next)
    c.in-Ok.ensures.sound.store.small after l).0
    (c.if-is_dead.ensures.0 refl) in
    record {
      answer =
          dead_answer c.args.way m c.args.input.now k c.follow_reports-stop.result.id _
          c.follow_reports-stop.result.found
          c.loop-run.cache c.read_peeked.new.cache (underway at) c.byte_at-byte.ensures c.in-Ok.next None
          c.in-Ok.ensures.read.answer dies (few at);
      ended =
          pass_last c.args.way m c.args.input.now k (known_of c.args.cache.now) (known_of c.read_peeked.new.cache)
          (known_of c.end_search.new.self) (reads past.In-Ok (few at))
          (dead_stops c.args.way m c.args.input.now k c.follow_reports-stop.result.id _
          c.follow_reports-stop.result.found
          c.loop-run.cache c.read_peeked.new.cache (underway at) c.byte_at-byte.ensures c.in-Ok.next None
          c.in-Ok.ensures.read.answer dies (suc k) (omega arith))
          (clean past.In-Ok) (upto past.In-Ok (given at) (before at (are_units past.After-last_place-last)))
          (ended_here c.args.way c.args.input.now k c.byte_offset-offset.result c.read_peeked.new.cache
          c.end_search.new.self (given at) c.end_search.ensures.value);
    }

pub returns-then-is_some-clause-rest : goal.returns-then-is_some-clause-rest
returns-then-is_some-clause-rest c =
    let m = c.args.dfa.now in
    let k : ℕ = c.follow_reports-stop.result.at in
    let past = goal.at.returns-then-is_some-clause-rest c in
    let at = past.After-byte_at-byte in
    let early = sym c.get_earliest.ensures ∙ c.if-get_earliest.true in
    let some = some_is c.found_at-found.result c.if-is_some.ensures in
    record {
      answer =
          first_answer c.args.way m c.args.input.now k c.follow_reports-stop.result.id _
          c.follow_reports-stop.result.found
          c.loop-run.cache c.read_peeked.new.cache (underway at) c.byte_at-byte.ensures c.in-Ok.next
          c.found_at-found.result c.in-Ok.ensures.read.answer c.place_offset.result c.place_offset.ensures.value
          c.found_at-found.ensures early some (few at);
      ended =
          pass_last c.args.way m c.args.input.now k (known_of c.args.cache.now) (known_of c.read_peeked.new.cache)
          (known_of c.end_search-then-is_some.new.self) (reads past.In-Ok (few at))
          (first_stops c.args.way m c.args.input.now k c.follow_reports-stop.result.id _
          c.follow_reports-stop.result.found
          c.loop-run.cache c.read_peeked.new.cache (underway at) c.byte_at-byte.ensures c.in-Ok.next
          c.found_at-found.result c.in-Ok.ensures.read.answer c.place_offset.result c.place_offset.ensures.value
          c.found_at-found.ensures early some (suc k) (omega arith))
          (clean past.In-Ok) (upto past.In-Ok (given at) (before at (are_units past.After-last_place-last)))
          (ended_here c.args.way c.args.input.now k c.byte_offset-offset.result c.read_peeked.new.cache
          c.end_search-then-is_some.new.self (given at) c.end_search-then-is_some.ensures.value);
    }

pub returns-clause-rest : goal.returns-clause-rest
returns-clause-rest c =
    let m = c.args.dfa.now in
    let same : c.loop-run.run.at ≡ c.args.input.now.end - c.args.input.now.start =
    omega (arith, c.loop-run-test.false, c.loop-run.invariant.within, c.last_place-last.ensures.place) in
    let k : ℕ = c.args.input.now.end - c.args.input.now.start in
    let at : IsAt c.args.way m c.loop-run.cache.store.table c.args.input.now k c.loop-run.run.id c.loop-run.run.found =
    subst
    (λ k. IsAt c.args.way m c.loop-run.cache.store.table c.args.input.now k c.loop-run.run.id c.loop-run.run.found)
    same c.loop-run.invariant.at in
    let units : k ≡ length (tape_in c.args.way c.args.input.now).bytes =
    units_in c.args.way c.args.input.now c.requires.at.at.undone c.last_place-last.ensures.valid.within.1 in
    let reads : Reads c.args.way m c.args.input.now k =
    at_reads c.args.way m c.loop-run.cache.store.table c.args.input.now k c.loop-run.run.id c.loop-run.run.found at
    (omega (arith, units)) c.find_end.ensures.alive in
    last_rest c.args.way m c.args.input.now (known_of c.args.cache.now) (known_of c.loop-run.cache)
    (known_of c.find_end.new.cache) c.find_end.result units reads at.clean
    (subst
    (λ k. GoesTo c.args.way m c.args.input.now 0 k (known_of c.args.cache.now) (known_of c.loop-run.cache)) same
    c.loop-run.invariant.progress)
    c.find_end.ensures.last

pub loop-run-smaller : goal.loop-run-smaller
loop-run-smaller c =
    let more = (c.follow_with_leaps-far.ensures.runs (c.follow_reports-stop.result.at + 1)
    c.run_to_match-near.ensures.runs).run.more in
    omega (arith, more, c.follow_reports-stop.ensures.run.more, c.loop-run-test.true)

pub follow_reports-stop-requires : goal.follow_reports-stop-requires
follow_reports-stop-requires c =
    let inside : c.loop-run.run.at < c.args.input.now.end - c.args.input.now.start =
    omega (arith, c.loop-run-test.true, c.last_place-last.ensures.place) in (
      c.loop-run.invariant.sound,
      (
        pass_is_trace c.args.way c.args.dfa.now c.args.input.now,
        (c.loop-run.invariant.at, (inside, c.loop-run.invariant.read inside)),
      ),
    )

pub returns-then-is_dead-clause-sound : goal.returns-then-is_dead-clause-sound
returns-then-is_dead-clause-sound c =
    sound_still c.end_search.ensures.value (sound_searched _ c.in-Ok.ensures.sound)

pub returns-then-is_some-clause-sound : goal.returns-then-is_some-clause-sound
returns-then-is_some-clause-sound c =
    sound_still c.end_search-then-is_some.ensures.value (sound_searched _ c.in-Ok.ensures.sound)
