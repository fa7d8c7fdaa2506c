use Rattle.std.proofs.Common.{ℕ, Option, suc, ◌≡◌, ◌∙◌, ◌+◌, ◌-◌, ◌<◌, true, Some, None, ap, refl, sym, subst, arith}
use Rattle.automata_hybrid.proofs.Words.{begun, CacheView, ended, Forward, given_up_offset, IsAtAlong}
use Rattle.automata_hybrid.proofs.Words.{IsCellRead, IsUnit, Known, known_of, Names, option_map, Rows}
use Rattle.automata_hybrid.proofs.Words.{tape_in}
use Rattle.automata_base.specs.Paths.Paths.{next as unit_at}
use Rattle.automata_hybrid.proofs.Searches.Goes.{GoesToAlong, ended_here, goes_all, goes_known, goes_none}
use Rattle.automata_hybrid.proofs.Searches.PassState.{false_true, none_is, some_is}
use Rattle.automata_hybrid.proofs.Searches.PieceRuns.{at_next, goes_on, leads_on, over_dead, over_first, stopped_along}
use Rattle.automata_hybrid.proofs.Searches.Traces.{begins_along, half_of_none}
use Rattle.automata_hybrid.proofs.Searches.Units.{units_in}
use Rattle.automata_hybrid.proofs.Steps.Ids.{dead_tagged}
use Rattle.automata_hybrid.specs.Private.Cache.Sound.{IsSoundCacheOf}
use Rattle.automata_hybrid.proofs.Storage.Sound.{sound_searched, sound_still}
use Rattle.automata_hybrid.proofs.Storage.Places.{Names-alive}
use Rattle.automata_hybrid.proofs.search.pieces.run_span.Goals as goal
use Rattle.automata_hybrid.proofs.search.pieces.run_span.Goals.{else-get_earliest-via-then-get_earliest+else-is_some}
use Rattle.automata_hybrid.proofs.search.pieces.run_span.Goals.{else-get_earliest-via-else-get_earliest}

pub next_known-requires : goal.next_known-requires
next_known-requires g c =
    let named =
    subst (λ (t : Rows). Names t c.args.from (g.trace.state 0)) (sym c.search_start.ensures.table)
    c.requires.1.0.named in (
      sound_still c.search_start.ensures.value (sound_searched _ c.requires.0),
      record {
        on = record { trace = c.requires.1.0.trace; named = named };
        undone = c.requires.1.1;
        within = omega arith;
        upto = omega (arith, c.last_place-last.ensures.place);
      },
    )

pub loop-run-init : goal.loop-run-init
loop-run-init g c =
    let begins :
    known_of c.search_start.new.self
    ≡ begun (given_up_offset Forward c.args.input.now 0) (known_of c.args.cache.now) =
    ap known_of c.search_start.ensures.value
    ∙ ap (λ o. begun o (known_of c.args.cache.now)) c.span_offset.ensures.value in
    record {
      sound = sound_still c.search_start.ensures.value (sound_searched _ c.requires.0);
      within = omega arith;
      upto = omega (arith, c.near_end-end.ensures);
      at =
          begins_along c.requires.1.0.trace
          (subst (λ (t : Rows). Names t c.args.from (g.trace.state 0)) (sym c.search_start.ensures.table)
          c.requires.1.0.named);
      read = λ less. c.next_known.ensures.read (omega (arith, less, c.last_place-last.ensures.place));
      progress =
          subst
          (λ (v : Known). GoesToAlong g.trace Forward c.args.dfa.now c.args.input.now 0 0 v
          (known_of c.search_start.new.self))
          begins
          (goes_none Forward c.args.dfa.now c.args.input.now 0 (known_of c.search_start.new.self));
    }

pub read_peeked-requires-clause-valid : goal.read_peeked-requires-clause-valid
read_peeked-requires-clause-valid g c = (_, c.loop-run.invariant.at.named)

pub read_peeked-requires-clause-cell : goal.read_peeked-requires-clause-cell
read_peeked-requires-clause-cell g c =
    subst
    (λ (u : Option ℕ). IsCellRead c.args.dfa.now c.loop-run.cache.store c.loop-run.run.id u c.loop-run.run.next)
    c.byte_at-byte.ensures
    (c.loop-run.invariant.read (omega (arith, c.loop-run-test.true, c.last_place-last.ensures.place)))

pub found_at-found-requires-clause-leads : goal.found_at-found-requires-clause-leads
found_at-found-requires-clause-leads g c =
    let inside : c.loop-run.run.at < c.args.input.now.end - c.args.input.now.start =
    omega (arith, c.loop-run-test.true, c.last_place-last.ensures.place) in (
      _,
      leads_on c.requires.1.0.trace c.loop-run.cache c.loop-run.invariant.at c.byte_at-byte.ensures inside
          c.byte_offset-offset.ensures.unit c.loop-run.invariant.progress c.in-Ok.ensures.read,
    )

pub run_to_match-near-requires : goal.run_to_match-near-requires
run_to_match-near-requires g c =
    let inside : c.loop-run.run.at < c.args.input.now.end - c.args.input.now.start =
    omega (arith, c.loop-run-test.true, c.last_place-last.ensures.place) in
    let first : c.args.input.now.earliest ≡ true → c.found_at-found.result ≡ None =
    elim c.else-get_earliest.branch [
      | else-get_earliest-via-then-get_earliest+else-is_some w ↦
          λ e. none_is c.found_at-found.result (sym w.is_some.ensures ∙ w.if-is_some.false)
      | else-get_earliest-via-else-get_earliest w ↦
          λ e. absurd (false_true (sym w.if-get_earliest.false ∙ (c.get_earliest.ensures ∙ e)))
    ] in
    let more : suc c.loop-run.run.at ≡ c.loop-run.run.at + 1 = omega arith in
    let at =
    subst
    (λ n. IsAtAlong g.trace Forward c.args.dfa.now c.read_peeked.new.cache.store.table c.args.input.now n c.in-Ok.next
    c.found_at-found.result)
    more
    (at_next c.requires.1.0.trace c.loop-run.cache c.loop-run.invariant.at c.byte_at-byte.ensures inside
    c.byte_offset-offset.ensures.unit c.loop-run.invariant.progress c.in-Ok.ensures.read
    (c.place_offset.result, c.place_offset.ensures.value, c.found_at-found.ensures) first
    (λ l. (dead_tagged c.read_peeked.new.cache.store.table c.in-Ok.next (c.in-Ok.ensures.sound.table.low c.in-Ok.next)
    c.in-Ok.ensures.sound.store.small _ l).1
    (λ b. false_true (c.if-is_dead.ensures.1 b)))) in (
      c.in-Ok.ensures.sound,
      (
        record {
          on = record { trace = c.requires.1.0.trace; named = at.named };
          undone = c.requires.1.1;
          within = omega (arith, c.loop-run-test.true, c.last_place-last.ensures.place);
          upto = c.loop-run.invariant.upto;
        },
        at,
      ),
    )

pub follow_with_leaps-far-requires : goal.follow_with_leaps-far-requires
follow_with_leaps-far-requires g c =
    let near = c.run_to_match-near.ensures.runs in (
      c.in-Ok.ensures.sound,
      (
        record {
          on = record { trace = c.requires.1.0.trace; named = near.at.named };
          undone = c.requires.1.1;
          within = near.run.within;
          upto = c.loop-run.invariant.upto;
        },
        (near.peeked, c.run_to_match-near.ensures.read),
      ),
    )

pub loop-run-preserved : goal.loop-run-preserved
loop-run-preserved g c =
    let inside : c.loop-run.run.at < c.args.input.now.end - c.args.input.now.start =
    omega (arith, c.loop-run-test.true, c.last_place-last.ensures.place) in
    let more : suc c.loop-run.run.at ≡ c.loop-run.run.at + 1 = omega arith in
    let same = c.follow_with_leaps-far.ensures.same in
    let units : (j : ℕ) → IsUnit (unit_at (tape_in Forward c.args.input.now) j) =
    units_in Forward c.args.input.now (c.last_place-last.ensures.valid.bytes, c.last_place-last.ensures.valid.within.1)
    c.requires.1.1 in
    let sound : IsSoundCacheOf c.follow_with_leaps-far.new.cache c.args.dfa.now =
    sound_still same c.in-Ok.ensures.sound in
    let first : Known = begun (given_up_offset Forward c.args.input.now 0) (known_of c.args.cache.now) in
    let behind :
    GoesToAlong g.trace Forward c.args.dfa.now c.args.input.now 0 (c.loop-run.run.at + 1) first
    (known_of c.follow_with_leaps-far.new.cache) =
    subst
    (λ (v : CacheView). GoesToAlong g.trace Forward c.args.dfa.now c.args.input.now 0 (c.loop-run.run.at + 1) first
    (known_of v))
    (sym same)
    (subst
    (λ n. GoesToAlong g.trace Forward c.args.dfa.now c.args.input.now 0 n first (known_of c.read_peeked.new.cache))
    more
    (goes_on c.requires.1.0.trace c.loop-run.cache c.loop-run.invariant.at c.byte_at-byte.ensures inside
    c.byte_offset-offset.ensures.unit c.loop-run.invariant.progress c.in-Ok.ensures.read)) in
    let far = c.follow_with_leaps-far.ensures.runs (c.loop-run.run.at + 1) c.run_to_match-near.ensures.runs in
    record {
      sound = sound;
      within = omega (arith, far.run.within, c.last_place-last.ensures.place);
      upto = c.follow_with_leaps-far.ensures.upto;
      at = far.at;
      read = c.follow_with_leaps-far.ensures.read;
      progress =
          goes_known Forward c.args.dfa.now c.args.input.now 0 first c.requires.0.machine units
          (c.loop-run.run.at + 1) c.follow_with_leaps-far.result.0.at c.follow_with_leaps-far.new.cache sound.store
          behind
          far.run.more far.at.clean
          far.run.known;
    }

pub loop-run-smaller : goal.loop-run-smaller
loop-run-smaller g c =
    let more = (c.follow_with_leaps-far.ensures.runs (c.loop-run.run.at + 1)
    c.run_to_match-near.ensures.runs).run.more in
    omega (arith, more, c.loop-run-test.true)

pub returns-in-Err-clause-ran : goal.returns-in-Err-clause-ran
returns-in-Err-clause-ran g c =
    let inside : c.loop-run.run.at < c.args.input.now.end - c.args.input.now.start =
    omega (arith, c.loop-run-test.true, c.last_place-last.ensures.place) in
    stopped_along c.requires.1.0.trace c.loop-run.cache c.loop-run.invariant.at c.byte_at-byte.ensures inside
    c.byte_offset-offset.ensures.unit c.loop-run.invariant.progress c.in-Err.ensures.read

pub returns-then-is_dead-clause-ran : goal.returns-then-is_dead-clause-ran
returns-then-is_dead-clause-ran g c =
    let inside : c.loop-run.run.at < c.args.input.now.end - c.args.input.now.start =
    omega (arith, c.loop-run-test.true, c.last_place-last.ensures.place) in
    let leads =
    leads_on c.requires.1.0.trace c.loop-run.cache c.loop-run.invariant.at c.byte_at-byte.ensures inside
    c.byte_offset-offset.ensures.unit c.loop-run.invariant.progress c.in-Ok.ensures.read in
    over_dead c.requires.1.0.trace c.loop-run.cache c.loop-run.invariant.at c.byte_at-byte.ensures inside
    c.byte_offset-offset.ensures.unit c.loop-run.invariant.progress c.in-Ok.ensures.read c.end_search.ensures.value
    ((dead_tagged c.read_peeked.new.cache.store.table c.in-Ok.next (c.in-Ok.ensures.sound.table.low c.in-Ok.next)
    c.in-Ok.ensures.sound.store.small _ leads).0 (c.if-is_dead.ensures.0 refl))

pub returns-then-is_some-clause-ran : goal.returns-then-is_some-clause-ran
returns-then-is_some-clause-ran g c =
    let inside : c.loop-run.run.at < c.args.input.now.end - c.args.input.now.start =
    omega (arith, c.loop-run-test.true, c.last_place-last.ensures.place) in
    over_first c.requires.1.0.trace c.loop-run.cache c.loop-run.invariant.at c.byte_at-byte.ensures inside
    c.byte_offset-offset.ensures.unit c.loop-run.invariant.progress c.in-Ok.ensures.read
    c.end_search-then-is_some.ensures.value
    (c.place_offset.result, c.place_offset.ensures.value, c.found_at-found.ensures)
    (sym c.get_earliest.ensures ∙ c.if-get_earliest.true) (some_is c.found_at-found.result c.if-is_some.ensures)

pub returns-clause-ran : goal.returns-clause-ran
returns-clause-ran g c =
    let k : ℕ = c.args.input.now.end - c.args.input.now.start in
    let same : c.loop-run.run.at ≡ k =
    omega (arith, c.loop-run-test.false, c.loop-run.invariant.within, c.last_place-last.ensures.place) in
    let at : IsAtAlong g.trace Forward c.args.dfa.now c.loop-run.cache.store.table c.args.input.now k c.loop-run.run.id
    c.loop-run.run.found =
    subst
    (λ n. IsAtAlong g.trace Forward c.args.dfa.now c.loop-run.cache.store.table c.args.input.now n c.loop-run.run.id
    c.loop-run.run.found)
    same c.loop-run.invariant.at in
    let gone : GoesToAlong g.trace Forward c.args.dfa.now c.args.input.now 0 k
    (begun (given_up_offset Forward c.args.input.now 0) (known_of c.args.cache.now)) (known_of c.loop-run.cache) =
    subst
    (λ n. GoesToAlong g.trace Forward c.args.dfa.now c.args.input.now 0 n
    (begun (given_up_offset Forward c.args.input.now 0) (known_of c.args.cache.now)) (known_of c.loop-run.cache))
    same c.loop-run.invariant.progress in
    record {
      all = record {
        clean = at.clean;
        nothing = λ early.
            half_of_none Forward c.args.input.now (g.trace.reported k) (sym at.reported ∙ at.nothing early);
        alive =
            Names-alive c.loop-run.cache.store.table c.loop-run.run.id (g.trace.state k)
            c.loop-run.invariant.sound.table.rows at.named;
        run =
            ap (option_map (ended (given_up_offset Forward c.args.input.now k))) (goes_all gone)
            ∙ ap Some (sym (ended_here Forward c.args.input.now k c.span_offset-2.result c.loop-run.cache
            c.end_search-2.new.self
            (ap (given_up_offset Forward c.args.input.now) (sym c.last_place-last.ensures.place)
            ∙ sym c.span_offset-2.ensures.value)
            c.end_search-2.ensures.value));
      };
      at =
          subst
          (λ (t : Rows). IsAtAlong g.trace Forward c.args.dfa.now t c.args.input.now k c.loop-run.run.id
          c.loop-run.run.found)
          (sym c.end_search-2.ensures.table) at;
    }

pub returns-then-is_dead-clause-sound : goal.returns-then-is_dead-clause-sound
returns-then-is_dead-clause-sound g c =
    sound_still c.end_search.ensures.value (sound_searched _ c.in-Ok.ensures.sound)

pub returns-then-is_some-clause-sound : goal.returns-then-is_some-clause-sound
returns-then-is_some-clause-sound g c =
    sound_still c.end_search-then-is_some.ensures.value (sound_searched _ c.in-Ok.ensures.sound)

pub returns-clause-sound : goal.returns-clause-sound
returns-clause-sound g c =
    sound_still c.end_search-2.ensures.value (sound_searched _ c.loop-run.invariant.sound)
