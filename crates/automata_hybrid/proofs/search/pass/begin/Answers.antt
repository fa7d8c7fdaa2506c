use Rattle.std.proofs.Common.{ℕ, ◌≡◌, ◌∙◌, ap, None, refl, sym, subst, arith}
use Rattle.automata_hybrid.proofs.Words.{begun, dead, Direction, ended, Err, given_up_offset, HalfMatch, Input}
use Rattle.automata_hybrid.proofs.Words.{known_of, Names, Ok, option_map, Result, Rows, SearchError, state_in}
use Rattle.std.specs.Prelude.{Option}
use Rattle.automata_base.specs.Haystacks.Input.{IsAllowed}
use Rattle.automata_hybrid.specs.Private.Searches.PassContracts.{IsKnownUpto, IsPassResult, IsRest, MayContinue}
use Rattle.automata_hybrid.specs.Private.Searches.PassContracts.{input_at}
use Rattle.automata_hybrid.proofs.Searches.Directions.{begins_alive, begins_dead}
use Rattle.automata_hybrid.proofs.Searches.PassContracts.{same_input}
use Rattle.automata_hybrid.proofs.Searches.Reads.{at_err}
use Rattle.automata_hybrid.proofs.Searches.Goes.{begun_here, ended_here, pass_dies, rest_passes, start_fails_pass}
use Rattle.automata_hybrid.proofs.Searches.PassState.{clean_start, false_true, starts_at, starts_dead, stops_start}
use Rattle.automata_hybrid.proofs.Storage.Sound.{sound_searched, sound_still}
use Rattle.automata_hybrid.proofs.search.pass.begin.Goals as goal
use Rattle.automata_hybrid.proofs.search.pass.begin.Goals.{After-get_earliest, After-rest, After-search_start}

-- rebuilding the input from its parts gives the input
same :
    (c : After-get_earliest)
    → input_at c.haystack.result.now c.get_span.result c.get_anchored.result c.get_earliest.result ≡ c.args.input.now
same c =
    same_input c.args.input.now c.haystack.result.now c.get_span.result c.get_anchored.result c.get_earliest.result
    c.haystack.ensures.same c.get_span.ensures.start c.get_span.ensures.end c.get_anchored.ensures
    c.get_earliest.ensures

-- the search has begun
begins :
    (c : After-search_start)
    → known_of c.search_start.new.self
    ≡ begun (given_up_offset c.args.way c.args.input.now 0) (known_of c.walk_start.new.cache)
begins c =
    begun_here c.args.way c.args.input.now c.span_offset-first.result c.walk_start.new.cache c.search_start.new.self
    (sym c.span_offset-first.ensures.value) c.search_start.ensures.value

-- the pass returns what its rest returns
rest_passed :
    (c : After-rest) (r : Result (Option HalfMatch) SearchError)
    → input_at c.haystack.result.now c.get_span.result c.get_anchored.result c.get_earliest.result ≡ c.args.input.now
    → known_of c.search_start.new.self
    ≡ begun (given_up_offset c.args.way c.args.input.now 0) (known_of c.walk_start.new.cache)
    → IsRest c.args.way c.args.dfa.now
    (input_at c.haystack.result.now c.get_span.result c.get_anchored.result c.get_earliest.result)
    (known_of c.search_start.new.self) (known_of c.rest.new.cache) r
    → IsPassResult c.args.way c.args.dfa.now c.args.input.now (known_of c.args.cache.now) (known_of c.rest.new.cache) r
rest_passed c r same begins rest =
    rest_passes c.args.way c.args.dfa.now c.args.input.now (known_of c.args.cache.now)
    (known_of c.walk_start.new.cache) (known_of c.search_start.new.self) (known_of c.rest.new.cache) r
    c.in-Ok.ensures.started.run begins
    (subst
    (λ (i : Input). IsRest c.args.way c.args.dfa.now i (known_of c.search_start.new.self)
    (known_of c.rest.new.cache) r)
    same rest)

pub rest-requires-clause-may : goal.rest-requires-clause-may
rest-requires-clause-may c =
    let same = same (goal.at.rest-requires-clause-may c).After-get_earliest in
    record {
      sound = sound_still c.search_start.ensures.value (sound_searched _ c.in-Ok.ensures.sound);
      allowed = subst IsAllowed (sym same) c.get_span.ensures.valid.within;
    }

pub rest-requires-clause-at : goal.rest-requires-clause-at
rest-requires-clause-at c =
    let d : Direction = c.args.way in
    let m = c.args.dfa.now in
    let same = same (goal.at.rest-requires-clause-at c).After-get_earliest in
    let at : IsKnownUpto d m c.search_start.new.self.store c.args.input.now 0 c.in-Ok.start None = record {
      within = omega arith;
      known = λ j below. absurd (omega (arith, below));
      at = record {
        undone = c.requires.«open»;
        may = c.in-Ok.ensures.started.answer.may;
        at =
            starts_at d m c.search_start.new.self.store.table c.args.input.now c.in-Ok.start
            (subst (λ (t : Rows). Names t c.in-Ok.start (state_in d m c.args.input.now 0))
            (sym c.search_start.ensures.table)
            (begins_alive d m c.walk_start.new.cache.store.table c.args.input.now c.in-Ok.start
            c.in-Ok.ensures.started.answer.named (c.in-Ok.ensures.sound.table.low c.in-Ok.start)
            c.in-Ok.ensures.sound.store.small (λ b. false_true (c.if-is_dead.ensures.1 b))));
      };
    } in
    subst (λ (i : Input). MayContinue d m c.search_start.new.self.store i 0 c.in-Ok.start) (sym same)
    (record { found = None; upto = at; there = λ q named. refl })

pub returns-in-Err-clause-passed : goal.returns-in-Err-clause-passed
returns-in-Err-clause-passed c =
    start_fails_pass c.args.way c.args.dfa.now c.args.input.now (known_of c.args.cache.now)
    (known_of c.walk_start.new.cache) c.in-Err.error c.in-Err.ensures.started

pub returns-then-is_dead-clause-passed : goal.returns-then-is_dead-clause-passed
returns-then-is_dead-clause-passed c =
    let d : Direction = c.args.way in
    let m = c.args.dfa.now in
    let first : ℕ = given_up_offset d c.args.input.now 0 in
    let dies : state_in d m c.args.input.now 0 ≡ dead =
    begins_dead d m c.walk_start.new.cache.store.table c.args.input.now c.in-Ok.start
    c.in-Ok.ensures.started.answer.named
    (c.in-Ok.ensures.sound.table.low c.in-Ok.start) c.in-Ok.ensures.sound.store.small
    (c.if-is_dead.ensures.0 refl) in
    record {
      answer = record {
        found = starts_dead d m c.args.input.now dies;
        clean = clean_start d m c.args.input.now dies c.in-Ok.ensures.started.answer.may.0;
        supported = c.in-Ok.ensures.started.answer.may.1;
      };
      ends = record {
        may = c.in-Ok.ensures.started.run.may;
        begun = begun first (known_of c.walk_start.new.cache);
        starts = ap (option_map (begun first)) c.in-Ok.ensures.started.run.does;
        ends =
            pass_dies d m c.args.input.now (begun first (known_of c.walk_start.new.cache))
            (known_of c.end_search.new.self) (stops_start d m c.args.input.now dies 0 (omega arith))
            (ended_here d c.args.input.now 0 c.span_offset-first.result c.search_start.new.self c.end_search.new.self
            (sym c.span_offset-first.ensures.value) c.end_search.ensures.value
            ∙ ap (ended first) (begins (goal.at.returns-then-is_dead-clause-passed c).After-search_start));
      };
    }

pub returns-clause-passed : goal.returns-clause-passed
returns-clause-passed c =
    let past = goal.at.returns-clause-passed c in
    rest_passed past.After-rest (Ok c.in_ok-found.found) (same past.After-get_earliest)
    (begins past.After-search_start) c.in_ok-found.ensures.rest

pub returns-in_err-found-clause-passed : goal.returns-in_err-found-clause-passed
returns-in_err-found-clause-passed c =
    let past = goal.at.returns-in_err-found-clause-passed c in
    at_err c.from_residual.result _
    (IsPassResult c.args.way c.args.dfa.now c.args.input.now (known_of c.args.cache.now) (known_of c.rest.new.cache))
    c.from_residual.ensures.1
    (rest_passed past.After-rest (Err c.in_err-found.field-0.0) (same past.After-get_earliest)
    (begins past.After-search_start) c.in_err-found.ensures.rest)

pub returns-then-is_dead-clause-sound : goal.returns-then-is_dead-clause-sound
returns-then-is_dead-clause-sound c =
    sound_still c.end_search.ensures.value (sound_searched _
    (sound_still c.search_start.ensures.value (sound_searched _ c.in-Ok.ensures.sound)))
