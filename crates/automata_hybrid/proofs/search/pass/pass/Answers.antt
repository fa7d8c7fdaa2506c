use Rattle.automata_hybrid.proofs.Words.{begun, CacheView, Direction, Err, given_up_offset, HalfMatch, Input, known_of}
use Rattle.automata_hybrid.proofs.Words.{Ok, option_map, Result, saturated, SearchError, total_len, with_searched}
use Rattle.automata_hybrid.proofs.Words.{with_store}
use Rattle.std.proofs.Common.{ℕ, Option, ◌≡◌, ◌+◌, ◌<◌, ◌^◌, None, ap, subst, sym, arith}
use Rattle.std.proofs.lemmas.Grind.{common_steps}
use Rattle.automata_base.specs.Haystacks.Input.{IsAllowed}
use Rattle.automata_hybrid.specs.Private.Searches.PassContracts.{IsPassResult, IsRest, MayContinue, input_at}
use Rattle.automata_hybrid.proofs.Searches.Directions.{begins_alive}
use Rattle.automata_hybrid.proofs.Searches.KnownPasses.{known_ended}
use Rattle.automata_hybrid.proofs.Searches.PassContracts.{same_input}
use Rattle.automata_hybrid.proofs.Searches.Goes.{begun_here, rest_passes}
use Rattle.automata_hybrid.proofs.Searches.PassState.{starts_at}
use Rattle.automata_hybrid.proofs.Searches.Units.{units_in}
use Rattle.automata_hybrid.proofs.Steps.Ids.{low_bit}
use Rattle.automata_hybrid.proofs.Storage.Sound.{sound_searched, sound_still}
use Rattle.automata_hybrid.proofs.search.pass.pass.Goals as goal
use Rattle.automata_hybrid.proofs.search.pass.pass.Goals.{After-get_earliest, After-rest}

-- rebuilding the input from its parts gives the input
same :
    (c : After-get_earliest)
    → input_at c.haystack.result.now c.get_span.result c.get_anchored.result c.get_earliest.result
    ≡ c.args.input.now
same c =
    same_input c.args.input.now c.haystack.result.now c.get_span.result c.get_anchored.result
    c.get_earliest.result c.haystack.ensures.same c.get_span.ensures.start c.get_span.ensures.end
    c.get_anchored.ensures c.get_earliest.ensures

-- the pass returns what its rest returns
rest_passed :
    (c : After-rest) (r : Result (Option HalfMatch) SearchError)
    → input_at c.haystack.result.now c.get_span.result c.get_anchored.result c.get_earliest.result
    ≡ c.args.input.now
    → IsRest c.args.way c.args.dfa.now
    (input_at c.haystack.result.now c.get_span.result c.get_anchored.result c.get_earliest.result)
    (known_of c.search_start.new.self) (known_of c.rest.new.cache) r
    → IsPassResult c.args.way c.args.dfa.now c.args.input.now (known_of c.args.cache.now) (known_of c.rest.new.cache) r
rest_passed c r same rest =
    let low : c.known_start-start.result < 2 ^ 31 = grind (arith, common_steps, c.if-is_fixed.ensures) in
    rest_passes c.args.way c.args.dfa.now c.args.input.now (known_of c.args.cache.now) (known_of c.args.cache.now)
    (known_of c.search_start.new.self) (known_of c.rest.new.cache) r (c.known_start-start.ensures.run low)
    (begun_here c.args.way c.args.input.now c.span_offset.result c.args.cache.now c.search_start.new.self
    (sym c.span_offset.ensures.value) c.search_start.ensures.value)
    (subst
    (λ (i : Input). IsRest c.args.way c.args.dfa.now i (known_of c.search_start.new.self)
    (known_of c.rest.new.cache) r)
    same rest)

pub known_pass-requires-clause-at : goal.known_pass-requires-clause-at
known_pass-requires-clause-at c =
    let start : ℕ = c.known_start-start.result in
    let low : start < 2 ^ 31 = grind (arith, common_steps, c.if-is_fixed.ensures) in
    let a = c.known_start-start.ensures.answer low in
    record {
      undone = c.requires.«open»;
      may = a.may;
      at =
          starts_at c.args.way c.args.dfa.now c.args.cache.now.store.table c.args.input.now start
          (begins_alive c.args.way c.args.dfa.now c.args.cache.now.store.table c.args.input.now start a.named
          (c.requires.sound.table.low start) c.requires.sound.store.small
          (λ b. (
          let l : start < 2 ^ 29 = grind (arith, common_steps, c.if-is_fixed.ensures) in
          low_bit 30 start (omega (arith, l)) b)));
    }

pub returns-in-Ended-clause-passed : goal.returns-in-Ended-clause-passed
returns-in-Ended-clause-passed c =
    let d : Direction = c.args.way in
    let old = c.args.cache.now in
    let low : c.known_start-start.result < 2 ^ 31 = grind (arith, common_steps, c.if-is_fixed.ensures) in
    let run = c.known_start-start.ensures.run low in
    let end = c.in-Ended.ensures.stop in
    let counted =
    subst
    (λ n. c.count_search.new.self ≡ with_store old
    (with_searched old.store (record { bytes = saturated (total_len old.store.searched + n); running = None })))
    c.bytes_read.ensures c.count_search.ensures.value in
    record {
      answer = end.1.answer;
      ends = record {
        may = run.may;
        begun = begun (given_up_offset d c.args.input.now 0) (known_of old);
        starts = ap (option_map (begun (given_up_offset d c.args.input.now 0))) run.does;
        ends =
            known_ended d c.args.dfa.now c.args.input.now c.in-Ended.at end.0 old c.in-Ended.found
            c.count_search.new.self c.requires.sound.machine
            (units_in d c.args.input.now
            (c.in-Ended.ensures.valid.bytes, c.in-Ended.ensures.valid.within.1) c.requires.«open»)
            end.1 c.requires.sound.store counted;
      };
    }

pub rest-requires-clause-may : goal.rest-requires-clause-may
rest-requires-clause-may c =
    let same = same (goal.at.rest-requires-clause-may c).After-get_earliest in
    record {
      sound = sound_still c.search_start.ensures.value (sound_searched _ c.requires.sound);
      allowed = subst IsAllowed (sym same) c.get_span.ensures.valid.within;
    }

pub rest-requires-clause-at : goal.rest-requires-clause-at
rest-requires-clause-at c =
    let d : Direction = c.args.way in
    let m = c.args.dfa.now in
    let from = c.in-Left.from in
    let same = same (goal.at.rest-requires-clause-at c).After-get_earliest in
    let k : MayContinue d m c.args.cache.now.store c.args.input.now from.at from.id = c.in-Left.ensures.stop in
    subst (λ (i : Input). MayContinue d m c.search_start.new.self.store i from.at from.id) (sym same)
    (subst (λ (v : CacheView). MayContinue d m v.store c.args.input.now from.at from.id)
    (sym c.search_start.ensures.value)
    (record {
      found = k.found;
      upto = record { within = k.upto.within; at = k.upto.at; known = k.upto.known };
      there = k.there;
    }))

pub returns-in-Ok-clause-passed : goal.returns-in-Ok-clause-passed
returns-in-Ok-clause-passed c =
    let past = goal.at.returns-in-Ok-clause-passed c in
    rest_passed past.After-rest (Ok c.in-Ok.found) (same past.After-get_earliest) c.in-Ok.ensures.rest

pub returns-in-Err-clause-passed : goal.returns-in-Err-clause-passed
returns-in-Err-clause-passed c =
    let past = goal.at.returns-in-Err-clause-passed c in
    rest_passed past.After-rest (Err c.in-Err.error) (same past.After-get_earliest) c.in-Err.ensures.rest

pub returns-in-Ended-clause-sound : goal.returns-in-Ended-clause-sound
returns-in-Ended-clause-sound c =
    sound_still c.count_search.ensures.value (sound_searched _ c.requires.sound)
