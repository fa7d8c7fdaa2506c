use Rattle.std.proofs.Common.{◌∙◌, ap, false, length, subst, Ok, Err}
use Rattle.std.proofs.lemmas.List.{length-replicate}
use Rattle.regex_automata.specs.Promises.{Input, IsHaystack}
use Rattle.patterns.proofs.Sets.{joins_empty, searches_empty, set_means}
use Rattle.patterns.proofs.set.RegexSet.which.Goals as goal

pub returns-in-Ok-clause-returned : goal.returns-in-Ok-clause-returned
returns-in-Ok-clause-returned c = record {
  reported = joins_empty c.args.self.now.dfa c.args.hay.now c.new-input.result c.pattern_len.result c.in_ok-found.found
      c.try_which_overlapping_matches.new.patset c.new-input.ensures.input c.in_ok-found.ensures.capacity
      c.pattern_len.ensures
      c.in-Ok.ensures.found;
  free = λ unhindered. tt;
}

pub returns-in-Ok-clause-found : goal.returns-in-Ok-clause-found
returns-in-Ok-clause-found c = λ o res is for.
    set_means c.args.self.now.dfa o res is c.args.hay.now for
    (subst (λ (v : Input). IsHaystack v.haystack) c.new-input.ensures.input c.new-input.ensures.valid.bytes)
    c.sets_have_matching.ensures
    c.try_which_overlapping_matches.new.patset
    (c.in-Ok.ensures.which.capacity ∙ ap length c.in_ok-found.ensures.capacity
    ∙ length-replicate c.pattern_len.result false
    ∙ c.pattern_len.ensures)
    (joins_empty c.args.self.now.dfa c.args.hay.now c.new-input.result c.pattern_len.result c.in_ok-found.found
    c.try_which_overlapping_matches.new.patset c.new-input.ensures.input c.in_ok-found.ensures.capacity
    c.pattern_len.ensures
    c.in-Ok.ensures.found)

pub returns-in-Ok-clause-effect : goal.returns-in-Ok-clause-effect
returns-in-Ok-clause-effect c =
    searches_empty c.args.self.now.dfa c.args.hay.now c.new-input.result c.pattern_len.result c.in_ok-found.found
    c.try_which_overlapping_matches.new.patset c.args.cache.now c.try_which_overlapping_matches.new.cache
    (Ok c.try_which_overlapping_matches.new.patset) c.new-input.ensures.input c.in_ok-found.ensures.capacity
    c.pattern_len.ensures c.in-Ok.ensures.effect

pub returns-in-Err-clause-effect : goal.returns-in-Err-clause-effect
returns-in-Err-clause-effect c =
    searches_empty c.args.self.now.dfa c.args.hay.now c.new-input.result c.pattern_len.result c.in_ok-found.found
    c.try_which_overlapping_matches.new.patset c.args.cache.now c.try_which_overlapping_matches.new.cache
    (Err c.in-Err.error) c.new-input.ensures.input c.in_ok-found.ensures.capacity c.pattern_len.ensures
    c.in-Err.ensures.effect
