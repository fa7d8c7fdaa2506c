use Rattle.std.proofs.Common.{◌∙◌, ap, is_some, subst}
use Rattle.automata_determinize.specs.Laws.Walks.{AllPairsAreReported, WalksAreReported}
use Rattle.automata_base.specs.Nfas.Nodes.{Automaton}
use Rattle.regex_automata.specs.Promises.{Input, IsHaystack}
use Rattle.patterns.proofs.Sets.{any_means, first_match}
use Rattle.patterns.proofs.set.RegexSet.is_match.Goals as goal

pub returns-in-Ok-clause-returned : goal.returns-in-Ok-clause-returned
returns-in-Ok-clause-returned c = record {
  reported = λ pairs walked. c.is_some.ensures ∙ ap is_some (c.get_match.ensures
      ∙ first_match c.args.self.now.dfa c.args.hay.now c.new-input.result c.start-state.result
      c.try_search_overlapping_fwd.new.state
      c.new-input.ensures.input c.start-state.ensures c.in-Ok.ensures.call.reports pairs walked);
  free = λ unhindered. tt;
}

pub returns-in-Ok-clause-found : goal.returns-in-Ok-clause-found
returns-in-Ok-clause-found c = λ o res is for.
    let m = c.args.self.now.dfa in
    c.is_some.ensures ∙ ap is_some c.get_match.ensures
    ∙ any_means m o res is c.args.hay.now for
    (subst (λ (v : Input). IsHaystack v.haystack) c.new-input.ensures.input c.new-input.ensures.valid.bytes)
    (subst (λ (a : Automaton). WalksAreReported a) c.get_nfa.ensures c.walk_is_right.ensures.reported)
    (subst (λ (a : Automaton). AllPairsAreReported a) c.get_nfa.ensures c.walk_is_right.ensures.all)
    c.try_search_overlapping_fwd.new.state.found
    (first_match m c.args.hay.now c.new-input.result c.start-state.result c.try_search_overlapping_fwd.new.state
    c.new-input.ensures.input c.start-state.ensures c.in-Ok.ensures.call.reports)
