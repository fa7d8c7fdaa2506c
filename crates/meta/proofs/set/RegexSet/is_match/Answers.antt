use Rattle.meta.specs.RegexSets.{MaySearchByDfa, MustSimulateAll}
use Rattle.meta.proofs.Answering.{set_is_for, tested}
use Rattle.meta.proofs.set.RegexSet.is_match.Goals as goal

pub returns-in-Ok-clause-found : goal.returns-in-Ok-clause-found
returns-in-Ok-clause-found c = λ o res is text.
    let set = c.args.self.now in
    let hay = c.args.hay.now in
    c.in-Ok.ensures.found _ res is.dfa
    (set_is_for o set hay text
    (tested (MaySearchByDfa set hay) (MustSimulateAll set hay) c.suits_dfa.result c.suits_dfa.ensures
    c.if-not-suits_dfa.false))
