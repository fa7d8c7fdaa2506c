use Rattle.std.proofs.Common.{sym, subst}
use Rattle.automata_hybrid.proofs.Words.{known_of, result_err}
use Rattle.automata_hybrid.specs.Known.Walks.{IsWalkRun}
use Rattle.automata_hybrid.specs.Walks.Answers.{IsWalkOf}
use Rattle.automata_hybrid.specs.Walks.Contracts.{IsWalkCall}
use Rattle.automata_hybrid.specs.Walks.State.{States, Walk}
use Rattle.automata_hybrid.proofs.dfa.DFA.try_search_overlapping.Goals as goal

pub call_held-requires-clause-walk : goal.call_held-requires-clause-walk
call_held-requires-clause-walk c =
    record {
      reported = subst (IsWalkOf c.args.way c.args.self.now c.args.input.now) (sym c.walk.view_is) c.requires.walk;
      itself = c.walk.invariant;
    }

pub returns-clause-walk : goal.returns-clause-walk
returns-clause-walk c = c.call_held.ensures.walk.reported

pub returns-clause-call : goal.returns-clause-call
returns-clause-call c =
    subst
    (λ (w : Walk). IsWalkCall c.args.way c.args.self.now c.args.input.now w c.call_held.new.walk c.call_held.result)
    c.walk.view_is c.call_held.ensures.call

pub returns-clause-effect : goal.returns-clause-effect
returns-clause-effect c =
    subst
    (λ (w : Walk). IsWalkRun States c.args.way c.args.self.now c.args.input.now w c.call_held.new.walk
    (known_of c.args.cache.now) (known_of c.call_held.new.cache) (result_err c.call_held.result))
    c.walk.view_is c.call_held.ensures.effect
