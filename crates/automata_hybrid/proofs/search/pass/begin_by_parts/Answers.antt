use Rattle.std.proofs.Common.{◌≡◌, subst}
use Rattle.automata_hybrid.proofs.Words.{Err, Input, known_of, Ok}
use Rattle.automata_hybrid.specs.Private.Searches.PassContracts.{IsPassResult, input_at}
use Rattle.automata_hybrid.proofs.Searches.PassContracts.{same_input}
use Rattle.automata_hybrid.proofs.search.pass.begin_by_parts.Goals as goal
use Rattle.automata_hybrid.proofs.search.pass.begin_by_parts.Goals.{After-begin_of}

-- rebuilding the input from its parts gives the input
same :
    (c : After-begin_of)
    → input_at c.haystack.result.now c.get_span.result c.get_anchored.result c.get_earliest.result ≡ c.args.input.now
same c =
    same_input c.args.input.now c.haystack.result.now c.get_span.result c.get_anchored.result c.get_earliest.result
    c.haystack.ensures.same c.get_span.ensures.start c.get_span.ensures.end c.get_anchored.ensures
    c.get_earliest.ensures

pub returns-in-Ok-clause-passed : goal.returns-in-Ok-clause-passed
returns-in-Ok-clause-passed c =
    subst
    (λ (i : Input). IsPassResult c.args.way c.args.dfa.now i (known_of c.args.cache.now)
    (known_of c.begin_of.new.cache) (Ok c.in-Ok.found))
    (same (goal.at.returns-in-Ok-clause-passed c).After-begin_of) c.in-Ok.ensures.passed

pub returns-in-Err-clause-passed : goal.returns-in-Err-clause-passed
returns-in-Err-clause-passed c =
    subst
    (λ (i : Input). IsPassResult c.args.way c.args.dfa.now i (known_of c.args.cache.now)
    (known_of c.begin_of.new.cache) (Err c.in-Err.error))
    (same (goal.at.returns-in-Err-clause-passed c).After-begin_of) c.in-Err.ensures.passed
