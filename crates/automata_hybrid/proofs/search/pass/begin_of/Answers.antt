use Rattle.std.proofs.Common.{subst}
use Rattle.automata_hybrid.proofs.Words.{Input, known_of}
use Rattle.automata_hybrid.specs.Private.Searches.PassContracts.{IsPassResult}
use Rattle.automata_hybrid.proofs.search.pass.begin_of.Goals as goal

pub returns-clause-passed : goal.returns-clause-passed
returns-clause-passed c =
    subst
    (λ (i : Input). IsPassResult c.args.way c.args.dfa.now i (known_of c.args.cache.now) (known_of c.begin.new.cache)
    c.begin.result)
    c.input_of-own.ensures c.begin.ensures.passed
