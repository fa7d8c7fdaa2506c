use Rattle.std.proofs.Common.{subst, sym}
use Rattle.meaning.specs.Patterns.{IsFirstLeft, left_any}
use Rattle.meta.proofs.Following.{first_is}
use Rattle.meta.proofs.program.Programs.next_match.Goals as goal

pub returns-in-None-clause-found : goal.returns-in-None-clause-found
returns-in-None-clause-found c = λ res all.
    subst (λ last. IsFirstLeft (left_any c.args.self.now.utf8 res c.args.hay.now) last c.find_at.result)
    (sym c.in-None.is)
    (first_is c.args.self.now.utf8 res c.args.hay.now c.find_at.result (c.find_at.ensures.found res all))
