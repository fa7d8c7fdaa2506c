use Rattle.std.proofs.Common.{None, Some, rules, subst, sym}
use Rattle.core.specs.Str.{IsValidUpTo}
use Rattle.meta.specs.Names.{group_names}
use Rattle.lazydfa_c.specs.Groups.{IsFirstNamed, IsLookedUp, IsNoName}
use Rattle.lazydfa_c.proofs.names.look_up.Goals as goal

pub returns-in-Err-clause-told : goal.returns-in-Err-clause-told
returns-in-Err-clause-told c =
    IsNoName _ (subst (IsValidUpTo c.args.name.now) (sym c.valid_up_to.ensures) c.in-Err.ensures.cases.1) c.at.ensures

pub returns-in-Some-clause-told : goal.returns-in-Some-clause-told
returns-in-Some-clause-told c =
    IsLookedUp (Some c.in-Some.index)
    (subst (λ name. IsFirstNamed (group_names c.args.programs.now c.args.pattern) name (Some c.in-Some.index))
    c.in-Ok.ensures.cases.0 c.in-Some.ensures) (search rules)

pub returns-in-None-clause-told : goal.returns-in-None-clause-told
returns-in-None-clause-told c =
    IsLookedUp None
    (subst (λ name. IsFirstNamed (group_names c.args.programs.now c.args.pattern) name None)
    c.in-Ok.ensures.cases.0 c.in-None.ensures) (search rules)
