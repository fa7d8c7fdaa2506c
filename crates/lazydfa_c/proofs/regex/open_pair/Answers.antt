use Rattle.std.proofs.Common.{None, false, refl, subst, sym}
use Rattle.automata_config.specs.Options.{overwritten, unset}
use Rattle.lazydfa_c.specs.Builds.{AreKeeping, IsKeepingPairOf, RefusesRegex}
use Rattle.lazydfa_c.proofs.Opening.{opens}
use Rattle.lazydfa_c.proofs.regex.open_pair.Goals as goal

pub returns-in-Ok : goal.returns-in-Ok
returns-in-Ok c =
    let keeping : AreKeeping c.args.nfas.0 c.args.nfas.1 c.keeping_unions-front.result c.keeping_unions-back.result =
    record { ahead = c.keeping_unions-front.ensures.same; behind = c.keeping_unions-back.ensures.same } in
    let made =
    subst (IsKeepingPairOf (overwritten unset c.args.config) c.args.nfas.0 c.args.nfas.1)
    (sym c.from_regex.ensures.regex)
    (c.keeping_unions-front.result, c.keeping_unions-back.result, keeping, c.in-Ok.ensures.built) in
    opens _ _ (record { pattern = c.from_regex.result; programs = None; words = false }) c.args.handle.now
    c.open.new.handle c.open.result
    ((made, c.from_regex.ensures.plain, refl, refl), c.from_regex.ensures.waits)
    c.open.ensures.opened c.open.ensures.same c.open.ensures.err

pub returns-in-Err : goal.returns-in-Err
returns-in-Err c =
    let keeping : AreKeeping c.args.nfas.0 c.args.nfas.1 c.keeping_unions-front.result c.keeping_unions-back.result =
    record { ahead = c.keeping_unions-front.ensures.same; behind = c.keeping_unions-back.ensures.same } in (
      refl,
      RefusesRegex (c.keeping_unions-front.result, c.keeping_unions-back.result, keeping, c.in-Err.ensures.refused),
    )
