use Rattle.std.proofs.Common.{◌≡◌, get_or, refl, subst}
use Rattle.replay.specs.Players.{MakesOneCall, MakesWalkStep}
use Rattle.replay.specs.declared.walks.KeptWalk.{KeptWalk}
use Rattle.std.proofs.lemmas.Option.{get_or_from_slice_get}
use Rattle.replay.proofs.walks.step_at.Goals as goal

pub returns-clause-goes : goal.returns-clause-goes
returns-clause-goes c = λ old is.
    let r = c.args.regex.now in
    let at = get_or c.args.walks.now c.args.number c.index-walks-number.result in
    let e : at ≡ old = get_or_from_slice_get c.args.walks.now c.args.number old c.index-walks-number.result is in
    let new : KeptWalk = record at { state = c.step.new.state } in
    let s = c.step.ensures.call in
    let g : MakesOneCall r at new c.step.result =
    record { regex = refl; way = refl; input = refl; step = s.step; reported = s.reported; kept = s.kept } in
    (new, subst (λ (x : KeptWalk). MakesOneCall r x new c.step.result) e g, refl)

pub returns-clause-made : goal.returns-clause-made
returns-clause-made c = λ old is.
    let at = get_or c.args.walks.now c.args.number c.index-walks-number.result in
    let e : at ≡ old = get_or_from_slice_get c.args.walks.now c.args.number old c.index-walks-number.result is in
    subst (λ (x : KeptWalk). MakesWalkStep c.args.regex.now x c.args.cache.now c.step.new.cache c.step.result) e
    (c.step.ensures.made, c.step.ensures.same)
