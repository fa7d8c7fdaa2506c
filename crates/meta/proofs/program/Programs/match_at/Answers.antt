use Rattle.std.proofs.Common.{◌+◌, ◌<◌, ◌∙◌, None, Some, ap, arith, get_or, length, subst, sym}
use Rattle.std.proofs.lemmas.List.{take_all}
use Rattle.meta.specs.Caches.{HasRoomOf}
use Rattle.meta.specs.Simulations.{IsSimulatedSpan}
use Rattle.meta.specs.declared.program.Program.{Program}
use Rattle.meta.proofs.Anchoring.{NoneMatches, none_is, none_next, some_is}
use Rattle.meta.proofs.Leftmost.{are_bytes}
use Rattle.meta.proofs.Rooms.{room_at, rooms_set}
use Rattle.meta.proofs.program.Programs.match_at.Goals as goal

pub find-requires-clause-of : goal.find-requires-clause-of
find-requires-clause-of c =
    let i = c.programs.number in
    subst (λ (p : Program). HasRoomOf p (get_or c.programs.simulations i c.index-simulations-number.result))
    (sym c.index.ensures)
    (room_at c.programs.simulations c.args.self.now.list.items i c.index-simulations-number.result c.index.result.now
    c.programs.invariant.0
    (omega (arith, c.programs-test.true, c.len-number-end.ensures, c.args.self.now.list.ok.0)))

pub returns-in-Some-clause-found : goal.returns-in-Some-clause-found
returns-in-Some-clause-found c = λ res all.
    ap Some c.match_of.ensures
    ∙ some_is c.args.self.now.utf8 c.args.hay.now c.args.at c.index.result.now c.in-Some.span c.in-Some.ensures.found
    c.args.self.now.list.items res c.programs.number
    (are_bytes c.args.hay.now (λ i. let fits = c.type_inv.hay i in omega (arith, fits))) all
    (omega (arith, c.programs-test.true, c.len-number-end.ensures, c.args.self.now.list.ok.0))
    (sym c.index.ensures) c.programs.invariant.1

pub returns-in-Some-clause-rooms : goal.returns-in-Some-clause-rooms
returns-in-Some-clause-rooms c =
    rooms_set c.programs.simulations c.args.self.now.list.items c.programs.number c.find.new.self
    c.index-simulations-number.result c.index.result.now c.programs.invariant.0
    (omega (arith, c.programs-test.true, c.len-number-end.ensures, c.args.self.now.list.ok.0))
    (subst (λ (p : Program). HasRoomOf p c.find.new.self) c.index.ensures c.find.ensures.of)

pub programs-preserved : goal.programs-preserved
programs-preserved c =
    let ps = c.args.self.now.list.items in
    let i = c.programs.number in
    let inside : i < length ps =
    omega (arith, c.programs-test.true, c.len-number-end.ensures, c.args.self.now.list.ok.0) in (
      rooms_set c.programs.simulations ps i c.find.new.self c.index-simulations-number.result c.index.result.now
          c.programs.invariant.0 inside
          (subst (λ (p : Program). HasRoomOf p c.find.new.self) c.index.ensures c.find.ensures.of),
      none_next c.args.self.now.utf8 c.args.hay.now c.args.at ps i c.index.result.now inside c.programs.invariant.1
          (subst (λ (p : Program). IsSimulatedSpan c.args.self.now.utf8 p c.args.hay.now c.args.at (c.args.at + 1) None)
          c.index.ensures c.in_default.ensures.found),
    )

pub returns-clause-found : goal.returns-clause-found
returns-clause-found c = λ res all.
    none_is c.args.self.now.utf8 c.args.hay.now c.args.at c.args.self.now.list.items res
    (are_bytes c.args.hay.now (λ i. let fits = c.type_inv.hay i in omega (arith, fits))) all
    (subst (NoneMatches c.args.self.now.utf8 c.args.hay.now c.args.at)
    (take_all c.programs.number c.args.self.now.list.items
    (omega (arith, c.programs-test.false, c.len-number-end.ensures, c.args.self.now.list.ok.0))) c.programs.invariant.1)
