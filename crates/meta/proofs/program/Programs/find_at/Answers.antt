use Rattle.std.proofs.Common.{ℕ, ◌+◌, ◌<◌, ◌≤◌, ◌∙◌, Option, None, Some, arith, ap, get_or}
use Rattle.std.proofs.Common.{length, subst, sym, take}
use Rattle.std.specs.Prelude.{IfSome}
use Rattle.std.proofs.lemmas.List.{take_all}
use Rattle.automata_base.specs.Haystacks.Matches.{Match}
use Rattle.meta.specs.Caches.{HasRoomOf}
use Rattle.meta.specs.Simulations.{IsSimulatedSpan}
use Rattle.meta.specs.declared.program.Program.{Program}
use Rattle.meta.proofs.Leftmost.{IsLeftmostOf, are_bytes, end_in, found_lies, leftmost_is, searched_next}
use Rattle.meta.proofs.Rooms.{room_at, rooms_set}
use Rattle.meta.proofs.program.Programs.find_at.Goals.{in-Some, in_default}
use Rattle.meta.proofs.program.Programs.find_at.Goals as goal

pub find-requires-clause-of : goal.find-requires-clause-of
find-requires-clause-of c =
    let i = c.programs.number in
    subst (λ (p : Program). HasRoomOf p (get_or c.programs.simulations i c.index-simulations-number.result))
    (sym c.index.ensures)
    (room_at c.programs.simulations c.args.self.now.list.items i c.index-simulations-number.result c.index.result.now
    c.programs.invariant.0
    (omega (arith, c.programs-test.true, c.len-number-end.ensures, c.args.self.now.list.ok.0)))

pub programs-preserved : goal.programs-preserved
programs-preserved c =
    let ps = c.args.self.now.list.items in
    let i = c.programs.number in
    let item = c.index.result.now in
    let found = c.programs.found in
    let inside : i < length ps =
    omega (arith, c.programs-test.true, c.len-number-end.ensures, c.args.self.now.list.ok.0) in
    let Leftmost : Option Match → Type 0 =
    IsLeftmostOf c.args.self.now.utf8 (take (i + 1) ps) c.args.hay.now c.args.start in
    let rooms =
    rooms_set c.programs.simulations ps i c.find.new.self c.index-simulations-number.result item c.programs.invariant.0
    inside (subst (λ (p : Program). HasRoomOf p c.find.new.self) c.index.ensures c.find.ensures.of) in
    let next : (r : Option (ℕ × ℕ))
    → IsSimulatedSpan c.args.self.now.utf8 item c.args.hay.now c.args.start c.programs.end r → _ =
    λ r at. searched_next c.args.self.now.utf8 c.args.hay.now c.args.start ps i item found r inside
    c.programs.invariant.3
    (subst (λ (p : Program). IsSimulatedSpan c.args.self.now.utf8 p c.args.hay.now c.args.start
    (end_in c.args.hay.now found) r) c.index.ensures
    (subst (λ (n : ℕ). IsSimulatedSpan c.args.self.now.utf8 item c.args.hay.now c.args.start n r)
    c.programs.invariant.1 at)) in
    elim c.match-find.branch [
      | in-Some w ↦
          let is = w.found-is ∙ ap Some w.match_of.ensures in (
            rooms,
            w.end-is ∙ sym (ap (end_in c.args.hay.now) is),
            subst (λ (o : Option Match). IfSome o (λ m. m.end ≤ length c.args.hay.now)) (sym is)
                w.in-Some.ensures.within.1,
            subst Leftmost (sym is) (next (Some w.in-Some.span) w.in-Some.ensures.found),
          )
      | in_default w ↦ (
        rooms,
        w.end-is ∙ c.programs.invariant.1 ∙ sym (ap (end_in c.args.hay.now) w.found-is),
        subst (λ (o : Option Match). IfSome o (λ m. m.end ≤ length c.args.hay.now)) (sym w.found-is)
            c.programs.invariant.2,
        subst Leftmost (sym w.found-is) (next None w.in_default.ensures.found),
      )
    ]

pub returns-clause-found : goal.returns-clause-found
returns-clause-found c = λ res all.
    leftmost_is c.args.self.now.utf8 c.args.self.now.list.items res c.args.hay.now c.args.start c.programs.found
    (are_bytes c.args.hay.now (λ i. let fits = c.type_inv.hay i in omega (arith, fits))) all
    (subst (λ ps. IsLeftmostOf c.args.self.now.utf8 ps c.args.hay.now c.args.start c.programs.found)
    (take_all c.programs.number c.args.self.now.list.items
    (omega (arith, c.programs-test.false, c.len-number-end.ensures, c.args.self.now.list.ok.0))) c.programs.invariant.3)

pub returns-clause-within : goal.returns-clause-within
returns-clause-within c =
    found_lies c.args.self.now.utf8 c.args.hay.now c.args.start (take c.programs.number c.args.self.now.list.items)
    c.programs.found c.programs.invariant.3 c.programs.invariant.2
