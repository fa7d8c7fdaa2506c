use Rattle.std.proofs.Common.{ℕ, ◌≡◌, ◌+◌, ◌<◌, ◌∙◌, Bool, List, [], true, ap, arith, get_or, length, subst, sym, take}
use Rattle.std.specs.Prelude.{slice_set}
use Rattle.std.proofs.lemmas.List.{take_all}
use Rattle.regex_hir.specs.Re.{Re}
use Rattle.meaning.specs.Patterns.{any_of}
use Rattle.meta.specs.Caches.{HasRoomOf}
use Rattle.meta.specs.Groups.{FindAllGroups, FindsGroups}
use Rattle.meta.specs.Sets.{is_found_from, joined_with}
use Rattle.meta.specs.declared.program.Program.{Program}
use Rattle.meta.proofs.Joining.{count_all, finds_at, inserted, joined_next, joined_short, length-joined_with}
use Rattle.meta.proofs.Rooms.{room_at, rooms_set}
use Rattle.meta.proofs.program.Programs.which.Goals.{then-has_match, else-has_match}
use Rattle.meta.proofs.program.Programs.which.Goals as goal

pub returns-then-number-capacity-clause-found : goal.returns-then-number-capacity-clause-found
returns-then-number-capacity-clause-found c = λ res all.
    let test = is_found_from c.args.self.now.utf8 c.args.hay.now c.args.start in
    let e = c.programs.invariant.1 res all in
    e
    ∙ joined_short test res c.programs.number c.args.found.now
    (omega (
      arith,
      c.if-number-capacity.true,
      c.capacity.ensures,
      ap length e,
      length-joined_with test (take c.programs.number res) c.args.found.now,
    ))

pub has_match-requires : goal.has_match-requires
has_match-requires c =
    let i = c.programs.number in
    subst (λ (p : Program). HasRoomOf p (get_or c.programs.simulations i c.index-simulations-number.result))
    (sym c.index.ensures)
    (room_at c.programs.simulations c.args.self.now.list.items i c.index-simulations-number.result c.index.result.now
    c.programs.invariant.0
    (omega (arith, c.programs-test.true, c.len-number-end.ensures, c.args.self.now.list.ok.0)))

pub programs-preserved : goal.programs-preserved
programs-preserved c =
    let ps = c.args.self.now.list.items in
    let i = c.programs.number in
    let item = c.index.result.now in
    let now = c.programs.found in
    let test = is_found_from c.args.self.now.utf8 c.args.hay.now c.args.start in
    let d : Re = any_of [] in
    let inside : i < length ps =
    omega (arith, c.programs-test.true, c.len-number-end.ensures, c.args.self.now.list.ok.0) in
    let next : (res : List Re) → FindAllGroups ps res
    → inserted c.has_match.result now i ≡ joined_with test (take (i + 1) res) c.args.found.now =
    λ res all.
    ap (λ (b : Bool). inserted b now i)
    (c.has_match.ensures.found (get_or res i d)
    (subst (λ (p : Program). FindsGroups p.nfa (get_or res i d)) (sym c.index.ensures)
    (finds_at ps res i item d all inside)))
    ∙ joined_next test res i d c.args.found.now now (omega (arith, inside, count_all ps res all))
    (c.programs.invariant.1 res all) in (
      rooms_set c.programs.simulations ps i c.has_match.new.self c.index-simulations-number.result item
          c.programs.invariant.0 inside
          (subst (λ (p : Program). HasRoomOf p c.has_match.new.self) c.index.ensures c.has_match.ensures.of),
      λ res all. elim c.if-has_match.branch [
        | then-has_match w ↦
            w.found-is ∙ w.try_insert.ensures.inserted
            ∙ ap (λ (n : ℕ). slice_set now n true) w.new_unchecked.ensures
            ∙ sym (ap (λ (b : Bool). inserted b now i) w.if-has_match.true)
            ∙ next res all
        | else-has_match w ↦
            w.found-is
            ∙ sym (ap (λ (b : Bool). inserted b now i) w.if-has_match.false)
            ∙ next res all
      ],
    )

pub returns-clause-found : goal.returns-clause-found
returns-clause-found c = λ res all.
    let test = is_found_from c.args.self.now.utf8 c.args.hay.now c.args.start in
    c.programs.invariant.1 res all
    ∙ ap (λ (v : List Re). joined_with test v c.args.found.now)
    (take_all c.programs.number res
    (omega (
      arith,
      c.programs-test.false,
      c.len-number-end.ensures,
      c.args.self.now.list.ok.0,
      count_all c.args.self.now.list.items res all,
    )))
