use Rattle.std.proofs.Common.{ℕ, ◌≡◌, ◌∙◌, ◌-◌, List, length, get_or, sym, ap, arith}
use Rattle.std.proofs.lemmas.Option.{slice_get_past}
use Rattle.automata_hybrid.proofs.Words.{byte_before}
use Rattle.automata_hybrid.proofs.Searches.Units.{nth_read}
use Rattle.automata_hybrid.proofs.Searches.Directions.{backward_within, before_read, unit_backward, unit_forward}
use Rattle.automata_hybrid.proofs.search.direction.unit_at.Goals as goal

pub returns-then-at-eq0 : goal.returns-then-at-eq0
returns-then-at-eq0 c =
    sym (unit_backward c.args.way c.args.input.now c.args.place c.place_offset-at.result c.in-Backward.is
    c.requires.«open» c.requires.within c.haystack-haystack.ensures.valid.within.1 c.place_offset-at.ensures.value
    ∙ ap (byte_before c.args.input.now.haystack) c.if-at-eq0.true)

pub returns-else-at-eq0 : goal.returns-else-at-eq0
returns-else-at-eq0 c =
    let h : length c.haystack-haystack.result.now ≡ length c.args.input.now.haystack =
    ap (λ (x : List ℕ). length x) c.haystack-haystack.ensures.same in
    sym (unit_backward c.args.way c.args.input.now c.args.place c.place_offset-at.result c.in-Backward.is
    c.requires.«open» c.requires.within c.haystack-haystack.ensures.valid.within.1 c.place_offset-at.ensures.value
    ∙ before_read c.args.input.now.haystack c.place_offset-at.result (c.place_offset-at.result - 1) _
    (omega (arith, c.if-at-eq0.false))
    (omega (
      arith,
      h,
      c.if-at-eq0.false,
      c.haystack-haystack.ensures.valid.within.1,
      backward_within c.args.way
          c.args.input.now c.args.place c.place_offset-at.result c.in-Backward.is c.place_offset-at.ensures.value,
    ))
    (ap (λ (x : List ℕ). get_or x (c.place_offset-at.result - 1) 0) c.haystack-haystack.ensures.same))

pub returns-then-at-haystack : goal.returns-then-at-haystack
returns-then-at-haystack c =
    let h : length c.haystack-haystack.result.now ≡ length c.args.input.now.haystack =
    ap (λ (x : List ℕ). length x) c.haystack-haystack.ensures.same in
    sym (unit_forward c.args.way c.args.input.now c.args.place c.place_offset-at.result c.in-Forward.is
    c.requires.«open» c.requires.within c.haystack-haystack.ensures.valid.within.1 c.place_offset-at.ensures.value
    ∙ nth_read c.args.input.now.haystack c.place_offset-at.result _ 0 (omega (arith, h, c.if-at-haystack.true))
    (ap (λ (x : List ℕ). get_or x c.place_offset-at.result 0) c.haystack-haystack.ensures.same))

pub returns-else-at-haystack : goal.returns-else-at-haystack
returns-else-at-haystack c =
    let h : length c.haystack-haystack.result.now ≡ length c.args.input.now.haystack =
    ap (λ (x : List ℕ). length x) c.haystack-haystack.ensures.same in
    sym (unit_forward c.args.way c.args.input.now c.args.place c.place_offset-at.result c.in-Forward.is
    c.requires.«open» c.requires.within c.haystack-haystack.ensures.valid.within.1 c.place_offset-at.ensures.value
    ∙ slice_get_past c.args.input.now.haystack c.place_offset-at.result (omega (arith, h, c.if-at-haystack.false)))
