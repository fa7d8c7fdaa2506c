use Rattle.std.proofs.Common.{ℕ, ◌+◌, ◌*◌, subst, sym}
use Rattle.automata_base.specs.Nfas.Shapes.{CaptureShape}
use Rattle.lazydfa_c.specs.Drafts.{AddsGroup, AddsTo, PassesState}
use Rattle.lazydfa_c.specs.declared.builder.Added.{Added}
use Rattle.lazydfa_c.proofs.States.{state_is}
use Rattle.lazydfa_c.proofs.builder.add_to.Goals as goal

pub returns-in_ok-state_id-in-CaptureStart : goal.returns-in_ok-state_id-in-CaptureStart
returns-in_ok-state_id-in-CaptureStart c =
    let b = c.args.builder.now in let d = c.add_capture_start.new.self in let r = c.add_capture_start.result in
    let next = c.in-CaptureStart.next in let group = c.in-CaptureStart.group in
    let is = state_is next c.in_ok-state_id-in-CaptureStart.field-0 c.in_ok-state_id-in-CaptureStart.ensures in
    let e = c.add_capture_start.ensures in
    let done =
    subst (λ (n : ℕ). AddsGroup group (λ p. CaptureShape n p group (2 * group)) b d r) is.1 (e.added, e.large) in
    subst (λ (added : Added). AddsTo added b d c.added_state-in-CaptureStart.result) (sym c.in-CaptureStart.is)
    (PassesState is.0 (r, done, c.added_state-in-CaptureStart.ensures))

pub returns-in_ok-state_id-in-CaptureEnd : goal.returns-in_ok-state_id-in-CaptureEnd
returns-in_ok-state_id-in-CaptureEnd c =
    let b = c.args.builder.now in let d = c.add_capture_end.new.self in let r = c.add_capture_end.result in
    let next = c.in-CaptureEnd.next in let group = c.in-CaptureEnd.group in
    let is = state_is next c.in_ok-state_id-in-CaptureEnd.field-0 c.in_ok-state_id-in-CaptureEnd.ensures in
    let e = c.add_capture_end.ensures in
    let done = subst (λ (n : ℕ). AddsGroup group (λ p. CaptureShape n p group (2 * group + 1)) b d r) is.1
    (e.added, e.large) in
    subst (λ (added : Added). AddsTo added b d c.added_state-in-CaptureEnd.result) (sym c.in-CaptureEnd.is)
    (PassesState is.0 (r, done, c.added_state-in-CaptureEnd.ensures))
