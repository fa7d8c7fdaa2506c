use Rattle.std.proofs.Common.{ℕ, subst, sym}
use Rattle.lazydfa_c.specs.Drafts.{Changes, Patches, is_state, HasStates}
use Rattle.lazydfa_c.specs.declared.builder.Change.{Change}
use Rattle.lazydfa_c.proofs.States.{both, state_is}
use Rattle.lazydfa_c.proofs.builder.change_to.Goals as goal

pub returns-in-Patch : goal.returns-in-Patch
returns-in-Patch c =
    let b = c.args.builder.now in let d = c.patch.new.self in let r = c.patch.result in
    let from = c.in-Patch.from in let to = c.in-Patch.to in
    let i = c.in_ok-state_id-in-Patch.field-0 in let j = c.in_ok-state_id-in-Patch-2.field-0 in
    let is_from = state_is from i c.in_ok-state_id-in-Patch.ensures in
    let is_to = state_is to j c.in_ok-state_id-in-Patch-2.ensures in
    let e = c.patch.ensures in
    let done : Patches i j b d r = record {
      placed = e.patched;
      same = e.same;
      range = e.range;
      sparse = e.sparse;
      memory = e.memory;
    } in
    let moved : Patches from to b d r =
    subst (λ (n : ℕ). Patches from n b d r) is_to.1 (subst (λ (n : ℕ). Patches n j b d r) is_from.1 done) in
    subst (λ (change : Change). Changes change b d c.patched.result) (sym c.in-Patch.is)
    (HasStates (both (is_state from) (is_state to) is_from.0 is_to.0) (r, moved, c.patched.ensures))
