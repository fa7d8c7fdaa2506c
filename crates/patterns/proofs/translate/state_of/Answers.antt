use Rattle.std.proofs.Common.{ℕ, ◌≡◌, ◌∙◌, ◌<◌, List, All, Bor, Option, Some, None, ap, subst, sym}
use Rattle.std.specs.Prelude.{slice_range, vec_len}
use Rattle.std.specs.Slice.{IsGetRangeResult}
use Rattle.std.proofs.lemmas.Option.{none-some, same_Some}
use Rattle.std.proofs.lemmas.List.Elements.{All-drop, All-take}
use Rattle.regex_nfa.specs.declared.state.Transition.{Transition}
use Rattle.patterns.proofs.Building.{of_error}
use Rattle.patterns.proofs.translate.state_of.Goals as goal

-- the part that `get` returns
got : {A : Type 0} (xs : List A) (from to : ℕ) (r : Option (Bor (List A))) (own : Bor (List A))
    → r ≡ Some own → IsGetRangeResult xs from to r → own.now ≡ slice_range xs from to
got xs from to None own is h = absurd (none-some own is)
got {A = A} xs from to (Some x) own is h =
    ap (λ (v : Bor (List A)). v.now) (sym (same_Some x own is)) ∙ h.0.2

pub returns-in_err-ranges_of-in-Some-clause-refused : goal.returns-in_err-ranges_of-in-Some-clause-refused
returns-in_err-ranges_of-in-Some-clause-refused c =
    let k = c.args.nfa.now in
    let below = λ (t : Transition). t.next < vec_len k.states in
    of_error c.from_residual-in_err-ranges_of-in-Some.result _ _ c.from_residual-in_err-ranges_of-in-Some.ensures.1
    (λ q sound. c.in_err-ranges_of-in-Some.ensures.refused (vec_len k.states)
    (subst (All below)
    (sym (got c.deref.result.now c.in-Sparse.from c.in-Sparse.to c.get.result c.in-Some.own c.in-Some.is
    c.get.ensures.lookup))
    (All-take below _ _ (All-drop below _ _ (subst (All below) (sym c.deref.ensures.value) k.targets_in)))))
