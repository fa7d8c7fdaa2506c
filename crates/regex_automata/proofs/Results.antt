-- Results, by cases.
use Rattle.std.proofs.Common.{◌≡◌, ap}
use Rattle.std.specs.Prelude.{Result, Ok, Err, IfOk}
use Rattle.std.specs.Result.{IsErrAnd}

module _ {A E : Type 0} where
  pub if_ok : (r : Result A E) (e : E) (P : A → Type 0) → IsErrAnd r (λ x. x ≡ e) → IfOk r P
  if_ok (Ok a) e P h = absurd h
  if_ok (Err x) e P h = tt

  pub is_err : (r : Result A E) (e : E) → IsErrAnd r (λ x. x ≡ e) → r ≡ Err e
  is_err (Ok a) e h = absurd h
  is_err (Err x) e h = ap (λ (v : E). Err v) h

  pub ok_err : {a : A} {e : E} → ◌≡◌ {A = Result A E} (Ok a) (Err e) → ⊥
  ok_err h = cc

  pub err_ok : {a : A} {e : E} → ◌≡◌ {A = Result A E} (Err e) (Ok a) → ⊥
  err_ok h = cc

  pub same_err : {e f : E} → ◌≡◌ {A = Result A E} (Err e) (Err f) → e ≡ f
  same_err h = cc

  pub same_ok : {a b : A} → ◌≡◌ {A = Result A E} (Ok a) (Ok b) → a ≡ b
  same_ok h = cc
