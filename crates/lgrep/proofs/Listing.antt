-- The numbers of patterns, one after another.
use Rattle.std.proofs.Common.{◌≡◌, ◌∙◌, ℕ, Bool, false, List, ◌∷◌, ◌++◌, ap}
use Rattle.std.specs.Prelude.{Result, Ok, Err, IfOk}
use Rattle.std.proofs.lemmas.List.{append_assoc}
use Rattle.lgrep.specs.Shown.{number_after, numbers_listed}

-- what is listed so far, with what the remaining patterns will add, stays the same
pub number_turn :
    (was is all : List ℕ) (first : Bool) (pattern : ℕ) (rest : List ℕ) → is ≡ was ++ number_after first pattern →
    was ++ numbers_listed first (pattern ∷ rest) ≡ all → is ++ numbers_listed false rest ≡ all
number_turn was is all first pattern rest more so =
    ap (λ v. v ++ numbers_listed false rest) more
    ∙ append_assoc was (number_after first pattern) (numbers_listed false rest) ∙ so

-- what follows for the value that a call returns
pub if_ok : {T E : Type 0} {P Q : T → Type 0} (r : Result T E) → ((x : T) → P x → Q x) → IfOk r P → IfOk r Q
if_ok (Ok x) f h = f x h
if_ok (Err e) f h = tt
