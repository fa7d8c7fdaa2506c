-- The ranges of a state, one after the other, and the bytes of a dense state.
use Rattle.std.proofs.Common.{ℕ, zero, suc, ◌≡◌, ◌<◌, ◌+◌, ◌^◌, Bool, true, false, cond, List, [], ◌∷◌, ◌++◌, length}
use Rattle.std.proofs.Common.{get_or, drop, refl, sym, ap, ◌∙◌, subst, arith}
use Rattle.std.proofs.lemmas.List.{drop_more}
use Rattle.automata_base.specs.declared.nfa.thompson.state.State.TheVariants as is
use Rattle.automata_base.specs.declared.nfa.thompson.state.Transition.{Transition}
use Rattle.automata_transform.specs.Retraced.DenseRuns.{starts_with, run_of, runs_from}
use Rattle.automata_transform.specs.Retraced.ReversedEdges.{Turns, turn_by, turn_ranges, size}
use Rattle.automata_transform.proofs.Nfas.Mirrors.Sizes.{size_ranges}

-- If one range already makes too many states, there are too many at the end.
pub ranges_large :
    (t : Turns) (from : ℕ) (rs : List Transition) (i : ℕ) (r : Transition) → i < length rs → r ≡ get_or rs i r
    → (w : Turns) → turn_ranges t from (drop i rs) ≡ w
    → 2 ^ 27 < size (turn_by t (is.ByteRange r.lo r.hi from) r.next) → 2 ^ 27 < size w
ranges_large t from rs i r l e w h b =
    subst (λ (z : Turns). 2 ^ 27 < size z) (sym front ∙ h)
    (let a = size_ranges (turn_by t (is.ByteRange r.lo r.hi from) r.next) from (drop (i + 1) rs) in omega (arith, a, b))
  where
    front : turn_ranges t from (drop i rs) ≡ turn_ranges t from (r ∷ drop (i + 1) rs)
    front = ap (turn_ranges t from) (drop_more rs i r l ∙ ap (λ z. z ∷ drop (i + 1) rs) (sym e))

ranges_append :
    (t : Turns) (from : ℕ) (rs more : List Transition)
    → turn_ranges t from (rs ++ more) ≡ turn_ranges (turn_ranges t from rs) from more
ranges_append t from [] more = refl
ranges_append t from (r ∷ rs) more = ranges_append (turn_by t (is.ByteRange r.lo r.hi from) r.next) from rs more

pub at_default : (xs : List ℕ) (k : ℕ) → k < length xs → get_or xs k 0 ≡ get_or xs k (get_or xs k 0)
at_default [] k l = absurd (omega (arith, l))
at_default (y ∷ ys) zero l = refl
at_default (y ∷ ys) (suc k) l = at_default ys k (omega (arith, l))

-- A byte of a dense state.
module _ (targets : List ℕ) (lo byte x : ℕ) (inside : byte < length targets) (is_x : x ≡ get_or targets byte x) where
  front : (b : Bool) → b ≡ starts_with (get_or targets byte 0) (drop (byte + 1) targets)
      → runs_from lo byte (drop byte targets)
      ≡ cond b (runs_from lo (byte + 1) (drop (byte + 1) targets))
      (run_of lo byte x ++ runs_from (byte + 1) (byte + 1) (drop (byte + 1) targets))
  front b e =
      ap (runs_from lo byte) (drop_more targets byte x inside ∙ ap (λ z. z ∷ drop (byte + 1) targets) (sym is_x))
      ∙ (ap (λ s. cond s (runs_from lo (suc byte) (drop (byte + 1) targets))
      (run_of lo byte x ++ runs_from (suc byte) (suc byte) (drop (byte + 1) targets))) (sym same)
      ∙ ap (λ n. cond b (runs_from lo n (drop (byte + 1) targets))
      (run_of lo byte x ++ runs_from n n (drop (byte + 1) targets))) (sym next))
    where
      next : byte + 1 ≡ suc byte
      next = omega arith

      same : b ≡ starts_with x (drop (byte + 1) targets)
      same = e ∙ ap (λ z. starts_with z (drop (byte + 1) targets)) (at targets byte inside ∙ sym is_x)
        where
          at : (xs : List ℕ) (k : ℕ) → k < length xs → get_or xs k 0 ≡ get_or xs k x
          at [] k l = absurd (omega (arith, l))
          at (y ∷ ys) zero l = refl
          at (y ∷ ys) (suc k) l = at ys k (omega (arith, l))

  pub run_stays :
      (t : Turns) (from : ℕ) (b : Bool) → b ≡ starts_with (get_or targets byte 0) (drop (byte + 1) targets) → b ≡ true
      → turn_ranges t from (runs_from lo (byte + 1) (drop (byte + 1) targets))
      ≡ turn_ranges t from (runs_from lo byte (drop byte targets))
  run_stays t from b e s =
      sym (ap (turn_ranges t from) (front b e
      ∙ ap (λ z. cond z (runs_from lo (byte + 1) (drop (byte + 1) targets))
      (run_of lo byte x ++ runs_from (byte + 1) (byte + 1) (drop (byte + 1) targets))) s))

  ends :
      (t : Turns) (from : ℕ) (b : Bool) → b ≡ starts_with (get_or targets byte 0) (drop (byte + 1) targets) → b ≡ false
      → turn_ranges t from (runs_from lo byte (drop byte targets))
      ≡ turn_ranges (turn_ranges t from (run_of lo byte x)) from
      (runs_from (byte + 1) (byte + 1) (drop (byte + 1) targets))
  ends t from b e s =
      ap (turn_ranges t from) (front b e
      ∙ ap (λ z. cond z (runs_from lo (byte + 1) (drop (byte + 1) targets))
      (run_of lo byte x ++ runs_from (byte + 1) (byte + 1) (drop (byte + 1) targets))) s)
      ∙ ranges_append t from (run_of lo byte x) (runs_from (byte + 1) (byte + 1) (drop (byte + 1) targets))

  pub run_next :
      (t new : Turns) (from : ℕ) (b : Bool) → b ≡ starts_with (get_or targets byte 0) (drop (byte + 1) targets)
      → b ≡ false
      → new ≡ turn_ranges t from (run_of lo byte x)
      → turn_ranges new from (runs_from (byte + 1) (byte + 1) (drop (byte + 1) targets))
      ≡ turn_ranges t from (runs_from lo byte (drop byte targets))
  run_next t new from b e s n =
      ap (λ z. turn_ranges z from (runs_from (byte + 1) (byte + 1) (drop (byte + 1) targets))) n
      ∙ sym (ends t from b e s)

  pub run_large :
      (t : Turns) (from : ℕ) (b : Bool) → b ≡ starts_with (get_or targets byte 0) (drop (byte + 1) targets) → b ≡ false
      → 2 ^ 27 < size (turn_ranges t from (run_of lo byte x))
      → 2 ^ 27 < size (turn_ranges t from (runs_from lo byte (drop byte targets)))
  run_large t from b e s l =
      subst (λ (z : Turns). 2 ^ 27 < size z) (sym (ends t from b e s))
      (let a = size_ranges (turn_ranges t from (run_of lo byte x)) from
      (runs_from (byte + 1) (byte + 1) (drop (byte + 1) targets)) in
      omega (arith, a, l))
