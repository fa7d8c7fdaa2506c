-- UTF-8 text does not begin with a continuation byte.
use Rattle.std.proofs.Common.{ℕ, ◌≡◌, ◌<◌, ◌≤◌, Bool, true, false, ◌&&◌, leb, List, [], ◌∷◌, IsUtf8, refl, sym, ap, ap₂}
use Rattle.std.proofs.Common.{◌∙◌, arith, leb-true}
use Rattle.std.proofs.lemmas.Bool.{lt-leb}
use Rattle.std.proofs.lemmas.Str.{IsCharBoundary-start}
use Rattle.std.specs.Prelude.{slice_get}
use Rattle.automata_base.specs.Haystacks.Looks.{within}
use Rattle.automata_base.specs.Haystacks.Tapes.{is_continuation, is_split, between}
use Rattle.automata_base.proofs.Answers.Bytes.{nth_between}

pub first_unsplit : (bs : List ℕ) → IsUtf8 bs → is_continuation (slice_get bs 0) ≡ false
first_unsplit [] u = refl
first_unsplit (c ∷ cs) u = go (leb 128 c) refl
  where
    lead : 128 ≤ c → 192 ≤ c
    lead l = (IsCharBoundary-start (c ∷ cs) u).1 (omega arith) l

    go : (b : Bool) → leb 128 c ≡ b → within 128 191 c ≡ false
    go true e =
        let l = lead (leb-true 128 c e) in
        ap₂ (λ v w. v && w) e (lt-leb c 191 (omega (arith, l)))
    go false e = ap (λ v. v && leb c 191) e

pub unsplit : (h : List ℕ) (s e : ℕ) → s < e → IsUtf8 (between h s e) → is_split h s ≡ false
unsplit h s e l u =
    ap (λ v. is_continuation v) (ap (λ v. slice_get h v) (omega arith) ∙ sym (nth_between h s e 0 (omega (arith, l))))
    ∙ first_unsplit (between h s e) u
