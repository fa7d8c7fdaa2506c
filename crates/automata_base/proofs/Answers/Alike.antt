-- A path over one tape is also a path over any tape that agrees with it up to the path's end.
use Rattle.std.proofs.Common.{ℕ, suc, ◌≡◌, ◌<◌, ◌≤◌, ◌+◌, ◌-◌, true, List, [], ◌∷◌, length, sym, ap, ◌∙◌}
use Rattle.std.proofs.Common.{subst, arith}
use Rattle.automata_base.specs.Haystacks.Looks.{holds}
use Rattle.std.specs.Prelude.{slice_get}
use Rattle.automata_base.specs.Nfas.Nfa.{Nfa}
use Rattle.automata_base.specs.Paths.Paths.{Tape, prev, next, truth, IsPathFrom}
use Rattle.automata_base.specs.Paths.Paths.{StaysHere, ReadsByte}
use Rattle.automata_base.proofs.Paths.Walks.{hop_more}
use Rattle.automata_base.proofs.Paths.Places.{path_grows}
use Rattle.automata_base.specs.Haystacks.Tapes.{forward_tape, reverse_tape, byte_before}
use Rattle.automata_base.proofs.Answers.Bytes.{forward_next, forward_prev, forward_byte, reverse_next, reverse_prev}
use Rattle.automata_base.proofs.Answers.Bytes.{reverse_byte}
use Rattle.automata_base.proofs.Paths.Included.{Includes}

-- Two tapes agree up to position `m` of `t`, where position `i` of `t` corresponds to `i'` of `t'` if `a + i ≡ b + i'`.
abbrev pub AreAlike : Tape → Tape → (a b m : ℕ) → Type 0
AreAlike t t' a b m =
    (i i' : ℕ) → a + i ≡ b + i' → i ≤ m
    → (prev t i ≡ prev t' i') × (next t i ≡ next t' i') × (i < m → slice_get t.bytes i ≡ slice_get t'.bytes i')

truth_same :
    (n : Nfa) (t t' : Tape) (i i' : ℕ) → prev t i ≡ prev t' i' → next t i ≡ next t' i'
    → Includes (truth n t i) (truth n t' i')
truth_same n t t' i i' p q look h =
    subst (λ v. holds n.terminator n.reverse look (prev t' i') v ≡ true) q
    (subst (λ v. holds n.terminator n.reverse look v (next t i) ≡ true) p h)

pub path_alike :
    (n : Nfa) (t t' : Tape) (a b m : ℕ) → AreAlike t t' a b m
    → (i i' : ℕ) (seen : List ℕ) (q : ℕ) (p : List ℕ) (j j' z : ℕ)
    → a + i ≡ b + i' → a + j ≡ b + j' → j ≤ m
    → IsPathFrom n t i seen q p j z → IsPathFrom n t' i' seen q p j' z
path_alike n t t' a b m f i i' seen q [] j j' z c d l h = (let k = h.0 in omega (arith, c, d, k), h.1)
path_alike n t t' a b m f i i' seen q (e ∷ p) j j' z c d l (StaysHere r hops new on) =
    let g = path_grows n t i (q ∷ seen) r p j z on in
    let s = f i i' c (omega (arith, l, g)) in
    StaysHere r (hop_more n (truth n t i) (truth n t' i') q e r (truth_same n t t' i i' s.0 s.1) hops) new
    (path_alike n t t' a b m f i i' (q ∷ seen) r p j j' z c d l on)
path_alike n t t' a b m f i i' seen q (e ∷ p) j j' z c d l (ReadsByte r edge moves on) =
    let g = path_grows n t (suc i) [] r p j z on in
    let s = f i i' c (omega (arith, l, g)) in
    ReadsByte r edge (moves.0, sym (s.2 (omega (arith, l, g))) ∙ moves.1, moves.2)
    (path_alike n t t' a b m f (suc i) (suc i') [] r p j j' z (omega (arith, c)) d l on)

-- Two forward tapes of a haystack agree up to the offset `s + m` if both spans reach it.
pub forward_alike :
    (h : List ℕ) (s e s' e' m : ℕ) → s + m ≤ e → s + m ≤ e' → e ≤ length h → e' ≤ length h
    → AreAlike (forward_tape h s e) (forward_tape h s' e') s s' m
forward_alike h s e s' e' m k k' l l' i i' c b = (
  forward_prev h s e i (omega (arith, k, b))
      ∙ (ap (λ v. byte_before h v) c ∙ sym (forward_prev h s' e' i' (omega (arith, k', c, b)))),
  forward_next h s e i (omega (arith, k, b)) l
      ∙ (ap (λ v. slice_get h v) c ∙ sym (forward_next h s' e' i' (omega (arith, k', c, b)) l')),
  λ d. forward_byte h s e i (omega (arith, k, d))
      ∙ (ap (λ v. slice_get h v) c ∙ sym (forward_byte h s' e' i' (omega (arith, k', c, d)))),
)

-- Two reverse tapes from one end agree over the first `m` bytes if both spans have that many.
pub reverse_alike :
    (h : List ℕ) (s s' e m : ℕ) → s + m ≤ e → s' + m ≤ e → e ≤ length h
    → AreAlike (reverse_tape h s e) (reverse_tape h s' e) 0 0 m
reverse_alike h s s' e m k k' l i i' c b = (
  reverse_prev h s e i (e - i) (omega (arith, k, b)) (omega (arith, k, b)) l
      ∙ sym (reverse_prev h s' e i' (e - i) (omega (arith, k', b, c)) (omega (arith, k', b, c)) l),
  reverse_next h s e i (e - i) (omega (arith, k, b)) (omega (arith, k, b)) l
      ∙ sym (reverse_next h s' e i' (e - i) (omega (arith, k', b, c)) (omega (arith, k', b, c)) l),
  λ d. reverse_byte h s e i (e - suc i) (omega (arith, k, d)) (omega (arith, k, d)) l
      ∙ sym (reverse_byte h s' e i' (e - suc i) (omega (arith, k', d, c)) (omega (arith, k', d, c)) l),
)
