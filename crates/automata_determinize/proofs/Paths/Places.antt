-- Where paths that end in a match state can end.
use Rattle.std.proofs.Common.{ℕ, suc, ◌≡◌, ◌<◌, ◌≤◌, cond, List, [], ◌∷◌, ◌++◌, ◌⊎◌, Some, None, inl, inr, refl}
use Rattle.std.proofs.Common.{ap, subst, arith, eq-or-lt_of_le}
use Rattle.automata_base.specs.Nfas.Nfa.{Nfa, Node, Split, Assert, Read, Accept, Truth, node, hop_at, takes}
use Rattle.automata_base.specs.Nfas.Nfa.{takes_at, accepts, accepts_at, ends, ends_at}
use Rattle.automata_base.specs.Paths.Paths.{IsPathAt, Tape, IsPathFrom, IsPath, Moves, truth}
use Rattle.automata_base.specs.Paths.Paths.{StaysHere, ReadsByte}
use Rattle.automata_base.proofs.Paths.Orders.{none_some}
use Rattle.automata_base.proofs.Paths.Places.{hop_takes, path_grows, resume}

hop_accepts_at : (x : Node) (A : Truth) (e r p : ℕ) → hop_at x A e ≡ Some r → accepts_at x ≡ Some p → ⊥
hop_accepts_at (Split alternates) A e r p h k = none_some k
hop_accepts_at (Assert look next) A e r p h k = none_some k
hop_accepts_at (Read ranges) A e r p h k = none_some h
hop_accepts_at (Accept p') A e r p h k = none_some h

takes_accepts_at : (x : Node) (u r p : ℕ) → takes_at x u ≡ Some r → accepts_at x ≡ Some p → ⊥
takes_accepts_at (Split alternates) u r p h k = none_some k
takes_accepts_at (Assert look next) u r p h k = none_some k
takes_accepts_at (Read ranges) u r p h k = none_some k
takes_accepts_at (Accept p') u r p h k = none_some h

pub takes_accepts : (n : Nfa) (q u r p : ℕ) → takes n q u ≡ Some r → accepts n q ≡ Some p → ⊥
takes_accepts n q u r p h k = takes_accepts_at (node n q) u r p h k

accepts_ends_at : (x : Node) (q p : ℕ) → accepts_at x ≡ Some p → cond (ends_at x) (Some q) None ≡ Some q
accepts_ends_at (Split alternates) q p e = absurd (none_some e)
accepts_ends_at (Assert look next) q p e = absurd (none_some e)
accepts_ends_at (Read ranges) q p e = absurd (none_some e)
accepts_ends_at (Accept p') q p e = refl

pub accepts_ends : (n : Nfa) (q p : ℕ) → accepts n q ≡ Some p → ends n q ≡ Some q
accepts_ends n q p e = accepts_ends_at (node n q) q p e

pub path_walk :
    (n : Nfa) (t : Tape) (i : ℕ) (seen : List ℕ) (q : ℕ) (p : List ℕ) (j z : ℕ)
    → i ≡ j → IsPathFrom n t i seen q p j z → IsPathAt n (truth n t i) seen q p z
path_walk n t i seen q [] j z e h = h.1
path_walk n t i seen q (e' ∷ p) j z e (StaysHere r hops new on) =
    (r, hops, new, path_walk n t i (q ∷ seen) r p j z e on)
path_walk n t i seen q (e' ∷ p) j z e (ReadsByte r edge moves on) =
    let k = path_grows n t (suc i) [] r p j z on in absurd (omega (arith, k, e))

-- The last position of a path.
abbrev pub LastPlace : Nfa → Tape → ℕ → List ℕ → ℕ → List ℕ → ℕ → ℕ → Type 0
LastPlace n t i seen q p j z =
    (b r : ℕ) × (head rest : List ℕ) × IsPathFrom n t i seen q head j b × Moves n t j b r
    × IsPathAt n (truth n t (suc j)) [] r rest z × (p ≡ head ++ (0 ∷ rest))

pub last_place :
    (n : Nfa) (t : Tape) (i : ℕ) (seen : List ℕ) (q : ℕ) (p : List ℕ) (j z : ℕ)
    → i ≤ j → IsPathFrom n t i seen q p (suc j) z → LastPlace n t i seen q p j z
last_place n t i seen q [] j z l h = absurd (omega (arith, h.0, l))
last_place n t i seen q (e ∷ p) j z l (StaysHere r hops new on) =
    let f = last_place n t i (q ∷ seen) r p j z l on in
    (f.0, f.1, e ∷ f.2, f.3, StaysHere r hops new f.4, f.5, f.6, ap (λ v. e ∷ v) f.7)
last_place n t i seen q (e ∷ p) j z l (ReadsByte r edge moves on) =
    go (eq-or-lt_of_le l) (last_place n t (suc i) [] r p j z)
  where
    go :
        (i ≡ j) ⊎ (i < j) → (suc i ≤ j → IsPathFrom n t (suc i) [] r p (suc j) z → LastPlace n t (suc i) [] r p j z)
        → LastPlace n t i seen q (e ∷ p) j z
    go (inl s) ih = (
      q,
      r,
      [],
      p,
      (s, refl),
      subst (λ v. Moves n t v q r) s moves,
      path_walk n t (suc j) [] r p (suc j) z refl (subst (λ v. IsPathFrom n t (suc v) [] r p (suc j) z) s on),
      ap (λ v. v ∷ p) edge,
    )
    go (inr s) ih =
        let f = ih s on in
        (f.0, f.1, e ∷ f.2, f.3, ReadsByte r edge moves f.4, f.5, f.6, ap (λ v. e ∷ v) f.7)

-- From a byte state, a path continues at a later position.
pub reader_apart :
    (n : Nfa) (t : Tape) (start i x u r : ℕ) (p : List ℕ) (j y z : ℕ) (zs : List ℕ)
    → IsPath n t start i x p → takes n x u ≡ Some r → IsPath n t start j y (p ++ (z ∷ zs)) → i < j
reader_apart n t start i x u r p j y z zs h m g = go (resume n t 0 [] start p i x (z ∷ zs) j y h g)
  where
    go : (seen : List ℕ) × IsPathFrom n t i seen x (z ∷ zs) j y → i < j
    go (seen, StaysHere r' hops new on) = absurd (hop_takes n x (truth n t i) z u r' r hops m)
    go (seen, ReadsByte r' edge moves on) = path_grows n t (suc i) [] r' zs j y on

-- No path continues from a match.
pub match_last :
    (n : Nfa) (t : Tape) (start i x q : ℕ) (p : List ℕ) (j y z : ℕ) (zs : List ℕ)
    → IsPath n t start i x p → accepts n x ≡ Some q → IsPath n t start j y (p ++ (z ∷ zs)) → ⊥
match_last n t start i x q p j y z zs h m g = go (resume n t 0 [] start p i x (z ∷ zs) j y h g)
  where
    go : (seen : List ℕ) × IsPathFrom n t i seen x (z ∷ zs) j y → ⊥
    go (seen, StaysHere r hops new on) = hop_accepts_at (node n x) (truth n t i) z r q hops m
    go (seen, ReadsByte r edge moves on) = takes_accepts n x moves.0 r q moves.2 m
