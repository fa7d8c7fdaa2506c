-- Paths from position to position.
use Rattle.std.proofs.Common.{ℕ, suc, ◌≡◌, ◌≤◌, List, [], ◌∷◌, ◌++◌, Option, Some, refl}
use Rattle.std.proofs.Common.{sym, ap, ◌∙◌, subst, arith, append-nil}
use Rattle.automata_base.specs.Nfas.Nfa.{Nfa, Node, Split, Assert, Read, Accept, Truth, node, hop, hop_at, takes}
use Rattle.automata_base.specs.Nfas.Nfa.{takes_at, ends}
use Rattle.automata_base.specs.Paths.Paths.{IsPathAt, Tape, IsPathFrom, Moves, truth}
use Rattle.automata_base.specs.Paths.Paths.{StaysHere, ReadsByte}
use Rattle.automata_base.proofs.Paths.Orders.{some_inj, none_some}

-- Neither byte states nor match states have epsilon edges.
hop_takes_at : (x : Node) (A : Truth) (e u r r' : ℕ) → hop_at x A e ≡ Some r → takes_at x u ≡ Some r' → ⊥
hop_takes_at (Split alternates) A e u r r' h k = none_some k
hop_takes_at (Assert look next) A e u r r' h k = none_some k
hop_takes_at (Read ranges) A e u r r' h k = none_some h
hop_takes_at (Accept p) A e u r r' h k = none_some h

pub hop_takes :
    (n : Nfa) (q : ℕ) (A : Truth) (e u r r' : ℕ) → hop n A q e ≡ Some r → takes n q u ≡ Some r' → ⊥
hop_takes n q A e u r r' h k = hop_takes_at (node n q) A e u r r' h k

pub path_grows :
    (n : Nfa) (t : Tape) (i : ℕ) (seen : List ℕ) (q : ℕ) (p : List ℕ) (j z : ℕ) → IsPathFrom n t i seen q p j z → i ≤ j
path_grows n t i seen q [] j z h = omega (arith, h.0)
path_grows n t i seen q (e ∷ p) j z (StaysHere r hops new on) = path_grows n t i (q ∷ seen) r p j z on
path_grows n t i seen q (e ∷ p) j z (ReadsByte r edge moves on) =
    let k = path_grows n t (suc i) [] r p j z on in omega (arith, k)

pub walk_path :
    (n : Nfa) (t : Tape) (i : ℕ) (seen : List ℕ) (q : ℕ) (p : List ℕ) (z : ℕ)
    → IsPathAt n (truth n t i) seen q p z → IsPathFrom n t i seen q p i z
walk_path n t i seen q [] z w = (refl, w)
walk_path n t i seen q (e ∷ p) z w = StaysHere w.0 w.1 w.2 (walk_path n t i (q ∷ seen) w.0 p z w.3)

-- A path, a byte edge and a path from there join to one path.
pub path_extend :
    (n : Nfa) (t : Tape) (i : ℕ) (seen : List ℕ) (q : ℕ) (p : List ℕ) (j b r : ℕ) (s : List ℕ) (k z : ℕ)
    → IsPathFrom n t i seen q p j b → Moves n t j b r → IsPathFrom n t (suc j) [] r s k z
    → IsPathFrom n t i seen q (p ++ (0 ∷ s)) k z
path_extend n t i seen q [] j b r s k z h m g =
    ReadsByte r refl (subst (λ v. Moves n t v q r) (sym h.0) (subst (λ v. Moves n t j v r) (sym h.1) m))
    (subst (λ v. IsPathFrom n t (suc v) [] r s k z) (sym h.0) g)
path_extend n t i seen q (e ∷ p) j b r s k z (StaysHere r' hops new on) m g =
    StaysHere r' hops new (path_extend n t i (q ∷ seen) r' p j b r s k z on m g)
path_extend n t i seen q (e ∷ p) j b r s k z (ReadsByte r' edge moves on) m g =
    ReadsByte r' edge moves (path_extend n t (suc i) [] r' p j b r s k z on m g)

-- A path that extends another continues from where that one ends.
pub resume :
    (n : Nfa) (t : Tape) (i : ℕ) (seen : List ℕ) (q : ℕ) (p : List ℕ) (j x : ℕ) (c : List ℕ) (k y : ℕ)
    → IsPathFrom n t i seen q p j x → IsPathFrom n t i seen q (p ++ c) k y → (seen' : List ℕ)
    × IsPathFrom n t j seen' x c k y
resume n t i seen q [] j x c k y h g =
    (seen, subst (λ v. IsPathFrom n t v seen x c k y) h.0 (subst (λ v. IsPathFrom n t i seen v c k y) h.1 g))
resume n t i seen q (e ∷ p) j x c k y (StaysHere r hops new on) (StaysHere r' hops' new' on') =
    resume n t i (q ∷ seen) r p j x c k y on
    (subst (λ v. IsPathFrom n t i (q ∷ seen) v (p ++ c) k y) (some_inj (sym hops' ∙ hops)) on')
resume n t i seen q (e ∷ p) j x c k y (StaysHere r hops new on) (ReadsByte r' edge' moves' on') =
    absurd (hop_takes n q (truth n t i) e moves'.0 r r' hops moves'.2)
resume n t i seen q (e ∷ p) j x c k y (ReadsByte r edge moves on) (StaysHere r' hops' new' on') =
    absurd (hop_takes n q (truth n t i) e moves.0 r' r hops' moves.2)
resume n t i seen q (e ∷ p) j x c k y (ReadsByte r edge moves on) (ReadsByte r' edge' moves' on') =
    resume n t (suc i) [] r p j x c k y on
    (subst (λ v. IsPathFrom n t (suc i) [] v (p ++ c) k y) (some_inj agree) on')
  where
    agree : ◌≡◌ {A = Option ℕ} (Some r') (Some r)
    agree = sym moves'.2 ∙ (ap (λ v. takes n q v) (some_inj (sym moves'.1 ∙ moves.1)) ∙ moves.2)

-- A path has only one end.
pub path_end :
    (n : Nfa) (t : Tape) (i : ℕ) (seen : List ℕ) (q : ℕ) (p : List ℕ) (j x k y : ℕ)
    → IsPathFrom n t i seen q p j x → IsPathFrom n t i seen q p k y → (j ≡ k) × (x ≡ y)
path_end n t i seen q p j x k y h g =
    (resume n t i seen q p j x [] k y h (subst (λ v. IsPathFrom n t i seen q v k y) (sym (append-nil p)) g)).1
