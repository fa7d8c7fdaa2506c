-- Looks may also be decided late if states with one alternate, such as captures, are dropped on a cycle.
use Rattle.std.proofs.Common.{ℕ, zero, suc, ◌≡◌, Bool, true, List, [], ◌∷◌, ◌++◌, ◌⊎◌, Some, inl, inr, refl}
use Rattle.std.proofs.Common.{sym, ap, ◌∙◌, subst, true≢false, append_assoc}
use Rattle.automata_base.specs.Lists.{In}
use Rattle.std.specs.Prelude.{slice_get}
use Rattle.automata_base.specs.Nfas.Nfa.{Nfa, Truth, Node, Split, node, hop, hop_at, ends_at}
use Rattle.automata_base.specs.Paths.Paths.{IsPathAt, all_true, HasEpsilonPath, LeadsOn, IsSingle}
use Rattle.automata_base.proofs.Paths.Orders.{some_inj, none_some}
use Rattle.automata_base.proofs.Paths.Walks.{hop_more, walk_run, run_join}

-- A state on a cycle with a kept state is kept or has one alternate.
abbrev pub ClosedButSingles : Nfa → (ℕ → Bool) → Type 0
ClosedButSingles n k = (x y : ℕ) → k x ≡ true → LeadsOn n x y → HasEpsilonPath n y x → (k y ≡ true) ⊎ IsSingle n y

single_at : (x : Node) (r : ℕ) (A : Truth) (e r' : ℕ) → x ≡ Split (r ∷ []) → hop_at x A e ≡ Some r' → (e ≡ 0) × (r' ≡ r)
single_at x r A e r' s h = go e (subst (λ v. hop_at v A e ≡ Some r') s h)
  where
    go : (e : ℕ) → slice_get (r ∷ []) e ≡ Some r' → (e ≡ 0) × (r' ≡ r)
    go zero h = (refl, sym (some_inj h))
    go (suc e) h = absurd (none_some h)

-- A walk cut in two.
pub walk_cut :
    (n : Nfa) (A : Truth) (seen : List ℕ) (q : ℕ) (a b : List ℕ) (x : ℕ)
    → IsPathAt n A seen q (a ++ b) x
    → (y : ℕ) × (more : List ℕ) × IsPathAt n A seen q a y × IsPathAt n A more y b x
walk_cut n A seen q [] b x w = (q, seen, refl, w)
walk_cut n A seen q (e ∷ a) b x w =
    let c = walk_cut n A (q ∷ seen) w.0 a b x w.3 in (c.0, c.1, (w.0, w.1, w.2, c.2), c.3)

-- A walk stays a walk if it has to avoid fewer states.
pub fewer :
    (n : Nfa) (A : Truth) (seen less : List ℕ) (q : ℕ) (path : List ℕ) (z : ℕ)
    → ((y : ℕ) → In y less → In y seen) → IsPathAt n A seen q path z → IsPathAt n A less q path z
fewer n A seen less q [] z f w = w
fewer n A seen less q (e ∷ path) z f w =
    (w.0, w.1, (λ i. w.2 (also w.0 i)), fewer n A (q ∷ seen) (q ∷ less) w.0 path z also w.3)
  where
    also : (y : ℕ) → In y (q ∷ less) → In y (q ∷ seen)
    also y (inl e) = inl e
    also y (inr i) = inr (f y i)

-- No kept state on the walk to `x`, before its end, has a walk to `q`.
abbrev pub KeptAhead : Nfa → (ℕ → Bool) → Truth → Truth → ℕ → List ℕ → ℕ → ℕ → Type 0
KeptAhead n k K T root p x q =
    (y : ℕ) (a b d : List ℕ) (e : ℕ) → p ≡ a ++ (e ∷ b) → k y ≡ true → IsPathAt n K [] root a y → IsPathAt n T [] y d q
    → ⊥

hop_along :
    (n : Nfa) (K : Truth) (e y z r : ℕ) → hop n K y e ≡ Some z → (seen : List ℕ) (root : ℕ) (a : List ℕ)
    → IsPathAt n K seen root a y → IsPathAt n K seen root (a ++ (e ∷ [])) r → r ≡ z
hop_along n K e y z r h seen root [] u t =
    some_inj (ap Some (sym t.3) ∙ (sym t.1 ∙ (ap (λ v. hop n K v e) u ∙ h)))
hop_along n K e y z r h seen root (e0 ∷ a) u t =
    hop_along n K e y z r h (root ∷ seen) u.0 a u.3
    (subst (λ v. IsPathAt n K (root ∷ seen) v (a ++ (e ∷ [])) r) (some_inj (sym t.1 ∙ u.1)) t.3)

-- The state on the walk to `x` with one edge more than `b` left does not continue to `q` while avoiding `x`, if `x`
-- leads to it.
abbrev pub NoneFrom : Nfa → Truth → Truth → ℕ → List ℕ → ℕ → ℕ → List ℕ → Type 0
NoneFrom n K T root p x q b =
    (a : List ℕ) (e y : ℕ) (more d : List ℕ) → p ≡ a ++ (e ∷ b) → IsPathAt n K [] root a y
    → IsPathAt n K more y (e ∷ b) x
    → LeadsOn n x y → IsPathAt n T (x ∷ []) y d q → ⊥

-- If no kept state on the walk has a walk to `q`, no state on it continues to `q` while avoiding `x`.
pub none_ahead :
    (n : Nfa) (k : ℕ → Bool) (K T : Truth) (root : ℕ) (p : List ℕ) (x q : ℕ)
    → ClosedButSingles n k → k x ≡ true → ends_at (node n q) ≡ true → IsPathAt n K [] root p x
    → KeptAhead n k K T root p x q
    → (b : List ℕ) → NoneFrom n K T root p x q b
none_ahead n k K T root p x q closed kx end w none [] a e y more d s pre post on v =
    go (closed x y kx on (e ∷ [], walk_run n K more y (e ∷ []) x post))
  where
    go : (k y ≡ true) ⊎ IsSingle n y → ⊥
    go (inl h) = none y a [] d e s h pre (fewer n T (x ∷ []) [] y d q (λ z i. absurd i) v)
    go (inr h) = last d v
      where
        last : (d : List ℕ) → IsPathAt n T (x ∷ []) y d q → ⊥
        last [] v = true≢false (sym end ∙ ap ends_at (ap (λ z. node n z) (sym v) ∙ h.1))
        last (e' ∷ d) v =
            let i = single_at (node n y) h.0 K e post.0 h.1 post.1 in
            let j = single_at (node n y) h.0 T e' v.0 h.1 v.1 in
            v.2 (inr (inl (j.1 ∙ (sym i.1 ∙ post.3))))
none_ahead n k K T root p x q closed kx end w none (e2 ∷ b) a e y more d s pre post on v =
    go (closed x y kx on (e ∷ (e2 ∷ b), walk_run n K more y (e ∷ (e2 ∷ b)) x post))
    (none_ahead n k K T root p x q closed kx end w none b)
  where
    s2 : p ≡ (a ++ (e ∷ [])) ++ (e2 ∷ b)
    s2 = s ∙ sym (append_assoc a (e ∷ []) (e2 ∷ b))

    c : (z : ℕ) × (seen : List ℕ) × IsPathAt n K [] root (a ++ (e ∷ [])) z × IsPathAt n K seen z (e2 ∷ b) x
    c = walk_cut n K [] root (a ++ (e ∷ [])) (e2 ∷ b) x (subst (λ l. IsPathAt n K [] root l x) s2 w)

    pre2 : IsPathAt n K [] root (a ++ (e ∷ [])) post.0
    pre2 =
        subst (λ z. IsPathAt n K [] root (a ++ (e ∷ [])) z) (hop_along n K e y post.0 c.0 post.1 [] root a pre c.2) c.2

    edge : hop n all_true y e ≡ Some post.0
    edge = hop_more n K all_true y e post.0 (λ look t. refl) post.1

    on2 : LeadsOn n x post.0
    on2 =
        (on.0, on.1, on.2, (on.3.0 ++ (e ∷ []), run_join n on.1 y post.0 on.3.0 (e ∷ []) on.3.1 (post.0, edge, refl)))

    go : (k y ≡ true) ⊎ IsSingle n y → NoneFrom n K T root p x q b → ⊥
    go (inl h) ih = none y a (e2 ∷ b) d e s h pre (fewer n T (x ∷ []) [] y d q (λ z i. absurd i) v)
    go (inr h) ih = last d v
      where
        last : (d : List ℕ) → IsPathAt n T (x ∷ []) y d q → ⊥
        last [] v = true≢false (sym end ∙ ap ends_at (ap (λ z. node n z) (sym v) ∙ h.1))
        last (e' ∷ d) v =
            let i = single_at (node n y) h.0 K e post.0 h.1 post.1 in
            let j = single_at (node n y) h.0 T e' v.0 h.1 v.1 in
            ih (a ++ (e ∷ [])) e2 post.0 (y ∷ more) d s2 pre2 post.3 on2
            (subst (λ z. IsPathAt n T (x ∷ []) z d q) (j.1 ∙ sym i.1)
            (fewer n T (y ∷ (x ∷ [])) (x ∷ []) v.0 d q (λ z i. inr i) v.3))
