-- Paths at one position.
use Rattle.std.proofs.Common.{ℕ, zero, suc, ◌≡◌, Bool, true, false, cond, List, [], ◌∷◌, ◌++◌, ◌⊎◌, Option, Some, None}
use Rattle.std.proofs.Common.{inl, inr, refl, sym, subst, ⊎_elim}
use Rattle.automata_base.specs.Lists.{In}
use Rattle.std.specs.Prelude.{slice_get}
use Rattle.automata_base.specs.Nfas.Nfa.{Nfa, Node, Split, Assert, Read, Accept, Truth, node, hop, hop_at}
use Rattle.automata_base.specs.Paths.Paths.{IsPathAt, all_true, Run}
use Rattle.automata_base.proofs.Paths.Orders.{none_some}
use Rattle.automata_base.proofs.Paths.Included.{Includes}

-- Membership in joined lists.
pub in_left : (x : ℕ) (xs ys : List ℕ) → In x xs → In x (xs ++ ys)
in_left x [] ys h = absurd h
in_left x (z ∷ xs) ys (inl h) = inl h
in_left x (z ∷ xs) ys (inr h) = inr (in_left x xs ys h)

pub in_either : (x : ℕ) (xs ys : List ℕ) → In x (xs ++ ys) → In x xs ⊎ In x ys
in_either x [] ys h = inr h
in_either x (z ∷ xs) ys (inl h) = inl (inl h)
in_either x (z ∷ xs) ys (inr h) = ⊎_elim (λ (k : In x xs). inl (inr k)) (λ (k : In x ys). inr k) (in_either x xs ys h)

-- The edge that a union or a capture has whatever the looks.
abbrev pub fork_at : Node → ℕ → Option ℕ
fork_at (Split alternates) e = slice_get alternates e
fork_at (Assert look next) e = None
fork_at (Read ranges) e = None
fork_at (Accept p) e = None

abbrev pub fork : Nfa → ℕ → ℕ → Option ℕ
fork n q e = fork_at (node n q) e

hop_more_at : (x : Node) (A B : Truth) (e r : ℕ) → Includes A B → hop_at x A e ≡ Some r → hop_at x B e ≡ Some r
hop_more_at (Split alternates) A B e r i h = h
hop_more_at (Assert look next) A B zero r i h = go (A look) refl h
  where
    go : (b : Bool) → A look ≡ b → cond b (Some next) None ≡ Some r → cond (B look) (Some next) None ≡ Some r
    go true a h = subst (λ b. cond b (Some next) None ≡ Some r) (sym (i look a)) h
    go false a h = absurd (none_some h)
hop_more_at (Assert look next) A B (suc e) r i h = h
hop_more_at (Read ranges) A B e r i h = h
hop_more_at (Accept p) A B e r i h = h

pub hop_more : (n : Nfa) (A B : Truth) (q e r : ℕ) → Includes A B → hop n A q e ≡ Some r → hop n B q e ≡ Some r
hop_more n A B q e r i h = hop_more_at (node n q) A B e r i h

pub walk_more :
    (n : Nfa) (A B : Truth) (seen : List ℕ) (q : ℕ) (path : List ℕ) (z : ℕ)
    → Includes A B → IsPathAt n A seen q path z → IsPathAt n B seen q path z
walk_more n A B seen q [] z i w = w
walk_more n A B seen q (e ∷ path) z i w =
    (w.0, hop_more n A B q e w.0 i w.1, w.2, walk_more n A B (q ∷ seen) w.0 path z i w.3)

-- A walk stays a walk if it has to avoid fewer states.
pub walk_forget :
    (n : Nfa) (A : Truth) (seen more : List ℕ) (q : ℕ) (path : List ℕ) (z : ℕ)
    → IsPathAt n A (seen ++ more) q path z → IsPathAt n A seen q path z
walk_forget n A seen more q [] z w = w
walk_forget n A seen more q (e ∷ path) z w =
    (w.0, w.1, λ h. w.2 (in_left w.0 (q ∷ seen) more h), walk_forget n A (q ∷ seen) more w.0 path z w.3)

pub run_join : (n : Nfa) (q y z : ℕ) (p s : List ℕ) → Run n q p y → Run n y s z → Run n q (p ++ s) z
run_join n q y z [] s h k = subst (λ w. Run n w s z) (sym h) k
run_join n q y z (e ∷ p) s h k = (h.0, h.1, run_join n h.0 y z p s h.2 k)

pub walk_run :
    (n : Nfa) (A : Truth) (seen : List ℕ) (q : ℕ) (path : List ℕ) (z : ℕ) → IsPathAt n A seen q path z → Run n q path z
walk_run n A seen q [] z w = w
walk_run n A seen q (e ∷ path) z w =
    (w.0, hop_more n A all_true q e w.0 (λ look a. refl) w.1, walk_run n A (q ∷ seen) w.0 path z w.3)
