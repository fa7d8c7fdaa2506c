-- NFAs whose powerset states keep the cycles of the states that they keep.
use Rattle.std.proofs.Common.{ℕ, ◌≡◌, ◌||◌, ◌&&◌, arith, Bool, true, false, cond, List, [], ◌∷◌, ◌⊎◌, Some, None, inl}
use Rattle.std.proofs.Common.{inr, refl}
use Rattle.std.proofs.Common.{sym, ap, ◌∙◌, subst, length}
use Rattle.std.proofs.lemmas.Bool.{lt-ltb}
use Rattle.automata_base.specs.Lists.{pick, cons_some}
use Rattle.automata_base.specs.Nfas.Nfa.{Nfa, Node, Split, Assert, Read, Accept, node, hop_at, stays_at, keep, keeps}
use Rattle.automata_base.specs.Nfas.Nfa.{splits_at}
use Rattle.automata_base.specs.Paths.Paths.{all_true, Run, IsLookAcyclic, KeepsCycles, IsSingle}
use Rattle.automata_base.proofs.Paths.Orders.{none_some}
use Rattle.automata_base.proofs.Paths.Staying.{stays_no_loop}

-- Cycles are kept if all unions of two or more alternates are.
pub unions_keep : (n : Nfa) → n.keeps_unions ≡ true → KeepsCycles n
unions_keep n on x y k leads back = go (node n y) refl
  where
    none : (path : List ℕ) → node n y ≡ Split [] → Run n y path x → (keeps n y ≡ true) ⊎ IsSingle n y
    none [] h u = inl (subst (λ v. keeps n v ≡ true) (sym u) k)
    none (e ∷ path) h u = absurd (none_some (ap (λ v. hop_at v all_true e) (sym h) ∙ u.1))

    kept : (m : Node) → node n y ≡ m → (stays_at m || (splits_at m && true)) ≡ true → (keeps n y ≡ true) ⊎ IsSingle n y
    kept m e h = inl
        (ap (λ v. stays_at v || (splits_at v && n.keeps_unions)) e
        ∙ (ap (λ w. stays_at m || (splits_at m && w)) on ∙ h))

    go : (m : Node) → node n y ≡ m → (keeps n y ≡ true) ⊎ IsSingle n y
    go (Split []) e = none back.0 e back.1
    go (Split (r ∷ [])) e = inr (r, e)
    go (Split (r ∷ (r2 ∷ rest))) e =
        kept (Split (r ∷ (r2 ∷ rest))) e (ap (λ b. b && true) (lt-ltb 1 (length (r ∷ (r2 ∷ rest))) (omega arith)))
    go (Assert look next) e = kept (Assert look next) e refl
    go (Read ranges) e = kept (Read ranges) e refl
    go (Accept p) e = kept (Accept p) e refl

without : (b c : Bool) → (b || (c && false)) ≡ b
without true c = refl
without false true = refl
without false false = refl

-- If unions are not kept, only byte, look and match states are kept.
keeps_staying : (n : Nfa) (q : ℕ) → n.keeps_unions ≡ false → keeps n q ≡ stays_at (node n q)
keeps_staying n q off =
    ap (λ w. stays_at (node n q) || (splits_at (node n q) && w)) off
    ∙ without (stays_at (node n q)) (splits_at (node n q))

pub unions_dropped :
    (n : Nfa) (xs : List ℕ) → n.keeps_unions ≡ false
    → pick (keep n) xs ≡ pick (λ q. cond (stays_at (node n q)) (Some q) None) xs
unions_dropped n [] off = refl
unions_dropped n (x ∷ xs) off =
    ap (λ b. cons_some (cond b (Some x) None) (pick (keep n) xs)) (keeps_staying n x off)
    ∙ ap (λ l. cons_some (cond (stays_at (node n x)) (Some x) None) l) (unions_dropped n xs off)

-- Cycles are kept if none of them passes a look.
pub acyclic_keeps : (n : Nfa) → IsLookAcyclic n → KeepsCycles n
acyclic_keeps n free = go n.keeps_unions refl
  where
    go : (b : Bool) → n.keeps_unions ≡ b → KeepsCycles n
    go true on = unions_keep n on
    go false off = λ x y k leads back.
        absurd (stays_no_loop n x y free (sym (keeps_staying n x off) ∙ k) leads back)
