-- Deciding looks late does not change the order, whatever the cycles of the looks, if the kept states are closed under
-- cycles.
use Rattle.std.proofs.Common.{ℕ, ◌≡◌, Bool, true, false, cond, List, [], ◌∷◌, ◌++◌, ◌⊎◌, Option, Some, None, inl, inr}
use Rattle.std.proofs.Common.{refl}
use Rattle.std.proofs.Common.{sym, ap, ◌∙◌, subst, true≢false, ⊎_elim}
use Rattle.automata_base.specs.Paths.Order.{Before, Begins}
use Rattle.automata_base.specs.Lists.{In, IsListOf, pick, From}
use Rattle.std.specs.Prelude.{slice_get}
use Rattle.automata_base.specs.Nfas.Nfa.{Nfa, Truth, node, hop, hop_at, ends, stays_at, ends_at, keep, keeps}
use Rattle.automata_base.specs.Paths.Paths.{IsPathAt, all_true, LeadsOn, IsClosure, KeepsCycles}
use Rattle.automata_base.proofs.Paths.Orders.{cons_head, cons_tail, nil_cons, some_inj, none_some}
use Rattle.automata_determinize.proofs.Paths.Orders.{before_begin}
use Rattle.automata_base.proofs.Paths.Walks.{walk_forget, hop_more, in_either, fork, fork_at}
use Rattle.automata_determinize.proofs.Paths.Compose.{Divides}
use Rattle.automata_determinize.proofs.Paths.Compose.{ComposesLeast, compose_least}
use Rattle.automata_base.proofs.Paths.Sift.{Sifted, IsSieve, sift, same}
use Rattle.automata_base.proofs.Paths.Included.{Includes}
use Rattle.automata_determinize.proofs.Paths.KeptSingles.{ClosedButSingles, KeptAhead, none_ahead, fewer}
use Rattle.automata_base.proofs.Paths.Staying.{ends_sieve, kept_at, keep_true, stay_cases, ends_stay, fork_hop, Ending}
use Rattle.automata_base.proofs.Paths.Staying.{stays_kept}

-- The state, if the choice `k` keeps it.
abbrev pub keep_by : (ℕ → Bool) → ℕ → Option ℕ
keep_by k q = cond (k q) (Some q) None

-- Byte, look and match states are kept.
abbrev pub KeepsStaying : Nfa → (ℕ → Bool) → Type 0
KeepsStaying n k = (q : ℕ) → stays_at (node n q) ≡ true → k q ≡ true

sieve_by : (b : Bool) (q r : ℕ) → cond b (Some q) None ≡ Some r → q ≡ r
sieve_by true q r e = some_inj e
sieve_by false q r e = absurd (none_some e)

pub keep_by_sieve : (k : ℕ → Bool) → IsSieve (keep_by k)
keep_by_sieve k q r e = sieve_by (k q) q r e

-- A path through states that are not kept.
abbrev pub Dropped : Nfa → (ℕ → Bool) → ℕ → List ℕ → ℕ → Type 0
Dropped n k q [] y = q ≡ y
Dropped n k q (e ∷ path) y = (r : ℕ) × (k q ≡ false) × (fork n q e ≡ Some r) × Dropped n k r path y

dropped_apart :
    (n : Nfa) (k : ℕ → Bool) (K : Truth) (q : ℕ) (t : List ℕ) (y : ℕ) (seen p : List ℕ) (z : ℕ) (zs : List ℕ) (x : ℕ)
    → Dropped n k q t y → t ≡ p ++ (z ∷ zs) → IsPathAt n K seen q p x → k x ≡ true → ⊥
dropped_apart n k K q [] y seen [] z zs x c e w s = nil_cons e
dropped_apart n k K q [] y seen (e' ∷ p) z zs x c e w s = nil_cons e
dropped_apart n k K q (e0 ∷ t) y seen [] z zs x c e w s = true≢false (sym s ∙ (ap k (sym w) ∙ c.1))
dropped_apart n k K q (e0 ∷ t) y seen (e' ∷ p) z zs x c e w s =
    dropped_apart n k K c.0 t y (q ∷ seen) p z zs x c.3 (cons_tail e)
    (subst (λ v. IsPathAt n K (q ∷ seen) v p x) (sym agree) w.3) s
  where
    agree : c.0 ≡ w.0
    agree = some_inj (sym (fork_hop (node n q) K e0 c.0 c.2) ∙ (ap (λ v. hop n K q v) (cons_head e) ∙ w.1))

-- A path to a state that ends, cut at the first state that is kept.
abbrev pub FirstKept : Nfa → (ℕ → Bool) → Truth → Truth → List ℕ → ℕ → List ℕ → ℕ → Type 0
FirstKept n k K T seen q t z =
    (y : ℕ) × (t1 s : List ℕ) × (t ≡ t1 ++ s) × IsPathAt n K seen q t1 y × Dropped n k q t1 y
    × (k y ≡ true) × IsPathAt n T [] y s z

pub first_kept :
    (n : Nfa) (k : ℕ → Bool) (K T : Truth) (seen : List ℕ) (q : ℕ) (t : List ℕ) (z : ℕ)
    → KeepsStaying n k → ends_at (node n z) ≡ true → IsPathAt n T seen q t z → FirstKept n k K T seen q t z
first_kept n k K T seen q [] z stays b w =
    (q, [], [], refl, refl, refl, stays q (ends_stay (node n q) (subst (λ v. ends_at (node n v) ≡ true) (sym w) b)), w)
first_kept n k K T seen q (e ∷ t) z stays b w =
    go (k q) refl (stay_cases (node n q)) (first_kept n k K T (q ∷ seen) w.0 t z stays b w.3)
  where
    here : k q ≡ true → FirstKept n k K T seen q (e ∷ t) z
    here s = (q, [], e ∷ t, refl, refl, refl, s, walk_forget n T [] seen q (e ∷ t) z w)

    go :
        (c : Bool) → k q ≡ c
        → (stays_at (node n q) ≡ true)
        ⊎ ((ends_at (node n q) ≡ false) × ((A : Truth) (e : ℕ) → hop_at (node n q) A e ≡ fork_at (node n q) e))
        → FirstKept n k K T (q ∷ seen) w.0 t z → FirstKept n k K T seen q (e ∷ t) z
    go true c h f = here c
    go false c (inl s) f = here (stays q s)
    go false c (inr h) f =
        let j : fork n q e ≡ Some w.0 = sym (h.1 T e) ∙ w.1 in (
          f.0,
          e ∷ f.1,
          f.2,
          ap (λ v. e ∷ v) f.3,
          (w.0, fork_hop (node n q) K e w.0 j, w.2, f.4),
          (w.0, c, j, f.5),
          f.6,
          f.7,
        )

-- A walk from `x` to `z` avoids `more`, if none of those states that `x` leads to continues to `z` while avoiding
-- `first`.
walk_past_by :
    (n : Nfa) (A : Truth) (seen more : List ℕ) (x : ℕ) (path : List ℕ) (z first : ℕ)
    → In first (x ∷ seen)
    → ((y : ℕ) (d : List ℕ) → LeadsOn n x y → IsPathAt n A (first ∷ []) y d z → In y more → ⊥)
    → IsPathAt n A seen x path z → IsPathAt n A (seen ++ more) x path z
walk_past_by n A seen more x [] z first i f w = w
walk_past_by n A seen more x (e ∷ path) z first i f w =
    (w.0, w.1, fresh, walk_past_by n A (x ∷ seen) more w.0 path z first (inr i) on w.3)
  where
    edge : hop n all_true x e ≡ Some w.0
    edge = hop_more n A all_true x e w.0 (λ look a. refl) w.1

    met : (y : ℕ) → In y (first ∷ []) → In y (x ∷ seen)
    met y (inl j) = subst (λ v. In v (x ∷ seen)) (sym j) i
    met y (inr j) = absurd j

    rest : IsPathAt n A (first ∷ []) w.0 path z
    rest = fewer n A (x ∷ seen) (first ∷ []) w.0 path z met w.3

    fresh : In w.0 (x ∷ (seen ++ more)) → ⊥
    fresh h =
        ⊎_elim (λ (j : In w.0 (x ∷ seen)). w.2 j) (λ (j : In w.0 more). f w.0 path (e, w.0, edge, ([], refl)) rest j)
        (in_either w.0 (x ∷ seen) more h)

    on : (y : ℕ) (d : List ℕ) → LeadsOn n w.0 y → IsPathAt n A (first ∷ []) y d z → In y more → ⊥
    on y d l v j = f y d (e, w.0, edge, (l.0 ∷ l.3.0, (l.1, l.2, l.3.1))) v j

-- A walk to `x` and a walk from there to `z` join to one walk, if no state on the way to `x` continues to `z` while
-- avoiding `x`.
walk_join_by :
    (n : Nfa) (K T : Truth) (seen : List ℕ) (q : ℕ) (p : List ℕ) (x : ℕ) (s : List ℕ) (z : ℕ) (G : ℕ → Type 0)
    → Includes K T
    → ((y : ℕ) (d : List ℕ) → LeadsOn n x y → IsPathAt n T (x ∷ []) y d z → G y → ⊥)
    → ((y : ℕ) → In y seen → G y)
    → ((y : ℕ) (a b more : List ℕ) (e : ℕ) → p ≡ a ++ (e ∷ b) → IsPathAt n K seen q a y → IsPathAt n K more y (e ∷ b) x
    → G y)
    → IsPathAt n K seen q p x → IsPathAt n T [] x s z → IsPathAt n T seen q (p ++ s) z
walk_join_by n K T seen q [] x s z G more f g h w v =
    subst (λ u. IsPathAt n T seen u s z) (sym w)
    (walk_past_by n T [] seen x s z x (inl refl) (λ y d l j i. f y d l j (g y i)) v)
walk_join_by n K T seen q (e ∷ p) x s z G more f g h w v =
    (w.0, hop_more n K T q e w.0 more w.1, w.2, walk_join_by n K T (q ∷ seen) w.0 p x s z G more f on inner w.3 v)
  where
    on : (y : ℕ) → In y (q ∷ seen) → G y
    on y (inl i) = subst G (sym i) (h q [] p seen e refl refl w)
    on y (inr i) = g y i

    inner :
        (y : ℕ) (a b past : List ℕ) (e' : ℕ) → p ≡ a ++ (e' ∷ b) → IsPathAt n K (q ∷ seen) w.0 a y
        → IsPathAt n K past y (e' ∷ b) x → G y
    inner y a b past e' c u t = h y (e ∷ a) b past e' (ap (λ (l : List ℕ). e ∷ l) c) (w.0, w.1, w.2, u) t

-- If the kept states are closed under cycles, closing what a closure keeps under more looks gives the byte and match
-- states of the closure from the roots under those looks, in its order.
pub late_by :
    (n : Nfa) (k : ℕ → Bool) (K T : Truth) (roots C L : List ℕ)
    → Includes K T → KeepsStaying n k → ClosedButSingles n k
    → IsClosure n K roots C → IsClosure n T (pick (keep_by k) C) L
    → IsListOf (Ending n (From (λ root path q. IsPathAt n T [] root path q) roots)) (pick (ends n) L)
late_by n k K T roots C L more stays cycles c l =
    compose_least (From W_K roots) (keep_by k) S P' [] C (pick (ends n) L) joins divides c
    (same (Sifted (ends n) (From W_T (pick (keep_by k) C))) (From S (pick (keep_by k) C)) (pick (ends n) L) there back
    (sift (From W_T (pick (keep_by k) C)) (ends n) L (ends_sieve n) l))
  where
    W_K : ℕ → List ℕ → ℕ → Type 0
    W_K root path q = IsPathAt n K [] root path q

    W_T : ℕ → List ℕ → ℕ → Type 0
    W_T root path q = IsPathAt n T [] root path q

    S : ℕ → List ℕ → ℕ → Type 0
    S root path q = (ends n q ≡ Some q) × IsPathAt n T [] root path q

    P' : ℕ → List ℕ → Type 0
    P' = Ending n (From W_T roots)

    there :
        (q : ℕ) (key : List ℕ) → Sifted (ends n) (From W_T (pick (keep_by k) C)) q key
        → From S (pick (keep_by k) C) q key
    there q [] h = h.1
    there q (i ∷ s) h = (h.1.0, h.1.1, (h.0, h.1.2))

    back :
        (q : ℕ) (key : List ℕ) → From S (pick (keep_by k) C) q key
        → Sifted (ends n) (From W_T (pick (keep_by k) C)) q key
    back q [] h = absurd h
    back q (i ∷ s) h = (h.2.0, (h.0, h.1, h.2.1))

    joins : ComposesLeast (From W_K roots) (keep_by k) S P' []
    joins x r q [] s p g w none = absurd p
    joins x r q (i ∷ p1) s p g w none = (
      w.0,
      (
        p.0,
        p.1,
        walk_join_by n K T [] p.0 p1 x s q G more meets (λ y h. absurd h)
            (λ y a b past e h v u. (a, b, past, e, h, v, u)) p.2
            (subst (λ v. IsPathAt n T [] v s q) (sym (keep_by_sieve k x r g)) w.1),
      ),
    )
      where
        kx : k x ≡ true
        kx = kept_at (k x) x r g

        -- A state on the way to `x`.
        G : ℕ → Type 0
        G y =
            (a b past : List ℕ) × (e : ℕ) × (p1 ≡ a ++ (e ∷ b)) × IsPathAt n K [] p.0 a y
            × IsPathAt n K past y (e ∷ b) x

        ahead : KeptAhead n k K T p.0 p1 x q
        ahead y a b d e h ky u v =
            none y y (i ∷ a) d (p.0, p.1, u)
            (subst (λ l. Before (i ∷ a) (i ∷ l)) (sym h) (before_begin (i ∷ a) e b)) (keep_true (k y) y ky) (w.0, v)

        meets : (y : ℕ) (d : List ℕ) → LeadsOn n x y → IsPathAt n T (x ∷ []) y d q → G y → ⊥
        meets y d on v h =
            none_ahead n k K T p.0 p1 x q cycles kx (kept_at (ends_at (node n q)) q q w.0) p.2 ahead h.1 h.0 h.3 y h.2 d
            h.4 h.5 h.6 on v

    divides : Divides (From W_K roots) (keep_by k) S P' []
    divides q [] h = absurd h.1
    divides q (i ∷ t) h = (
      f.0,
      f.0,
      i ∷ f.1,
      f.2,
      (h.1.0, h.1.1, f.4),
      keep_true (k f.0) f.0 f.6,
      (h.0, f.7),
      ap (λ v. i ∷ v) f.3,
      apart,
    )
      where
        f : FirstKept n k K T [] h.1.0 t q
        f = first_kept n k K T [] h.1.0 t q stays (kept_at (ends_at (node n q)) q q h.0) h.1.2

        apart :
            (y r' : ℕ) (other : List ℕ) → From W_K roots y other → keep_by k y ≡ Some r' → Begins other (i ∷ f.1) → ⊥
        apart y r' [] p g b = absurd p
        apart y r' (i' ∷ other) p g b =
            dropped_apart n k K h.1.0 f.1 f.0 [] other b.0 b.1 y f.5 (cons_tail b.2)
            (subst (λ v. IsPathAt n K [] v other y)
            (some_inj (sym p.1 ∙ (ap (λ v. slice_get roots v) (sym (cons_head b.2)) ∙ h.1.1))) p.2)
            (kept_at (k y) y r' g)

-- The same for the states that an NFA keeps.
pub late :
    (n : Nfa) (K T : Truth) (roots C L : List ℕ)
    → Includes K T → KeepsCycles n
    → IsClosure n K roots C → IsClosure n T (pick (keep n) C) L
    → IsListOf (Ending n (From (λ root path q. IsPathAt n T [] root path q) roots)) (pick (ends n) L)
late n K T roots C L more cycles c l = late_by n (keeps n) K T roots C L more (λ q s. stays_kept n q s) cycles c l
