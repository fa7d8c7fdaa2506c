-- The lazy loop of an unanchored start: each of its paths skips some bytes and then continues from the anchored start.
use Rattle.std.proofs.Common.{le-leb, ◌&&◌, ℕ, zero, suc, ◌≡◌, ◌<◌, ◌≤◌, ◌+◌, Bool, true, false, cond, List, [], ◌∷◌}
use Rattle.std.proofs.Common.{◌++◌, ◌⊎◌, length, Some, None, inl, inr, refl, sym, ap, ap₂, ◌∙◌, subst, arith, ⊎_elim}
use Rattle.automata_base.specs.Paths.Order.{Before, Begins, TakesLess, TakesSame}
use Rattle.automata_base.specs.Haystacks.Looks.{within}
use Rattle.automata_base.specs.Lists.{In}
use Rattle.std.specs.Prelude.{slice_get}
use Rattle.automata_base.specs.Nfas.Nfa.{Nfa, Split, Truth, node, hop, hop_at, takes, takes_at, accepts, accepts_at}
use Rattle.automata_base.specs.Paths.Paths.{Tape, truth, IsPathFrom, all_true}
use Rattle.automata_base.specs.Paths.Paths.{StaysHere, ReadsByte}
use Rattle.automata_base.proofs.Paths.Orders.{some_inj, none_some, cons_head, cons_tail, nil_cons}
use Rattle.automata_base.proofs.Paths.Walks.{hop_more, in_left, in_either}
use Rattle.automata_base.specs.Nfas.Engines.{ByteEdge, FreeEdge, HasEdge, Reaches, any_byte}

-- The path that skips `k` bytes in the loop and continues as `path`.
abbrev pub skips : ℕ → List ℕ → List ℕ
skips zero path = path
skips (suc k) path = 1 ∷ 0 ∷ skips k path

pub path_forget :
    (n : Nfa) (t : Tape) (i : ℕ) (seen more : List ℕ) (q : ℕ) (p : List ℕ) (j z : ℕ)
    → IsPathFrom n t i (seen ++ more) q p j z → IsPathFrom n t i seen q p j z
path_forget n t i seen more q [] j z h = h
path_forget n t i seen more q (e ∷ p) j z (StaysHere r hops new on) =
    StaysHere r hops (λ k. new (in_left r (q ∷ seen) more k)) (path_forget n t i (q ∷ seen) more r p j z on)
path_forget n t i seen more q (e ∷ p) j z (ReadsByte r edge moves on) = ReadsByte r edge moves on

-- A path also avoids each state that its start does not reach.
pub path_past :
    (n : Nfa) (t : Tape) (i : ℕ) (seen : List ℕ) (u q : ℕ) (p : List ℕ) (j z : ℕ)
    → (Reaches n q u → ⊥) → IsPathFrom n t i seen q p j z → IsPathFrom n t i (seen ++ (u ∷ [])) q p j z
path_past n t i seen u q [] j z f h = h
path_past n t i seen u q (e ∷ p) j z f (StaysHere r hops new on) =
    StaysHere r hops fresh (path_past n t i (q ∷ seen) u r p j z past on)
  where
    edge : HasEdge n q r
    edge = FreeEdge e (hop_more n (truth n t i) all_true q e r (λ look a. refl) hops)

    past : Reaches n r u → ⊥
    past w = f (r ∷ w.0, (edge, w.1))

    fresh : In r (q ∷ (seen ++ (u ∷ []))) → ⊥
    fresh k = ⊎_elim (λ (b : In r (q ∷ seen)). new b)
        (λ (b : In r (u ∷ [])). ⊎_elim (λ (c : r ≡ u). past ([], c)) (λ (c : ⊥). c) b)
        (in_either r (q ∷ seen) (u ∷ []) k)
path_past n t i seen u q (e ∷ p) j z f (ReadsByte r edge moves on) = ReadsByte r edge moves on

-- The edges of the two states of the loop.
union_hop :
    (n : Nfa) (A : Truth) (u a x e r : ℕ) → node n u ≡ Split (a ∷ x ∷ []) → hop n A u e ≡ Some r
    → ((e ≡ 0) × (r ≡ a)) ⊎ ((e ≡ 1) × (r ≡ x))
union_hop n A u a x e r c h = go e (subst (λ v. hop_at v A e ≡ Some r) c h)
  where
    go : (e : ℕ) → slice_get (a ∷ x ∷ []) e ≡ Some r → ((e ≡ 0) × (r ≡ a)) ⊎ ((e ≡ 1) × (r ≡ x))
    go zero h = inl (refl, sym (some_inj h))
    go (suc zero) h = inr (refl, sym (some_inj h))
    go (suc (suc e)) h = absurd (none_some h)

union_takes : (n : Nfa) (u a x b r : ℕ) → node n u ≡ Split (a ∷ x ∷ []) → takes n u b ≡ Some r → ⊥
union_takes n u a x b r c h = none_some (subst (λ v. takes_at v b ≡ Some r) c h)

union_accepts : (n : Nfa) (u a x p : ℕ) → node n u ≡ Split (a ∷ x ∷ []) → accepts n u ≡ Some p → ⊥
union_accepts n u a x p c h = none_some (subst (λ v. accepts_at v ≡ Some p) c h)

byte_hop : (n : Nfa) (A : Truth) (x u e r : ℕ) → node n x ≡ any_byte u → hop n A x e ≡ Some r → ⊥
byte_hop n A x u e r c h = none_some (subst (λ v. hop_at v A e ≡ Some r) c h)

byte_accepts : (n : Nfa) (x u p : ℕ) → node n x ≡ any_byte u → accepts n x ≡ Some p → ⊥
byte_accepts n x u p c h = none_some (subst (λ v. accepts_at v ≡ Some p) c h)

byte_takes : (n : Nfa) (x u b r : ℕ) → node n x ≡ any_byte u → takes n x b ≡ Some r → r ≡ u
byte_takes n x u b r c h = go (within 0 255 b) (subst (λ v. takes_at v b ≡ Some r) c h)
  where
    go : (t : Bool) → cond t (Some u) None ≡ Some r → r ≡ u
    go true h = sym (some_inj h)
    go false h = absurd (none_some h)

-- The path from the union skips `k` bytes and continues from the anchored start.
abbrev pub Lazily : Nfa → Tape → ℕ → ℕ → List ℕ → ℕ → ℕ → Type 0
Lazily n t i a path j z =
    (k : ℕ) × (rest : List ℕ) × (path ≡ skips k (0 ∷ rest)) × IsPathFrom n t (i + k) [] a rest j z

pub lazily :
    (n : Nfa) (t : Tape) (u a x : ℕ) → node n u ≡ Split (a ∷ x ∷ []) → node n x ≡ any_byte u
    → (i : ℕ) (path : List ℕ) (j z p : ℕ) → accepts n z ≡ Some p → IsPathFrom n t i [] u path j z
    → Lazily n t i a path j z
lazily n t u a x c d i [] j z p m h =
    absurd (union_accepts n u a x p c (subst (λ v. accepts n v ≡ Some p) (sym h.1) m))
lazily n t u a x c d i (e ∷ []) j z p m (StaysHere r hops new on) = go (union_hop n (truth n t i) u a x e r c hops)
  where
    go : ((e ≡ 0) × (r ≡ a)) ⊎ ((e ≡ 1) × (r ≡ x)) → Lazily n t i a (e ∷ []) j z
    go (inl k) =
        (0, [], ap (λ v. v ∷ []) k.0, (let b = on.0 in omega (arith, b), sym k.1 ∙ on.1))
    go (inr k) = absurd (byte_accepts n x u p d (subst (λ v. accepts n v ≡ Some p) (sym on.1 ∙ k.1) m))
lazily n t u a x c d i (e ∷ []) j z p m (ReadsByte r edge moves on) = absurd (union_takes n u a x moves.0 r c moves.2)
lazily n t u a x c d i (e ∷ e' ∷ path) j z p m (ReadsByte r edge moves on) =
    absurd (union_takes n u a x moves.0 r c moves.2)
lazily n t u a x c d i (e ∷ e' ∷ path) j z p m (StaysHere r hops new on) =
    go (union_hop n (truth n t i) u a x e r c hops) (lazily n t u a x c d (suc i) path j z p m)
  where
    go :
        ((e ≡ 0) × (r ≡ a)) ⊎ ((e ≡ 1) × (r ≡ x))
        → (IsPathFrom n t (suc i) [] u path j z → Lazily n t (suc i) a path j z)
        → Lazily n t i a (e ∷ e' ∷ path) j z
    go (inl k) ih = (
      0,
      e' ∷ path,
      ap (λ v. v ∷ (e' ∷ path)) k.0,
      subst (λ v. IsPathFrom n t v [] a (e' ∷ path) j z) (omega arith)
          (path_forget n t i [] (u ∷ []) a (e' ∷ path) j z
          (subst (λ v. IsPathFrom n t i (u ∷ []) v (e' ∷ path) j z) k.1 on)),
    )
    go (inr k) ih = step (subst (λ v. IsPathFrom n t i (u ∷ []) v (e' ∷ path) j z) k.1 on)
      where
        step : IsPathFrom n t i (u ∷ []) x (e' ∷ path) j z → Lazily n t i a (e ∷ e' ∷ path) j z
        step (StaysHere s hops' new' on') = absurd (byte_hop n (truth n t i) x u e' s d hops')
        step (ReadsByte s edge moves on') =
            let same = byte_takes n x u moves.0 s d moves.2 in
            let w = ih (subst (λ v. IsPathFrom n t (suc i) [] v path j z) same on') in (
              suc w.0,
              w.1,
              ap₂ (λ v w. v ∷ w) k.0 (ap₂ (λ v w. v ∷ w) edge w.2),
              subst (λ v. IsPathFrom n t v [] a w.1 j z) (omega arith) w.3,
            )

pub nth_some : (xs : List ℕ) (i : ℕ) → i < length xs → (u : ℕ) × (slice_get xs i ≡ Some u)
nth_some [] i l = absurd (omega (arith, l))
nth_some (x ∷ xs) zero l = (x, refl)
nth_some (x ∷ xs) (suc i) l = nth_some xs i (omega (arith, l))

any_takes : (n : Nfa) (x u b : ℕ) → node n x ≡ any_byte u → b < 256 → takes n x b ≡ Some u
any_takes n x u b c l =
    subst (λ v. takes_at v b ≡ Some u) (sym c)
    (ap (λ v. cond v (Some u) None) (ap₂ (λ v w. v && w) (le-leb 0 b (omega arith)) (le-leb b 255 (omega (arith, l)))))

abbrev pub HasBytes : Tape → Type 0
HasBytes t = (o b : ℕ) → slice_get t.bytes o ≡ Some b → b < 256

-- The two states of the loop differ, and neither is the anchored start.
pub union_apart :
    (n : Nfa) (u a x : ℕ) → node n u ≡ Split (a ∷ x ∷ []) → node n x ≡ any_byte u → x ≡ u → ⊥
union_apart n u a x c d e =
    none_some
    (subst (λ v. hop_at v all_true 0 ≡ Some a) (ap (λ v. node n v) (sym e) ∙ d)
    (subst (λ v. hop_at v all_true 0 ≡ Some a) (sym c) refl))

pub skip_apart : (n : Nfa) (u a x : ℕ) → node n x ≡ any_byte u → (Reaches n a u → ⊥) → x ≡ a → ⊥
skip_apart n u a x d f e =
    f (u ∷ [], (ByteEdge 0 (subst (λ v. takes n v 0 ≡ Some u) e (any_takes n x u 0 d (omega arith))), refl))

-- A path from the anchored start, preceded by skipped bytes, is a path from the union.
pub skipping :
    (n : Nfa) (t : Tape) (u a x : ℕ) → node n u ≡ Split (a ∷ x ∷ []) → node n x ≡ any_byte u → (Reaches n a u → ⊥)
    → HasBytes t
    → (k i : ℕ) (rest : List ℕ) (j z : ℕ) → i + k ≤ length t.bytes → IsPathFrom n t (i + k) [] a rest j z
    → IsPathFrom n t i [] u (skips k (0 ∷ rest)) j z
skipping n t u a x c d f bytes zero i rest j z l h =
    StaysHere a (subst (λ v. hop_at v (truth n t i) 0 ≡ Some a) (sym c) refl)
    (λ k. ⊎_elim (λ (b : a ≡ u). f ([], b)) (λ (b : ⊥). b) k)
    (path_past n t i [] u a rest j z f (subst (λ v. IsPathFrom n t v [] a rest j z) (omega arith) h))
skipping n t u a x c d f bytes (suc k) i rest j z l h =
    StaysHere x (subst (λ v. hop_at v (truth n t i) 1 ≡ Some x) (sym c) refl)
    (λ k. ⊎_elim (λ (b : x ≡ u). union_apart n u a x c d b) (λ (b : ⊥). b) k)
    (ReadsByte u refl (b.0, b.1, any_takes n x u b.0 d (bytes i b.0 b.1))
    (skipping n t u a x c d f bytes k (suc i) rest j z (omega (arith, l))
    (subst (λ v. IsPathFrom n t v [] a rest j z) (omega arith) h)))
  where
    b : (v : ℕ) × (slice_get t.bytes i ≡ Some v)
    b = nth_some t.bytes i (omega (arith, l))

-- A path of the loop does not reach the anchored start before it has skipped its last byte.
pub not_sooner :
    (n : Nfa) (t : Tape) (u a x : ℕ) → node n u ≡ Split (a ∷ x ∷ []) → node n x ≡ any_byte u → (Reaches n a u → ⊥)
    → (k i : ℕ) (shorter : List ℕ) (m : ℕ)
    → Begins shorter (skips k (0 ∷ [])) → IsPathFrom n t i [] u shorter m a → ⊥
not_sooner n t u a x c d f k i [] m b h = f ([], sym h.1)
not_sooner n t u a x c d f zero i (e ∷ s) m b h = end s (cons_tail b.2)
  where
    end : (s : List ℕ) → ◌≡◌ {A = List ℕ} [] (s ++ (b.0 ∷ b.1)) → ⊥
    end [] g = nil_cons g
    end (y ∷ s) g = nil_cons g
not_sooner n t u a x c d f (suc k) i (e ∷ []) m b (ReadsByte r edge moves on) = union_takes n u a x moves.0 r c moves.2
not_sooner n t u a x c d f (suc k) i (e ∷ []) m b (StaysHere r hops new on) =
    ⊎_elim (λ (g : (e ≡ 0) × (r ≡ a)). absurd (omega (arith, g.0, cons_head b.2)))
    (λ (g : (e ≡ 1) × (r ≡ x)). skip_apart n u a x d f (sym g.1 ∙ on.1))
    (union_hop n (truth n t i) u a x e r c hops)
not_sooner n t u a x c d f (suc k) i (e ∷ e' ∷ s) m b (ReadsByte r edge moves on) =
    union_takes n u a x moves.0 r c moves.2
not_sooner n t u a x c d f (suc k) i (e ∷ e' ∷ s) m b (StaysHere r hops new on) =
    go (union_hop n (truth n t i) u a x e r c hops) (not_sooner n t u a x c d f k (suc i) s m)
  where
    go :
        ((e ≡ 0) × (r ≡ a)) ⊎ ((e ≡ 1) × (r ≡ x))
        → (Begins s (skips k (0 ∷ [])) → IsPathFrom n t (suc i) [] u s m a → ⊥) → ⊥
    go (inl g) ih = absurd (omega (arith, g.0, cons_head b.2))
    go (inr g) ih = step (subst (λ v. IsPathFrom n t i (u ∷ []) v (e' ∷ s) m a) g.1 on)
      where
        step : IsPathFrom n t i (u ∷ []) x (e' ∷ s) m a → ⊥
        step (StaysHere r' hops' new' on') = byte_hop n (truth n t i) x u e' r' d hops'
        step (ReadsByte r' edge moves on') =
            ih (b.0, b.1, cons_tail (cons_tail b.2))
            (subst (λ v. IsPathFrom n t (suc i) [] v s m a) (byte_takes n x u moves.0 r' d moves.2) on')

pub skips_join : (k : ℕ) (rest : List ℕ) → skips k (0 ∷ rest) ≡ skips k (0 ∷ []) ++ rest
skips_join zero rest = refl
skips_join (suc k) rest = ap (λ v. 1 ∷ 0 ∷ v) (skips_join k rest)

-- The path that skips fewer bytes is ordered first.
pub sooner_less : (k k' : ℕ) (rest rest' : List ℕ) → k < k' → Before (skips k (0 ∷ rest)) (skips k' (0 ∷ rest'))
sooner_less zero zero rest rest' l = absurd (omega (arith, l))
sooner_less zero (suc k') rest rest' l = TakesLess (omega arith)
sooner_less (suc k) zero rest rest' l = absurd (omega (arith, l))
sooner_less (suc k) (suc k') rest rest' l =
    TakesSame refl (TakesSame refl (sooner_less k k' rest rest' (omega (arith, l))))
