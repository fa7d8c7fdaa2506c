-- Ways through an NFA: paths that may pass a state twice at one position, over any truths and bytes.
use Rattle.std.proofs.Common.{ℕ, suc, ◌≡◌, ◌≤◌, List, [], ◌∷◌, ◌++◌, ◌⊎◌, Option, Some, None, inl, inr, refl, sym, ◌∙◌}
use Rattle.std.proofs.Common.{subst, arith, ⊎_elim}
use Rattle.automata_base.specs.Lists.{In}
use Rattle.std.specs.Prelude.{slice_get}
use Rattle.automata_base.specs.Nfas.Nfa.{Nfa, Truth, hop, takes}
use Rattle.automata_base.specs.Paths.Paths.{Tape, IsPathFrom, truth, all_true, Run}
use Rattle.automata_base.specs.Paths.Paths.{StaysHere, ReadsByte}
use Rattle.automata_base.proofs.Paths.Orders.{none_some}
use Rattle.automata_base.proofs.Paths.Walks.{in_either}
use Rattle.std.proofs.lemmas.Bool.{cases_eq}

-- The byte at each position.
abbrev pub Bytes : Type 0
Bytes = ℕ → Option ℕ

abbrev pub IsWay : Nfa → (ℕ → Truth) → Bytes → ℕ → ℕ → List ℕ → ℕ → ℕ → Type 0
IsWay n A b i q [] j z = (i ≡ j) × (q ≡ z)
IsWay n A b i q (e ∷ path) j z =
    ((r : ℕ) × (hop n (A i) q e ≡ Some r) × IsWay n A b i r path j z)
    ⊎ ((r u : ℕ) × (b i ≡ Some u) × (takes n q u ≡ Some r) × IsWay n A b (suc i) r path j z)

abbrev pub HasWay : Nfa → (ℕ → Truth) → Bytes → ℕ → ℕ → ℕ → ℕ → Type 0
HasWay n A b i q j z = (path : List ℕ) × IsWay n A b i q path j z

-- Joins two ways.
pub way_join :
    (n : Nfa) (A : ℕ → Truth) (b : Bytes) (i q : ℕ) (p : List ℕ) (k y : ℕ) (s : List ℕ) (j z : ℕ)
    → IsWay n A b i q p k y → IsWay n A b k y s j z → IsWay n A b i q (p ++ s) j z
way_join n A b i q [] k y s j z h g =
    subst (λ v. IsWay n A b v q s j z) (sym h.0) (subst (λ v. IsWay n A b k v s j z) (sym h.1) g)
way_join n A b i q (e ∷ p) k y s j z (inl h) g =
    inl (h.0, h.1, way_join n A b i h.0 p k y s j z h.2 g)
way_join n A b i q (e ∷ p) k y s j z (inr h) g =
    inr (h.0, h.1, h.2, h.3, way_join n A b (suc i) h.0 p k y s j z h.4 g)

pub join :
    (n : Nfa) (A : ℕ → Truth) (b : Bytes) (i q k y j z : ℕ)
    → HasWay n A b i q k y → HasWay n A b k y j z → HasWay n A b i q j z
join n A b i q k y j z h g = (h.0 ++ g.0, way_join n A b i q h.0 k y g.0 j z h.1 g.1)

pub hop_way :
    (n : Nfa) (A : ℕ → Truth) (b : Bytes) (i q e r : ℕ) → hop n (A i) q e ≡ Some r → HasWay n A b i q i r
hop_way n A b i q e r h = (e ∷ [], inl (r, h, (refl, refl)))

pub move_way :
    (n : Nfa) (A : ℕ → Truth) (b : Bytes) (i q u r : ℕ) → b i ≡ Some u → takes n q u ≡ Some r
    → HasWay n A b i q (suc i) r
move_way n A b i q u r h k = (0 ∷ [], inr (r, u, h, k, (refl, refl)))

pub way_grows :
    (n : Nfa) (A : ℕ → Truth) (b : Bytes) (i q : ℕ) (p : List ℕ) (j z : ℕ) → IsWay n A b i q p j z → i ≤ j
way_grows n A b i q [] j z h = omega (arith, h.0)
way_grows n A b i q (e ∷ p) j z (inl h) = way_grows n A b i h.0 p j z h.2
way_grows n A b i q (e ∷ p) j z (inr h) = let k = way_grows n A b (suc i) h.0 p j z h.4 in omega (arith, k)

-- A path is a way.
pub path_way :
    (n : Nfa) (t : Tape) (i : ℕ) (seen : List ℕ) (q : ℕ) (p : List ℕ) (j z : ℕ)
    → IsPathFrom n t i seen q p j z → IsWay n (truth n t) (slice_get t.bytes) i q p j z
path_way n t i seen q [] j z h = h
path_way n t i seen q (e ∷ p) j z (StaysHere r hops new on) = inl (r, hops, path_way n t i (q ∷ seen) r p j z on)
path_way n t i seen q (e ∷ p) j z (ReadsByte r edge moves on) =
    inr (r, moves.0, moves.1, moves.2, path_way n t (suc i) [] r p j z on)

-- There is a path from `q` at position `i` to `z` at position `j`.
abbrev pub HasPath : Nfa → Tape → ℕ → ℕ → ℕ → ℕ → Type 0
HasPath n t i q j z = (path : List ℕ) × IsPathFrom n t i [] q path j z

-- A path stays a path if it has to avoid fewer states.
path_forget :
    (n : Nfa) (t : Tape) (i : ℕ) (seen more : List ℕ) (q : ℕ) (p : List ℕ) (j z : ℕ)
    → ((y : ℕ) → In y more → In y seen) → IsPathFrom n t i seen q p j z → IsPathFrom n t i more q p j z
path_forget n t i seen more q [] j z f h = h
path_forget n t i seen more q (e ∷ p) j z f (StaysHere r hops new on) =
    StaysHere r hops (λ k. new (still k)) (path_forget n t i (q ∷ seen) (q ∷ more) r p j z under on)
  where
    under : (y : ℕ) → In y (q ∷ more) → In y (q ∷ seen)
    under y (inl e) = inl e
    under y (inr k) = inr (f y k)

    still : In r (q ∷ more) → In r (q ∷ seen)
    still k = under r k
path_forget n t i seen more q (e ∷ p) j z f (ReadsByte r edge moves on) = ReadsByte r edge moves on

-- A path either passes `q` at its first position, and then there is a path from `q`, or it avoids `q`.
abbrev pub Meets : Nfa → Tape → ℕ → List ℕ → ℕ → ℕ → List ℕ → ℕ → ℕ → Type 0
Meets n t i seen q r p j z =
    HasPath n t i q j z ⊎ (IsPathFrom n t i (seen ++ (q ∷ [])) r p j z × (r ≡ q → ⊥))

meets :
    (n : Nfa) (t : Tape) (i : ℕ) (seen : List ℕ) (q r : ℕ) (p : List ℕ) (j z : ℕ)
    → IsPathFrom n t i seen r p j z → Meets n t i seen q r p j z
meets n t i seen q r [] j z h = ⊎_elim
    (λ (e : r ≡ q). inl ([], (h.0, sym e ∙ h.1))) (λ (f : r ≡ q → ⊥). inr (h, f)) (cases_eq r q)
meets n t i seen q r (e ∷ p) j z (StaysHere r' hops new on) = go (cases_eq r q) (meets n t i (r ∷ seen) q r' p j z on)
  where
    go : (r ≡ q) ⊎ (r ≡ q → ⊥) → Meets n t i (r ∷ seen) q r' p j z → Meets n t i seen q r (e ∷ p) j z
    go (inl s) g = inl (
      e ∷ p,
      subst (λ v. IsPathFrom n t i [] v (e ∷ p) j z) s
          (path_forget n t i seen [] r (e ∷ p) j z (λ y k. absurd k) (StaysHere r' hops new on)),
    )
    go (inr f) (inl g) = inl g
    go (inr f) (inr g) = inr (StaysHere r' hops fresh g.0, f)
      where
        fresh : In r' (r ∷ (seen ++ (q ∷ []))) → ⊥
        fresh k = ⊎_elim (λ (c : In r' (r ∷ seen)). new c)
            (λ (c : In r' (q ∷ [])). ⊎_elim (λ (s : r' ≡ q). g.1 s) (λ (d : ⊥). d) c)
            (in_either r' (r ∷ seen) (q ∷ []) k)
meets n t i seen q r (e ∷ p) j z (ReadsByte r' edge moves on) = ⊎_elim
    (λ (s : r ≡ q).
    inl (e ∷ p, subst (λ v. IsPathFrom n t i [] v (e ∷ p) j z) s (ReadsByte r' edge moves on)))
    (λ (f : r ≡ q → ⊥). inr (ReadsByte r' edge moves on, f)) (cases_eq r q)

hop_path :
    (n : Nfa) (t : Tape) (i q e r j z : ℕ) → hop n (truth n t i) q e ≡ Some r → HasPath n t i r j z
    → HasPath n t i q j z
hop_path n t i q e r j z h w = go (meets n t i [] q r w.0 j z w.1)
  where
    go : Meets n t i [] q r w.0 j z → HasPath n t i q j z
    go (inl k) = k
    go (inr k) = (e ∷ w.0, StaysHere r h (λ c. ⊎_elim (λ (s : r ≡ q). k.1 s) (λ (d : ⊥). d) c) k.0)

-- If there is a way, there is a path.
pub way_path :
    (n : Nfa) (t : Tape) (i q : ℕ) (p : List ℕ) (j z : ℕ)
    → IsWay n (truth n t) (slice_get t.bytes) i q p j z → HasPath n t i q j z
way_path n t i q [] j z h = ([], h)
way_path n t i q (e ∷ p) j z (inl h) = hop_path n t i q e h.0 j z h.1 (way_path n t i h.0 p j z h.2)
way_path n t i q (e ∷ p) j z (inr h) =
    let w = way_path n t (suc i) h.0 p j z h.4 in (0 ∷ w.0, ReadsByte h.0 refl (h.1, h.2, h.3) w.1)

-- No bytes: such ways follow only epsilon edges.
abbrev pub no_bytes : Bytes
no_bytes i = None

abbrev pub always : ℕ → Truth
always i = all_true

pub run_way : (n : Nfa) (q : ℕ) (p : List ℕ) (z : ℕ) → Run n q p z → IsWay n always no_bytes 0 q p 0 z
run_way n q [] z h = (refl, h)
run_way n q (e ∷ p) z h = inl (h.0, h.1, run_way n h.0 p z h.2)

pub way_run : (n : Nfa) (i q : ℕ) (p : List ℕ) (j z : ℕ) → IsWay n always no_bytes i q p j z → Run n q p z
way_run n i q [] j z h = h.1
way_run n i q (e ∷ p) j z (inl h) = (h.0, h.1, way_run n i h.0 p j z h.2)
way_run n i q (e ∷ p) j z (inr h) = absurd (none_some h.2)
