-- The computed first visits are first visits.
use Rattle.std.proofs.Common.{ℕ, zero, suc, ◌≡◌, ◌<◌, ◌≤◌, ◌+◌, Bool, true, false, ◌||◌, eqb, List, [], ◌∷◌, ◌++◌, ◌⊎◌}
use Rattle.std.proofs.Common.{length, inl, inr, refl, sym, ap, ◌∙◌, arith, ⊎_elim, eq-or-lt_of_le}
use Rattle.std.proofs.Common.{le_of_suc-le-suc}
use Rattle.std.proofs.lemmas.Bool.Decides.{eqb_tells}
use Rattle.automata_base.specs.Lists.{In}
use Rattle.automata_base.specs.Nfas.Nfa.{Nfa, Truth}
use Rattle.automata_base.specs.Paths.Paths.{IsClosure}
use Rattle.automata_base.specs.Powersets.Closure.{children, Visits, done, skip, visit}
use Rattle.automata_base.specs.Retraced.Computed.{is_in}
use Rattle.automata_determinize.specs.Retraced.Computed.{visits_with, first_visits, closure_of}
use Rattle.automata_base.specs.Nfas.Accepted.{IsInRange}
use Rattle.automata_base.proofs.Paths.Walks.{in_either}
use Rattle.automata_base.proofs.Paths.FirstVisits.{visits_closure}
use Rattle.automata_base.proofs.Paths.Fuels.{is_in_true, is_in_false, is_in_cases}

-- The number of states below `N` that are not in the list.
abbrev pub bit : Bool → ℕ
bit true = 0
bit false = 1

abbrev pub room : List ℕ → ℕ → ℕ
room S zero = 0
room S (suc k) = bit (is_in k S) + room S k

bit_more : (a b : Bool) → bit (a || b) ≤ bit b
bit_more true true = omega arith
bit_more true false = omega arith
bit_more false true = omega arith
bit_more false false = omega arith

room_more : (x : ℕ) (S : List ℕ) (N : ℕ) → room (x ∷ S) N ≤ room S N
room_more x S zero = omega arith
room_more x S (suc k) =
    let h = room_more x S k in
    let b = bit_more (eqb k x) (is_in k S) in
    omega (arith, h, b)

room_less : (x : ℕ) (S : List ℕ) (N : ℕ) → x < N → is_in x S ≡ false → suc (room (x ∷ S) N) ≤ room S N
room_less x S zero l e = absurd (omega (arith, l))
room_less x S (suc k) l e = go (eqb_tells k x) (room_more x S k) (room_less x S k)
  where
    go :
        ((eqb k x ≡ true) × (k ≡ x)) ⊎ ((eqb k x ≡ false) × (k ≡ x → ⊥)) → room (x ∷ S) k ≤ room S k
        → (x < k → is_in x S ≡ false → suc (room (x ∷ S) k) ≤ room S k)
        → suc (bit (eqb k x || is_in k S) + room (x ∷ S) k) ≤ bit (is_in k S) + room S k
    go (inl h) m ih =
        let a : bit (eqb k x || is_in k S) ≡ 0 = ap (λ v. bit (v || is_in k S)) h.0 in
        let b : bit (is_in k S) ≡ 1 = ap bit (ap (λ v. is_in v S) h.1 ∙ e) in
        omega (arith, a, b, m)
    go (inr h) m ih =
        let w =
        ih (⊎_elim (λ (s : x ≡ k). absurd (h.1 (sym s))) (λ (s : x < k). s) (eq-or-lt_of_le (le_of_suc-le-suc l))) e in
        let b = bit_more (eqb k x) (is_in k S) in
        omega (arith, w, b)

abbrev pub AllBelow : ℕ → List ℕ → Type 0
AllBelow N xs = (y : ℕ) → In y xs → y < N

no_room :
    (n : Nfa) (A : Truth) (stack seen : List ℕ) (N : ℕ) → AllBelow N stack → room seen N ≤ 0 → Visits n A stack seen []
no_room n A [] seen N b r = done
no_room n A (x ∷ stack) seen N b r = go (is_in_cases x seen) (no_room n A stack seen N (λ y i. b y (inr i)) r)
  where
    go :
        ((is_in x seen ≡ true) × In x seen) ⊎ ((is_in x seen ≡ false) × (In x seen → ⊥)) → Visits n A stack seen []
        → Visits n A (x ∷ stack) seen []
    go (inl h) ih = skip h.1 ih
    go (inr h) ih = let w = room_less x seen N (b x (inl refl)) h.0 in absurd (omega (arith, w, r))

abbrev pub Recurses : (List ℕ → List ℕ → List ℕ) → Nfa → Truth → ℕ → ℕ → Type 0
Recurses rec n A N fuel =
    (stack seen : List ℕ) → AllBelow N stack → room seen N ≤ fuel → Visits n A stack seen (rec stack seen)

visits_inner :
    (rec : List ℕ → List ℕ → List ℕ) (n : Nfa) (A : Truth) (N fuel : ℕ)
    → ((q c : ℕ) → In c (children n A q) → c < N) → Recurses rec n A N fuel
    → (stack seen : List ℕ) → AllBelow N stack → room seen N ≤ suc fuel
    → Visits n A stack seen (visits_with rec n A stack seen)
visits_inner rec n A N fuel c r [] seen b l = done
visits_inner rec n A N fuel c r (x ∷ stack) seen b l =
    go (is_in x seen) refl (visits_inner rec n A N fuel c r stack seen (λ y i. b y (inr i)) l)
  where
    below : AllBelow N (children n A x ++ stack)
    below y i =
        ⊎_elim (λ (j : In y (children n A x)). c x y j) (λ (j : In y stack). b y (inr j))
        (in_either y (children n A x) stack i)

    go :
        (t : Bool) → is_in x seen ≡ t → Visits n A stack seen (visits_with rec n A stack seen)
        → Visits n A (x ∷ stack) seen
        (elim t [ true ↦ visits_with rec n A stack seen | false ↦ x ∷ rec (children n A x ++ stack) (x ∷ seen) ])
    go true e ih = skip (is_in_true x seen e) ih
    go false e ih =
        visit (is_in_false x seen e)
        (r (children n A x ++ stack) (x ∷ seen) below
        (let w = room_less x seen N (b x (inl refl)) e in omega (arith, w, l)))

pub visits_fuel :
    (fuel : ℕ) (n : Nfa) (A : Truth) (N : ℕ) → ((q c : ℕ) → In c (children n A q) → c < N)
    → Recurses (first_visits fuel n A) n A N fuel
visits_fuel zero n A N c stack seen b l = no_room n A stack seen N b l
visits_fuel (suc fuel) n A N c stack seen b l =
    visits_inner (first_visits fuel n A) n A N fuel c (visits_fuel fuel n A N c) stack seen b l

room_most : (N : ℕ) → room [] N ≤ N
room_most zero = omega arith
room_most (suc k) = let h = room_most k in omega (arith, h)

pub closure_right :
    (n : Nfa) (A : Truth) (roots : List ℕ) → IsInRange n → AllBelow (length n.nodes) roots
    → IsClosure n A roots (closure_of n A roots)
closure_right n A roots r b =
    visits_closure n A roots (closure_of n A roots)
    (visits_fuel (length n.nodes) n A (length n.nodes) (λ q c i. r.0 q c A i) roots [] b (room_most (length n.nodes)))
