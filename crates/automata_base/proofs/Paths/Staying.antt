-- Which states are kept, and which stay or end.
use Rattle.std.proofs.Common.{ℕ, ◌≡◌, ◌||◌, ◌&&◌, Bool, true, false, cond, List, ◌++◌, ◌⊎◌, Some, None, inl, inr, refl}
use Rattle.std.proofs.Common.{sym, true≢false}
use Rattle.automata_base.specs.Nfas.Nfa.{Nfa, Node, Split, Assert, Read, Accept, Truth, node, hop_at, keep, ends}
use Rattle.automata_base.specs.Nfas.Nfa.{stays_at, ends_at, keeps, splits_at}
use Rattle.automata_base.specs.Paths.Paths.{all_true, HasEpsilonPath, LeadsOn, IsLookAcyclic}
use Rattle.automata_base.proofs.Paths.Orders.{some_inj, none_some}
use Rattle.automata_base.proofs.Paths.Walks.{run_join, fork_at}
use Rattle.automata_base.proofs.Paths.Sift.{Sifted, IsSieve}

sieve_by : (b : Bool) (q r : ℕ) → cond b (Some q) None ≡ Some r → q ≡ r
sieve_by true q r e = some_inj e
sieve_by false q r e = absurd (none_some e)

pub keep_sieve : (n : Nfa) → IsSieve (keep n)
keep_sieve n q r e = sieve_by (keeps n q) q r e

pub or_kept : (b c : Bool) → b ≡ true → (b || c) ≡ true
or_kept true c e = refl
or_kept false c e = absurd (true≢false (sym e))

-- Byte, look and match states are kept.
pub stays_kept : (n : Nfa) (q : ℕ) → stays_at (node n q) ≡ true → keeps n q ≡ true
stays_kept n q s = or_kept (stays_at (node n q)) (splits_at (node n q) && n.keeps_unions) s

pub ends_sieve : (n : Nfa) → IsSieve (ends n)
ends_sieve n q r e = sieve_by (ends_at (node n q)) q r e

pub kept_at : (b : Bool) (q r : ℕ) → cond b (Some q) None ≡ Some r → b ≡ true
kept_at true q r e = refl
kept_at false q r e = absurd (none_some e)

-- A node is a byte, look or match node, or no look decides its edges.
pub stay_cases :
    (x : Node) → (stays_at x ≡ true) ⊎ ((ends_at x ≡ false) × ((A : Truth) (e : ℕ) → hop_at x A e ≡ fork_at x e))
stay_cases (Split alternates) = inr (refl, λ A e. refl)
stay_cases (Assert look next) = inl refl
stay_cases (Read ranges) = inl refl
stay_cases (Accept p) = inl refl

pub ends_stay : (x : Node) → ends_at x ≡ true → stays_at x ≡ true
ends_stay (Split alternates) e = e
ends_stay (Assert look next) e = refl
ends_stay (Read ranges) e = refl
ends_stay (Accept p) e = refl

pub fork_hop : (x : Node) (A : Truth) (e r : ℕ) → fork_at x e ≡ Some r → hop_at x A e ≡ Some r
fork_hop (Split alternates) A e r f = f
fork_hop (Assert look next) A e r f = absurd (none_some f)
fork_hop (Read ranges) A e r f = absurd (none_some f)
fork_hop (Accept p) A e r f = absurd (none_some f)

-- If no cycle passes a look, no path leads from a byte, look or match state back to it.
pub stays_no_loop :
    (n : Nfa) (x y : ℕ) → IsLookAcyclic n → stays_at (node n x) ≡ true → LeadsOn n x y → HasEpsilonPath n y x → ⊥
stays_no_loop n x y free s on back = go (node n x) refl s on.2
  where
    loop : LeadsOn n x x
    loop = (on.0, on.1, on.2, (on.3.0 ++ back.0, run_join n on.1 y x on.3.0 back.0 on.3.1 back.1))

    go : (m : Node) → node n x ≡ m → stays_at m ≡ true → hop_at m all_true on.0 ≡ Some on.1 → ⊥
    go (Split alternates) e s h = true≢false (sym s)
    go (Assert look next) e s h = free x look next e loop
    go (Read ranges) e s h = none_some h
    go (Accept p) e s h = none_some h

pub keep_true : (b : Bool) (q : ℕ) → b ≡ true → cond b (Some q) None ≡ Some q
keep_true true q e = refl
keep_true false q e = absurd (true≢false (sym e))

abbrev pub Ending : Nfa → (ℕ → List ℕ → Type 0) → ℕ → List ℕ → Type 0
Ending n P q key = Sifted (ends n) P q key
