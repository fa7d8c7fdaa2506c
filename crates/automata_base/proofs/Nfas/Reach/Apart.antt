-- States that are apart from two states do not reach them.
use Rattle.std.proofs.Common.{ℕ, zero, suc, ◌≡◌, ◌<◌, ◌≤◌, ◌⊎◌, ◌||◌, ◌&&◌, Bool, true, false, not, eqb}
use Rattle.std.proofs.Common.{List, [], ◌∷◌, ◌++◌, length, get_or, inl, inr, refl, sym, ap, ◌∙◌, subst, true≢false}
use Rattle.std.proofs.Common.{arith}
use Rattle.std.proofs.Math.Bool.{or-true}
use Rattle.std.proofs.lemmas.Bool.{and_parts, cases_lt, eq-eqb}
use Rattle.automata_base.specs.declared.nfa.thompson.state.State.{State}
use Rattle.automata_base.specs.declared.nfa.thompson.state.State.TheVariants as is
use Rattle.automata_base.specs.declared.nfa.thompson.state.Transition.{Transition}
use Rattle.automata_base.specs.declared.nfa.thompson.reach.Edges.TheVariants.{Every}
use Rattle.automata_base.specs.Lists.{In}
use Rattle.automata_base.specs.Nfas.Nodes.{node_of, ranges_of}
use Rattle.automata_base.specs.Retraced.Apart.{is_either, are_others, lead_elsewhere, leads_elsewhere}
use Rattle.automata_base.specs.Retraced.Reach.{nexts, targets_at, targets_of, Route, IsReached}
use Rattle.automata_base.proofs.Powersets.Walking.{node_at}

not_true : (b : Bool) → not b ≡ true → b ≡ false
not_true true e = absurd (true≢false (sym e))
not_true false e = refl

other_one : (one two q r : ℕ) → not (is_either one two q) ≡ true → In r (q ∷ []) → is_either one two r ≡ false
other_one one two q r h (inl e) = ap (is_either one two) e ∙ not_true (is_either one two q) h
other_one one two q r h (inr none) = absurd none

others_in : (one two : ℕ) (qs : List ℕ) (r : ℕ) → are_others one two qs ≡ true → In r qs → is_either one two r ≡ false
others_in one two [] r h i = absurd i
others_in one two (q ∷ qs) r h (inl e) =
    other_one one two q r (and_parts (not (is_either one two q)) (are_others one two qs) h).0 (inl e)
others_in one two (q ∷ qs) r h (inr i) =
    others_in one two qs r (and_parts (not (is_either one two q)) (are_others one two qs) h).1 i

edges_in :
    (one two : ℕ) (ts : List Transition) (r : ℕ) → lead_elsewhere one two ts ≡ true → In r (nexts (ranges_of ts))
    → is_either one two r ≡ false
edges_in one two [] r h i = absurd i
edges_in one two (t ∷ ts) r h (inl e) =
    other_one one two t.next r (and_parts (not (is_either one two t.next)) (lead_elsewhere one two ts) h).0 (inl e)
edges_in one two (t ∷ ts) r h (inr i) =
    edges_in one two ts r (and_parts (not (is_either one two t.next)) (lead_elsewhere one two ts) h).1 i

pair_in :
    (one two a b r : ℕ) → (not (is_either one two a) && not (is_either one two b)) ≡ true → In r (a ∷ b ∷ [])
    → is_either one two r ≡ false
pair_in one two a b r h i =
    others_in one two (a ∷ b ∷ []) r
    (let w = and_parts (not (is_either one two a)) (not (is_either one two b)) h in rw (w.0, w.1) refl) i

unappended : (r : ℕ) (xs : List ℕ) → In r (xs ++ []) → In r xs
unappended r [] i = i
unappended r (x ∷ xs) (inl e) = inl e
unappended r (x ∷ xs) (inr i) = inr (unappended r xs i)

targets_in :
    (one two : ℕ) (s : State) (r : ℕ) → leads_elsewhere one two s ≡ true → In r (targets_at Every (node_of s))
    → is_either one two r ≡ false
targets_in one two (is.ByteRange lo hi next) r h i = other_one one two next r h i
targets_in one two (is.Sparse ts) r h i = edges_in one two ts.items r h i
targets_in one two (is.Dense targets) r h i = absurd (true≢false (sym h))
targets_in one two (is.Look look next) r h i = other_one one two next r h i
targets_in one two (is.Union alternates) r h i =
    others_in one two alternates.items r h (unappended r alternates.items i)
targets_in one two (is.BinaryUnion alt1 alt2) r h i = pair_in one two alt1 alt2 r h i
targets_in one two (is.Capture next pattern index slot) r h i = other_one one two next r h i
targets_in one two is.Fail r h i = absurd i
targets_in one two (is.Match pattern) r h i = absurd i

-- A tested state is one of the two, or leads to neither of them.
pub apart_here :
    (states : List State) (one two at : ℕ) (s : State) → at < length states → s ≡ get_or states at s
    → leads_elsewhere one two s ≡ true
    → (r : ℕ) → is_either one two at ≡ false → In r (targets_of Every states at) → is_either one two r ≡ false
apart_here states one two at s l e h r o i =
    targets_in one two s r h (subst (λ x. In r (targets_at Every x)) (node_at states at s s l e) i)

past_all : (states : List State) (q r : ℕ) → length states ≤ q → In r (targets_of Every states q) → ⊥
past_all [] q r l i = i
past_all (x ∷ xs) zero r l i = absurd (omega (arith, l))
past_all (x ∷ xs) (suc q) r l i = past_all xs q r (omega (arith, l)) i

pub apart_all :
    (states : List State) (one two n : ℕ) → length states ≤ n
    → ((q : ℕ) → q < n → (r : ℕ) → is_either one two q ≡ false → In r (targets_of Every states q)
    → is_either one two r ≡ false)
    → (q r : ℕ) → is_either one two q ≡ false → In r (targets_of Every states q) → is_either one two r ≡ false
apart_all states one two n l below q r o i = go (cases_lt q n)
  where
    go : (q < n) ⊎ (n ≤ q) → is_either one two r ≡ false
    go (inl m) = below q m r o i
    go (inr m) = absurd (past_all states q r (omega (arith, l, m)) i)

routed :
    (targets : ℕ → List ℕ) (one two : ℕ)
    → ((q r : ℕ) → is_either one two q ≡ false → In r (targets q) → is_either one two r ≡ false)
    → (q : ℕ) (way : List ℕ) (z : ℕ)
    → is_either one two q ≡ false → Route targets q way z → is_either one two z ≡ false
routed targets one two apart q [] z o same = subst (λ s. is_either one two s ≡ false) same o
routed targets one two apart q (r ∷ rs) z o route =
    routed targets one two apart r rs z (apart q r o route.0) route.1

-- A state that is neither of the two does not reach the first.
pub apart_never :
    (states : List State) (one two root : ℕ)
    → ((q r : ℕ) → is_either one two q ≡ false → In r (targets_of Every states q) → is_either one two r ≡ false)
    → is_either one two root ≡ false → IsReached Every states (root ∷ []) one → ⊥
apart_never states one two root apart o reached = true≢false (sym here ∙ never)
  where
    from : is_either one two reached.0 ≡ false
    from = go reached.2
      where
        go : In reached.0 (root ∷ []) → is_either one two reached.0 ≡ false
        go (inl e) = ap (is_either one two) e ∙ o
        go (inr none) = absurd none

    never : is_either one two one ≡ false
    never = routed (targets_of Every states) one two apart reached.0 reached.1 one from reached.3

    here : is_either one two one ≡ true
    here = ap (λ b. b || eqb one two) (eq-eqb one one refl)

pub either_first : (one two q : ℕ) → q ≡ one → is_either one two q ≡ true
either_first one two q e = ap (λ b. b || eqb q two) (eq-eqb q one e)

pub either_second : (one two q : ℕ) → q ≡ two → is_either one two q ≡ true
either_second one two q e = ap (λ b. eqb q one || b) (eq-eqb q two e) ∙ or-true (eqb q one)
