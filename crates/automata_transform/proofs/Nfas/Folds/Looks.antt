-- Folding adds no look.
use Rattle.std.proofs.Common.{ℕ, zero, suc, ◌≡◌, Bool, true, false, List, [], ◌∷◌, ◌⊎◌, Some, inl}
use Rattle.std.proofs.Common.{inr, refl, sym, ap, ◌∙◌, true≢false, get_or, length, ◌<◌}
use Rattle.std.specs.Prelude.{slice_get}
use Rattle.std.proofs.Math.ListN.{set}
use Rattle.std.proofs.lemmas.Bool.{cases_eq}
use Rattle.automata_base.specs.declared.nfa.thompson.state.State.{State}
use Rattle.automata_base.specs.declared.nfa.thompson.state.State.TheVariants as is
use Rattle.automata_base.specs.declared.util.look.Look.{Look}
use Rattle.automata_base.specs.Nfas.Nfa.{Assert}
use Rattle.automata_base.specs.Nfas.Nodes.{Automaton, nfa_of, node_of}
use Rattle.automata_base.specs.Powersets.Passes.{Occurs}
use Rattle.automata_transform.specs.Retraced.Folds.{AddsNoLook, tests_look}
use Rattle.automata_base.proofs.Nfas.Reach.InRange.{node_is}
use Rattle.automata_base.proofs.Paths.Orders.{none_some, some_inj}
use Rattle.automata_transform.proofs.Nfas.Folds.Placed.{set_here, set_other}

-- Nothing is added to the same states.
pub looks_same : (old new : List State) → new ≡ old → AddsNoLook old new
looks_same old new e x s at t = ap (λ (z : List State). slice_get z x) (sym e) ∙ at

-- What is added in neither of two steps is not added in both.
pub looks_on : (a b c : List State) → AddsNoLook a b → AddsNoLook b c → AddsNoLook a c
looks_on a b c f g x s at t = f x s (g x s at t) t

-- A state may be replaced by one that tests no look.
pub looks_set :
    (old now : List State) (k : ℕ) (v : State) → k < length now → tests_look v ≡ false → AddsNoLook old now
    → AddsNoLook old (set now k v)
looks_set old now k v low plain f x s at t = go (cases_eq x k)
  where
    go : (x ≡ k) ⊎ (x ≡ k → ⊥) → slice_get old x ≡ Some s
    go (inl e) =
        absurd (true≢false (sym t
        ∙ (ap tests_look (some_inj (sym at ∙ (ap (λ z. slice_get (set now k v) z) e ∙ set_here now k v low))) ∙ plain)))
    go (inr e) = f x s (sym (set_other now k x v e) ∙ at) t

-- One of the states that are added to none tests no look.
pub looks_none :
    (made : List State) (k : ℕ) (s : State) → AddsNoLook [] made → slice_get made k ≡ Some s → tests_look s ≡ false
looks_none made k s f at = go (tests_look s) refl
  where
    go : (b : Bool) → tests_look s ≡ b → tests_look s ≡ false
    go true e = absurd (none_some (f k s at e))
    go false e = e

look_at : (xs : List State) (q : ℕ) (look : Look) (next : ℕ) → get_or xs q is.Fail ≡ is.Look look next
    → slice_get xs q ≡ Some (is.Look look next)
look_at [] q look next e = absurd (apart e)
  where
    apart : is.Fail ≡ is.Look look next → ⊥
    apart f = cc
look_at (x ∷ xs) zero look next e = ap (λ (v : State). Some v) e
look_at (x ∷ xs) (suc q) look next e = look_at xs q look next e

asserts : (s : State) (look : Look) (next : ℕ) → node_of s ≡ Assert look next → s ≡ is.Look look next
asserts (is.ByteRange lo hi n) look next e = cc
asserts (is.Sparse ts) look next e = cc
asserts (is.Dense targets) look next e = cc
asserts (is.Look l n) look next e = same e
  where
    same : Assert l n ≡ Assert look next → is.Look l n ≡ is.Look look next
    same f = cc
asserts (is.Union alternates) look next e = cc
asserts (is.BinaryUnion alt1 alt2) look next e = cc
asserts (is.Capture n pattern index slot) look next e = cc
asserts is.Fail look next e = cc
asserts (is.Match pattern) look next e = cc

given_at : (xs : List State) (q : ℕ) (s : State) → slice_get xs q ≡ Some s → get_or xs q is.Fail ≡ s
given_at [] q s e = absurd (none_some e)
given_at (x ∷ xs) zero s e = some_inj e
given_at (x ∷ xs) (suc q) s e = given_at xs q s e

-- If no look is added, each look that occurs did so before.
pub looks_occur :
    (a b : Automaton) → AddsNoLook a.states b.states → (look : Look) → Occurs (nfa_of b) look → Occurs (nfa_of a) look
looks_occur a b f look o =
    let is-look = asserts (get_or b.states o.0 is.Fail) look o.1 (sym (node_is b.states o.0) ∙ o.2) in
    let there = f o.0 (is.Look look o.1) (look_at b.states o.0 look o.1 is-look) refl in
    (o.0, o.1, node_is a.states o.0 ∙ ap node_of (given_at a.states o.0 (is.Look look o.1) there))
