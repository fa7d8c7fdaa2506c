-- Captures that a merged NFA keeps.
use Rattle.std.proofs.Common.{ℕ, ◌≡◌, ◌<◌, ◌≤◌, ◌+◌, ◌⊎◌, List, Some, length, inl, inr, sym, ap, ◌∙◌, arith}
use Rattle.std.specs.Prelude.{slice_get}
use Rattle.std.proofs.lemmas.Bool.{cases_lt}
use Rattle.std.proofs.lemmas.Option.{slice_get_within}
use Rattle.automata_base.specs.declared.nfa.thompson.state.State.{State}
use Rattle.automata_base.specs.declared.nfa.thompson.state.State.TheVariants.{Capture}
use Rattle.automata_base.specs.Nfas.Nodes.{Automaton}
use Rattle.automata_transform.specs.Nfas.MergedNfas.{KeepsCaptures}
use Rattle.automata_base.proofs.Paths.Orders.{some_inj}

-- The captures before `count` are kept.
abbrev pub KeepsBelow : (a b : Automaton) → (count : ℕ) → Type 0
KeepsBelow a b count =
    (q next pattern group slot : ℕ) → q < count → slice_get a.states q ≡ Some (Capture next pattern group slot)
    → slice_get b.states q ≡ Some (Capture next pattern group slot)

pub kept_next :
    (a b : Automaton) (olds news : List State) (count : ℕ) (old new : State) → olds ≡ a.states → news ≡ b.states
    → slice_get olds count ≡ Some old → slice_get news count ≡ Some new
    → ((next pattern group slot : ℕ) → old ≡ Capture next pattern group slot → new ≡ Capture next pattern group slot)
    → KeepsBelow a b count → KeepsBelow a b (count + 1)
kept_next a b olds news count old new from to was is same kept q next pattern group slot low at = go (cases_lt q count)
  where
    go : (q < count) ⊎ (count ≤ q) → slice_get b.states q ≡ Some (Capture next pattern group slot)
    go (inl l) = kept q next pattern group slot l at
    go (inr l) =
        let here : count ≡ q = omega (arith, l, low) in
        let capture : old ≡ Capture next pattern group slot =
        some_inj
        (sym was ∙ (ap (λ (z : List State). slice_get z count) from ∙ (ap (λ z. slice_get a.states z) here ∙ at))) in
        ap (λ z. slice_get b.states z) (sym here)
        ∙ (ap (λ (z : List State). slice_get z count) (sym to)
        ∙ (is ∙ ap (λ (s : State). Some s) (same next pattern group slot capture)))

pub kept_all : (a b : Automaton) (count : ℕ) → length a.states ≤ count → KeepsBelow a b count → KeepsCaptures a b
kept_all a b count all kept q next pattern group slot at =
    let low = slice_get_within a.states q (Capture next pattern group slot) at in
    kept q next pattern group slot (omega (arith, low, all)) at

-- An NFA keeps its own captures.
pub kept_self : (a : Automaton) → KeepsCaptures a a
kept_self a q next pattern group slot at = at
