-- A node does what the kit's state does, with the base added to its targets.
use Rattle.std.proofs.Common.{ℕ, zero, suc, ◌≡◌, ◌+◌, ◌<◌, List, [], ◌∷◌, Option, Some, refl, sym, ap, ◌∙◌, ⊎_elim}
use Rattle.std.proofs.Common.{find, option_map, length, arith}
use Rattle.std.specs.Prelude.{slice_get}
use Rattle.std.proofs.lemmas.Bool.{cond-true, cond-false, cases_Bool}
use Rattle.regex_nfa.specs.States.{state_at, covers, target_in, next_on}
use Rattle.regex_nfa.specs.Run.{state_of}
use Rattle.regex_nfa.specs.declared.state.State as kit_state
use Rattle.regex_nfa.specs.declared.state.State.TheVariants as kit
use Rattle.regex_nfa.specs.declared.state.Transition.{Transition}
use Rattle.regex_nfa.specs.declared.nfa.Nfa as kit_nfa
use Rattle.automata_base.specs.Nfas.Nfa.{Nfa, node, takes, takes_at, takes_in}
use Rattle.meaning.specs.Translated.{ranges_of, node_of, nodes_of}
use Rattle.meaning.specs.Agreeing.{HasStatesOf}
use Rattle.meaning.proofs.Options.{map_cond}

pub node_at : (b p : ℕ) (ts : List Transition) (xs : List kit_state.State) (q : ℕ) → q < length xs →
    slice_get (nodes_of b p ts xs) q ≡ Some (node_of b p ts (state_at xs q))
node_at b p ts [] q l = absurd (omega (arith, l))
node_at b p ts (x ∷ xs) zero l = refl
node_at b p ts (x ∷ xs) (suc q) l = node_at b p ts xs q (omega (arith, l))

pub length-nodes_of :
    (b p : ℕ) (ts : List Transition) (xs : List kit_state.State) → length (nodes_of b p ts xs) ≡ length xs
length-nodes_of b p ts [] = refl
length-nodes_of b p ts (x ∷ xs) = ap suc (length-nodes_of b p ts xs)

takes_ranges : (b : ℕ) (ts : List Transition) (u : ℕ) →
    takes_in (ranges_of b ts) u ≡ option_map (λ r. b + r) (target_in ts u)
takes_ranges b [] u = refl
takes_ranges b (t ∷ ts) u =
    ⊎_elim
    (λ hit. cond-true (covers t u) (Some (b + t.next)) (takes_in (ranges_of b ts) u) hit
    ∙ sym (ap (λ (o : Option Transition). option_map (λ r. b + r) (option_map (λ x. x.next) o))
    (cond-true (covers t u) (Some t) (find (λ x. covers x u) ts) hit)))
    (λ miss. cond-false (covers t u) (Some (b + t.next)) (takes_in (ranges_of b ts) u) miss
    ∙ takes_ranges b ts u
    ∙ sym (ap (λ (o : Option Transition). option_map (λ r. b + r) (option_map (λ x. x.next) o))
    (cond-false (covers t u) (Some t) (find (λ x. covers x u) ts) miss)))
    (cases_Bool (covers t u))

takes_at-node_of : (b p : ℕ) (ts : List Transition) (x : kit_state.State) (u : ℕ) →
    takes_at (node_of b p ts x) u ≡ option_map (λ r. b + r) (next_on ts x u)
unfolding next_on
takes_at-node_of b p ts (kit.ByteRange t) u = map_cond (covers t u) b t.next
takes_at-node_of b p ts (kit.Sparse from to) u = takes_ranges b _ u
takes_at-node_of b p ts (kit.Split first second) u = refl
takes_at-node_of b p ts (kit.Save slot next) u = refl
takes_at-node_of b p ts (kit.Look l next) u = refl
takes_at-node_of b p ts kit.Match u = refl
takes_at-node_of b p ts kit.Fail u = refl

module _ (n : Nfa) (b p : ℕ) (k : kit_nfa.Nfa) (holds : HasStatesOf n b p k) (q : ℕ)
    (inside : q < length k.states.items) where
  -- the node of a known state
  pub node_known : (x : kit_state.State) → state_of k q ≡ x → node n (b + q) ≡ node_of b p k.transitions.items x
  node_known x is = holds.nodes q inside ∙ ap (node_of b p k.transitions.items) is

  -- the target of a node for a byte
  pub takes_known : (x : kit_state.State) → state_of k q ≡ x → (u : ℕ) →
      takes n (b + q) u ≡ option_map (λ r. b + r) (next_on k.transitions.items x u)
  takes_known x is u = ap (λ v. takes_at v u) (node_known x is) ∙ takes_at-node_of b p k.transitions.items x u
