-- No cycle of epsilon edges passes a look in the joined NFA, since a rank falls along each edge of a pattern.
use Rattle.std.proofs.Common.{ℕ, zero, suc, ◌≡◌, ◌+◌, ◌-◌, ◌<◌, ◌≤◌, List, [], ◌∷◌, Some, length, refl, sym, ap, ◌∙◌}
use Rattle.std.proofs.Common.{subst, ⊎_elim, arith, lt_irrefl}
use Rattle.std.specs.Prelude.{slice_get}
use Rattle.std.proofs.lemmas.Bool.{cases_lt}
use Rattle.regex_nfa.specs.States.{IsBelow}
use Rattle.regex_nfa.specs.Run.{state_of}
use Rattle.regex_nfa.specs.declared.state.State as kit_state
use Rattle.regex_nfa.specs.declared.state.State.TheVariants as kit
use Rattle.regex_nfa.specs.declared.nfa.Nfa as kit_nfa
use Rattle.regex_nfa.proofs.RunLemmas.{sound_of}
use Rattle.automata_base.specs.declared.util.look.Look.{Look}
use Rattle.automata_base.specs.Nfas.Engines.{any_byte}
use Rattle.automata_base.specs.Nfas.Nfa.{Nfa, Split, Assert, hop_at, node, node_or_fail}
use Rattle.automata_base.specs.Paths.Paths.{IsLookAcyclic, LeadsOn, Run, all_true}
use Rattle.automata_base.proofs.Paths.Orders.{some_inj, none_some}
use Rattle.meaning.specs.Translated.{node_of, joined_nfa, size_of, starts_of}
use Rattle.meaning.specs.Agreeing.{HasStatesOf, HoldsAll}
use Rattle.meaning.proofs.Nodes.{node_known}
use Rattle.meaning.proofs.Ranks.{rank}
use Rattle.meaning.proofs.Unions.{behind, holds_all}

module _ (k : kit_nfa.Nfa) (b p : ℕ) where
  pub hop_falls : (q : ℕ) (x : kit_state.State) → state_of k q ≡ x → (e r : ℕ) →
      hop_at (node_of b p k.transitions.items x) all_true e ≡ Some r → (y : ℕ) × (r ≡ b + y) × IsBelow k.ranks.items y q
  hop_falls q (kit.ByteRange t) is e r h = absurd (none_some h)
  hop_falls q (kit.Sparse from to) is e r h = absurd (none_some h)
  hop_falls q (kit.Split first second) is zero r h = (first, sym (some_inj h), (sound_of k q _ is).0)
  hop_falls q (kit.Split first second) is (suc zero) r h = (second, sym (some_inj h), (sound_of k q _ is).1)
  hop_falls q (kit.Split first second) is (suc (suc e)) r h = absurd (none_some h)
  hop_falls q (kit.Save slot next) is zero r h = (next, sym (some_inj h), (sound_of k q _ is).1)
  hop_falls q (kit.Save slot next) is (suc e) r h = absurd (none_some h)
  hop_falls q (kit.Look l next) is zero r h = (next, sym (some_inj h), sound_of k q _ is)
  hop_falls q (kit.Look l next) is (suc e) r h = absurd (none_some h)
  hop_falls q kit.Match is e r h = absurd (none_some h)
  hop_falls q kit.Fail is e r h = absurd (none_some h)

  -- so the rank is lower at the end of each path of such edges
  run_falls : (n : Nfa) → HasStatesOf n b p k → (q : ℕ) (path : List ℕ) (z : ℕ) → q < length k.states.items →
      Run n (b + q) path z → (y : ℕ) × (z ≡ b + y) × (rank k y ≤ rank k q)
  run_falls n holds q [] z l h = (q, sym h, omega arith)
  run_falls n holds q (e ∷ path) z l h =
      let step =
      hop_falls q _ refl e h.0 (sym (ap (λ v. hop_at v all_true e) (node_known n b p k holds q l _ refl)) ∙ h.1) in
      let rest =
      run_falls n holds step.0 path z (let i = step.2.0 in omega (arith, i, k.ranks_len))
      (subst (λ v. Run n v path z) step.1 h.2) in
      (rest.0, rest.1, (let falls = step.2.1 in let low = rest.2 in omega (arith, falls, low)))

  never_returns : (n : Nfa) → HasStatesOf n b p k → (q : ℕ) → q < length k.states.items → LeadsOn n (b + q) (b + q) → ⊥
  never_returns n holds q l h =
      let step =
      hop_falls q _ refl h.0 h.1 (sym (ap (λ v. hop_at v all_true h.0) (node_known n b p k holds q l _ refl)) ∙ h.2) in
      let rest =
      run_falls n holds step.0 h.3.0 (b + q) (let i = step.2.0 in omega (arith, i, k.ranks_len))
      (subst (λ v. Run n v h.3.0 (b + q)) step.1 h.3.1) in
      let same : rest.0 ≡ q = (let at = rest.1 in omega (arith, at)) in
      let low : rank k q ≤ rank k step.0 = subst (λ v. rank k v ≤ rank k step.0) same rest.2 in
      lt_irrefl (rank k q) (let falls = step.2.1 in omega (arith, falls, low))

in_patterns : (n : Nfa) (b p : ℕ) (ks : List kit_nfa.Nfa) → HoldsAll n b p ks → (q : ℕ) → b ≤ q → q < b + size_of ks →
    LeadsOn n q q → ⊥
in_patterns n b p [] holds q low high h = absurd (omega (arith, low, high))
in_patterns n b p (k ∷ ks) holds q low high h =
    ⊎_elim
    (λ (l : q < b + length k.states.items).
    let same : q ≡ b + (q - b) = omega (arith, low) in
    never_returns k b p n holds.0 (q - b) (omega (arith, low, l)) (subst (λ v. LeadsOn n v v) same h))
    (λ (l : b + length k.states.items ≤ q).
    in_patterns n (b + length k.states.items) (suc p) ks holds.1 q l (omega (arith, high)) h)
    (cases_lt q (b + length k.states.items))

-- after the patterns' states there is no look
no_look :
    (ks : List kit_nfa.Nfa) (i : ℕ) (look : Look) (to : ℕ) → node (joined_nfa ks) (size_of ks + i) ≡ Assert look to → ⊥
no_look ks i look to is = go i (sym (behind ks i) ∙ is) where
  go : (i : ℕ) →
      node_or_fail
      (slice_get (Split (starts_of 0 ks) ∷ Split (size_of ks ∷ (size_of ks + 2) ∷ []) ∷ any_byte (size_of ks + 1) ∷ [])
      i)
      ≡ Assert look to → ⊥
  go zero h = cc
  go (suc zero) h = cc
  go (suc (suc zero)) h = cc
  go (suc (suc (suc i))) h = cc

pub joined_acyclic : (ks : List kit_nfa.Nfa) → IsLookAcyclic (joined_nfa ks)
joined_acyclic ks q look to is h =
    ⊎_elim
    (λ (l : q < size_of ks). in_patterns (joined_nfa ks) 0 0 ks (holds_all ks) q (omega arith) (omega (arith, l)) h)
    (λ (l : size_of ks ≤ q).
    let same : q ≡ size_of ks + (q - size_of ks) = omega (arith, l) in
    no_look ks (q - size_of ks) look to (subst (λ v. node (joined_nfa ks) v ≡ Assert look to) same is))
    (cases_lt q (size_of ks))
