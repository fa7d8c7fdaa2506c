-- An NFA has the same ways if the edges of each dense state are written as ranges.
use Rattle.std.proofs.Common.{ℕ, suc, ◌≡◌, List, [], ◌∷◌, get_or, inl, inr, refl, sym, ap, ◌∙◌}
use Rattle.automata_base.specs.declared.nfa.thompson.state.State.{State}
use Rattle.automata_base.specs.declared.nfa.thompson.state.State.TheVariants as is
use Rattle.automata_base.specs.Nfas.Nfa.{Truth, hop, hop_at, takes, takes_at, accepts, accepts_at}
use Rattle.automata_base.specs.Nfas.Nodes.{Automaton, nfa_of, node_of}
use Rattle.automata_transform.specs.Retraced.DenseRuns.{ranged, ranged_nfa}
use Rattle.automata_base.proofs.Nfas.Reach.InRange.{node_is}
use Rattle.automata_transform.proofs.Nfas.Mirrors.Members.{ranged_is, accept_same}
use Rattle.automata_transform.proofs.Nfas.Mirrors.Runs.{dense_takes}
use Rattle.automata_transform.proofs.Nfas.Mirrors.Ways.{Bytes, IsWay}

hop_same : (s : State) (A : Truth) (e : ℕ) → hop_at (ranged s) A e ≡ hop_at (node_of s) A e
hop_same (is.ByteRange lo hi next) A e = refl
hop_same (is.Sparse ts) A e = refl
hop_same (is.Dense targets) A e = refl
hop_same (is.Look look next) A e = refl
hop_same (is.Union alternates) A e = refl
hop_same (is.BinaryUnion alt1 alt2) A e = refl
hop_same (is.Capture next pattern index slot) A e = refl
hop_same is.Fail A e = refl
hop_same (is.Match pattern) A e = refl

takes_same : (s : State) (u : ℕ) → takes_at (ranged s) u ≡ takes_at (node_of s) u
takes_same (is.ByteRange lo hi next) u = refl
takes_same (is.Sparse ts) u = refl
takes_same (is.Dense targets) u = dense_takes targets.value u
takes_same (is.Look look next) u = refl
takes_same (is.Union alternates) u = refl
takes_same (is.BinaryUnion alt1 alt2) u = refl
takes_same (is.Capture next pattern index slot) u = refl
takes_same is.Fail u = refl
takes_same (is.Match pattern) u = refl

module _ (a : Automaton) where
  hops : (A : Truth) (q e : ℕ) → hop (ranged_nfa a) A q e ≡ hop (nfa_of a) A q e
  hops A q e =
      ap (λ v. hop_at v A e) (ranged_is a.states q)
      ∙ (hop_same (get_or a.states q is.Fail) A e ∙ sym (ap (λ v. hop_at v A e) (node_is a.states q)))

  moves : (q u : ℕ) → takes (ranged_nfa a) q u ≡ takes (nfa_of a) q u
  moves q u =
      ap (λ v. takes_at v u) (ranged_is a.states q)
      ∙ (takes_same (get_or a.states q is.Fail) u ∙ sym (ap (λ v. takes_at v u) (node_is a.states q)))

  pub accepts_ranged : (q : ℕ) → accepts (ranged_nfa a) q ≡ accepts (nfa_of a) q
  accepts_ranged q =
      ap accepts_at (ranged_is a.states q)
      ∙ (accept_same (get_or a.states q is.Fail) ∙ sym (ap accepts_at (node_is a.states q)))

  pub way_ranged :
      (A : ℕ → Truth) (b : Bytes) (i q : ℕ) (path : List ℕ) (j z : ℕ)
      → IsWay (nfa_of a) A b i q path j z → IsWay (ranged_nfa a) A b i q path j z
  way_ranged A b i q [] j z w = w
  way_ranged A b i q (e ∷ path) j z (inl h) = inl (h.0, hops (A i) q e ∙ h.1, way_ranged A b i h.0 path j z h.2)
  way_ranged A b i q (e ∷ path) j z (inr h) =
      inr (h.0, h.1, h.2, moves q h.1 ∙ h.3, way_ranged A b (suc i) h.0 path j z h.4)

  pub ranged_way :
      (A : ℕ → Truth) (b : Bytes) (i q : ℕ) (path : List ℕ) (j z : ℕ)
      → IsWay (ranged_nfa a) A b i q path j z → IsWay (nfa_of a) A b i q path j z
  ranged_way A b i q [] j z w = w
  ranged_way A b i q (e ∷ path) j z (inl h) = inl (h.0, sym (hops (A i) q e) ∙ h.1, ranged_way A b i h.0 path j z h.2)
  ranged_way A b i q (e ∷ path) j z (inr h) =
      inr (h.0, h.1, h.2, sym (moves q h.1) ∙ h.3, ranged_way A b (suc i) h.0 path j z h.4)
