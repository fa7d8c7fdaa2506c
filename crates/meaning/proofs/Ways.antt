-- Each path of the NFA of a pattern, whether or not it is the first, is a path of the joined NFA.
use Rattle.std.proofs.Common.{ℕ, suc, ◌≡◌, ◌+◌, ◌<◌, ◌≤◌, List, [], ◌∷◌, Some, None, cond, length, option_map, refl}
use Rattle.std.proofs.Common.{sym, ap, ◌∙◌, arith}
use Rattle.regex_nfa.specs.Paths.{Accepts, EmptyEdge, by_first, by_second, by_save, by_look, consumed, matched, skipped}
use Rattle.regex_nfa.specs.States.{IsBelow}
use Rattle.regex_nfa.specs.declared.nfa.Nfa as kit_nfa
use Rattle.regex_nfa.proofs.RunLemmas.{byte_below_some, next_on_within, sound_of}
use Rattle.regex_nfa.specs.States.{byte_below}
use Rattle.automata_base.specs.Haystacks.Tapes.{forward_tape}
use Rattle.automata_base.specs.Lists.{In}
use Rattle.automata_base.specs.Nfas.Nfa.{Nfa, accepts, accepts_at, hop, hop_at}
use Rattle.automata_base.specs.Paths.Paths.{IsPathFrom, Tape, truth}
use Rattle.automata_base.specs.Paths.Paths.{StaysHere, ReadsByte}
use Rattle.meaning.specs.Agreeing.{HasSameLooks, HasStatesOf}
use Rattle.meaning.proofs.Nodes.{node_known, takes_known}
use Rattle.meaning.proofs.Ranks.{IsAbove, above_new, above_next}
use Rattle.meaning.proofs.Runs.{tape_byte, truth_is, within}

module _ (n : Nfa) (b pat : ℕ) (k : kit_nfa.Nfa) (holds : HasStatesOf n b pat k) (hay : List ℕ) (s stop : ℕ)
    (fits : stop ≤ length hay) (same : HasSameLooks hay k) where
  abbrev t : Tape
  t = forward_tape hay s stop

  -- an accepting path from a state at a place, where these states were already visited, and its end
  abbrev pub IsPathTo : (end p : ℕ) → List ℕ → ℕ → Type 0
  IsPathTo end p seen q =
      (path : List ℕ) × (j z : ℕ) × IsPathFrom n t p seen (b + q) path j z × (accepts n z ≡ Some pat) × (s + j ≡ end)

  edge_hops : (q r i p : ℕ) → q < length k.states.items → i ≡ s + p → i ≤ stop → EmptyEdge k hay i q r →
      (e : ℕ) × (hop n (truth n t p) (b + q) e ≡ Some (b + r)) × IsBelow k.ranks.items r q
  edge_hops q r i p l at inside (by_first second is) =
      (0, ap (λ v. hop_at v (truth n t p) 0) (node_known n b pat k holds q l _ is), (sound_of k q _ is).0)
  edge_hops q r i p l at inside (by_second first is) =
      (1, ap (λ v. hop_at v (truth n t p) 1) (node_known n b pat k holds q l _ is), (sound_of k q _ is).1)
  edge_hops q r i p l at inside (by_save slot is) =
      (0, ap (λ v. hop_at v (truth n t p) 0) (node_known n b pat k holds q l _ is), (sound_of k q _ is).1)
  edge_hops q r i p l at inside (by_look look is so) = (
    0,
    ap (λ v. hop_at v (truth n t p) 0) (node_known n b pat k holds q l _ is)
        ∙ ap (λ v. cond v (Some (b + r)) None)
        (truth_is n b pat k holds hay s stop fits same q r look is p i at inside ∙ so),
    sound_of k q _ is,
  )

  pub path_of :
      (end q i : ℕ) → Accepts k hay stop end q i → (p : ℕ) (seen : List ℕ) → q < length k.states.items → i ≡ s + p →
      i ≤ stop → IsAbove k b seen q → IsPathTo end p seen q
  path_of end q i (matched _ _ is e) p seen l at inside above =
      ([], p, b + q, (refl, refl), ap accepts_at (node_known n b pat k holds q l _ is), sym at ∙ e)
  path_of end q i (skipped _ _ r edge rest) p seen l at inside above =
      let h = edge_hops q r i p l at inside edge in
      let low = h.2 in
      let own = within n b pat k holds hay s stop fits same r q low in
      let new : In (b + r) ((b + q) ∷ seen) → ⊥ = above_new k b seen q r own above low.1 in
      let w = path_of end r i rest p ((b + q) ∷ seen) own at inside (above_next k b seen q r above low.1) in
      (h.0 ∷ w.0, w.1, w.2, StaysHere (b + r) h.1 new w.3, w.4, w.5)
  path_of end q i (consumed _ _ r edge rest) p seen l at inside above =
      let here = (byte_below_some hay stop i edge.0 edge.1).0 in
      let own = next_on_within k q edge.0 r edge.2 in
      let w =
      path_of end r (i + 1) rest (suc p) [] (omega (arith, own)) (omega (arith, at)) (omega (arith, here))
      (λ y low m. absurd m) in (
        0 ∷ w.0,
        w.1,
        w.2,
        ReadsByte (b + r) refl (
          edge.0,
          tape_byte hay s stop p (omega (arith, at, inside)) fits ∙ ap (byte_below hay stop) (sym at) ∙ edge.1,
          takes_known n b pat k holds q l _ refl edge.0 ∙ ap (option_map (λ v. b + v)) edge.2,
        )
            w.3,
        w.4,
        w.5,
      )
