-- A run of the kit's NFA returns the end of the least accepting path, and none if no path accepts.
use Rattle.std.proofs.Common.{ℕ, zero, suc, ◌≡◌, ◌+◌, ◌<◌, ◌≤◌, List, [], ◌∷◌, Some, None, Option, Bool, true, false}
use Rattle.std.proofs.Common.{cond, length, option_map, refl, sym, ap, ap₂, ◌∙◌, subst, ⊎_elim, arith}
use Rattle.std.specs.Prelude.{slice_get, option_and_then, if◌then◌else◌}
use Rattle.std.specs.Option.{option_or}
use Rattle.std.proofs.lemmas.Bool.{cases_lt}
use Rattle.std.proofs.lemmas.Option.{slice_get_past}
use Rattle.regex_hir.specs.Looks as kit_looks
use Rattle.regex_hir.specs.declared.look.Look as kit_look
use Rattle.regex_hir.proofs.OptionLemmas.{option_or-None}
use Rattle.automata_base.specs.declared.util.look.Look.{Look}
use Rattle.regex_nfa.specs.States.{IsBelow, next_on, byte_below, visit}
use Rattle.regex_nfa.specs.Run.{state_of, measure, run}
use Rattle.regex_nfa.specs.declared.state.State as kit_state
use Rattle.regex_nfa.specs.declared.state.State.TheVariants as kit
use Rattle.regex_nfa.specs.declared.nfa.Nfa as kit_nfa
use Rattle.regex_nfa.proofs.RunLemmas.{sound_of, next_on_within, byte_below_some, byte_below_inside, byte_below_past}
use Rattle.regex_nfa.proofs.RunLemmas.{measure_falls_empty, measure_falls_byte, run_unfold, measure_induction}
use Rattle.automata_base.specs.Haystacks.Looks as our
use Rattle.automata_base.specs.Haystacks.Matches.{HalfMatch}
use Rattle.automata_base.specs.Haystacks.Tapes.{byte_before, forward_tape}
use Rattle.automata_base.specs.Lists.{In}
use Rattle.automata_base.specs.Nfas.Nfa.{Nfa, Node, Range, Truth, node, hop, hop_at, takes_at, accepts, accepts_at}
use Rattle.automata_base.specs.Nfas.Nfa.{Split, Assert, Read}
use Rattle.automata_base.specs.Paths.Paths.{Tape, truth, next, prev, Moves}
use Rattle.automata_base.proofs.Paths.Orders.{none_some}
use Rattle.automata_base.proofs.Answers.Bytes.{forward_next, forward_prev, forward_byte, forward_length}
use Rattle.meaning.specs.Translated.{look_of}
use Rattle.meaning.specs.Agreeing.{HasSameLooks, HasStatesOf, IsLeastEnd}
use Rattle.meaning.proofs.Options.{map_then, map_or, half_of, half_written}
use Rattle.meaning.proofs.Nodes.{node_known, takes_known}
use Rattle.meaning.proofs.Ranks.{IsAbove, above_new, above_next}
use Rattle.meaning.proofs.Edges.{past_none, past_edge, all_edges, none_best, read_best, here_best}

-- the byte that a run reads at an offset is the byte of the tape there
pub tape_byte : (hay : List ℕ) (s stop p : ℕ) → s + p ≤ stop → stop ≤ length hay →
    slice_get (forward_tape hay s stop).bytes p ≡ byte_below hay stop (s + p)
tape_byte hay s stop p inside fits =
    ⊎_elim
    (λ (l : s + p < stop). forward_byte hay s stop p l ∙ sym (byte_below_inside hay stop (s + p) l))
    (λ (l : stop ≤ s + p).
    let count = forward_length hay s stop (omega (arith, inside)) fits in
    slice_get_past (forward_tape hay s stop).bytes p (omega (arith, count, inside, l))
    ∙ sym (byte_below_past hay stop (s + p) l))
    (cases_lt (s + p) stop)

module _ (n : Nfa) (t : Tape) (p q : ℕ) where
  -- what unions, looks, byte states and match states lack
  pub moves_none : (x : Node) → node n q ≡ x → ((u r : ℕ) → takes_at x u ≡ Some r → ⊥) → (r : ℕ) → Moves n t p q r → ⊥
  moves_none x is none r m = none m.0 r (sym (ap (λ v. takes_at v m.0) is) ∙ m.2)

  pub accepts_none : (x : Node) → node n q ≡ x → accepts_at x ≡ None → (pattern : ℕ) → accepts n q ≡ Some pattern → ⊥
  accepts_none x is none pattern a = none_some (sym none ∙ sym (ap accepts_at is) ∙ a)

  hop_known :
      (x : Node) → node n q ≡ x → (e r : ℕ) → hop n (truth n t p) q e ≡ Some r → hop_at x (truth n t p) e ≡ Some r
  hop_known x is e r h = sym (ap (λ v. hop_at v (truth n t p) e) is) ∙ h

-- a union has no edges after its alternates, and a look has at most one
split_past :
    (alternates : List ℕ) (A : Truth) (d r : ℕ) → length alternates ≤ d → hop_at (Split alternates) A d ≡ Some r → ⊥
split_past alternates A d r l h = none_some (sym (slice_get_past alternates d l) ∙ h)

look_past : (A : Truth) (l : Look) (a d r : ℕ) → 1 ≤ d → hop_at (Assert l a) A d ≡ Some r → ⊥
look_past A l a zero r m h = omega (arith, m)
look_past A l a (suc d) r m h = none_some h

look_none : (A : Truth) (l : Look) (a e r : ℕ) → A l ≡ false → hop_at (Assert l a) A e ≡ Some r → ⊥
look_none A l a zero r f h = none_some (sym (ap (λ b. cond b (Some a) None) f) ∙ h)
look_none A l a (suc e) r f h = none_some h

module _ (n : Nfa) (b pat : ℕ) (k : kit_nfa.Nfa) (holds : HasStatesOf n b pat k) (hay : List ℕ) (s stop : ℕ)
    (fits : stop ≤ length hay) (same : HasSameLooks hay k) where
  abbrev t : Tape
  t = forward_tape hay s stop

  -- what a run returns, as the end of a match of the pattern
  abbrev pub end_of : ℕ → ℕ → Option HalfMatch
  end_of q i = option_map (half_of pat) (run k hay stop q i)

  -- a run agrees with the least path from its state, whatever was visited at this place before
  abbrev pub Agrees : ℕ → ℕ → Type 0
  Agrees q i =
      (p : ℕ) (seen : List ℕ) → q < length k.states.items → i ≡ s + p → i ≤ stop → IsAbove k b seen q
      → IsLeastEnd n t s p seen (b + q) (end_of q i)

  pub truth_is : (q r : ℕ) (l : kit_look.Look) → state_of k q ≡ kit.Look l r → (p i : ℕ) → i ≡ s + p → i ≤ stop →
      truth n t p (look_of l) ≡ kit_looks.holds l hay i
  truth_is q r l is p i at inside =
      ap₂ (λ v w. our.holds v w (look_of l) (prev t p) (next t p)) holds.lines holds.forward
      ∙ ap (λ v. our.holds 10 false (look_of l) v (next t p)) (forward_prev hay s stop p (omega (arith, at, inside)))
      ∙ ap (λ v. our.holds 10 false (look_of l) (byte_before hay (s + p)) v)
      (forward_next hay s stop p (omega (arith, at, inside)) fits)
      ∙ ap (λ j. our.holds 10 false (look_of l) (byte_before hay j) (slice_get hay j)) (sym at)
      ∙ sym (same q r l is i (omega (arith, inside, fits)))

  pub within : (r q : ℕ) → IsBelow k.ranks.items r q → r < length k.states.items
  within r q below = let l = below.0 in omega (arith, l, k.ranks_len)

  module _ (q i : ℕ) (before : (r j : ℕ) → measure k hay stop r j < measure k hay stop q i → Agrees r j)
      (own : q < length k.states.items) (p : ℕ) (seen : List ℕ) (at : i ≡ s + p) (inside : i ≤ stop)
      (above : IsAbove k b seen q) where
    abbrev Best : Option HalfMatch → Type 0
    Best o = IsLeastEnd n t s p seen (b + q) o

    stays : (r : ℕ) → IsBelow k.ranks.items r q → IsLeastEnd n t s p ((b + q) ∷ seen) (b + r) (end_of r i)
    stays r below =
        before r i (measure_falls_empty k hay stop r q i below) p ((b + q) ∷ seen) (within r q below) at inside
        (above_next k b seen q r above below.1)

    new : (r : ℕ) → IsBelow k.ranks.items r q → In (b + r) ((b + q) ∷ seen) → ⊥
    new r below = above_new k b seen q r (within r q below) above below.1

    reads : (x : kit_state.State) (ranges : List Range) → state_of k q ≡ x → node n (b + q) ≡ Read ranges →
        Best (option_map (half_of pat)
        (option_and_then (λ r. run k hay stop r (i + 1))
        (option_and_then (next_on k.transitions.items x) (byte_below hay stop i))))
    reads x ranges is nodes =
        subst (λ o. IsLeastEnd n t s p seen (b + q) o)
        (map_then (half_of pat) (λ r. run k hay stop r (i + 1))
        (option_and_then (next_on k.transitions.items x) (byte_below hay stop i)))
        (read_best n t s p seen (b + q) b (next_on k.transitions.items x) (λ r. end_of r (i + 1))
        (byte_below hay stop i)
        (accepts_none n t p (b + q) _ nodes refl)
        (λ e r h. none_some (hop_known n t p (b + q) _ nodes e r h))
        (takes_known n b pat k holds q own x is)
        (tape_byte hay s stop p (omega (arith, at, inside)) fits ∙ ap (byte_below hay stop) (sym at))
        (λ u r here leads.
        let l = (byte_below_some hay stop i u here).0 in
        let w = next_on_within k q u r (ap (λ v. next_on k.transitions.items v u) is ∙ leads) in
        before r (i + 1) (measure_falls_byte k hay stop r q i l w) (suc p) [] (omega (arith, w)) (omega (arith, at))
        (omega (arith, l))
        (λ y inner m. absurd m)))

    visited : (x : kit_state.State) → state_of k q ≡ x →
        Best (option_map (half_of pat) (visit k.transitions.items hay stop (run k hay stop) x i))
    visited (kit.ByteRange y) is = reads _ _ is (node_known n b pat k holds q own _ is)
    visited (kit.Sparse from to) is = reads _ _ is (node_known n b pat k holds q own _ is)
    visited (kit.Split a c) is =
        let x = node_known n b pat k holds q own _ is in
        let w = sound_of k q _ is in
        subst (λ o. IsLeastEnd n t s p seen (b + q) o)
        (ap (option_or (end_of a i)) (option_or-None (end_of c i))
        ∙ map_or (half_of pat) (run k hay stop a i) (run k hay stop c i))
        (all_edges n t s p seen (b + q) _ (accepts_none n t p (b + q) _ x refl)
        (moves_none n t p (b + q) _ x (λ u r m. none_some m))
        (past_edge n t s p seen (b + q) 0 (b + a) (end_of a i) _ (ap (λ v. hop_at v (truth n t p) 0) x) (new a w.0)
        (stays a w.0)
        (past_edge n t s p seen (b + q) 1 (b + c) (end_of c i) None (ap (λ v. hop_at v (truth n t p) 1) x) (new c w.1)
        (stays c w.1)
        (past_none n t s p seen (b + q) 2
        (λ d r m h. split_past ((b + a) ∷ (b + c) ∷ []) (truth n t p) d r m (hop_known n t p (b + q) _ x d r h))))))
    visited (kit.Save slot r) is =
        let x = node_known n b pat k holds q own _ is in
        let w = (sound_of k q _ is).1 in
        subst (λ o. IsLeastEnd n t s p seen (b + q) o)
        (option_or-None (end_of r i) ∙ half_written pat slot i (run k hay stop r i))
        (all_edges n t s p seen (b + q) _ (accepts_none n t p (b + q) _ x refl)
        (moves_none n t p (b + q) _ x (λ u r2 m. none_some m))
        (past_edge n t s p seen (b + q) 0 (b + r) (end_of r i) None (ap (λ v. hop_at v (truth n t p) 0) x) (new r w)
        (stays r w)
        (past_none n t s p seen (b + q) 1
        (λ d r2 m h. split_past ((b + r) ∷ []) (truth n t p) d r2 m (hop_known n t p (b + q) _ x d r2 h)))))
    visited (kit.Look l r) is =
        asked (kit_looks.holds l hay i) (truth_is q r l is p i at inside)
      where
        x : node n (b + q) ≡ Assert (look_of l) (b + r)
        x = node_known n b pat k holds q own _ is

        asked :
            (v : Bool) → truth n t p (look_of l) ≡ v
            → Best (option_map (half_of pat) (if v then run k hay stop r i else None))
        asked true e =
            subst (λ o. IsLeastEnd n t s p seen (b + q) o) (option_or-None (end_of r i))
            (all_edges n t s p seen (b + q) _ (accepts_none n t p (b + q) _ x refl)
            (moves_none n t p (b + q) _ x (λ u r2 m. none_some m))
            (past_edge n t s p seen (b + q) 0 (b + r) (end_of r i) None
            (ap (λ v. hop_at v (truth n t p) 0) x ∙ ap (λ v. cond v (Some (b + r)) None) e)
            (new r (sound_of k q _ is)) (stays r (sound_of k q _ is))
            (past_none n t s p seen (b + q) 1
            (λ d r2 m h. look_past (truth n t p) (look_of l) (b + r) d r2 m (hop_known n t p (b + q) _ x d r2 h)))))
        asked false e =
            none_best n t s p seen (b + q)
            (accepts_none n t p (b + q) _ x refl)
            (λ e2 r2 h. look_none (truth n t p) (look_of l) (b + r) e2 r2 e (hop_known n t p (b + q) _ x e2 r2 h))
            (moves_none n t p (b + q) _ x (λ u r2 m. none_some m))
    visited kit.Match is =
        here_best n t s p seen (b + q) (record { pattern = pat; offset = i })
        (ap accepts_at (node_known n b pat k holds q own _ is)) (sym at)
    visited kit.Fail is =
        let x = node_known n b pat k holds q own _ is in
        none_best n t s p seen (b + q)
        (accepts_none n t p (b + q) _ x refl)
        (λ e r h. split_past [] (truth n t p) e r (omega arith) (hop_known n t p (b + q) _ x e r h))
        (moves_none n t p (b + q) _ x (λ u r m. none_some m))

  pub run_agrees : (q i : ℕ) → Agrees q i
  run_agrees =
      measure_induction k hay stop Agrees (λ q i before p seen own at inside above.
      subst (λ o. IsLeastEnd n t s p seen (b + q) (option_map (half_of pat) o)) (sym (run_unfold k hay stop q i))
      (visited q i before own p seen at inside above _ refl))
