-- The loop before the union of the joined NFA is a lazy loop.
use Rattle.std.proofs.Common.{ℕ, zero, suc, ◌≡◌, ◌+◌, ◌-◌, ◌<◌, ◌≤◌, List, [], ◌∷◌, Option, Some, None, length}
use Rattle.std.proofs.Common.{option_map, refl, sym, ap, ◌∙◌, subst, ⊎_elim, arith}
use Rattle.std.specs.Prelude.{slice_get}
use Rattle.std.proofs.lemmas.Bool.{cases_lt}
use Rattle.regex_nfa.specs.States.{IsBelow, next_on}
use Rattle.regex_nfa.specs.Run.{state_of}
use Rattle.regex_nfa.specs.declared.state.State as kit_state
use Rattle.regex_nfa.specs.declared.state.State.TheVariants as kit
use Rattle.regex_nfa.specs.declared.nfa.Nfa as kit_nfa
use Rattle.regex_nfa.proofs.RunLemmas.{sound_of, next_on_within}
use Rattle.automata_base.specs.Nfas.Engines.{ByteEdge, FreeEdge, HasEdge, Reaches, Road, LoopsLazily}
use Rattle.automata_base.specs.Nfas.Nfa.{Nfa, hop_at, takes_at}
use Rattle.automata_base.specs.Paths.Paths.{all_true}
use Rattle.automata_base.proofs.Paths.Orders.{some_inj, none_some}
use Rattle.meaning.specs.Translated.{node_of, joined_nfa, size_of, starts_of}
use Rattle.meaning.specs.Agreeing.{HasStatesOf, HoldsAll}
use Rattle.meaning.proofs.Nodes.{node_known, takes_known}
use Rattle.meaning.proofs.Unions.{holds_all, union_is, loop_is, skip_is}

-- a target with the base added
raised : (b N r : ℕ) (o : Option ℕ) → ((x : ℕ) → o ≡ Some x → x < N) → option_map (λ v. b + v) o ≡ Some r → r < b + N
raised b N r None inside h = absurd (none_some h)
raised b N r (Some x) inside h = let e = some_inj h in let l = inside x refl in omega (arith, e, l)

module _ (k : kit_nfa.Nfa) (b p : ℕ) where
  within : (x q : ℕ) → IsBelow k.ranks.items x q → b + x < b + length k.states.items
  within x q below = let l = below.0 in omega (arith, l, k.ranks_len)

  hop_stays : (q : ℕ) (x : kit_state.State) → state_of k q ≡ x → (e r : ℕ) →
      hop_at (node_of b p k.transitions.items x) all_true e ≡ Some r → r < b + length k.states.items
  hop_stays q (kit.ByteRange t) is e r h = absurd (none_some h)
  hop_stays q (kit.Sparse from to) is e r h = absurd (none_some h)
  hop_stays q (kit.Split first second) is zero r h =
      subst (λ v. v < b + length k.states.items) (some_inj h) (within first q (sound_of k q _ is).0)
  hop_stays q (kit.Split first second) is (suc zero) r h =
      subst (λ v. v < b + length k.states.items) (some_inj h) (within second q (sound_of k q _ is).1)
  hop_stays q (kit.Split first second) is (suc (suc e)) r h = absurd (none_some h)
  hop_stays q (kit.Save slot next) is zero r h =
      subst (λ v. v < b + length k.states.items) (some_inj h) (within next q (sound_of k q _ is).1)
  hop_stays q (kit.Save slot next) is (suc e) r h = absurd (none_some h)
  hop_stays q (kit.Look l next) is zero r h =
      subst (λ v. v < b + length k.states.items) (some_inj h) (within next q (sound_of k q _ is))
  hop_stays q (kit.Look l next) is (suc e) r h = absurd (none_some h)
  hop_stays q kit.Match is e r h = absurd (none_some h)
  hop_stays q kit.Fail is e r h = absurd (none_some h)

  -- no edge leaves the pattern's states
  edge_stays : (n : Nfa) → HasStatesOf n b p k → (q r : ℕ) → q < length k.states.items → HasEdge n (b + q) r →
      r < b + length k.states.items
  edge_stays n holds q r l (FreeEdge e h) =
      hop_stays q _ refl e r (sym (ap (λ v. hop_at v all_true e) (node_known n b p k holds q l _ refl)) ∙ h)
  edge_stays n holds q r l (ByteEdge u h) =
      raised b (length k.states.items) r (next_on k.transitions.items (state_of k q) u)
      (λ x e. let w = next_on_within k q u x e in omega (arith, w))
      (sym (takes_known n b p k holds q l _ refl u) ∙ h)

edges_stay : (n : Nfa) (b p : ℕ) (ks : List kit_nfa.Nfa) → HoldsAll n b p ks → (q r : ℕ) → b ≤ q → q < b + size_of ks →
    HasEdge n q r → r < b + size_of ks
edges_stay n b p [] holds q r low high h = absurd (omega (arith, low, high))
edges_stay n b p (k ∷ ks) holds q r low high h =
    ⊎_elim
    (λ (l : q < b + length k.states.items).
    let same : q ≡ b + (q - b) = omega (arith, low) in
    let w = edge_stays k b p n holds.0 (q - b) r (omega (arith, low, l)) (subst (λ v. HasEdge n v r) same h) in
    omega (arith, w))
    (λ (l : b + length k.states.items ≤ q).
    let w = edges_stay n (b + length k.states.items) (suc p) ks holds.1 q r l (omega (arith, high)) h in
    omega (arith, w))
    (cases_lt q (b + length k.states.items))

pub starts_below :
    (b : ℕ) (ks : List kit_nfa.Nfa) (e r : ℕ) → slice_get (starts_of b ks) e ≡ Some r → r < b + size_of ks
starts_below b [] e r h = absurd (none_some h)
starts_below b (k ∷ ks) zero r h = let f = some_inj h in omega (arith, f, k.start_in)
starts_below b (k ∷ ks) (suc e) r h = let w = starts_below (b + length k.states.items) ks e r h in omega (arith, w)

module _ (ks : List kit_nfa.Nfa) where
  road_stays : (q : ℕ) (rs : List ℕ) (z : ℕ) → q < size_of ks → Road (joined_nfa ks) q rs z → z < size_of ks
  road_stays q [] z l h = subst (λ v. v < size_of ks) h l
  road_stays q (r ∷ rs) z l h =
      let w = edges_stay (joined_nfa ks) 0 0 ks (holds_all ks) q r (omega arith) (omega (arith, l)) h.0 in
      road_stays r rs z (omega (arith, w)) h.1

  first_stays : (r : ℕ) → HasEdge (joined_nfa ks) (size_of ks) r → r < size_of ks
  first_stays r (FreeEdge e h) =
      let w = starts_below 0 ks e r (sym (ap (λ v. hop_at v all_true e) (union_is ks)) ∙ h) in omega (arith, w)
  first_stays r (ByteEdge u h) = absurd (none_some (sym (ap (λ v. takes_at v u) (union_is ks)) ∙ h))

  returns_not : Reaches (joined_nfa ks) (size_of ks) (size_of ks + 1) → ⊥
  returns_not ([], e) = omega (arith, e)
  returns_not (r ∷ rs, h) = let w = road_stays r rs (size_of ks + 1) (first_stays r h.0) h.1 in omega (arith, w)

  pub loops_lazily : LoopsLazily (joined_nfa ks) (size_of ks) (size_of ks + 1) (size_of ks + 2)
  loops_lazily = (loop_is ks, skip_is ks, returns_not)
