-- A path of the joined NFA from the union of the starts is a path of the NFA of one pattern, to the same end.
use Rattle.std.proofs.Common.{ℕ, zero, suc, ◌≡◌, ◌+◌, ◌<◌, ◌≤◌, List, [], ◌∷◌, Option, Some, None, length, option_map}
use Rattle.std.proofs.Common.{Bool, true, false, cond, inl, inr, refl, sym, ap, ◌∙◌, subst, arith}
use Rattle.std.specs.Prelude.{slice_get}
use Rattle.regex_hir.specs.Re.{Re}
use Rattle.regex_nfa.specs.Paths.{Accepts, EmptyEdge, by_first, by_second, by_save, by_look, consumed, matched, skipped}
use Rattle.regex_nfa.specs.Run.{state_of}
use Rattle.regex_nfa.specs.States.{byte_below, next_on}
use Rattle.regex_nfa.specs.declared.state.State as kit_state
use Rattle.regex_nfa.specs.declared.state.State.TheVariants as kit
use Rattle.regex_nfa.specs.declared.nfa.Nfa as kit_nfa
use Rattle.regex_nfa.proofs.RunLemmas.{byte_below_some, next_on_within, sound_of}
use Rattle.automata_base.specs.Haystacks.Tapes.{forward_tape}
use Rattle.automata_base.specs.Nfas.Nfa.{Nfa, accepts, accepts_at, hop_at}
use Rattle.automata_base.specs.Paths.Order.{Upto, TakesLess, TakesSame}
use Rattle.automata_base.specs.Paths.Paths.{IsPathFrom, Tape, truth}
use Rattle.automata_base.specs.Paths.Paths.{StaysHere, ReadsByte}
use Rattle.automata_base.proofs.Paths.Orders.{cons_head, none_some, some_inj}
use Rattle.meaning.specs.Agreeing.{Each, HasSameLooks, HasStatesOf, HoldsAll, ImplementAll}
use Rattle.meaning.specs.Translated.{joined_nfa, node_of, size_of, starts_of}
use Rattle.meaning.proofs.Nodes.{node_known, takes_known}
use Rattle.meaning.proofs.Runs.{accepts_none, moves_none, tape_byte, truth_is, within}
use Rattle.meaning.proofs.Unions.{holds_all, union_is}
use Rattle.lexer.specs.Rules.{AreExact, RuleMatches}

-- the first edge of a path is not after that of a path that is not before it
pub upto_head : (x y : ℕ) (xs ys : List ℕ) → Upto (x ∷ xs) (y ∷ ys) → x ≤ y
upto_head x y xs ys (inl e) = let h = cons_head e in omega (arith, h)
upto_head x y xs ys (inr (TakesLess l)) = omega (arith, l)
upto_head x y xs ys (inr (TakesSame e rest)) = omega (arith, e)

raised_from : (b r : ℕ) (o : Option ℕ) → option_map (λ v. b + v) o ≡ Some r → (x : ℕ) × (o ≡ Some x) × (r ≡ b + x)
raised_from b r None h = absurd (none_some h)
raised_from b r (Some x) h = (x, refl, sym (some_inj h))

holds_then : (v : Bool) (a r : ℕ) → ◌≡◌ {A = Option ℕ} (cond v (Some a) None) (Some r) → (v ≡ true) × (r ≡ a)
holds_then true a r h = (refl, sym (some_inj h))
holds_then false a r h = absurd (none_some h)

module _ (n : Nfa) (b pat : ℕ) (k : kit_nfa.Nfa) (holds : HasStatesOf n b pat k) (hay : List ℕ) (s : ℕ)
    (same : HasSameLooks hay k) where
  abbrev t : Tape
  t = forward_tape hay s (length hay)

  -- where the kit's NFA goes, if an edge of the joined NFA stays at its place
  abbrev Goes : (i q r : ℕ) → Type 0
  Goes i q r = (y : ℕ) × (r ≡ b + y) × (y < length k.states.items) × EmptyEdge k hay (s + i) q y

  goes :
      (i q e r : ℕ) → s + i ≤ length hay → (x : kit_state.State) → state_of k q ≡ x
      → hop_at (node_of b pat k.transitions.items x) (truth n t i) e ≡ Some r → Goes i q r
  goes i q e r inside (kit.ByteRange u) is h = absurd (none_some h)
  goes i q e r inside (kit.Sparse from to) is h = absurd (none_some h)
  goes i q zero r inside (kit.Split first second) is h = (
    first,
    sym (some_inj h),
    within n b pat k holds hay s (length hay) (omega arith) same first q
        (sound_of k q _ is).0,
    by_first second is,
  )
  goes i q (suc zero) r inside (kit.Split first second) is h = (
    second,
    sym (some_inj h),
    within n b pat k holds hay s (length hay) (omega arith) same second q
        (sound_of k q _ is).1,
    by_second first is,
  )
  goes i q (suc (suc e)) r inside (kit.Split first second) is h = absurd (none_some h)
  goes i q zero r inside (kit.Save slot next) is h = (
    next,
    sym (some_inj h),
    within n b pat k holds hay s (length hay) (omega arith) same next q
        (sound_of k q _ is).1,
    by_save slot is,
  )
  goes i q (suc e) r inside (kit.Save slot next) is h = absurd (none_some h)
  goes i q zero r inside (kit.Look l next) is h =
      let w = holds_then _ (b + next) r h in (
        next,
        w.1,
        within n b pat k holds hay s (length hay) (omega arith) same next q (sound_of k q _ is),
        by_look l is
            (sym (truth_is n b pat k holds hay s (length hay) (omega arith) same q next l is i (s + i) refl inside)
            ∙ w.0),
      )
  goes i q (suc e) r inside (kit.Look l next) is h = absurd (none_some h)
  goes i q e r inside kit.Match is h = absurd (none_some h)
  goes i q e r inside kit.Fail is h = absurd (none_some h)

  -- the match state belongs to the pattern
  ends :
      (i j q pattern : ℕ) → i ≡ j → (x : kit_state.State) → state_of k q ≡ x
      → accepts_at (node_of b pat k.transitions.items x) ≡ Some pattern
      → (pattern ≡ pat) × Accepts k hay (length hay) (s + j) q (s + i)
  ends i j q pattern at (kit.ByteRange u) is h = absurd (none_some h)
  ends i j q pattern at (kit.Sparse from to) is h = absurd (none_some h)
  ends i j q pattern at (kit.Split first second) is h = absurd (none_some h)
  ends i j q pattern at (kit.Save slot next) is h = absurd (none_some h)
  ends i j q pattern at (kit.Look l next) is h = absurd (none_some h)
  ends i j q pattern at kit.Match is h = (sym (some_inj h), matched q (s + i) is (omega (arith, at)))
  ends i j q pattern at kit.Fail is h = absurd (none_some h)

  -- a path from a state of the pattern is a path of the kit's NFA
  traced :
      (i : ℕ) (seen : List ℕ) (q : ℕ) (path : List ℕ) (j z pattern : ℕ) → s + i ≤ length hay
      → q < length k.states.items → IsPathFrom n t i seen (b + q) path j z → accepts n z ≡ Some pattern
      → (pattern ≡ pat) × Accepts k hay (length hay) (s + j) q (s + i)
  traced i seen q [] j z pattern inside l h acc =
      ends i j q pattern h.0 (state_of k q) refl
      (sym (ap accepts_at (node_known n b pat k holds q l _ refl)) ∙ ap (λ v. accepts n v) h.1 ∙ acc)
  traced i seen q (e ∷ path) j z pattern inside l (StaysHere r hops new on) acc =
      let w =
      goes i q e r inside (state_of k q) refl
      (sym (ap (λ v. hop_at v (truth n t i) e) (node_known n b pat k holds q l _ refl)) ∙ hops) in
      let rest =
      traced i ((b + q) ∷ seen) w.0 path j z pattern inside w.2
      (subst (λ v. IsPathFrom n t i ((b + q) ∷ seen) v path j z) w.1 on) acc in
      (rest.0, skipped q (s + i) w.0 w.3 rest.1)
  traced i seen q (e ∷ path) j z pattern inside l (ReadsByte r edge moves on) acc =
      let step =
      raised_from b r (next_on k.transitions.items (state_of k q) moves.0)
      (sym (takes_known n b pat k holds q l _ refl moves.0) ∙ moves.2) in
      let here : byte_below hay (length hay) (s + i) ≡ Some moves.0 =
      sym (tape_byte hay s (length hay) i inside (omega arith)) ∙ moves.1 in
      let below = (byte_below_some hay (length hay) (s + i) moves.0 here).0 in
      let rest =
      traced (suc i) [] step.0 path j z pattern (omega (arith, below))
      (let low = next_on_within k q moves.0 step.0 step.1 in omega (arith, low))
      (subst (λ v. IsPathFrom n t (suc i) [] v path j z) step.2 on) acc in (
        rest.0,
        consumed q (s + i) step.0 (moves.0, here, step.1)
            (subst (λ v. Accepts k hay (length hay) (s + j) step.0 v) (omega arith) rest.1),
      )

module _ (n : Nfa) (hay : List ℕ) (s u place : ℕ) (inside : s + place ≤ length hay) where
  abbrev tape : Tape
  tape = forward_tape hay s (length hay)

  -- a path from the start of one of the patterns is of that pattern; and a match of it, if the NFAs have no other paths
  from_start :
      (b p : ℕ) (ks : List kit_nfa.Nfa) (res : List Re) → HoldsAll n b p ks → ImplementAll ks res
      → Each (HasSameLooks hay) ks → (e r : ℕ) → slice_get (starts_of b ks) e ≡ Some r → (path : List ℕ)
      (j z pattern : ℕ) → IsPathFrom n tape place (u ∷ []) r path j z → accepts n z ≡ Some pattern
      → (pattern ≡ p + e) × (AreExact ks res → RuleMatches res hay e (s + place) (s + j))
  from_start b p [] res holds is same e r begins path j z pattern h acc = absurd (none_some begins)
  from_start b p (k ∷ ks) [] holds is same e r begins path j z pattern h acc = absurd is
  from_start b p (k ∷ ks) (re ∷ res) holds is same zero r begins path j z pattern h acc =
      let w =
      traced n b p k holds.0 hay s same.0 place (u ∷ []) k.start path j z pattern inside
      (let l = k.start_in in omega (arith, l))
      (subst (λ v. IsPathFrom n tape place (u ∷ []) v path j z) (sym (some_inj begins)) h) acc in
      (let own = w.0 in omega (arith, own), λ exact. (re, refl, exact.0 hay (s + place) (s + j) w.1))
  from_start b p (k ∷ ks) (re ∷ res) holds is same (suc e) r begins path j z pattern h acc =
      let rest =
      from_start (b + length k.states.items) (suc p) ks res holds.1 is.1 same.1 e r begins path j z pattern h acc in
      (let own = rest.0 in omega (arith, own), λ exact. rest.1 exact.1)

module _ (ks : List kit_nfa.Nfa) (res : List Re) (is : ImplementAll ks res) (hay : List ℕ)
    (same : Each (HasSameLooks hay) ks) (s place : ℕ) (inside : s + place ≤ length hay) where
  -- an accepting path from the union takes the edge that has the number of its pattern first
  pub from_union :
      (path : List ℕ) (j z pattern : ℕ)
      → IsPathFrom (joined_nfa ks) (forward_tape hay s (length hay)) place [] (size_of ks) path j z
      → accepts (joined_nfa ks) z ≡ Some pattern
      → ((rest : List ℕ) × (path ≡ pattern ∷ rest))
      × (AreExact ks res → RuleMatches res hay pattern (s + place) (s + j))
  from_union [] j z pattern h acc =
      absurd (accepts_none (joined_nfa ks) (forward_tape hay s (length hay)) place (size_of ks) _ (union_is ks) refl
      pattern
      (ap (λ v. accepts (joined_nfa ks) v) h.1 ∙ acc))
  from_union (e ∷ path) j z pattern (StaysHere r hops new on) acc =
      let own =
      from_start (joined_nfa ks) hay s (size_of ks) place inside 0 0 ks res (holds_all ks) is same e r
      (sym (ap (λ v. hop_at v (truth (joined_nfa ks) (forward_tape hay s (length hay)) place) e) (union_is ks)) ∙ hops)
      path j z pattern on acc in
      let number : e ≡ pattern = let f = own.0 in omega (arith, f) in (
        (path, ap (λ v. v ∷ path) number),
        λ exact. subst (λ v. RuleMatches res hay v (s + place) (s + j)) number (own.1 exact),
      )
  from_union (e ∷ path) j z pattern (ReadsByte r edge moves on) acc =
      absurd (moves_none (joined_nfa ks) (forward_tape hay s (length hay)) place (size_of ks) _ (union_is ks)
      (λ v r m. none_some m) r moves)
