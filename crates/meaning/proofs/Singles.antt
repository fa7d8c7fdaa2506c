-- The paths of each pattern in the joined NFA: from the union of the starts, a path to a match state of a pattern is a
-- path of that pattern alone.
use Rattle.std.proofs.Common.{ℕ, zero, suc, ◌≡◌, ◌+◌, ◌<◌, ◌≤◌, List, [], ◌∷◌, Option, Some, None, length, option_map}
use Rattle.std.proofs.Common.{refl, sym, ap, ◌∙◌, subst, ⊎_elim, arith}
use Rattle.std.specs.Prelude.{slice_get}
use Rattle.regex_hir.specs.Re.{Re, Trace, accept, attempt}
use Rattle.regex_hir.specs.Matches.{Matches}
use Rattle.regex_nfa.specs.States.{next_on}
use Rattle.regex_nfa.specs.Run.{run, state_of}
use Rattle.regex_nfa.specs.declared.state.State as kit_state
use Rattle.regex_nfa.specs.declared.state.State.TheVariants as kit
use Rattle.regex_nfa.specs.declared.nfa.Nfa as kit_nfa
use Rattle.regex_nfa.proofs.RunLemmas.{next_on_within}
use Rattle.automata_base.specs.Haystacks.Tapes.{forward_tape}
use Rattle.automata_base.specs.Lists.{In}
use Rattle.automata_base.specs.Nfas.Nfa.{Nfa, accepts, accepts_at, hop_at}
use Rattle.automata_base.specs.Paths.Paths.{IsPathFrom, Tape, all_true, truth}
use Rattle.automata_base.specs.Paths.Paths.{StaysHere, ReadsByte}
use Rattle.automata_base.proofs.Paths.Orders.{some_inj, none_some}
use Rattle.automata_base.proofs.Paths.Walks.{hop_more}
use Rattle.meaning.specs.Translated.{joined_nfa, node_of, size_of, starts_of}
use Rattle.meaning.specs.Agreeing.{Each, HasSameLooks, HasStatesOf, HoldsAll, ImplementAll, IsLeastEnd}
use Rattle.meaning.proofs.Acyclic.{hop_falls}
use Rattle.meaning.proofs.Loops.{starts_below}
use Rattle.meaning.proofs.Nodes.{node_known, takes_known}
use Rattle.meaning.proofs.Options.{half_of}
use Rattle.meaning.proofs.Runs.{accepts_none, moves_none}
use Rattle.meaning.proofs.Unions.{holds_all, pattern_finds, union_is}
use Rattle.meaning.proofs.Ways.{path_of}

raised_from : (b r : ℕ) (o : Option ℕ) → option_map (λ v. b + v) o ≡ Some r → (x : ℕ) × (o ≡ Some x) × (r ≡ b + x)
raised_from b r None h = absurd (none_some h)
raised_from b r (Some x) h = (x, refl, sym (some_inj h))

module _ (n : Nfa) (b p : ℕ) (k : kit_nfa.Nfa) (holds : HasStatesOf n b p k) where
  -- no path leaves the states of the pattern
  path_stays : (t : Tape) (i : ℕ) (seen : List ℕ) (q : ℕ) (path : List ℕ) (j z : ℕ) → q < length k.states.items →
      IsPathFrom n t i seen (b + q) path j z → (y : ℕ) × (z ≡ b + y) × (y < length k.states.items)
  path_stays t i seen q [] j z l h = (q, sym h.1, l)
  path_stays t i seen q (e ∷ path) j z l (StaysHere r hops new on) =
      let step = hop_falls k b p q _ refl e r
      (sym (ap (λ v. hop_at v all_true e) (node_known n b p k holds q l _ refl))
      ∙ hop_more n (truth n t i) all_true (b + q) e r (λ look a. refl) hops) in
      path_stays t i ((b + q) ∷ seen) step.0 path j z (let low = step.2.0 in omega (arith, low, k.ranks_len))
      (subst (λ v. IsPathFrom n t i ((b + q) ∷ seen) v path j z) step.1 on)
  path_stays t i seen q (e ∷ path) j z l (ReadsByte r edge moves on) =
      let step = raised_from b r (next_on k.transitions.items (state_of k q) moves.0)
      (sym (takes_known n b p k holds q l _ refl moves.0) ∙ moves.2) in
      path_stays t (suc i) [] step.0 path j z (let low = next_on_within k q moves.0 step.0 step.1 in omega (arith, low))
      (subst (λ v. IsPathFrom n t (suc i) [] v path j z) step.2 on)

  match_is :
      (x : kit_state.State) (pattern : ℕ) → accepts_at (node_of b p k.transitions.items x) ≡ Some pattern → pattern ≡ p
  match_is (kit.ByteRange t) pattern h = absurd (none_some h)
  match_is (kit.Sparse from to) pattern h = absurd (none_some h)
  match_is (kit.Split first second) pattern h = absurd (none_some h)
  match_is (kit.Save slot next) pattern h = absurd (none_some h)
  match_is (kit.Look l next) pattern h = absurd (none_some h)
  match_is kit.Match pattern h = sym (some_inj h)
  match_is kit.Fail pattern h = absurd (none_some h)

  -- so the match state that it reaches belongs to the pattern
  path_is_own : (t : Tape) (i : ℕ) (seen : List ℕ) (path : List ℕ) (j z pattern : ℕ) →
      IsPathFrom n t i seen (b + k.start) path j z → accepts n z ≡ Some pattern → pattern ≡ p
  path_is_own t i seen path j z pattern h acc =
      let w = path_stays t i seen k.start path j z (let l = k.start_in in omega (arith, l)) h in
      match_is (state_of k w.0) pattern
      (sym (ap accepts_at (node_known n b p k holds w.0 w.2 _ refl)) ∙ sym (ap (λ v. accepts n v) w.1) ∙ acc)

-- The pattern with this number matches at an offset.
abbrev pub MatchesAt : List ℕ → (i : ℕ) → List Re → ℕ → Type 0
MatchesAt hay i res e =
    (re : Re) × (trace : Trace) × (slice_get res e ≡ Some re) × (attempt hay re accept i ≡ Some trace)

module _ (n : Nfa) (hay : List ℕ) (s u place : ℕ) (inside : s + place ≤ length hay) where
  abbrev tape : Tape
  tape = forward_tape hay s (length hay)

  -- a run finds something if there is an accepting path
  found_some : (p r : ℕ) (o : Option Trace) → IsLeastEnd n tape s place (u ∷ []) r (option_map (half_of p) o) →
      (path : List ℕ) (j z pattern : ℕ) → IsPathFrom n tape place (u ∷ []) r path j z → accepts n z ≡ Some pattern →
      (trace : Trace) × (o ≡ Some trace)
  found_some p r None least path j z pattern h acc = absurd (least path j z pattern h acc)
  found_some p r (Some trace) least path j z pattern h acc = (trace, refl)

  -- an accepting path from the start of one of the patterns
  abbrev pub IsPathOf : (r pattern end : ℕ) → Type 0
  IsPathOf r pattern end =
      (path : List ℕ) × (j z : ℕ) × IsPathFrom n tape place (u ∷ []) r path j z × (accepts n z ≡ Some pattern)
      × (s + j ≡ end)

  -- the path from the start of a pattern is a match of the pattern
  path_matches : (b p : ℕ) (ks : List kit_nfa.Nfa) (res : List Re) → HoldsAll n b p ks → ImplementAll ks res →
      Each (HasSameLooks hay) ks → b + size_of ks ≤ u → (e r : ℕ) → slice_get (starts_of b ks) e ≡ Some r →
      (pattern end : ℕ) → IsPathOf r pattern end → (pattern ≡ p + e) × MatchesAt hay (s + place) res e
  path_matches b p [] res holds is same room e r begins pattern end w = absurd (none_some begins)
  path_matches b p (k ∷ ks) [] holds is same room e r begins pattern end w = absurd is
  path_matches b p (k ∷ ks) (re ∷ res) holds is same room zero r begins pattern end w =
      let h : IsPathFrom n tape place (u ∷ []) (b + k.start) w.0 w.1 w.2 =
      subst (λ v. IsPathFrom n tape place (u ∷ []) v w.0 w.1 w.2) (sym (some_inj begins)) w.3 in
      let own = path_is_own n b p k holds.0 tape place (u ∷ []) w.0 w.1 w.2 pattern h w.4 in
      let found = found_some p (b + k.start) (run k hay (length hay) k.start (s + place))
      (pattern_finds n hay s (length hay) u place (s + place) (omega arith) refl inside b p k holds.0 same.0
      (omega (arith, room)))
      w.0 w.1 w.2 pattern h w.4 in
      (omega (arith, own), (re, found.0, refl, sym (is.0.0 hay (s + place)) ∙ found.1))
  path_matches b p (k ∷ ks) (re ∷ res) holds is same room (suc e) r begins pattern end w =
      let rest =
      path_matches (b + length k.states.items) (suc p) ks res holds.1 is.1 same.1 (omega (arith, room)) e r begins
      pattern end w in
      (let own = rest.0 in omega (arith, own), rest.1)

  -- each match has such a path
  match_has_path : (b p : ℕ) (ks : List kit_nfa.Nfa) (res : List Re) → HoldsAll n b p ks → ImplementAll ks res →
      Each (HasSameLooks hay) ks → b + size_of ks ≤ u → (e : ℕ) (re : Re) (trace : Trace) → slice_get res e ≡ Some re →
      attempt hay re accept (s + place) ≡ Some trace →
      (r : ℕ) × (slice_get (starts_of b ks) e ≡ Some r) × IsPathOf r (p + e) trace.end
  match_has_path b p [] [] holds is same room e re trace at found = absurd (none_some at)
  match_has_path b p [] (x ∷ res) holds is same room e re trace at found = absurd is
  match_has_path b p (k ∷ ks) [] holds is same room e re trace at found = absurd is
  match_has_path b p (k ∷ ks) (x ∷ res) holds is same room zero re trace at found =
      let least : IsLeastEnd n tape s place (u ∷ []) (b + k.start) (Some (half_of p trace)) =
      subst (λ o. IsLeastEnd n tape s place (u ∷ []) (b + k.start) (option_map (half_of p) o))
      (is.0.0 hay (s + place) ∙ ap (λ v. attempt hay v accept (s + place)) (some_inj at) ∙ found)
      (pattern_finds n hay s (length hay) u place (s + place) (omega arith) refl inside b p k holds.0 same.0
      (omega (arith, room))) in
      let number : p ≡ p + 0 = omega arith in (
        b + k.start,
        refl,
        (
          least.path,
          least.place,
          least.state,
          least.is_path,
          least.accepted ∙ ap (λ v. Some v) number,
          least.ends,
        ),
      )
  match_has_path b p (k ∷ ks) (x ∷ res) holds is same room (suc e) re trace at found =
      let rest =
      match_has_path (b + length k.states.items) (suc p) ks res holds.1 is.1 same.1 (omega (arith, room)) e re trace at
      found in
      let number : suc p + e ≡ p + suc e = omega arith in
      (rest.0, rest.1, subst (λ v. IsPathOf rest.0 v trace.end) number rest.2)

  -- each way in which the pattern matches has such a path
  way_has_path : (b p : ℕ) (ks : List kit_nfa.Nfa) (res : List Re) → HoldsAll n b p ks → ImplementAll ks res →
      Each (HasSameLooks hay) ks → b + size_of ks ≤ u → (e : ℕ) (re : Re) (end : ℕ) → slice_get res e ≡ Some re →
      Matches hay re (s + place) end → (r : ℕ) × (slice_get (starts_of b ks) e ≡ Some r) × IsPathOf r (p + e) end
  way_has_path b p [] [] holds is same room e re end at way = absurd (none_some at)
  way_has_path b p [] (x ∷ res) holds is same room e re end at way = absurd is
  way_has_path b p (k ∷ ks) [] holds is same room e re end at way = absurd is
  way_has_path b p (k ∷ ks) (x ∷ res) holds is same room zero re end at way =
      let accepted = is.0.1 hay (s + place) end (subst (λ v. Matches hay v (s + place) end) (sym (some_inj at)) way) in
      let number : p ≡ p + 0 = omega arith in (
        b + k.start,
        refl,
        subst (λ v. IsPathOf (b + k.start) v end) number
            (path_of n b p k holds.0 hay s (length hay) (omega arith) same.0 end k.start (s + place) accepted place
            (u ∷ [])
            (let l = k.start_in in omega (arith, l)) refl inside
            (λ y l m. ⊎_elim (λ (f : b + y ≡ u). absurd (omega (arith, l, f, room))) (λ (f : ⊥). absurd f) m)),
      )
  way_has_path b p (k ∷ ks) (x ∷ res) holds is same room (suc e) re end at way =
      let rest =
      way_has_path (b + length k.states.items) (suc p) ks res holds.1 is.1 same.1 (omega (arith, room)) e re end at
      way in
      let number : suc p + e ≡ p + suc e = omega arith in
      (rest.0, rest.1, subst (λ v. IsPathOf rest.0 v end) number rest.2)

module _ (ks : List kit_nfa.Nfa) (res : List Re) (is : ImplementAll ks res) (hay : List ℕ)
    (same : Each (HasSameLooks hay) ks) (s place : ℕ)
    (inside : s + place ≤ length hay) where
  -- an accepting path of a pattern from the union, and its end
  abbrev pub IsUnionPath : (pattern end : ℕ) → Type 0
  IsUnionPath pattern end =
      (path : List ℕ) × (j z : ℕ)
      × IsPathFrom (joined_nfa ks) (forward_tape hay s (length hay)) place [] (size_of ks) path j z
      × (accepts (joined_nfa ks) z ≡ Some pattern) × (s + j ≡ end)

  -- An accepting path from the union, at a place of a span up to the haystack's end, is a match of its pattern there.
  pub union_matches : (path : List ℕ) (j z pattern : ℕ) →
      IsPathFrom (joined_nfa ks) (forward_tape hay s (length hay)) place [] (size_of ks) path j z →
      accepts (joined_nfa ks) z ≡ Some pattern → MatchesAt hay (s + place) res pattern
  union_matches [] j z pattern h acc =
      absurd (accepts_none (joined_nfa ks) (forward_tape hay s (length hay)) place (size_of ks) _ (union_is ks) refl
      pattern
      (ap (λ v. accepts (joined_nfa ks) v) h.1 ∙ acc))
  union_matches (e ∷ path) j z pattern (StaysHere r hops new on) acc =
      let own =
      path_matches (joined_nfa ks) hay s (size_of ks) place inside 0 0 ks res (holds_all ks) is same (omega arith) e r
      (sym (ap (λ v. hop_at v (truth (joined_nfa ks) (forward_tape hay s (length hay)) place) e) (union_is ks)) ∙ hops)
      pattern (s + j) (path, j, z, on, acc, refl) in
      let number : e ≡ pattern = let f = own.0 in omega (arith, f) in
      subst (MatchesAt hay (s + place) res) number own.1
  union_matches (e ∷ path) j z pattern (ReadsByte r edge moves on) acc =
      absurd (moves_none (joined_nfa ks) (forward_tape hay s (length hay)) place (size_of ks) _ (union_is ks)
      (λ v r m. none_some m) r moves)

  -- a path from the start of a pattern is also a path from the union
  from_union :
      (e r end : ℕ) → slice_get (starts_of 0 ks) e ≡ Some r
      → IsPathOf (joined_nfa ks) hay s (size_of ks) place inside r (0 + e) end →
      IsUnionPath e end
  from_union e r end begins w =
      let apart : In r (size_of ks ∷ []) → ⊥ =
      λ i. ⊎_elim (λ (f : r ≡ size_of ks). let l = starts_below 0 ks e r begins in omega (arith, l, f)) (λ (x : ⊥). x)
      i in (
        e ∷ w.0,
        w.1,
        w.2,
        StaysHere r
            (ap (λ v. hop_at v (truth (joined_nfa ks) (forward_tape hay s (length hay)) place) e) (union_is ks)
            ∙ begins)
            apart w.3,
        w.4 ∙ ap (λ v. Some v) (omega arith),
        w.5,
      )

  -- Each match of a pattern has such a path, to its end.
  pub union_path : (e : ℕ) → (m : MatchesAt hay (s + place) res e) → IsUnionPath e m.1.end
  union_path e m =
      let own =
      match_has_path (joined_nfa ks) hay s (size_of ks) place inside 0 0 ks res (holds_all ks) is same (omega arith) e
      m.0 m.1 m.2 m.3 in
      from_union e own.0 m.1.end own.1 own.2

  -- Each way in which a pattern matches has such a path.
  pub union_way :
      (e : ℕ) (re : Re) (end : ℕ) → slice_get res e ≡ Some re → Matches hay re (s + place) end → IsUnionPath e end
  union_way e re end at way =
      let own =
      way_has_path (joined_nfa ks) hay s (size_of ks) place inside 0 0 ks res (holds_all ks) is same (omega arith) e re
      end at way in
      from_union e own.0 end own.1 own.2
