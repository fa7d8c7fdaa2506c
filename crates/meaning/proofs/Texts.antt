-- Matches in text: those that are not empty begin and end where characters do.
use Rattle.std.proofs.Common.{ℕ, suc, ◌≡◌, ◌+◌, ◌-◌, ◌<◌, ◌≤◌, ◌⊎◌, ◌&&◌, List, [], ◌∷◌, Option, Some, None, true}
use Rattle.std.proofs.Common.{false, not, length, drop, get_or, IsUtf8, refl, sym, ap, ap₂, ◌∙◌, subst, ⊎_elim, inl}
use Rattle.std.proofs.Common.{inr, arith, le-leb, true≢false}
use Rattle.std.specs.Prelude.{slice_get, IsCharBoundary}
use Rattle.std.proofs.lemmas.Bool.{cases_lt}
use Rattle.std.proofs.lemmas.Option.{slice_get-get_or}
use Rattle.std.proofs.lemmas.Str.{IsUtf8-drop, IsCharBoundary-from_take}
use Rattle.std.specs.Int.{is_in_range}
use Rattle.regex_hir.specs.Text.{is_boundary, is_none_or}
use Rattle.automata_base.specs.Answers.TruePairs.{KeepsUtf8}
use Rattle.automata_base.specs.Haystacks.Matches.{HalfMatch}
use Rattle.automata_base.specs.Haystacks.Tapes.{IsHaystack, between, forward_tape, is_continuation, is_split}
use Rattle.automata_base.specs.declared.util.search.Direction.TheVariants.{Forward}
use Rattle.automata_base.specs.Nfas.Engines.{Engine, MatchesEmpty}
use Rattle.automata_base.specs.Nfas.Nfa.{Nfa, Split, accepts, hop_at, accepts_at, node}
use Rattle.automata_base.specs.Paths.Paths.{HasEpsilonPath, IsPathFrom, Tape, all_true, truth}
use Rattle.automata_base.specs.Paths.Paths.{StaysHere, ReadsByte}
use Rattle.automata_base.specs.declared.util.search.Anchored.TheVariants.{Yes}
use Rattle.automata_base.proofs.Answers.Backs.{narrow}
use Rattle.automata_base.proofs.Answers.Bytes.{drop_length, nth_drop}
use Rattle.automata_base.proofs.Answers.Text.{first_unsplit, unsplit}
use Rattle.automata_base.proofs.Paths.Places.{path_grows}
use Rattle.automata_base.proofs.Paths.Sets.{nth_in}
use Rattle.automata_base.proofs.Paths.Walks.{hop_more}
use Rattle.automata_base.proofs.Paths.Orders.{none_some}
use Rattle.meaning.specs.Agreeing.{IsLeastEnd}

boundary_of : (o : Option ℕ) → is_none_or o (λ b. not (is_in_range 0x80 0xBF b)) ≡ not (is_continuation o)
boundary_of None = refl
boundary_of (Some u) = refl

-- the kit's character boundaries are the offsets that this library does not call split
pub boundary_is : (hay : List ℕ) (i : ℕ) → is_boundary hay i ≡ not (is_split hay i)
unfolding is_boundary
boundary_is hay i = boundary_of (slice_get hay i)

boundary : (hay : List ℕ) (i : ℕ) → i ≤ length hay → is_split hay i ≡ false → IsCharBoundary hay i
boundary hay i l e = (
  l,
  λ inside low. ⊎_elim
      (λ (c : get_or hay i 0 < 192). absurd (true≢false (sym (held inside low c) ∙ e)))
      (λ (c : 192 ≤ get_or hay i 0). c)
      (cases_lt (get_or hay i 0) 192),
)
  where
    held : i < length hay → 128 ≤ get_or hay i 0 → get_or hay i 0 < 192 → is_split hay i ≡ true
    held inside low high =
        ap is_continuation (slice_get-get_or hay i 0 inside)
        ∙ ap₂ (λ v w. v && w) (le-leb 128 (get_or hay i 0) low) (le-leb (get_or hay i 0) 191 (omega (arith, high)))

-- text that begins and continues with whole characters ends with one
ends_whole :
    (hay : List ℕ) (i e : ℕ) → IsUtf8 hay → i ≤ e → e ≤ length hay → is_split hay i ≡ false → IsUtf8 (between hay i e) →
    is_split hay e ≡ false
ends_whole hay i e text le fits begin inner =
    ap is_continuation (sym at_end)
    ∙ first_unsplit (drop (e - i) (drop i hay)) (IsUtf8-drop (drop i hay) (e - i) rest cut)
  where
    rest : IsUtf8 (drop i hay)
    rest = IsUtf8-drop hay i text (boundary hay i (omega (arith, le, fits)) begin)

    cut : IsCharBoundary (drop i hay) (e - i)
    cut = IsCharBoundary-from_take (drop i hay) (e - i) rest (drop_length i (e - i) hay (omega (arith, le, fits))) inner

    at_end : slice_get (drop (e - i) (drop i hay)) 0 ≡ slice_get hay e
    at_end =
        nth_drop (e - i) (drop i hay) 0 ∙ nth_drop i hay (e - i + 0) ∙ ap (λ v. slice_get hay v) (omega (arith, le))

-- Under the UTF-8 promise a match is empty, or begins and ends where characters do.
module _ (d : Engine) (keeps : KeepsUtf8 Forward d) (utf8 : d.utf8 ≡ true) (hay : List ℕ) (bytes : IsHaystack hay)
    (text : IsUtf8 hay) where
  pub whole_path : (s k i z pattern : ℕ) (path : List ℕ) → k < i → s + i ≤ length hay →
      IsPathFrom d.nfa (forward_tape hay s (length hay)) k [] d.anchored path i z → accepts d.nfa z ≡ Some pattern →
      (is_split hay (s + k) ≡ false) × (is_split hay (s + i) ≡ false)
  whole_path s k i z pattern path l fits h acc =
      let joined = narrow d hay s (length hay) i k pattern z path (omega (arith, l)) fits (omega arith) h acc in
      let inner =
      keeps hay (s + k) (s + i) pattern Yes d.anchored joined.0 utf8 bytes (omega (arith, l)) fits (λ e. cc) refl
      joined.1 in
      let begin = unsplit hay (s + k) (s + i) (omega (arith, l)) inner in
      (begin, ends_whole hay (s + k) (s + i) text (omega (arith, l)) fits begin inner)

  pub whole_match : (i : ℕ) (half : HalfMatch) → i ≤ length hay →
      IsLeastEnd d.nfa (forward_tape hay i (length hay)) i 0 [] d.anchored (Some half) → half.offset ≤ length hay →
      (i ≡ half.offset) ⊎ ((is_split hay i ≡ false) × (is_split hay half.offset ≡ false))
  whole_match i half inside own fits =
      ⊎_elim (λ (l : 0 < own.place). inr (longer l)) (λ (l : own.place ≤ 0). inl (omega (arith, l, own.ends)))
      (cases_lt 0 own.place)
    where
      longer : 0 < own.place → (is_split hay i ≡ false) × (is_split hay half.offset ≡ false)
      longer l =
          let whole =
          whole_path i 0 own.place own.state half.pattern own.path l (omega (arith, own.ends, fits)) own.is_path
          own.accepted in
          let from : i + 0 ≡ i = omega arith in
          (subst (λ v. is_split hay v ≡ false) from whole.0, subst (λ v. is_split hay v ≡ false) own.ends whole.1)

-- A path that stays at its place reads no byte.
still :
    (n : Nfa) (t : Tape) (i : ℕ) (seen : List ℕ) (q : ℕ) (path : List ℕ) (z : ℕ) → IsPathFrom n t i seen q path i z
    → HasEpsilonPath n q z
still n t i seen q [] z h = ([], h.1)
still n t i seen q (e ∷ path) z (StaysHere r hops new on) =
    let w = still n t i (q ∷ seen) r path z on in
    (e ∷ w.0, (r, hop_more n (truth n t i) all_true q e r (λ look a. refl) hops, w.1))
still n t i seen q (e ∷ path) z (ReadsByte r edge moves on) =
    absurd (let g = path_grows n t (suc i) [] r path i z on in omega (arith, g))

-- So if a match from a union of starts is empty, it is the empty match of one of the starts.
pub empty_start :
    (n : Nfa) (t : Tape) (i u : ℕ) (starts : List ℕ) → node n u ≡ Split starts → (path : List ℕ) (z pattern : ℕ) →
    IsPathFrom n t i [] u path i z → accepts n z ≡ Some pattern → MatchesEmpty n starts
empty_start n t i u starts is [] z pattern h acc =
    absurd (none_some (sym (ap accepts_at is) ∙ ap (λ v. accepts n v) h.1 ∙ acc))
empty_start n t i u starts is (e ∷ path) z pattern (StaysHere r hops new on) acc = (
  r,
  z,
  pattern,
  nth_in starts e r (sym (ap (λ v. hop_at v (truth n t i) e) is) ∙ hops),
  still n t i (u ∷ []) r path z on,
  acc,
)
empty_start n t i u starts is (e ∷ path) z pattern (ReadsByte r edge moves on) acc =
    absurd (let g = path_grows n t (suc i) [] r path i z on in omega (arith, g))
