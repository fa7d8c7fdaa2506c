-- The leftmost match, by what is found at each offset, is the span that the paths define, if a lazy loop begins them.
use Rattle.std.proofs.Common.{ℕ, zero, suc, ◌≡◌, ◌+◌, ◌-◌, ◌<◌, ◌≤◌, ◌⊎◌, List, [], ◌∷◌, Some, None, Bool, true, false}
use Rattle.std.proofs.Common.{not, length, option_map, refl, sym, ap, ◌∙◌, subst, ⊎_elim, inr, arith, true≢false}
use Rattle.std.specs.Prelude.{if◌then◌else◌}
use Rattle.std.proofs.lemmas.Bool.{cases_lt}
use Rattle.regex_hir.specs.Re.{Rest, Trace}
use Rattle.regex_hir.specs.Find as kit_find
use Rattle.regex_hir.specs.Find.{first_between}
use Rattle.regex_hir.specs.Text.{is_boundary}
use Rattle.regex_hir.proofs.FindLemmas.{IsFirst, IsFirst-of_first_between, first_between_next, first_between_none}
use Rattle.regex_hir.proofs.FindLemmas.{first_between_of_IsFirst, first_between_past, none_of_first_between}
use Rattle.regex_hir.proofs.OptionLemmas.{option_cases}
use Rattle.automata_base.specs.Answers.Answers.{SpanIsDone, SpanReportsNone, later}
use Rattle.automata_base.specs.Answers.Answers.{IsFirstSpan, SkipsToIt}
use Rattle.automata_base.specs.Answers.Spans.{IsSpan, IsPathStart, Chooses}
use Rattle.automata_base.specs.Haystacks.Input.{Input}
use Rattle.automata_base.specs.Haystacks.Matches.{Match}
use Rattle.automata_base.specs.Haystacks.Tapes.{forward_tape, IsHaystack, is_split}
use Rattle.automata_base.specs.declared.util.search.Direction.TheVariants.{Forward}
use Rattle.automata_base.specs.Nfas.Engines.{Engine, IsSkipping, LoopsLazily}
use Rattle.automata_base.specs.Nfas.Nfa.{Nfa}
use Rattle.automata_base.specs.Paths.Order.{Upto}
use Rattle.automata_base.specs.Paths.Paths.{Tape, IsPathFrom}
use Rattle.automata_base.specs.Paths.Selections.{Accepts, Pair, Selects}
use Rattle.automata_base.specs.declared.util.search.Anchored.TheVariants.{No}
use Rattle.automata_base.specs.declared.util.search.MatchKind.TheVariants.{LeftmostFirst}
use Rattle.automata_base.proofs.Answers.Backs.{forward_bytes}
use Rattle.automata_base.proofs.Answers.Bytes.{forward_length}
use Rattle.automata_base.proofs.Answers.Chosen.{StartsAt, starts_at, lazy_start}
use Rattle.automata_base.proofs.Answers.Loops.{HasBytes, skips, skipping, sooner_less}
use Rattle.automata_base.proofs.Answers.Tried.{ComesTo, IsSplitAnswer}
use Rattle.automata_base.proofs.Paths.Places.{path_grows}
use Rattle.automata_base.proofs.Paths.Searches.{accepting_inside, path_inside}
use Rattle.meaning.specs.Agreeing.{IsLeastEnd}
use Rattle.meaning.specs.Patterns.{span_input}
use Rattle.meaning.proofs.Options.{half_of}
use Rattle.meaning.proofs.Edges.{upto_cons}
use Rattle.meaning.proofs.Texts.{boundary_is}

-- the order of two paths is kept if the same offsets are skipped before both
upto_skips : (k : ℕ) (a b : List ℕ) → Upto a b → Upto (skips k (0 ∷ a)) (skips k (0 ∷ b))
upto_skips zero a b h = upto_cons 0 a b _ refl h
upto_skips (suc k) a b h =
    upto_cons 1 (0 ∷ skips k (0 ∷ a)) (0 ∷ skips k (0 ∷ b)) _ refl
    (upto_cons 0 (skips k (0 ∷ a)) (skips k (0 ∷ b)) _ refl (upto_skips k a b h))

-- a match belongs to the pattern that has this number where it begins
abbrev pub numbered : (ℕ → ℕ) → kit_find.Match → Match
numbered number m = record { pattern = number m.start; start = m.start; end = m.trace.end }

module _ (n : Nfa) (a u x : ℕ) (starts : List ℕ) (utf8 : Bool) (loop : LoopsLazily n a u x) (hay : List ℕ) (stop : ℕ)
    (fits : stop ≤ length hay) (bytes : IsHaystack hay) (at : Rest) (number : ℕ → ℕ)
    (finds : (s place : ℕ) → s + place ≤ stop →
    IsLeastEnd n (forward_tape hay s stop) s place [] a
    (option_map (half_of (number (s + place))) (at (s + place)))) where
  abbrev pub searched : Engine
  searched =
      record { nfa = n; anchored = a; unanchored = u; starts = starts; utf8 = utf8; kind = LeftmostFirst }

  abbrev tape : ℕ → Tape
  tape s = forward_tape hay s stop

  -- where nothing is found, no path accepts
  none_at : (s place : ℕ) → s + place ≤ stop → at (s + place) ≡ None → IsLeastEnd n (tape s) s place [] a None
  none_at s place inside none =
      subst (λ o. IsLeastEnd n (tape s) s place [] a (option_map (half_of (number (s + place))) o)) none
      (finds s place inside)

  reach : (s : ℕ) → s ≤ stop → (i pattern : ℕ) (path : List ℕ) → Accepts n (tape s) u i pattern path →
      (k : ℕ) × (rest : List ℕ) × StartsAt searched (tape s) k i pattern path rest × (s + k ≤ stop)
  reach s inside i pattern path h =
      let w = starts_at searched x (tape s) i pattern path loop h in
      let grows = path_grows n (tape s) w.0 [] a w.1 i w.2.1.0 w.2.1.1 in
      let ends = accepting_inside n (tape s) u i pattern path h in
      let count = forward_length hay s stop inside fits in
      (w.0, w.1, w.2, omega (arith, grows, ends, count, inside))

  pub selects_none : (s : ℕ) → s ≤ stop → ((i : ℕ) → s ≤ i → i ≤ stop → at i ≡ None) →
      Selects LeftmostFirst false n (tape s) u None
  selects_none s inside none i pattern path h =
      let w = reach s inside i pattern path h in
      none_at s w.0 w.3 (none (s + w.0) (omega arith) w.3) w.1 i w.2.1.0 pattern w.2.1.1 w.2.1.2

  module _ (s : ℕ) (inside : s ≤ stop) (m : kit_find.Match) (first : IsFirst at s stop m) where
    abbrev pub place : ℕ
    place = m.start - s

    pub there : m.start ≡ s + place
    there = let l = first.from in omega (arith, l)

    fit : s + place ≤ stop
    fit = omega (arith, first.to, there)

    pub own : IsLeastEnd n (tape s) s place [] a (Some (half_of (number m.start) m.trace))
    own =
        subst (λ o. IsLeastEnd n (tape s) s place [] a (option_map (half_of (number m.start)) o)) first.here
        (subst (λ v. IsLeastEnd n (tape s) s place [] a (option_map (half_of (number v)) (at v))) (sym there)
        (finds s place fit))

    has : HasBytes (tape s)
    has = forward_bytes hay s stop bytes inside fits

    room : place ≤ length (tape s).bytes
    room = let count = forward_length hay s stop inside fits in omega (arith, count, fit)

    abbrev pub path : List ℕ
    path = skips place (0 ∷ own.path)

    accepted : Accepts n (tape s) u own.place (number m.start) path
    accepted = (
      own.state,
      skipping n (tape s) u a x loop.0 loop.1 loop.2 has place 0 own.path own.place own.state (omega (arith, room))
          (subst (λ v. IsPathFrom n (tape s) v [] a own.path own.place own.state) (omega arith) own.is_path),
      own.accepted,
    )

    least : (j pattern : ℕ) (other : List ℕ) → Accepts n (tape s) u j pattern other → Upto path other
    least j pattern other h =
        ⊎_elim
        (λ (l : w.0 < place).
        absurd (none_at s w.0 w.3 (first.before (s + w.0) (omega arith) (omega (arith, l, there))) w.1 j w.2.1.0 pattern
        w.2.1.1 w.2.1.2))
        (λ (l : place ≤ w.0). ⊎_elim
        (λ (c : place < w.0). subst (λ v. Upto path v) (sym w.2.0) (inr (sooner_less place w.0 own.path w.1 c)))
        (λ (c : w.0 ≤ place).
        let same : w.0 ≡ place = omega (arith, l, c) in
        subst (λ v. Upto path v) (sym (w.2.0 ∙ ap (λ k. skips k (0 ∷ w.1)) same))
        (upto_skips place own.path w.1
        (own.least w.1 j w.2.1.0 pattern (subst (λ v. IsPathFrom n (tape s) v [] a w.1 j w.2.1.0) same w.2.1.1)
        w.2.1.2)))
        (cases_lt place w.0))
        (cases_lt w.0 place)
      where
        w : (k : ℕ) × (rest : List ℕ) × StartsAt searched (tape s) k j pattern other rest × (s + k ≤ stop)
        w = reach s inside j pattern other h

    abbrev pub pair : Pair
    pair = record { pattern = number m.start; place = own.place }

    pub ends_there : s + own.place ≡ m.trace.end
    ends_there = own.ends

    pub selects_some : Selects LeftmostFirst false n (tape s) u (Some pair)
    selects_some = (path, accepted, λ j pattern other h. least j pattern other h)

    pub chooses : Chooses searched false (tape s) u own.place (number m.start) path
    chooses = (accepted, λ j p other h. least j p other h)

    pub begins : IsPathStart searched No (tape s) path place
    begins =
        lazy_start searched x (tape s) place own.place (number m.start) path own.path loop has
        (path_inside n (tape s) place [] a own.path own.place own.state room own.is_path)
        (refl, (own.state, own.is_path, own.accepted))

  module _ (s : ℕ) where
    abbrev input : Input
    input = span_input hay s stop

    pub no_span : (k : ℕ) → ComesTo Forward searched input k → first_between at (s + k) stop ≡ None →
        IsSpan searched input None
    no_span k tries e =
        ⊎_elim
        (λ (l : stop < s + k). (k, tries, SpanIsDone l))
        (λ (l : s + k ≤ stop).
        (k, tries, SpanReportsNone (selects_none (s + k) l (none_of_first_between at (s + k) stop e))))
        (cases_lt stop (s + k))

    pub a_span : (k : ℕ) → ComesTo Forward searched input k → (m : kit_find.Match) → IsFirst at (s + k) stop m →
        (IsSkipping searched → is_split hay m.trace.end ≡ false) → IsSpan searched input (Some (numbered number m))
    a_span k tries m first whole = record {
      half = record { pattern = number m.start; offset = m.trace.end; base = s + k };
      answer = (
        k,
        tries,
        record {
          pair = pair (s + k) inside m first;
          within = inside;
          reported = selects_some (s + k) inside m first;
          whole = λ skip. subst (λ v. is_split hay v ≡ false) (sym (ends_there (s + k) inside m first)) (whole skip);
          pattern = refl;
          offset = sym (ends_there (s + k) inside m first);
          base = refl;
        },
      );
      first = u;
      is_first = refl;
      length = (own (s + k) inside m first).place;
      ends = sym (ends_there (s + k) inside m first);
      path = path (s + k) inside m first;
      chosen = chooses (s + k) inside m first;
      before = place (s + k) inside m first;
      begins = begins (s + k) inside m first;
      pattern = refl;
      start = there (s + k) inside m first;
      end = refl;
    }
      where
        inside : s + k ≤ stop
        inside = omega (arith, first.from, first.to)

    at_once : ComesTo Forward searched input 0
    at_once = record { comes = IsFirstSpan refl; before = λ j l. absurd (omega (arith, l)) }

    from_here : first_between at (s + 0) stop ≡ first_between at s stop
    from_here = ap (λ v. first_between at v stop) (omega arith)

    -- over bytes only the first span is tried
    pub bytes_span : utf8 ≡ false → IsSpan searched input (option_map (numbered number) (first_between at s stop))
    bytes_span plain =
        ⊎_elim
        (λ e. subst (λ o. IsSpan searched input (option_map (numbered number) o)) (sym e)
        (no_span 0 at_once (from_here ∙ e)))
        (λ f. subst (λ o. IsSpan searched input (option_map (numbered number) o)) (sym f.1)
        (a_span 0 at_once f.0 (IsFirst-of_first_between at (s + 0) stop f.0 (from_here ∙ f.1))
        (λ skip. absurd (true≢false (sym skip.0 ∙ plain)))))
        (option_cases (first_between at s stop))

  -- Over text a match is empty, or begins and ends where characters do; and if one is empty, offsets inside characters
  -- are skipped.
  module _ (plain : (i : ℕ) (trace : Trace) → i ≤ stop → at i ≡ Some trace →
      (i ≡ trace.end) ⊎ ((is_split hay i ≡ false) × (is_split hay trace.end ≡ false)))
      (skips_there : (i : ℕ) (trace : Trace) → i ≤ stop → at i ≡ Some trace → i ≡ trace.end → IsSkipping searched) where
    -- the matches that begin where a character does
    abbrev pub at_starts : Rest
    at_starts i = if is_boundary hay i then at i else None

    starts_none : (i : ℕ) → at i ≡ None → at_starts i ≡ None
    starts_none i e = by (is_boundary hay i)
      where
        by : (b : Bool) → (if b then at i else None) ≡ None
        by true = e
        by false = refl

    starts_whole : (i : ℕ) → is_split hay i ≡ false → at_starts i ≡ at i
    starts_whole i e = ap (λ b. if b then at i else None) (boundary_is hay i ∙ ap not e)

    starts_split : (i : ℕ) → is_split hay i ≡ true → at_starts i ≡ None
    starts_split i e = ap (λ b. if b then at i else None) (boundary_is hay i ∙ ap not e)

    module _ (s : ℕ) where
      abbrev Spans : ℕ → Type 0
      Spans k =
          ComesTo Forward searched (span_input hay s stop) k
          → IsSpan searched (span_input hay s stop)
          (option_map (numbered number) (first_between at_starts (s + k) stop))

      none_later : (k : ℕ) → first_between at (s + k) stop ≡ None → Spans k
      none_later k e tries =
          subst (λ o. IsSpan searched (span_input hay s stop) (option_map (numbered number) o))
          (sym (first_between_none at_starts (s + k) stop
          (λ i p q. starts_none i (none_of_first_between at (s + k) stop e i p q))))
          (no_span s k tries e)

      -- the leftmost match ends where a character does
      whole_here : (k : ℕ) (m : kit_find.Match) → IsFirst at (s + k) stop m → is_split hay m.trace.end ≡ false → Spans k
      whole_here k m first c tries =
          subst (λ o. IsSpan searched (span_input hay s stop) (option_map (numbered number) o))
          (sym (first_between_of_IsFirst at_starts (s + k) stop m (record {
            from = first.from;
            to = first.to;
            here = starts_whole m.start begin ∙ first.here;
            before = λ i p q. starts_none i (first.before i p q);
          })))
          (a_span s k tries m first (λ skip. c))
        where
          begin : is_split hay m.start ≡ false
          begin =
              ⊎_elim (λ (e : m.start ≡ m.trace.end). ap (is_split hay) e ∙ c)
              (λ (w : (is_split hay m.start ≡ false) × (is_split hay m.trace.end ≡ false)). w.0)
              (plain m.start m.trace first.to first.here)

      -- it ends inside a character, so it is empty there, and the search continues
      split_here :
          (k : ℕ) (m : kit_find.Match) → IsFirst at (s + k) stop m → is_split hay m.trace.end ≡ true → Spans (suc k)
          → Spans k
      split_here k m first c more tries =
          subst (λ o. IsSpan searched (span_input hay s stop) (option_map (numbered number) o))
          (sym (first_between_next at_starts (s + k) stop none_here
          ∙ ap (λ v. first_between at_starts v stop) one_more))
          (more (record {
            comes = SkipsToIt (skips_there m.start m.trace first.to first.here empty) refl;
            before = tried;
          }))
        where
          one_more : s + k + 1 ≡ s + suc k
          one_more = omega arith

          inside : s + k ≤ stop
          inside = let l = first.from in let g = first.to in omega (arith, l, g)

          empty : m.start ≡ m.trace.end
          empty =
              ⊎_elim (λ (e : m.start ≡ m.trace.end). e)
              (λ (w : (is_split hay m.start ≡ false) × (is_split hay m.trace.end ≡ false)). absurd
              (true≢false (sym c ∙ w.1)))
              (plain m.start m.trace first.to first.here)

          none_here : at_starts (s + k) ≡ None
          none_here =
              ⊎_elim (λ (l : s + k < m.start). starts_none (s + k) (first.before (s + k) (omega arith) l))
              (λ (l : m.start ≤ s + k).
              let low = first.from in
              let same : m.start ≡ s + k = omega (arith, l, low) in
              subst (λ v. at_starts v ≡ None) same (starts_split m.start (ap (is_split hay) empty ∙ c)))
              (cases_lt (s + k) m.start)

          tried : (j : ℕ) → j < suc k →
              (s + j ≤ stop) × IsSplitAnswer Forward searched (later Forward j (span_input hay s stop))
          tried j l =
              ⊎_elim (λ (b : j < k). tries.before j b)
              (λ (b : k ≤ j).
              let same : k ≡ j = omega (arith, b, l) in
              subst (λ v. (s + v ≤ stop) × IsSplitAnswer Forward searched (later Forward v (span_input hay s stop)))
              same (
                inside,
                (
                  pair (s + k) inside m first,
                  selects_some (s + k) inside m first,
                  subst (λ v. is_split hay v ≡ true) (sym (ends_there (s + k) inside m first)) c,
                ),
              ))
              (cases_lt j k)

      spans_from : (fuel k : ℕ) → stop + 1 ≤ s + k + fuel → Spans k
      spans_from zero k room = none_later k (first_between_past at (s + k) stop (omega (arith, room)))
      spans_from (suc fuel) k room =
          ⊎_elim (λ e. none_later k e)
          (λ f. by f.0 (IsFirst-of_first_between at (s + k) stop f.0 f.1) (is_split hay f.0.trace.end) refl
          (spans_from fuel (suc k) (omega (arith, room))))
          (option_cases (first_between at (s + k) stop))
        where
          by :
              (m : kit_find.Match) → IsFirst at (s + k) stop m → (c : Bool) → is_split hay m.trace.end ≡ c
              → Spans (suc k) → Spans k
          by m first false c more = whole_here k m first c
          by m first true c more = split_here k m first c more

      -- over text the spans are tried one after another, until a match is not inside a character
      pub text_span :
          IsSpan searched (span_input hay s stop) (option_map (numbered number) (first_between at_starts s stop))
      text_span =
          subst (λ v. IsSpan searched (span_input hay s stop)
          (option_map (numbered number) (first_between at_starts v stop)))
          (omega arith) (spans_from (stop + 1) 0 (omega arith) (at_once s))
