-- A path of a pattern through the haystack accepts, at an end that is not skipped, exactly if the pattern is found by
-- itself.
use Rattle.std.proofs.Common.{ℕ, zero, suc, ◌≡◌, ◌+◌, ◌-◌, ◌<◌, ◌≤◌, ◌↔◌, List, [], ◌∷◌, Some, None, Bool, true, false}
use Rattle.std.proofs.Common.{not, IsUtf8, length, is_some, refl, sym, ap, ◌∙◌, subst, ⊎_elim, arith, true≢false}
use Rattle.std.specs.Prelude.{slice_get, if◌then◌else◌}
use Rattle.std.specs.Option.{option_or}
use Rattle.std.proofs.lemmas.Bool.{cases_lt, cond-true}
use Rattle.regex_hir.specs.Re.{Re, Rest, Trace, accept, attempt}
use Rattle.regex_hir.specs.Find as kit_find
use Rattle.regex_hir.specs.Matches.{Matches}
use Rattle.regex_hir.specs.Find.{find, find_str}
use Rattle.regex_hir.specs.Text.{is_boundary}
use Rattle.regex_hir.proofs.AttemptLemmas.{attempt_sound, cond_some}
use Rattle.regex_hir.proofs.FindLemmas.{IsFirst-of_first_between, none_of_first_between}
use Rattle.regex_hir.proofs.OptionLemmas.{option_cases, option_or_cases}
use Rattle.regex_nfa.specs.declared.nfa.Nfa as kit_nfa
use Rattle.automata_base.specs.Answers.TruePairs.{KeepsUtf8}
use Rattle.automata_base.specs.Haystacks.Tapes.{IsHaystack, forward_tape, is_split}
use Rattle.automata_base.specs.Laws.Walks.{IsAccepted}
use Rattle.automata_base.specs.Nfas.Engines.{Engine, IsSkipping, engine_of}
use Rattle.automata_base.specs.Nfas.Nfa.{accepts}
use Rattle.automata_base.specs.Nfas.Nodes.{Automaton}
use Rattle.automata_base.specs.Paths.Paths.{IsPathFrom, Tape}
use Rattle.automata_base.specs.Paths.Selections.{Accepts}
use Rattle.automata_base.specs.declared.util.search.Direction.TheVariants.{Forward}
use Rattle.automata_base.specs.declared.util.search.MatchKind.TheVariants.{All as KindAll, LeftmostFirst}
use Rattle.automata_base.proofs.Answers.Backs.{forward_bytes}
use Rattle.automata_base.proofs.Answers.Bytes.{forward_length}
use Rattle.automata_base.proofs.Answers.Chosen.{StartsAt, starts_at}
use Rattle.automata_base.proofs.Answers.Loops.{skips, skipping}
use Rattle.automata_base.proofs.Paths.Orders.{none_some, some_inj}
use Rattle.automata_base.proofs.Paths.Places.{path_grows}
use Rattle.automata_base.proofs.Paths.Searches.{path_inside}
use Rattle.meaning.specs.Agreeing.{Each, HasSameLooks, ImplementAll}
use Rattle.meaning.specs.Patterns.{any_of, find_any, is_found, span_input}
use Rattle.meaning.specs.Translated.{joined_engine, joined_nfa, size_of, starts_of}
use Rattle.meaning.proofs.Loops.{loops_lazily}
use Rattle.meaning.proofs.Means.{either, nothing}
use Rattle.meaning.proofs.Singles.{IsUnionPath, MatchesAt, union_matches, union_path, union_way}
use Rattle.meaning.proofs.Texts.{boundary_is, empty_start, whole_path}
use Rattle.meaning.proofs.Unions.{union_is}

-- The pattern matches from an offset on; in text, from one where a character begins.
abbrev pub IsFoundAt : (utf8 : Bool) → List ℕ → Re → ℕ → Trace → Type 0
IsFoundAt utf8 hay re i trace =
    (i ≤ length hay) × (attempt hay re accept i ≡ Some trace) × (utf8 ≡ true → is_split hay i ≡ false)

-- A search over these offsets finds a match exactly if there is one at some of them.
begins : (at : Rest) (stop : ℕ) → is_some (kit_find.first_between at 0 stop) ≡ true →
    (i : ℕ) × (trace : Trace) × (i ≤ stop) × (at i ≡ Some trace)
begins at stop e =
    ⊎_elim
    (λ (none : kit_find.first_between at 0 stop ≡ None). absurd (true≢false (sym e ∙ ap is_some none)))
    (λ (w : (m : kit_find.Match) × (kit_find.first_between at 0 stop ≡ Some m)).
    let first = IsFirst-of_first_between at 0 stop w.0 w.1 in
    (w.0.start, w.0.trace, first.to, first.here))
    (option_cases (kit_find.first_between at 0 stop))

found_from : (at : Rest) (stop i : ℕ) (trace : Trace) → i ≤ stop → at i ≡ Some trace →
    is_some (kit_find.first_between at 0 stop) ≡ true
found_from at stop i trace inside here =
    ⊎_elim
    (λ (none : kit_find.first_between at 0 stop ≡ None).
    absurd (none_some (sym (none_of_first_between at 0 stop none i (omega arith) inside) ∙ here)))
    (λ (w : (m : kit_find.Match) × (kit_find.first_between at 0 stop ≡ Some m)). ap is_some w.1)
    (option_cases (kit_find.first_between at 0 stop))

unsplit_of : (b : Bool) → not b ≡ true → b ≡ false
unsplit_of true e = absurd (true≢false (sym e))
unsplit_of false e = refl

pub found_at : (utf8 : Bool) (hay : List ℕ) (re : Re) → is_found utf8 hay re ≡ true →
    (i : ℕ) × (trace : Trace) × IsFoundAt utf8 hay re i trace
unfolding find find_str
found_at true hay re e =
    let w = begins (λ i. if is_boundary hay i then attempt hay re accept i else None) (length hay) e in
    let parts = cond_some (is_boundary hay w.0) (attempt hay re accept w.0) w.1 w.3 in
    (w.0, w.1, (w.2, parts.1, λ u. unsplit_of (is_split hay w.0) (sym (boundary_is hay w.0) ∙ parts.0)))
found_at false hay re e =
    let w = begins (attempt hay re accept) (length hay) e in
    (w.0, w.1, (w.2, w.3, λ u. absurd (true≢false (sym u))))

pub at_found : (utf8 : Bool) (hay : List ℕ) (re : Re) (i : ℕ) (trace : Trace) → IsFoundAt utf8 hay re i trace →
    is_found utf8 hay re ≡ true
unfolding find find_str
at_found true hay re i trace h =
    found_from (λ j. if is_boundary hay j then attempt hay re accept j else None) (length hay) i trace h.0
    (cond-true (is_boundary hay i) (attempt hay re accept i) None (boundary_is hay i ∙ ap not (h.2 refl)) ∙ h.1)
at_found false hay re i trace h = found_from (attempt hay re accept) (length hay) i trace h.0 h.1

-- The alternation matches from an offset on exactly if one of the patterns does.
alternate_at : (res : List Re) (hay : List ℕ) (i : ℕ) (trace : Trace) → attempt hay (any_of res) accept i ≡ Some trace →
    (p : ℕ) × MatchesAt hay i res p
alternate_at [] hay i trace e = absurd (none_some (sym (nothing hay i) ∙ e))
alternate_at (re ∷ res) hay i trace e =
    ⊎_elim
    (λ (own : attempt hay re accept i ≡ Some trace). (0, (re, trace, refl, own)))
    (λ (w : (attempt hay re accept i ≡ None) × (attempt hay (any_of res) accept i ≡ Some trace)).
    let rest = alternate_at res hay i trace w.1 in (suc rest.0, rest.1))
    (option_or_cases (attempt hay re accept i) (attempt hay (any_of res) accept i) trace
    (sym (either re res hay i) ∙ e))

at_alternate : (res : List Re) (hay : List ℕ) (i p : ℕ) → MatchesAt hay i res p →
    (trace : Trace) × (attempt hay (any_of res) accept i ≡ Some trace)
at_alternate [] hay i p m = absurd (none_some m.2)
at_alternate (re ∷ res) hay i zero m = (
  m.1,
  either re res hay i
      ∙ ap (λ o. option_or o (attempt hay (any_of res) accept i))
      (ap (λ v. attempt hay v accept i) (some_inj m.2) ∙ m.3),
)
at_alternate (re ∷ res) hay i (suc p) m =
    let rest = at_alternate res hay i p m in
    ⊎_elim
    (λ (none : attempt hay re accept i ≡ None).
    (rest.0, either re res hay i ∙ ap (λ o. option_or o (attempt hay (any_of res) accept i)) none ∙ rest.1))
    (λ (w : (trace : Trace) × (attempt hay re accept i ≡ Some trace)).
    (w.0, either re res hay i ∙ ap (λ o. option_or o (attempt hay (any_of res) accept i)) w.1))
    (option_cases (attempt hay re accept i))

-- So some pattern is found exactly if one of them is found by itself.
pub any_is_found : (utf8 : Bool) (hay : List ℕ) (res : List Re) →
    (is_some (find_any utf8 res hay 0) ≡ true)
    ↔ ((p : ℕ) × (re : Re) × (slice_get res p ≡ Some re) × (is_found utf8 hay re ≡ true))
any_is_found utf8 hay res = (λ e. there e, λ w. back w.0 w.1 w.2 w.3)
  where
    there :
        is_found utf8 hay (any_of res) ≡ true → (p : ℕ) × (re : Re) × (slice_get res p ≡ Some re)
        × (is_found utf8 hay re ≡ true)
    there e =
        let w = found_at utf8 hay (any_of res) e in
        let own = alternate_at res hay w.0 w.1 w.2.1 in
        (own.0, own.1.0, own.1.2, at_found utf8 hay own.1.0 w.0 own.1.1 (w.2.0, own.1.3, w.2.2))

    back :
        (p : ℕ) (re : Re) → slice_get res p ≡ Some re → is_found utf8 hay re ≡ true
        → is_found utf8 hay (any_of res) ≡ true
    back p re at e =
        let w = found_at utf8 hay re e in
        let own = at_alternate res hay w.0 p (re, w.1, at, w.2.1) in
        at_found utf8 hay (any_of res) w.0 own.0 (w.2.0, own.1, w.2.2)

-- Some path of the pattern through the haystack ends in a match there, which is not skipped.
abbrev pub EndsAt : Engine → List ℕ → (pattern end : ℕ) → Type 0
EndsAt d hay pattern end =
    (place : ℕ) × (path : List ℕ) × (place ≤ length (forward_tape hay 0 (length hay)).bytes)
    × Accepts d.nfa (forward_tape hay 0 (length hay)) d.unanchored place pattern path
    × (end ≡ 0 + place) × (IsSkipping d → is_split hay end ≡ false)

module _ (ks : List kit_nfa.Nfa) (res : List Re) (is : ImplementAll ks res) (utf8 : Bool) (hay : List ℕ)
    (same : Each (HasSameLooks hay) ks) (bytes : IsHaystack hay) (text : utf8 ≡ true → IsUtf8 hay) where
  -- The engine searches for all matches.
  abbrev pub all : Engine
  all = record (joined_engine utf8 ks) { kind = KindAll }

  abbrev t : Tape
  t = forward_tape hay 0 (length hay)

  count : length t.bytes ≡ length hay - 0
  count = forward_length hay 0 (length hay) (omega arith) (omega arith)

  module _ (keeps : KeepsUtf8 Forward all) where
    -- A match that has such a path begins where a character does.
    begin_whole :
        (k place z pattern : ℕ) (path : List ℕ) → place ≤ length hay
        → IsPathFrom (joined_nfa ks) t k [] (size_of ks) path place z →
        accepts (joined_nfa ks) z ≡ Some pattern → (IsSkipping all → is_split hay (0 + place) ≡ false) → utf8 ≡ true →
        is_split hay (0 + k) ≡ false
    begin_whole k place z pattern path inside h acc unskipped e =
        ⊎_elim
        (λ (l : k < place).
        (whole_path all keeps e hay bytes (text e) 0 k place z pattern path l (omega (arith, inside)) h acc).0)
        (λ (l : place ≤ k).
        let grows = path_grows (joined_nfa ks) t k [] (size_of ks) path place z h in
        let here : place ≡ k = omega (arith, l, grows) in
        subst (λ v. is_split hay (0 + v) ≡ false) here
        (unskipped (
          e,
          empty_start (joined_nfa ks) t k (size_of ks) (starts_of 0 ks) (union_is ks) path z pattern
              (subst (λ v. IsPathFrom (joined_nfa ks) t k [] (size_of ks) path v z) here h) acc,
        )))
        (cases_lt k place)

    -- And a match that begins where a character does ends where one does.
    end_whole :
        (k place z pattern : ℕ) (path : List ℕ) → place ≤ length hay
        → IsPathFrom (joined_nfa ks) t k [] (size_of ks) path place z →
        accepts (joined_nfa ks) z ≡ Some pattern → utf8 ≡ true → is_split hay k ≡ false
        → is_split hay (0 + place) ≡ false
    end_whole k place z pattern path inside h acc e begin =
        ⊎_elim
        (λ (l : k < place).
        (whole_path all keeps e hay bytes (text e) 0 k place z pattern path l (omega (arith, inside)) h acc).1)
        (λ (l : place ≤ k).
        let grows = path_grows (joined_nfa ks) t k [] (size_of ks) path place z h in
        let here : k ≡ 0 + place = omega (arith, l, grows) in
        subst (λ v. is_split hay v ≡ false) here begin)
        (cases_lt k place)

    ends_begin : (pattern end : ℕ) → EndsAt all hay pattern end →
        (re : Re) × (i : ℕ) × (trace : Trace) × (slice_get res pattern ≡ Some re) × (i ≤ end)
        × IsFoundAt utf8 hay re i trace
    ends_begin pattern end (place, path, inside, accepted, at, unskipped) =
        (own.0, 0 + w.0, own.1, own.2, omega (arith, grows, at), (within, own.3, whole))
      where
        w : (k : ℕ) × (rest : List ℕ) × StartsAt all t k place pattern path rest
        w = starts_at all (size_of ks + 2) t place pattern path (loops_lazily ks) accepted

        fits : place ≤ length hay
        fits = omega (arith, inside, count)

        grows : w.0 ≤ place
        grows = path_grows (joined_nfa ks) t w.0 [] (size_of ks) w.1 place w.2.1.0 w.2.1.1

        within : 0 + w.0 ≤ length hay
        within = omega (arith, grows, fits)

        own : MatchesAt hay (0 + w.0) res pattern
        own = union_matches ks res is hay same 0 w.0 within w.1 place w.2.1.0 pattern w.2.1.1 w.2.1.2

        whole : utf8 ≡ true → is_split hay (0 + w.0) ≡ false
        whole =
            begin_whole w.0 place w.2.1.0 pattern w.1 fits w.2.1.1 w.2.1.2
            (λ skips. subst (λ v. is_split hay v ≡ false) at (unskipped skips))

    ends_found : (pattern end : ℕ) → EndsAt all hay pattern end →
        (re : Re) × (slice_get res pattern ≡ Some re) × (is_found utf8 hay re ≡ true)
    ends_found pattern end h = let w = ends_begin pattern end h in (w.0, w.3, at_found utf8 hay w.0 w.1 w.2 w.5)

    -- a path from the union, at a place where a character begins, is also a path from the loop before it
    path_ends : (i pattern end : ℕ) → (inside : 0 + i ≤ length hay) → (utf8 ≡ true → is_split hay i ≡ false) →
        IsUnionPath ks res is hay same 0 i inside pattern end → EndsAt all hay pattern end
    path_ends i pattern end inside begin w = (w.1, skips i (0 ∷ w.0), within, (w.2, path, w.4), sym w.5, whole)
      where
        room : 0 + i ≤ length t.bytes
        room = omega (arith, inside, count)

        within : w.1 ≤ length t.bytes
        within = path_inside (joined_nfa ks) t i [] (size_of ks) w.0 w.1 w.2 (omega (arith, room)) w.3

        path : IsPathFrom (joined_nfa ks) t 0 [] (size_of ks + 1) (skips i (0 ∷ w.0)) w.1 w.2
        path =
            let loop = loops_lazily ks in
            let from : i ≡ 0 + i = omega arith in
            skipping (joined_nfa ks) t (size_of ks + 1) (size_of ks) (size_of ks + 2) loop.0 loop.1 loop.2
            (forward_bytes hay 0 (length hay) bytes (omega arith) (omega arith)) i 0 w.0 w.1 w.2 room
            (subst (λ v. IsPathFrom (joined_nfa ks) t v [] (size_of ks) w.0 w.1 w.2) from w.3)

        whole : IsSkipping all → is_split hay end ≡ false
        whole skips =
            subst (λ v. is_split hay v ≡ false) w.5
            (end_whole i w.1 w.2 pattern w.0 (omega (arith, within, count)) w.3 w.4 skips.0 (begin skips.0))

    found_ends : (pattern : ℕ) (re : Re) → slice_get res pattern ≡ Some re → is_found utf8 hay re ≡ true →
        (end : ℕ) × EndsAt all hay pattern end
    found_ends pattern re at found =
        let f = found_at utf8 hay re found in
        let l = f.2.0 in
        let from : 0 + f.0 ≡ f.0 = omega arith in
        let inside : 0 + f.0 ≤ length hay = omega (arith, l) in (
          f.1.end,
          path_ends f.0 pattern f.1.end inside f.2.2
              (union_path ks res is hay same 0 f.0 inside pattern
              (re, f.1, at, ap (attempt hay re accept) from ∙ f.2.1)),
        )

    way_ends :
        (pattern : ℕ) (re : Re) (i end : ℕ) → slice_get res pattern ≡ Some re → i ≤ length hay → Matches hay re i end →
        (utf8 ≡ true → is_split hay i ≡ false) → EndsAt all hay pattern end
    way_ends pattern re i end at l way begin =
        let from : i ≡ 0 + i = omega arith in
        let inside : 0 + i ≤ length hay = omega (arith, l) in
        path_ends i pattern end inside begin
        (union_way ks res is hay same 0 i inside pattern re end at (subst (λ v. Matches hay re v end) from way))

  -- So for an automaton that joins these:
  module _ (a : Automaton) (engines : engine_of a LeftmostFirst ≡ joined_engine utf8 ks)
      (keeps : KeepsUtf8 Forward (engine_of a KindAll)) where
    -- an accepting path of a pattern through the haystack ends at this offset
    abbrev pub IsEnd : (pattern end : ℕ) → Type 0
    IsEnd pattern end =
        IsAccepted Forward a (span_input hay 0 (length hay)) a.start_unanchored
        (record { pattern = pattern; place = end })

    alike : engine_of a KindAll ≡ all
    alike = ap (λ (d : Engine). record d { kind = KindAll }) engines

    -- Such a path ends at an end of the joined patterns.
    is_end : (pattern end : ℕ) → EndsAt all hay pattern end → IsEnd pattern end
    is_end pattern end h =
        let w = subst (λ d. EndsAt d hay pattern end) (sym alike) h in record {
          place = w.0;
          path = w.1;
          inside = w.2;
          accepted = w.3;
          offset = w.4;
          whole = w.5;
        }

    of_end : (pattern end : ℕ) → IsEnd pattern end → EndsAt all hay pattern end
    of_end pattern end h =
        subst (λ d. EndsAt d hay pattern end) alike (h.place, h.path, h.inside, h.accepted, h.offset, h.whole)

    kept : KeepsUtf8 Forward all
    kept = subst (λ d. KeepsUtf8 Forward d) alike keeps

    -- A pattern has such a path exactly if it is found by itself.
    pub accepted_is_found : (pattern : ℕ) →
        ((end : ℕ) × IsEnd pattern end)
        ↔ ((re : Re) × (slice_get res pattern ≡ Some re) × (is_found utf8 hay re ≡ true))
    accepted_is_found pattern = (
      λ w. ends_found kept pattern w.0 (of_end pattern w.0 w.1),
      λ w. let own = found_ends kept pattern w.0 w.1 w.2 in (own.0, is_end pattern own.0 own.1),
    )

    -- In whatever way it matches, it has such a path to the end of the match.
    pub way_is_accepted : (pattern : ℕ) (re : Re) (i end : ℕ) → slice_get res pattern ≡ Some re → i ≤ length hay →
        (utf8 ≡ true → is_split hay i ≡ false) → Matches hay re i end → IsEnd pattern end
    way_is_accepted pattern re i end at l begin way =
        is_end pattern end (way_ends kept pattern re i end at l way begin)

    -- And if it has such a path, it matches in some way, from an offset on that is not after the path's end.
    pub accepted_matches : (pattern end : ℕ) → IsEnd pattern end →
        (re : Re) × (i j : ℕ) × (slice_get res pattern ≡ Some re) × (i ≤ end) × (utf8 ≡ true → is_split hay i ≡ false)
        × Matches hay re i j
    accepted_matches pattern end h =
        let w = ends_begin kept pattern end (of_end pattern end h) in
        let way = attempt_sound hay w.0 accept w.1 w.2 w.5.1 in
        (w.0, w.1, way.at, w.3, w.4, w.5.2, way.leads)
