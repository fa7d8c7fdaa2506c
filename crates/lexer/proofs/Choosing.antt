-- What the paths of the joined NFA select at an offset, by what the patterns mean.
use Rattle.std.proofs.Common.{ℕ, zero, suc, ◌≡◌, ◌+◌, ◌<◌, ◌≤◌, List, [], ◌∷◌, Option, Some, None, true, false}
use Rattle.std.proofs.Common.{IsUtf8, length, option_map, refl, sym, ap, ◌∙◌, subst, ⊎_elim, arith, true≢false}
use Rattle.std.specs.Option.{option_or}
use Rattle.std.proofs.lemmas.Bool.{cases_lt}
use Rattle.regex_hir.specs.Matches.{Matches}
use Rattle.regex_hir.specs.Re.{Re, Trace, accept, attempt}
use Rattle.regex_hir.proofs.AttemptLemmas.{attempt_sound}
use Rattle.regex_nfa.specs.Run.{run}
use Rattle.regex_nfa.specs.declared.nfa.Nfa as kit_nfa
use Rattle.automata_base.specs.Answers.TruePairs.{KeepsUtf8}
use Rattle.automata_base.specs.Haystacks.Matches.{HalfMatch}
use Rattle.automata_base.specs.Haystacks.Tapes.{IsHaystack, forward_tape, is_split}
use Rattle.automata_base.specs.Nfas.Engines.{Engine}
use Rattle.automata_base.specs.Paths.Order.{Upto}
use Rattle.automata_base.specs.Paths.Paths.{Tape}
use Rattle.automata_base.specs.Paths.Selections.{Accepts, ByEdges, ByPlace, IsPreferred, Pair, Selects}
use Rattle.automata_base.specs.declared.util.search.Direction.TheVariants.{Forward}
use Rattle.automata_base.specs.declared.util.search.MatchKind.TheVariants.{All as KindAll, LeftmostFirst}
use Rattle.automata_base.proofs.Answers.Bytes.{forward_length}
use Rattle.automata_base.proofs.Answers.Once.{accepting_once}
use Rattle.automata_base.proofs.Paths.Orders.{none_some, some_inj}
use Rattle.automata_base.proofs.Paths.Searches.{path_inside}
use Rattle.automata_base.proofs.Paths.Unique.{upto_both}
use Rattle.meaning.specs.Agreeing.{Each, HasSameLooks, ImplementAll, IsLeastEnd}
use Rattle.meaning.specs.Translated.{joined_nfa, size_of}
use Rattle.meaning.proofs.Options.{half_of}
use Rattle.meaning.proofs.Singles.{MatchesAt, union_matches, union_way}
use Rattle.meaning.proofs.Texts.{whole_path}
use Rattle.meaning.proofs.Unions.{found_of, union_finds}
use Rattle.lexer.specs.Rules.{AreExact, IsFirstRule, IsLongestRule, RuleMatches, RulePrefers}
use Rattle.lexer.proofs.Tracing.{from_union, upto_head}

either_none : (a b : Option HalfMatch) → option_or a b ≡ None → (a ≡ None) × (b ≡ None)
either_none None b e = (refl, e)
either_none (Some half) b e = absurd (none_some (sym e))

module _ (ks : List kit_nfa.Nfa) (res : List Re) (is : ImplementAll ks res) (hay : List ℕ)
    (same : Each (HasSameLooks hay) ks) (offset : ℕ) (fits : offset ≤ length hay) where
  abbrev tape : Tape
  tape = forward_tape hay offset (length hay)

  start : offset + 0 ≡ offset
  start = omega arith

  inside : offset + 0 ≤ length hay
  inside = omega (arith, fits)

  -- an accepting path of a pattern to a place
  abbrev AcceptsRule : (place rule : ℕ) → List ℕ → Type 0
  AcceptsRule place rule path = Accepts (joined_nfa ks) tape (size_of ks) place rule path

  -- each match of a rule has such a path, to its end
  path_of_way :
      (rule end : ℕ) → RuleMatches res hay rule offset end
      → (path : List ℕ) × (place : ℕ) × AcceptsRule place rule path × (offset + place ≡ end)
  path_of_way rule end way =
      let w =
      union_way ks res is hay same offset 0 inside rule way.0 end way.1
      (subst (λ v. Matches hay way.0 v end) (sym start) way.2) in
      (w.0, w.1, (w.2, w.3, w.4), w.5)

  -- and each such path is of a rule that matches at the offset
  way_of_path :
      (place rule : ℕ) (path : List ℕ) → AcceptsRule place rule path
      → (end : ℕ) × RuleMatches res hay rule offset end
  way_of_path place rule path h =
      let m : MatchesAt hay (offset + 0) res rule =
      union_matches ks res is hay same offset 0 inside path place h.0 rule h.1 h.2 in
      let w = attempt_sound hay m.0 accept (offset + 0) m.1 m.3 in
      (w.at, (m.0, m.2, subst (λ v. Matches hay m.0 v w.at) start w.leads))

  edge_of : (place rule : ℕ) (path : List ℕ) → AcceptsRule place rule path → (rest : List ℕ) × (path ≡ rule ∷ rest)
  edge_of place rule path h = (from_union ks res is hay same offset 0 inside path place h.0 rule h.1 h.2).0

  exact_of :
      (place rule : ℕ) (path : List ℕ) → AcceptsRule place rule path → AreExact ks res
      → RuleMatches res hay rule offset (offset + place)
  exact_of place rule path h exact =
      subst (λ v. RuleMatches res hay rule v (offset + place)) start
      ((from_union ks res is hay same offset 0 inside path place h.0 rule h.1 h.2).1 exact)

  -- a path that is not before another is of a rule that is not before it
  rule_upto :
      (i j a b : ℕ) (path other : List ℕ) → AcceptsRule i a path → AcceptsRule j b other → Upto path other → a ≤ b
  rule_upto i j a b path other h k l =
      let e = edge_of i a path h in
      let f = edge_of j b other k in
      upto_head a b e.0 f.0 (subst (λ v. Upto v (b ∷ f.0)) e.1 (subst (λ v. Upto path v) f.1 l))

  abbrev pub SelectsKind : Engine → Option Pair → Type 0
  SelectsKind d o = Selects d.kind false (joined_nfa ks) tape (size_of ks) o

  -- `MatchKind::All`: the farthest path, and of several there the first one
  pub longest_none :
      Selects KindAll false (joined_nfa ks) tape (size_of ks) None → (rule end : ℕ)
      → RuleMatches res hay rule offset end → ⊥
  longest_none none rule end way = let w = path_of_way rule end way in none w.1 rule w.0 w.2

  preferred_place : (i j : ℕ) (path other : List ℕ) → IsPreferred (j < i) i path j other → j ≤ i
  preferred_place i j path other (ByPlace l) = omega (arith, l)
  preferred_place i j path other (ByEdges e upto) = omega (arith, e)

  preferred_path : (i j : ℕ) (path other : List ℕ) → i ≡ j → IsPreferred (j < i) i path j other → Upto path other
  preferred_path i j path other e (ByPlace l) = absurd (omega (arith, e, l))
  preferred_path i j path other e (ByEdges same upto) = upto

  pub longest_some :
      (pair : Pair) → Selects KindAll false (joined_nfa ks) tape (size_of ks) (Some pair)
      → IsLongestRule res hay offset pair.pattern (offset + pair.place)
      × (AreExact ks res → RuleMatches res hay pair.pattern offset (offset + pair.place))
  longest_some pair (path, accepted, chosen) = (
    record {
      matches = way_of_path pair.place pair.pattern path accepted;
      longest = λ other at way. (let w = path_of_way other at way in
          let l = preferred_place pair.place w.1 path w.0 (chosen w.1 other w.0 w.2) in
          let e = w.3 in
          omega (arith, l, e));
      first = λ other way. (let w = path_of_way other (offset + pair.place) way in
          let e = w.3 in
          rule_upto pair.place w.1 pair.pattern other path w.0 accepted w.2
          (preferred_path pair.place w.1 path w.0 (omega (arith, e)) (chosen w.1 other w.0 w.2)));
    },
    λ exact. exact_of pair.place pair.pattern path accepted exact,
  )

  -- `MatchKind::LeftmostFirst`: the least path, as the runs of the kit find it
  found_rule :
      (ks2 : List kit_nfa.Nfa) (res2 : List Re) → ImplementAll ks2 res2 → (p : ℕ) (half : HalfMatch)
      → found_of hay (length hay) offset p ks2 ≡ Some half
      → (rule : ℕ) × (half.pattern ≡ p + rule) × IsFirstRule res2 hay offset rule half.offset
  found_rule [] [] own p half e = absurd (none_some e)
  found_rule [] (re ∷ res2) own p half e = absurd own
  found_rule (k ∷ ks2) [] own p half e = absurd own
  found_rule (k ∷ ks2) (re ∷ res2) own p half e = go (attempt hay re accept offset) refl
      (sym (ap (λ o. option_or (option_map (half_of p) o) (found_of hay (length hay) offset (suc p) ks2))
      (own.0.0 hay offset)) ∙ e) (λ f. found_rule ks2 res2 own.1 (suc p) half f)
    where
      go :
          (o : Option Trace) → attempt hay re accept offset ≡ o
          → option_or (option_map (half_of p) o) (found_of hay (length hay) offset (suc p) ks2) ≡ Some half
          → (found_of hay (length hay) offset (suc p) ks2 ≡ Some half
          → (rule : ℕ) × (half.pattern ≡ suc p + rule) × IsFirstRule res2 hay offset rule half.offset)
          → (rule : ℕ) × (half.pattern ≡ p + rule) × IsFirstRule (re ∷ res2) hay offset rule half.offset
      go (Some trace) here f rest =
          let h : half_of p trace ≡ half = some_inj f in (
            0,
            sym (ap (λ (v : HalfMatch). v.pattern) h) ∙ omega arith,
            record {
              matches = (re, trace, refl, here, sym (ap (λ (v : HalfMatch). v.offset) h));
              first = λ other at w. omega arith;
            },
          )
      go None here f rest =
          let w = rest f in (
            suc w.0,
            (let n = w.1 in omega (arith, n)),
            record {
              matches = w.2.matches;
              first = λ other at prefers. later w.0 w.2 other at prefers;
            },
          )
        where
          later :
              (rule : ℕ) → IsFirstRule res2 hay offset rule half.offset → (other at : ℕ)
              → RulePrefers (re ∷ res2) hay other offset at → suc rule ≤ other
          later rule own zero at w =
              absurd (none_some (sym here ∙ ap (λ v. attempt hay v accept offset) (some_inj w.2) ∙ w.3))
          later rule own (suc other) at w = let l = own.first other at w in omega (arith, l)

  found_none :
      (ks2 : List kit_nfa.Nfa) (res2 : List Re) → ImplementAll ks2 res2 → (p : ℕ)
      → found_of hay (length hay) offset p ks2 ≡ None → (rule end : ℕ) → RulePrefers res2 hay rule offset end → ⊥
  found_none [] [] own p e rule end w = none_some w.2
  found_none [] (re ∷ res2) own p e rule end w = own
  found_none (k ∷ ks2) [] own p e rule end w = own
  found_none (k ∷ ks2) (re ∷ res2) own p e zero end w =
      none_some (sym (either_none (option_map (half_of p) (attempt hay re accept offset)) _
      (sym (ap (λ o. option_or (option_map (half_of p) o) (found_of hay (length hay) offset (suc p) ks2))
      (own.0.0 hay offset)) ∙ e)).0
      ∙ ap (option_map (half_of p)) (ap (λ v. attempt hay v accept offset) (some_inj w.2) ∙ w.3))
  found_none (k ∷ ks2) (re ∷ res2) own p e (suc rule) end w =
      found_none ks2 res2 own.1 (suc p)
      (either_none (option_map (half_of p) (run k hay (length hay) k.start offset)) _ e).1 rule end w

  least : IsLeastEnd (joined_nfa ks) tape offset 0 [] (size_of ks) (found_of hay (length hay) offset 0 ks)
  least =
      subst (λ v. IsLeastEnd (joined_nfa ks) tape offset 0 [] (size_of ks) (found_of hay (length hay) v 0 ks)) start
      (union_finds ks hay (length hay) (omega arith) same offset 0 inside)

  pub first_none :
      Selects LeftmostFirst false (joined_nfa ks) tape (size_of ks) None → (rule end : ℕ)
      → RulePrefers res hay rule offset end → ⊥
  first_none none = go (found_of hay (length hay) offset 0 ks) refl least where
    go :
        (o : Option HalfMatch) → found_of hay (length hay) offset 0 ks ≡ o
        → IsLeastEnd (joined_nfa ks) tape offset 0 [] (size_of ks) o → (rule end : ℕ)
        → RulePrefers res hay rule offset end → ⊥
    go None e own rule end w = found_none ks res is 0 e rule end w
    go (Some half) e own rule end w = none own.place half.pattern own.path (own.state, own.is_path, own.accepted)

  pub first_some :
      (pair : Pair) → Selects LeftmostFirst false (joined_nfa ks) tape (size_of ks) (Some pair)
      → IsFirstRule res hay offset pair.pattern (offset + pair.place)
  first_some pair (path, accepted, chosen) = go (found_of hay (length hay) offset 0 ks) refl least where
    go :
        (o : Option HalfMatch) → found_of hay (length hay) offset 0 ks ≡ o
        → IsLeastEnd (joined_nfa ks) tape offset 0 [] (size_of ks) o
        → IsFirstRule res hay offset pair.pattern (offset + pair.place)
    go None e own = absurd (own path pair.place accepted.0 pair.pattern accepted.1 accepted.2)
    go (Some half) e own =
        let found : Accepts (joined_nfa ks) tape (size_of ks) own.place half.pattern own.path =
        (own.state, own.is_path, own.accepted) in
        let one =
        accepting_once (joined_nfa ks) tape (size_of ks) own.place pair.place half.pattern pair.pattern own.path path
        found accepted
        (upto_both own.path path (own.least path pair.place accepted.0 pair.pattern accepted.1 accepted.2)
        (chosen own.place half.pattern own.path found)) in
        let w = found_rule ks res is 0 half e in
        let rule : w.0 ≡ pair.pattern = (let a = w.1 in let b = one.1 in omega (arith, a, b)) in
        let end : half.offset ≡ offset + pair.place = (let a = own.ends in let b = one.0 in omega (arith, a, b)) in
        subst (λ v. IsFirstRule res hay offset v (offset + pair.place)) rule
        (subst (λ v. IsFirstRule res hay offset w.0 v) end w.2)

  prefers_once :
      (rule a b : ℕ) → RulePrefers res hay rule offset a → RulePrefers res hay rule offset b → a ≡ b
  prefers_once rule a b v w =
      let re : v.0 ≡ w.0 = some_inj (sym v.2 ∙ w.2) in
      v.4
      ∙ ap (λ (trace : Trace). trace.end)
      (some_inj (sym v.3 ∙ ap (λ x. attempt hay x accept offset) re ∙ w.3))
      ∙ sym w.4

  -- of two first rules, both are the same, and so are their ends
  pub first_once :
      (rule end other at : ℕ) → IsFirstRule res hay offset rule end → IsFirstRule res hay offset other at → at ≡ end
  first_once rule end other at a b =
      let l = a.first other at b.matches in
      let m = b.first rule end a.matches in
      let e : other ≡ rule = omega (arith, l, m) in
      prefers_once rule at end (subst (λ v. RulePrefers res hay v offset at) e b.matches) a.matches

  pub not_before : (rule end : ℕ) → RuleMatches res hay rule offset end → offset ≤ end
  not_before rule end way = let w = path_of_way rule end way in let e = w.3 in omega (arith, e)

-- In text, an end inside a character is that of an empty match there.
module _ (ks : List kit_nfa.Nfa) (d : Engine) (own : d.nfa ≡ joined_nfa ks) (keeps : KeepsUtf8 Forward d)
    (utf8 : d.utf8 ≡ true) (hay : List ℕ) (bytes : IsHaystack hay) (text : IsUtf8 hay) (offset : ℕ)
    (fits : offset ≤ length hay) where
  pub split_is_empty :
      (place pattern : ℕ) (path : List ℕ)
      → Accepts d.nfa (forward_tape hay offset (length hay)) d.anchored place pattern path
      → is_split hay (offset + place) ≡ true → place ≡ 0
  split_is_empty place pattern path h split =
      ⊎_elim
      (λ (l : 0 < place).
      absurd (true≢false (sym split
      ∙ (whole_path d keeps utf8 hay bytes text offset 0 place h.0 pattern path l
      (let inner =
      path_inside d.nfa (forward_tape hay offset (length hay)) 0 [] d.anchored path place h.0 (omega arith) h.1 in
      let count = forward_length hay offset (length hay) fits (omega arith) in
      omega (arith, inner, count, fits)) h.1 h.2).1)))
      (λ (l : place ≤ 0). omega (arith, l))
      (cases_lt 0 place)
