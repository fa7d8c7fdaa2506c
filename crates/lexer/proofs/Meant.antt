-- The token at an offset, by what the patterns of the rules mean.
use Rattle.std.proofs.Common.{ℕ, ◌≡◌, ◌+◌, ◌≤◌, List, Option, Some, None, Bool, true, false, length}
use Rattle.std.proofs.Common.{option_map, refl, sym, ap, subst, ⊎_elim, arith}
use Rattle.std.specs.Prelude.{IfSome, Ok, nat_lt, if◌then◌else◌}
use Rattle.std.proofs.lemmas.Bool.{ltb-true, ltb-false}
use Rattle.regex_hir.specs.Re.{Re}
use Rattle.automata_base.specs.Answers.Answers.{Half, IsAnswer}
use Rattle.automata_base.specs.Answers.TruePairs.{KeepsUtf8}
use Rattle.automata_base.specs.Haystacks.Matches.{HalfMatch, Match}
use Rattle.automata_base.specs.Haystacks.Tapes.{IsHaystack}
use Rattle.automata_base.specs.Laws.KeptUnions.{AcyclicKeepsCycles}
use Rattle.automata_base.specs.Nfas.Engines.{Engine, engine_of}
use Rattle.automata_base.specs.declared.util.search.MatchKind.{MatchKind}
use Rattle.automata_base.specs.declared.util.search.MatchKind.TheVariants.{All as KindAll}
use Rattle.automata_hybrid.specs.Searches.Passes.{WithoutBase, without_base}
use Rattle.regex_automata.specs.Promises.{Forward, IsHalf, Machine, nfa_of}
use Rattle.meaning.specs.Agreeing.{Each, HasSameLooks}
use Rattle.meaning.specs.Translated.{joined_engine}
use Rattle.patterns.specs.Patterns.{IsFor, IsJoinedNfa}
use Rattle.patterns.specs.declared.compile.Options.{Options}
use Rattle.patterns.proofs.Searching.{looks_same}
use Rattle.lexer.specs.Lexers.{IsLexerOf, kind_for}
use Rattle.lexer.specs.Rules.{AreExact, IsFirstRule, IsLongestRule, RuleMatches}
use Rattle.lexer.specs.Tokens.{IsRuleToken, IsTokenFrom, remaining_input, token_of}
use Rattle.lexer.specs.declared.rules.Prefer.{Prefer}
use Rattle.lexer.specs.declared.rules.Prefer.TheVariants.{First, Longest}
use Rattle.lexer.proofs.Anchored.{SelectsSplit, answer_none, answer_some}
use Rattle.lexer.proofs.Choosing.{first_none, first_once, first_some, longest_none, longest_some, not_before}
use Rattle.lexer.proofs.Choosing.{split_is_empty}

-- where the answer of a search lies
pub token_lies :
    (m : Machine) (hay : List ℕ) (offset : ℕ) (o : Option HalfMatch)
    → IsHalf Forward m (remaining_input hay offset) (Ok o) → IfSome (token_of offset o) (IsTokenFrom m hay offset)
token_lies m hay offset None h = tt
token_lies m hay offset (Some half) h = go (nat_lt offset half.offset) refl where
  go :
      (past : Bool) → nat_lt offset half.offset ≡ past
      → IfSome (if past then Some (record { pattern = half.pattern; start = offset; end = half.offset }) else None)
      (IsTokenFrom m hay offset)
  go true e = record {
    start = refl;
    past = ltb-true offset half.offset e;
    within = h.within.upto;
    rule = h.within.pattern;
  }
  go false e = tt

module _ (m : Machine) (o : Options) (prefer : Prefer) (res : List Re) (is : IsLexerOf o prefer res m) (hay : List ℕ)
    (for : IsFor o hay) (bytes : IsHaystack hay) (offset : ℕ) (fits : offset ≤ length hay) where
  abbrev made : IsJoinedNfa o res m.nfa
  made = is.joined

  looks : Each (HasSameLooks hay) made.ks
  looks = looks_same o.ascii hay for.1 made.ks made.nfas.1

  abbrev kind : MatchKind
  kind = kind_for prefer

  -- the engine of the joined NFA, searched under this kind
  abbrev d : Engine
  d = record (joined_engine o.utf8 made.ks) { kind = kind }

  alike : engine_of made.joined kind ≡ d
  alike = ap (λ (e : Engine). record e { kind = kind }) made.joins

  keeps : KeepsUtf8 Forward d
  keeps =
      subst (λ e. KeepsUtf8 Forward e) alike ((made.answers.utf8 KindAll).1 is.utf8)

  -- a search's answer is one of the joined NFA's paths
  answered :
      (found : Option HalfMatch) → AcyclicKeepsCycles → IsHalf Forward m (remaining_input hay offset) (Ok found)
      → WithoutBase (IsAnswer Forward d (remaining_input hay offset)) found
  answered found law h =
      let a = h.answer (law (nfa_of m.nfa) made.acyclic) in (
        a.0,
        subst (λ e. IsAnswer Forward e (remaining_input hay offset) a.0) alike
            (((made.answers.alike kind).searches.answer Forward (remaining_input hay offset) a.0 bytes).1
            (subst (λ k. IsAnswer Forward (engine_of m.nfa k) (remaining_input hay offset) a.0) is.kind a.1)),
        a.2,
      )

-- what holds of an answer that ends after the offset, and of none, holds of the token
token_by :
    (offset : ℕ) (half : HalfMatch) (P : Option Match → Type 0)
    → P (Some (record { pattern = half.pattern; start = offset; end = half.offset }))
    → (half.offset ≤ offset → P None) → P (token_of offset (Some half))
token_by offset half P some none = go (nat_lt offset half.offset) refl where
  go :
      (past : Bool) → nat_lt offset half.offset ≡ past
      → P (if past then Some (record { pattern = half.pattern; start = offset; end = half.offset }) else None)
  go true e = some
  go false e = none (ltb-false offset half.offset e)

module _ (m : Machine) (o : Options) (res : List Re) (is : IsLexerOf o First res m) (hay : List ℕ)
    (for : IsFor o hay) (bytes : IsHaystack hay) (offset : ℕ) (fits : offset ≤ length hay) where
  same_looks : Each (HasSameLooks hay) is.joined.ks
  same_looks = looks m o First res is hay for bytes offset fits

  no_first :
      IsAnswer Forward (d m o First res is hay for bytes offset fits) (remaining_input hay offset) None
      → (rule end : ℕ) → IsFirstRule res hay offset rule end → end ≡ offset
  no_first answer rule end own =
      ⊎_elim
      (λ none. absurd (first_none is.joined.ks res is.joined.nfas.0 hay same_looks offset fits none rule end
      own.matches))
      (λ (w : SelectsSplit (d m o First res is hay for bytes offset fits) hay offset fits).
      let pair = w.1.0 in
      let empty =
      split_is_empty is.joined.ks (d m o First res is hay for bytes offset fits) refl
      (keeps m o First res is hay for bytes offset fits) w.0.0 hay bytes (for.0 w.0.0) offset fits pair.place
      pair.pattern w.1.1.0 w.1.1.1 w.1.2 in
      let found = first_some is.joined.ks res is.joined.nfas.0 hay same_looks offset fits pair w.1.1 in
      let once =
      first_once is.joined.ks res is.joined.nfas.0 hay same_looks offset fits pair.pattern (offset + pair.place) rule
      end found own in
      omega (arith, once, empty))
      (answer_none (d m o First res is hay for bytes offset fits) hay offset fits answer)

  pub first_is_meant :
      (found : Option HalfMatch) → AcyclicKeepsCycles → IsHalf Forward m (remaining_input hay offset) (Ok found)
      → IsRuleToken First res hay offset (token_of offset found)
  first_is_meant found law h = go a.0 a.1 a.2
    where
      a : WithoutBase
          (IsAnswer Forward (d m o First res is hay for bytes offset fits) (remaining_input hay offset)) found
      a = answered m o First res is hay for bytes offset fits found law h

      go :
          (answer : Option Half)
          → IsAnswer Forward (d m o First res is hay for bytes offset fits) (remaining_input hay offset) answer
          → found ≡ option_map without_base answer → IsRuleToken First res hay offset (token_of offset found)
      go None own e =
          subst (λ v. IsRuleToken First res hay offset (token_of offset v)) (sym e) (no_first own)
      go (Some half) own e =
          let w = answer_some (d m o First res is hay for bytes offset fits) hay offset fits half own in
          let rule : IsFirstRule res hay offset half.pattern half.offset =
          subst (λ v. IsFirstRule res hay offset v half.offset) (sym w.2)
          (subst (λ v. IsFirstRule res hay offset w.0.pattern v) (sym w.3)
          (first_some is.joined.ks res is.joined.nfas.0 hay same_looks offset fits w.0 w.1)) in
          subst (λ v. IsRuleToken First res hay offset (token_of offset v)) (sym e)
          (token_by offset (without_base half) (IsRuleToken First res hay offset) rule
          (λ low other end prefers.
          let once =
          first_once is.joined.ks res is.joined.nfas.0 hay same_looks offset fits half.pattern half.offset other end
          rule prefers in
          let at = w.3 in
          omega (arith, once, low, at)))

module _ (m : Machine) (o : Options) (res : List Re) (is : IsLexerOf o Longest res m) (hay : List ℕ)
    (for : IsFor o hay) (bytes : IsHaystack hay) (offset : ℕ) (fits : offset ≤ length hay) where
  same_all : Each (HasSameLooks hay) is.joined.ks
  same_all = looks m o Longest res is hay for bytes offset fits

  -- what the answer of a search says of the rules
  abbrev IsLongestEnd : (rule end : ℕ) → Type 0
  IsLongestEnd rule end =
      IsLongestRule res hay offset rule end × (AreExact is.joined.ks res → RuleMatches res hay rule offset end)

  not_longer : (rule end other at : ℕ) → IsLongestRule res hay offset rule end → end ≤ offset →
      RuleMatches res hay other offset at → at ≡ offset
  not_longer rule end other at own low way =
      let most = own.longest other at way in
      let least = not_before is.joined.ks res is.joined.nfas.0 hay same_all offset fits other at way in
      omega (arith, most, least, low)

  no_longest :
      IsAnswer Forward (d m o Longest res is hay for bytes offset fits) (remaining_input hay offset) None
      → (rule end : ℕ) → RuleMatches res hay rule offset end → end ≡ offset
  no_longest answer rule end own =
      ⊎_elim
      (λ none. absurd (longest_none is.joined.ks res is.joined.nfas.0 hay same_all offset fits none rule end own))
      (λ (w : SelectsSplit (d m o Longest res is hay for bytes offset fits) hay offset fits).
      let pair = w.1.0 in
      let empty =
      split_is_empty is.joined.ks (d m o Longest res is hay for bytes offset fits) refl
      (keeps m o Longest res is hay for bytes offset fits) w.0.0 hay bytes (for.0 w.0.0) offset fits pair.place
      pair.pattern w.1.1.0 w.1.1.1 w.1.2 in
      not_longer pair.pattern (offset + pair.place) rule end
      (longest_some is.joined.ks res is.joined.nfas.0 hay same_all offset fits pair w.1.1).0 (omega (arith, empty))
      own)
      (answer_none (d m o Longest res is hay for bytes offset fits) hay offset fits answer)

  -- what the answer of a search means
  abbrev IsMeantAnswer : Option HalfMatch → Type 0
  IsMeantAnswer None = (rule end : ℕ) → RuleMatches res hay rule offset end → end ≡ offset
  IsMeantAnswer (Some half) = IsLongestEnd half.pattern half.offset

  longest_answer :
      (found : Option HalfMatch) → AcyclicKeepsCycles → IsHalf Forward m (remaining_input hay offset) (Ok found)
      → IsMeantAnswer found
  longest_answer found law h = go a.0 a.1 a.2
    where
      a : WithoutBase
          (IsAnswer Forward (d m o Longest res is hay for bytes offset fits) (remaining_input hay offset)) found
      a = answered m o Longest res is hay for bytes offset fits found law h

      go :
          (answer : Option Half)
          → IsAnswer Forward (d m o Longest res is hay for bytes offset fits) (remaining_input hay offset) answer
          → found ≡ option_map without_base answer → IsMeantAnswer found
      go None own e = subst IsMeantAnswer (sym e) (no_longest own)
      go (Some half) own e =
          let w = answer_some (d m o Longest res is hay for bytes offset fits) hay offset fits half own in
          subst IsMeantAnswer (sym e)
          (subst (λ v. IsLongestEnd v half.offset) (sym w.2)
          (subst (λ v. IsLongestEnd w.0.pattern v) (sym w.3)
          (longest_some is.joined.ks res is.joined.nfas.0 hay same_all offset fits w.0 w.1)))

  pub longest_is_meant :
      (found : Option HalfMatch) → AcyclicKeepsCycles → IsHalf Forward m (remaining_input hay offset) (Ok found)
      → IsRuleToken Longest res hay offset (token_of offset found)
  longest_is_meant None law h = longest_answer None law h
  longest_is_meant (Some half) law h =
      let own = longest_answer (Some half) law h in
      token_by offset half (IsRuleToken Longest res hay offset) own.0
      (λ low rule end way. not_longer half.pattern half.offset rule end own.0 low way)

  pub longest_is_exact :
      (found : Option HalfMatch) → AcyclicKeepsCycles → IsHalf Forward m (remaining_input hay offset) (Ok found)
      → AreExact is.joined.ks res → IfSome (token_of offset found) (λ token. RuleMatches res hay token.pattern offset
      token.end)
  longest_is_exact None law h exact = tt
  longest_is_exact (Some half) law h exact =
      token_by offset half (λ v. IfSome v (λ token. RuleMatches res hay token.pattern offset token.end))
      ((longest_answer (Some half) law h).1 exact) (λ low. tt)

-- the token of either preference
pub token_is_meant :
    (m : Machine) (o : Options) (prefer : Prefer) (res : List Re) → IsLexerOf o prefer res m → (hay : List ℕ)
    → IsFor o hay → IsHaystack hay → (offset : ℕ) → offset ≤ length hay → (found : Option HalfMatch)
    → AcyclicKeepsCycles → IsHalf Forward m (remaining_input hay offset) (Ok found)
    → IsRuleToken prefer res hay offset (token_of offset found)
token_is_meant m o First res is hay for bytes offset fits found law h =
    first_is_meant m o res is hay for bytes offset fits found law h
token_is_meant m o Longest res is hay for bytes offset fits found law h =
    longest_is_meant m o res is hay for bytes offset fits found law h
