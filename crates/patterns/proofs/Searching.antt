-- What the searches for a pattern find, by what the pattern means.
use Rattle.std.proofs.Common.{ℕ, ◌≡◌, ◌<◌, List, [], ◌∷◌, Option, Bool, true, false, is_some, length, option_map}
use Rattle.std.proofs.Common.{◌∙◌, ap, sym, subst, ⊎_elim, All}
use Rattle.std.specs.Prelude.{IsAscii}
use Rattle.std.specs.Option.{unwrap_or}
use Rattle.std.proofs.lemmas.Bool.{cases_Bool}
use Rattle.std.proofs.lemmas.List.{get_or_default}
use Rattle.regex_hir.specs.Re.{Re}
use Rattle.regex_nfa.specs.declared.nfa.Nfa as kit_nfa
use Rattle.automata_base.specs.Answers.Answers.{IsAnswer}
use Rattle.automata_base.specs.Answers.Spans.{IsMatch, IsNextItem, IsSpan}
use Rattle.automata_base.specs.Haystacks.Matches.{HalfMatch, Match}
use Rattle.automata_base.specs.Haystacks.Tapes.{IsHaystack}
use Rattle.automata_base.specs.Nfas.Engines.{engine_of}
use Rattle.automata_base.specs.declared.util.search.Direction.TheVariants.{Forward}
use Rattle.automata_base.specs.declared.util.search.MatchKind.TheVariants.{LeftmostFirst}
use Rattle.automata_base.specs.Answers.TruePairs.{KeepsUtf8}
use Rattle.automata_hybrid.specs.Searches.Passes.{WithoutBase}
use Rattle.regex_automata.specs.Regexes.SoundPairs.{forward_engine}
use Rattle.regex_automata.specs.declared.hybrid.regex.Regex.{Regex}
use Rattle.meaning.specs.Agreeing.{Each, HasNoUnicodeLook, HasSameLooks}
use Rattle.meaning.specs.Patterns.{IsFirstLeft, end_of, find_any, left_any, numbered_match, span_input}
use Rattle.meaning.specs.Translated.{joined_engine}
use Rattle.meaning.proofs.Ascii.{same_looks_ascii}
use Rattle.meaning.proofs.Iterations.{end_is, item_left, span_is, truth_is}
use Rattle.meaning.proofs.Looking.{same_looks}
use Rattle.meaning.proofs.Means.{any_means}
use Rattle.patterns.specs.Patterns.{IsFor, IsJoinedNfa, IsRegexOf}
use Rattle.patterns.specs.declared.compile.Options.{Options}

all_ascii : (hay : List ℕ) → IsAscii hay → All (λ b. b < 128) hay
all_ascii hay ascii i d l = subst (λ v. v < 128) (get_or_default hay i 0 d l) (ascii i)

-- the looks agree on haystacks that the options allow
pub looks_same : (ascii : Bool) (hay : List ℕ) → (ascii ≡ true → IsAscii hay) → (ks : List kit_nfa.Nfa) →
    Each (λ k. ascii ≡ false → HasNoUnicodeLook k) ks → Each (HasSameLooks hay) ks
looks_same ascii hay only [] looks = tt
looks_same ascii hay only (k ∷ ks) looks = (
  ⊎_elim (λ (e : ascii ≡ true). same_looks_ascii hay (all_ascii hay (only e)) k)
      (λ (e : ascii ≡ false). same_looks k hay (looks.0 e)) (cases_Bool ascii),
  looks_same ascii hay only ks looks.1,
)

module _ (p : Regex) (o : Options) (res : List Re) (is : IsRegexOf o res p) (hay : List ℕ) (for : IsFor o hay)
    (bytes : IsHaystack hay) where
  abbrev made : IsJoinedNfa o res p.forward.nfa
  made = is.joined

  -- the forward engine answers as the joined one
  own : forward_engine p ≡ engine_of p.forward.nfa LeftmostFirst
  own = ap (engine_of p.forward.nfa) is.kind

  -- each search has the span that is meant
  spans :
      (s : ℕ) → IsSpan (forward_engine p) (span_input hay s (length hay))
      (option_map (numbered_match res hay) (find_any o.utf8 res hay s))
  spans s =
      subst (λ d. IsSpan d (span_input hay s (length hay))
      (option_map (numbered_match res hay) (find_any o.utf8 res hay s))) (sym own)
      (((made.answers.alike LeftmostFirst).matches.span (span_input hay s (length hay))
      (option_map (numbered_match res hay) (find_any o.utf8 res hay s)) bytes).0
      (subst (λ d. IsSpan d (span_input hay s (length hay))
      (option_map (numbered_match res hay) (find_any o.utf8 res hay s))) (sym made.joins)
      (any_means made.ks res made.nfas.0 hay (looks_same o.ascii hay for.1 made.ks made.nfas.1) o.utf8 bytes for.0 keeps
      s)))
    where
      keeps : KeepsUtf8 Forward (joined_engine o.utf8 made.ks)
      keeps =
          subst (λ d. KeepsUtf8 Forward d) made.joins
          ((made.answers.utf8 LeftmostFirst).1 (subst (λ d. KeepsUtf8 Forward d) own is.sound.utf8))

  pub find_means : (s : ℕ) (found : Option Match) → IsSpan (forward_engine p) (span_input hay s (length hay)) found →
      found ≡ option_map (numbered_match res hay) (find_any o.utf8 res hay s)
  find_means s found h = span_is (forward_engine p) res hay (find_any o.utf8 res hay) spans s found h

  pub truth_is_meant : (s : ℕ) (truth : Bool) → IsMatch (forward_engine p) (span_input hay s (length hay)) truth →
      truth ≡ is_some (find_any o.utf8 res hay s)
  truth_is_meant s truth h = truth_is (forward_engine p) res hay (find_any o.utf8 res hay) spans s truth h

  pub end_means : (s : ℕ) (found : Option HalfMatch) →
      WithoutBase (IsAnswer Forward (forward_engine p) (span_input hay s (length hay))) found →
      found ≡ option_map (end_of res hay) (find_any o.utf8 res hay s)
  end_means s found (answer, a, same) =
      same ∙ end_is (forward_engine p) res hay (find_any o.utf8 res hay) spans s answer a

  -- the next match is the first of the remaining ones
  pub next_means : (begin : ℕ) (last : Option ℕ) (found : Option Match) →
      IsNextItem (IsSpan (forward_engine p)) (span_input hay begin (length hay)) (unwrap_or last 0) last found →
      IsFirstLeft (left_any o.utf8 res hay) last found
  next_means begin last found h =
      item_left (forward_engine p) res hay (find_any o.utf8 res hay) spans begin last found h
