-- An anchored search from the first offset where a match can begin finds the match.
use Rattle.std.proofs.Common.{ℕ, suc, ◌≡◌, ◌<◌, ◌≤◌, List, Bool, Option, Some, None, option_map, ap, ◌∙◌, inr, refl}
use Rattle.std.proofs.Common.{subst, sym, true, arith, ⊎_elim, eq-or-lt_of_le}
use Rattle.std.proofs.lemmas.Bool.{cases_lt}
use Rattle.std.specs.Prelude.{IfSome, Ok, Result}
use Rattle.std.proofs.lemmas.Option.{none-some, same_Some}
use Rattle.automata_base.specs.Answers.Answers.{Half, IsAnswer}
use Rattle.automata_base.specs.Answers.Spans.{IsSpan}
use Rattle.automata_base.specs.Haystacks.Input.{Input, IsValidInput}
use Rattle.automata_base.specs.Haystacks.Matches.{HalfMatch, Match}
use Rattle.automata_base.specs.Nfas.Engines.{Engine}
use Rattle.automata_base.specs.declared.util.search.MatchKind.TheVariants.{LeftmostFirst}
use Rattle.automata_config.specs.declared.error.SearchError.{SearchError}
use Rattle.automata_base.specs.declared.util.search.Anchored.TheVariants.{Yes}
use Rattle.automata_hybrid.specs.Searches.Passes.{Skips, WithoutBase, without_base}
use Rattle.regex_automata.specs.Promises.{CacheView, Forward, IsHalf, IsSearchRun, IsSoundPair, Machine, forward_engine}
use Rattle.regex_automata.specs.Promises.{known_of}
use Rattle.regex_automata.specs.declared.hybrid.regex.Regex.{Regex}
use Rattle.regex_automata.specs.declared.hybrid.regex.caches.Cache.{Cache}
use Rattle.prefilters.specs.FirstBytes.{BeginsAtFirstByte, FindsFirstByte}
use Rattle.prefilters.specs.Needles.{BeginsNearNeedle, NearNeedles, SkipsTo}
use Rattle.prefilters.specs.Skipping.{NoneUpTo, IsLazy, IsNextBegin, MaySkipTo, NoneBeginsAt, anchored_from}
use Rattle.prefilters.proofs.Anchoring.{anchored_span}
use Rattle.prefilters.proofs.FirstSteps.{byte_skips}
use Rattle.prefilters.proofs.Nowhere.{anchored_none}
use Rattle.patterns.specs.Attempts.{AreLaterRuns, BeginsLater, IsFullSearch, IsRunFrom, LiesInSpan, NextRun, NoRun}
use Rattle.patterns.specs.Searches.{IsAttempt, IsCandidate}
use Rattle.patterns.specs.declared.pattern.Pattern.{Pattern}

-- no match begins before the first byte
pub may_skip :
    (regex : Regex) (table : List Bool) (input : Input) (hay : List ℕ) (start end at : ℕ) (found : Option ℕ)
    → IsValidInput input → IsFullSearch input → BeginsAtFirstByte (forward_engine regex) table
    → IsLazy (forward_engine regex) → hay ≡ input.haystack → start ≡ input.start → end ≡ input.end → found ≡ Some at
    → FindsFirstByte table hay start end found → MaySkipTo (forward_engine regex) input at
may_skip regex table input hay start end at found valid full begins lazy same from upto is finds = record {
  loops = lazy;
  of_bytes = (valid.bytes, valid.within.1);
  free = full.free;
  from = there.0;
  upto = let l = there.1 in omega (arith, l);
  none = byte_skips (forward_engine regex) table input.haystack input.start input.end at valid.bytes begins there;
}
  where
    there : FindsFirstByte table input.haystack input.start input.end (Some at)
    there =
        subst (λ v. FindsFirstByte table input.haystack input.start input.end v) is
        (subst (λ v. FindsFirstByte table input.haystack input.start v found) upto
        (subst (λ v. FindsFirstByte table input.haystack v end found) from
        (subst (λ v. FindsFirstByte table v start end found) same finds)))

-- so an anchored search may be made there
pub candidate_is :
    (p : Pattern) (table : List Bool) (input : Input) (hay : List ℕ) (start end : ℕ) (found : Option ℕ)
    → p.first_bytes ≡ Some table → IsValidInput input → IsFullSearch input
    → BeginsAtFirstByte (forward_engine p.regex) table → IsLazy (forward_engine p.regex) → hay ≡ input.haystack
    → start ≡ input.start → end ≡ input.end → FindsFirstByte table hay start end found
    → IfSome found (IsCandidate p input)
candidate_is p table input hay start end None has valid full begins lazy same from upto finds = tt
candidate_is p table input hay start end (Some at) has valid full begins lazy same from upto finds = (
  inr (λ no. absurd (cc)),
  may_skip p.regex table input hay start end at (Some at) valid full begins lazy same from upto refl finds,
)

-- what the anchored search finds there is the match
pub span_at_once :
    (regex : Regex) (input : Input) (at : ℕ) (half : HalfMatch) → (forward_engine regex).kind ≡ LeftmostFirst
    → IsFullSearch input → MaySkipTo (forward_engine regex) input at
    → IsHalf Forward regex.forward (anchored_from at input) (Ok (Some half)) → IsSoundPair regex
    → IsSpan (forward_engine regex) input (Some (record { pattern = half.pattern; start = at; end = half.offset }))
span_at_once regex input at half kind full skip h sound = go a.0 a.1 a.2
  where
    d : Engine
    d = forward_engine regex

    a : WithoutBase (IsAnswer Forward d (anchored_from at input)) (Some half)
    a = h.answer sound.cycles

    go :
        (answer : Option Half) → IsAnswer Forward d (anchored_from at input) answer
        → Some half ≡ option_map without_base answer
        → IsSpan d input (Some (record { pattern = half.pattern; start = at; end = half.offset }))
    go None a same = absurd (none-some half (sym same))
    go (Some whole) a same =
        subst (λ (v : HalfMatch). IsSpan d input (Some (record { pattern = v.pattern; start = at; end = v.offset })))
        (same_Some (without_base whole) half (sym same))
        (anchored_span d input at whole kind full.full skip a)

-- the same by what a call returns
pub span_returned :
    (regex : Regex) (m : Machine) (input i : Input) (at : ℕ) (half : HalfMatch)
    (r : Result (Option HalfMatch) SearchError) (o : Option HalfMatch) (v : Match) (pattern end : ℕ)
    → (forward_engine regex).kind ≡ LeftmostFirst → IsFullSearch input
    → (IsSoundPair regex → MaySkipTo (forward_engine regex) input at)
    → m ≡ regex.forward → i ≡ anchored_from at input → r ≡ Ok o → o ≡ Some half → pattern ≡ half.pattern
    → end ≡ half.offset → v ≡ record { pattern = pattern; start = at; end = end } → IsHalf Forward m i r
    → IsSoundPair regex → IsSpan (forward_engine regex) input (Some v)
span_returned regex m input i at half r o v pattern end kind full skip of same is some p e made h sound =
    subst (λ w. IsSpan (forward_engine regex) input (Some w)) (sym whole)
    (span_at_once regex input at half kind full (skip sound)
    (subst (λ w. IsHalf Forward regex.forward (anchored_from at input) w) (is ∙ ap Ok some)
    (subst (λ w. IsHalf Forward regex.forward w r) same (subst (λ w. IsHalf Forward w i r) of h))) sound)
  where
    whole : v ≡ record { pattern = half.pattern; start = at; end = half.offset }
    whole =
        made
        ∙ (ap (λ (w : ℕ). record { pattern = w; start = at; end = end }) p
        ∙ ap (λ (w : ℕ). record { pattern = half.pattern; start = at; end = w }) e)

-- what the search does
pub run_from :
    (regex : Regex) (m : Machine) (input i : Input) (at : ℕ) (old : Cache) (before after : CacheView)
    (error : Option SearchError) → m ≡ regex.forward → i ≡ anchored_from at input → before ≡ old.forward
    → IsSearchRun Forward m i (known_of before) (known_of after) error
    → IsRunFrom regex input at old (record { forward = after; reverse = old.reverse })
run_from regex m input i at old before after error of same from run = record {
  error = error;
  run =
      subst (λ (v : CacheView). IsSearchRun Forward regex.forward (anchored_from at input) (known_of v) (known_of after)
      error) from
      (subst (λ v. IsSearchRun Forward regex.forward v (known_of before) (known_of after) error) same
      (subst (λ v. IsSearchRun Forward v i (known_of before) (known_of after) error) of run));
  reverse = refl;
}

-- if it finds nothing, no match begins there
pub begins_later :
    (regex : Regex) (m : Machine) (input i : Input) (at : ℕ) (r : Result (Option HalfMatch) SearchError)
    (o : Option HalfMatch) → IsFullSearch input → LiesInSpan input at
    → (IsSoundPair regex → MaySkipTo (forward_engine regex) input at) → m ≡ regex.forward
    → i ≡ anchored_from at input → r ≡ Ok o → o ≡ None → IsHalf Forward m i r → BeginsLater regex input at
begins_later regex m input i at r o full within skip of same is none h = (
  within,
  λ sound plain.
      let found : IsHalf Forward regex.forward (anchored_from at input) (Ok None) =
      subst (λ w. IsHalf Forward regex.forward (anchored_from at input) w) (is ∙ ap Ok none)
      (subst (λ w. IsHalf Forward regex.forward w r) same (subst (λ w. IsHalf Forward w i r) of h)) in
      let a = found.answer sound.cycles in
      record { skips = skip sound; none = go plain a.0 a.1 a.2 },
)
  where
    d : Engine
    d = forward_engine regex

    go :
        (Skips regex.forward → ⊥) → (answer : Option Half) → IsAnswer Forward d (anchored_from at input) answer
        → None ≡ option_map without_base answer → NoneBeginsAt d input.haystack input.end at
    go plain (Some whole) a e = absurd (none-some (without_base whole) e)
    go plain None a e =
        anchored_none d input.haystack input.end at plain within.1
        (subst (λ b. IsAnswer Forward d (record {
          haystack = input.haystack;
          start = at;
          end = input.end;
          anchored = Yes;
          earliest = b;
        }) None) full.full a)

-- the next needle may be skipped to
pub skips_on :
    (d : Engine) (input : Input) (at next : ℕ) → NoneUpTo d input at → IsNextBegin d input at next
    → MaySkipTo d input next
skips_on d input at next past beyond = record {
  loops = past.skips.loops;
  of_bytes = past.skips.of_bytes;
  free = past.skips.free;
  from = let f = past.skips.from in let a = beyond.after in omega (arith, f, a);
  upto = beyond.upto;
  none =
      λ o low high.
      ⊎_elim (λ (l : o < at). past.skips.none o low l)
      (λ (l : at ≤ o).
      ⊎_elim (λ (e : at ≡ o). subst (NoneBeginsAt d input.haystack input.end) e past.none)
      (λ (lt : at < o). beyond.none o (omega (arith, lt)) high) (eq-or-lt_of_le l))
      (cases_lt o at);
}

-- where the next needle is
pub next_begin :
    (regex : Regex) (near : NearNeedles) (input : Input) (hay : List ℕ) (at from end : ℕ) (found : Option ℕ)
    → BeginsNearNeedle (forward_engine regex) near → IsValidInput input → at < input.end → hay ≡ input.haystack
    → from ≡ suc at → end ≡ input.end → SkipsTo hay near from end found
    → IfSome found (IsNextBegin (forward_engine regex) input at)
next_begin regex near input hay at from end None begins valid before same is upto to = tt
next_begin regex near input hay at from end (Some next) begins valid before same is upto to = record {
  after = let f = there.0 in omega (arith, f);
  upto = there.1;
  none =
      begins input.haystack input.end (suc at) next valid.bytes valid.within.1
      (let u = there.1 in omega (arith, u)) there.2;
}
  where
    there : SkipsTo input.haystack near (suc at) input.end (Some next)
    there =
        subst (λ v. SkipsTo input.haystack near (suc at) v (Some next)) upto
        (subst (λ v. SkipsTo input.haystack near v end (Some next)) is
        (subst (λ v. SkipsTo v near from end (Some next)) same to))

-- searches after others
pub runs_join :
    (regex : Regex) (input : Input) (old between new : Cache) → AreLaterRuns regex input old between
    → AreLaterRuns regex input between new → AreLaterRuns regex input old new
runs_join regex input old between new first NoRun = first
runs_join regex input old between new first (NextRun {between = last} rest at skips run) =
    NextRun (runs_join regex input old between last first rest) at skips run

-- one search, if no match begins before it
pub one_run :
    (regex : Regex) (input : Input) (at next : ℕ) (old new : Cache) → BeginsLater regex input at
    → (Skips regex.forward → ⊥) → IsNextBegin (forward_engine regex) input at next
    → IsRunFrom regex input next old new → AreLaterRuns regex input old new
one_run regex input at next old new past plain beyond run =
    NextRun NoRun next (λ sound. skips_on (forward_engine regex) input at next (past.1 sound plain) beyond) run

-- an attempt of a pattern that makes some
pub attempted :
    (p : Pattern) (input : Input) (at : ℕ) (old between new : Cache) → p.attempts ≡ true → IsCandidate p input at
    → IsRunFrom p.regex input at old between → AreLaterRuns p.regex input between new → IsAttempt p input old new
attempted p input at old between new allowed candidate run later =
    inr (allowed, candidate.0, between, record { offset = at; skips = candidate.1; run = run }, later)
