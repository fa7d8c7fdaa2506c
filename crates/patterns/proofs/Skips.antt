-- A search that begins at a later offset, before which no match begins, finds what one from the start finds.
use Rattle.std.proofs.Common.{ℕ, suc, ◌≡◌, ◌<◌, ◌≤◌, List, Option, Bool, false, is_some, length, option_map}
use Rattle.std.proofs.Common.{Some, None, inl, inr, refl, sym, ap, ap₂, ◌∙◌, subst}
use Rattle.std.proofs.Common.{◌⊎◌, arith, get_or, ⊎_elim, eq-or-lt_of_le}
use Rattle.std.specs.Prelude.{Result, Ok, Err, IfErr, IfOk, IfSome}
use Rattle.std.specs.Option.{unwrap_or}
use Rattle.std.specs.Result.{result_err}
use Rattle.std.proofs.lemmas.Option.{get_or_from_slice_get}
use Rattle.regex_hir.specs.Re.{Re}
use Rattle.automata_base.specs.Answers.Answers.{Half, IsAnswer}
use Rattle.automata_base.specs.Answers.Spans.{FindsHere, FindsLater, IsMatch, IsNextItem, IsSpan, from}
use Rattle.automata_base.specs.Haystacks.Input.{Input, IsValidInput}
use Rattle.automata_base.specs.Haystacks.Matches.{HalfMatch, Match}
use Rattle.automata_base.specs.Haystacks.Tapes.{IsHaystack}
use Rattle.automata_base.specs.Nfas.Engines.{Engine}
use Rattle.automata_base.specs.declared.util.search.Anchored.TheVariants.{No}
use Rattle.automata_base.specs.declared.util.search.Direction.TheVariants.{Forward}
use Rattle.automata_config.specs.declared.error.SearchError.{SearchError}
use Rattle.automata_hybrid.specs.Searches.Contracts.{IsHalf}
use Rattle.automata_hybrid.specs.Searches.Passes.{WithoutBase, without_base}
use Rattle.regex_automata.specs.Regexes.SoundPairs.{IsSoundPair, forward_engine}
use Rattle.regex_automata.specs.Spans.Contracts.{IsSpanOf, IsTruthOf}
use Rattle.regex_automata.specs.Spans.Errors.{IsNextError}
use Rattle.regex_automata.specs.Spans.Iteration.{GoesPast, IsNextMatch}
use Rattle.regex_automata.specs.Spans.OfPaths.{MatchesAreSpans}
use Rattle.regex_automata.specs.Spans.Outcomes.{MatchLiesIn}
use Rattle.regex_automata.specs.Spans.Runs.{IsNextRun}
use Rattle.regex_automata.specs.declared.hybrid.regex.caches.Cache.{Cache}
use Rattle.meaning.specs.Patterns.{end_of, find_any, numbered_match}
use Rattle.prefilters.specs.Needles.{BeginsNearNeedle, NearNeedles, SkipsTo}
use Rattle.prefilters.specs.Skipping.{IsLazy, MaySkipAll, MaySkipTo, MovesAnswer}
use Rattle.prefilters.proofs.Answering.{answer_moves, span_moves, truth_moves}
use Rattle.prefilters.proofs.Nowhere.{none_found}
use Rattle.patterns.specs.Iteration.{IsNextMeant, rest_of}
use Rattle.patterns.specs.Patterns.{IsFor, IsRegexOf}
use Rattle.patterns.specs.Searches.{FindsAtOnce, HasPrefilter, IsNarrowed, IsNextSearch, IsSearchedAfter}
use Rattle.patterns.specs.Searches.{IsSearchedFrom, NarrowingKeeps, ReadsNothing, SearchesAll, SearchesFrom}
use Rattle.patterns.specs.Searches.{SearchesNothing, SearchesOn, rest_from}
use Rattle.patterns.specs.declared.compile.Options.{Options}
use Rattle.patterns.specs.declared.pattern.Pattern.{Pattern}
use Rattle.patterns.proofs.Searching.{end_means, find_means, next_means, truth_is_meant}

-- where a search of an input begins: at its start, or at a later offset; none if no match begins in its span
abbrev pub IsBegin : Pattern → Input → Option ℕ → Type 0
IsBegin p input None = HasPrefilter p × MaySkipAll (forward_engine p.regex) input
IsBegin p input (Some at) = (at ≡ input.start) ⊎ (HasPrefilter p × MaySkipTo (forward_engine p.regex) input at)

-- a search for needles in the span of an input
pub over :
    (near : NearNeedles) (input : Input) (hay : List ℕ) (start end : ℕ) (found : Option ℕ)
    → hay ≡ input.haystack → start ≡ input.start → end ≡ input.end → SkipsTo hay near start end found
    → SkipsTo input.haystack near input.start input.end found
over near input hay start end found same from upto to =
    subst (λ v. SkipsTo input.haystack near input.start v found) upto
    (subst (λ v. SkipsTo input.haystack near v end found) from
    (subst (λ v. SkipsTo v near start end found) same to))

-- what a prefilter needs to know of a search
module _ (p : Pattern) (near : NearNeedles) (input : Input) (has : p.prefilter ≡ Some near)
    (lazy : IsLazy (forward_engine p.regex)) (begins : BeginsNearNeedle (forward_engine p.regex) near)
    (valid : IsValidInput input) (free : input.anchored ≡ No) (undone : input.start ≤ input.end) where
  pub skips_all : SkipsTo input.haystack near input.start input.end None → IsNarrowed p input None
  skips_all none = (
    λ no. absurd (cc),
    record {
      loops = lazy;
      of_bytes = (valid.bytes, valid.within.1);
      free = free;
      undone = undone;
      none =
          begins input.haystack input.end input.start (suc input.end) valid.bytes valid.within.1 (omega arith) none;
    },
  )

  pub skips_to :
      (at : ℕ) → SkipsTo input.haystack near input.start input.end (Some at)
      → HasPrefilter p × MaySkipTo (forward_engine p.regex) input at
  skips_to at to = (
    λ no. absurd (cc),
    record {
      loops = lazy;
      of_bytes = (valid.bytes, valid.within.1);
      free = free;
      from = to.0;
      upto = to.1;
      none =
          begins input.haystack input.end input.start at valid.bytes valid.within.1
          (let u = to.1 in omega (arith, u)) to.2;
    },
  )

-- where a search of the rest of a haystack begins, by the narrowed input
abbrev pub Begins : Pattern → List ℕ → (start : ℕ) → Input → Type 0
Begins p hay start narrowed =
    (at : ℕ) × (narrowed ≡ rest_from hay at) × IsBegin p (rest_from hay start) (Some at)

begins_at :
    (p : Pattern) (hay : List ℕ) (start : ℕ) (narrowed : Input)
    → IsNarrowed p (rest_from hay start) (Some narrowed) → Begins p hay start narrowed
begins_at p hay start narrowed (inl e) = (start, e, inl refl)
begins_at p hay start narrowed (inr (has, at, may, e)) = (at, e, inr (has, may))

pub begun :
    (p : Pattern) (hay : List ℕ) (start : ℕ) (whole narrowed : Input) (found : Option Input)
    → whole ≡ rest_from hay start → found ≡ Some narrowed → IsNarrowed p whole found → Begins p hay start narrowed
begun p hay start whole narrowed found same is n =
    begins_at p hay start narrowed
    (subst (λ v. IsNarrowed p v (Some narrowed)) same (subst (IsNarrowed p whole) is n))

pub begun_nowhere :
    (p : Pattern) (hay : List ℕ) (start : ℕ) (whole : Input) (found : Option Input) → whole ≡ rest_from hay start
    → ((a : Input) → found ≡ Some a → ⊥) → IsNarrowed p whole found → IsBegin p (rest_from hay start) None
begun_nowhere p hay start whole None same none n = subst (λ v. IsNarrowed p v None) same n
begun_nowhere p hay start whole (Some a) same none n = absurd (none a refl)

-- how it is searched then
pub searched_from :
    {Searches : ℕ → Type 0} {FindsNone : Type 0} (p : Pattern) (hay : List ℕ) (start at : ℕ)
    → IsBegin p (rest_from hay start) (Some at) → Searches at → IsSearchedFrom p hay start Searches FindsNone
searched_from {Searches = Searches} p hay start at (inl e) s = SearchesAll (subst Searches e s)
searched_from p hay start at (inr b) s = SearchesFrom b.0 at b.1 s

pub searched_nothing :
    {Searches : ℕ → Type 0} {FindsNone : Type 0} (p : Pattern) (hay : List ℕ) (start : ℕ)
    → IsBegin p (rest_from hay start) None → FindsNone → IsSearchedFrom p hay start Searches FindsNone
searched_nothing p hay start b none = SearchesNothing b.0 b.1 none

pub searched_as :
    {S T : ℕ → Type 0} {M N : Type 0} (p : Pattern) (hay : List ℕ) (start : ℕ) → ((at : ℕ) → S at → T at)
    → (M → N) → IsSearchedFrom p hay start S M → IsSearchedFrom p hay start T N
searched_as p hay start f g (SearchesAll s) = SearchesAll (f start s)
searched_as p hay start f g (SearchesFrom has at may s) = SearchesFrom has at may (f at s)
searched_as p hay start f g (SearchesNothing has may none) = SearchesNothing has may (g none)

module _ (p : Pattern) (input : Input) where
  abbrev d : Engine
  d = forward_engine p.regex

  -- a match with its start
  span_from :
      (at : ℕ) (found : Option Match) → IsBegin p input (Some at) → IsSpan d (from at input) found
      → IsSpan d input found
  span_from at found (inl e) s = subst (λ v. IsSpan d (from v input) found) e s
  span_from at found (inr b) s = span_moves d input at b.1 found s

  pub span_none : IsBegin p input None → IsSpan d input None
  span_none b = none_found d input b.1

  truth_from :
      (at : ℕ) (truth : Bool) → IsBegin p input (Some at) → IsMatch d (from at input) truth → IsMatch d input truth
  truth_from at truth (inl e) s = subst (λ v. IsMatch d (from v input) truth) e s
  truth_from at truth (inr b) s = truth_moves d input at truth b.1 s

  -- an end
  rebased :
      (at : ℕ) (half : Half) (found : Option HalfMatch) → found ≡ Some (without_base half)
      → MovesAnswer d input at (Some half) → WithoutBase (IsAnswer Forward d input) found
  rebased at half found same (other, a, r) = (
    Some other,
    a,
    same ∙ ap₂ (λ pattern offset. Some (record { pattern = pattern; offset = offset })) (sym r.pattern) (sym r.offset),
  )

  end_from :
      (at : ℕ) (found : Option HalfMatch) → IsBegin p input (Some at)
      → WithoutBase (IsAnswer Forward d (from at input)) found → WithoutBase (IsAnswer Forward d input) found
  end_from at found (inl e) s = subst (λ v. WithoutBase (IsAnswer Forward d (from v input)) found) e s
  end_from at found (inr b) (None, a, same) = (None, answer_moves d input at b.1 None a, same)
  end_from at found (inr b) (Some half, a, same) =
      rebased at half found same (answer_moves d input at b.1 (Some half) a)

  -- a span begins in its input
  span_low : (at : ℕ) (m : Match) → IsSpan d (from at input) (Some m) → at ≤ m.start
  span_low at m s = let b = s.answer.2.base in let e = s.start in omega (arith, b, e)

  -- the next match after one that ended at `last`
  next_from :
      (at : ℕ) (last : Option ℕ) (found : Option Match) → IfSome last (λ end. end ≤ input.start)
      → IsBegin p input (Some at) → IsNextItem (IsSpan d) (from at input) at last found
      → IsNextItem (IsSpan d) input input.start last found
  next_from at last found before (inl e) s = subst (λ v. IsNextItem (IsSpan d) (from v input) v last found) e s
  next_from at last found before (inr b) (FindsHere s f) = FindsHere (span_from at found (inr b) s) f
  next_from at last found before (inr b) (FindsLater m s e later) = ⊎_elim
      (λ (same : input.start ≡ at).
      subst (λ v. IsNextItem (IsSpan d) (from v input) v last found) (sym same) (FindsLater m s e later))
      (λ (less : input.start < at).
      let low = span_low at m s in
      let empty = e.0 in
      let there = subst (λ v. IfSome v (λ end. end ≤ input.start)) e.1 before in
      absurd (omega (arith, less, low, empty, there))) (eq-or-lt_of_le b.1.from)

  low : (at : ℕ) → IsBegin p input (Some at) → input.start ≤ at
  low at (inl e) = omega (arith, e)
  low at (inr b) = b.1.from

  past_from :
      (at : ℕ) (last : Option ℕ) (m : Match) → IsBegin p input (Some at)
      → GoesPast p.regex (from at input) last m → GoesPast p.regex input last m
  past_from at last m b g =
      let l = low at b in
      let from = g.0.0 in
      let ordered = g.0.1 in (
        (omega (arith, l, from), ordered, g.0.2, g.0.3),
        λ e. ⊎_elim
            (λ (same : input.start ≡ at). subst (λ v. v < m.end) (sym same) (g.1 (e ∙ ap Some same)))
            (λ (less : input.start < at). omega (arith, less, from, ordered)) (eq-or-lt_of_le l),
      )

-- an attempt and a search, by what either does
pub after_as :
    {F G : Type 0} {S T : Cache → Type 0} (p : Pattern) (input : Input) (old new : Cache) → (F → G)
    → ((between : Cache) → S between → T between) → IsSearchedAfter p input old new F S
    → IsSearchedAfter p input old new G T
after_as p input old new f g (FindsAtOnce a found) = FindsAtOnce a (f found)
after_as p input old new f g (SearchesOn between a s) = SearchesOn between a (g between s)

-- So a search of a narrowed input finds what one of the given input finds.
pub narrowing_keeps :
    (p : Pattern) (input narrowed : Input) → IsNarrowed p input (Some narrowed) → NarrowingKeeps p input narrowed
narrowing_keeps p input narrowed (inl e) = record {
  spans = λ found s. subst (λ v. IsSpan (forward_engine p.regex) v found) e s;
  truths = λ truth s. subst (λ v. IsMatch (forward_engine p.regex) v truth) e s;
  ends = λ found s. subst (λ v. WithoutBase (IsAnswer Forward (forward_engine p.regex) v) found) e s;
  nexts =
      λ last found before s.
      subst (λ (v : Input). IsNextItem (IsSpan (forward_engine p.regex)) v v.start last found) e s;
}
narrowing_keeps p input narrowed (inr (has, at, may, e)) = record {
  spans =
      λ found s.
      span_from p input at found (inr (has, may)) (subst (λ v. IsSpan (forward_engine p.regex) v found) e s);
  truths =
      λ truth s.
      truth_from p input at truth (inr (has, may)) (subst (λ v. IsMatch (forward_engine p.regex) v truth) e s);
  ends =
      λ found s.
      end_from p input at found (inr (has, may))
      (subst (λ v. WithoutBase (IsAnswer Forward (forward_engine p.regex) v) found) e s);
  nexts =
      λ last found before s.
      next_from p input at last found before (inr (has, may))
      (subst (λ (v : Input). IsNextItem (IsSpan (forward_engine p.regex)) v v.start last found) e s);
}

-- the end of the last match is not after the start of the rest
last_before : (start : ℕ) (last : Option ℕ) → start ≡ unwrap_or last 0 → IfSome last (λ end. end ≤ start)
last_before start None e = tt
last_before start (Some end) e = omega (arith, e)

-- how the match after one that ended at `last` is searched for
abbrev Runs :
    Pattern → List ℕ → Option ℕ → (old new : Cache) → Result (Option Match) SearchError → (at : ℕ) → Type 0
Runs p hay last old new r at =
    IsSearchedAfter p (rest_from hay at) old new ((m : Match) × (r ≡ Ok (Some m)))
    (λ between.
    IsNextRun p.regex (rest_from hay at) last between new (result_err r)
    × IfErr r (IsNextError p.regex between new (rest_from hay at) last))

pub next_searched :
    (p : Pattern) (hay : List ℕ) (start at : ℕ) (last : Option ℕ) (old new : Cache)
    (r : Result (Option Match) SearchError) → start ≡ unwrap_or last 0 → IsBegin p (rest_from hay start) (Some at)
    → Runs p hay last old new r at → IsNextSearch p hay last old new r
next_searched p hay start at last old new r begin b runs =
    subst (λ v. IsSearchedFrom p hay v (Runs p hay last old new r) (ReadsNothing None old new r)) begin
    (searched_from p hay start at b runs)

pub next_unsearched :
    (p : Pattern) (hay : List ℕ) (start : ℕ) (last : Option ℕ) (old new : Cache)
    (r : Result (Option Match) SearchError) → start ≡ unwrap_or last 0 → IsBegin p (rest_from hay start) None
    → ReadsNothing None old new r → IsNextSearch p hay last old new r
next_unsearched p hay start last old new r begin b none =
    subst (λ v. IsSearchedFrom p hay v (Runs p hay last old new r) (ReadsNothing None old new r)) begin
    (searched_nothing p hay start b none)

-- So what is found is what the patterns mean, for every meaning that the regex has.
pub found_from :
    (p : Pattern) (hay : List ℕ) (start at : ℕ) (input : Input) (r : Result (Option Match) SearchError)
    → input ≡ rest_from hay at → IsHaystack input.haystack → IsBegin p (rest_from hay start) (Some at)
    → IsSpanOf p.regex input r
    → IfOk r (λ found. (o : Options) (res : List Re) → IsRegexOf o res p.regex → IsFor o hay
    → found ≡ option_map (numbered_match res hay) (find_any o.utf8 res hay start))
found_from p hay start at input (Err e) same bytes b h = tt
found_from p hay start at input (Ok found) same bytes b h = λ o res is for.
    find_means p.regex o res is hay for (subst (λ (v : Input). IsHaystack v.haystack) same bytes) start found
    (span_from p (rest_from hay start) at found b
    (subst (λ v. IsSpan (forward_engine p.regex) v found) same (h.span is.sound)))

pub found_nothing :
    (p : Pattern) (hay : List ℕ) (start : ℕ) → IsHaystack hay → IsBegin p (rest_from hay start) None
    → (o : Options) (res : List Re) → IsRegexOf o res p.regex → IsFor o hay
    → None ≡ option_map (numbered_match res hay) (find_any o.utf8 res hay start)
found_nothing p hay start bytes b o res is for =
    find_means p.regex o res is hay for bytes start None (span_none p (rest_from hay start) b)

pub truth_is_from :
    (p : Pattern) (hay : List ℕ) (start at : ℕ) (input : Input) (r : Result Bool SearchError)
    → input ≡ rest_from hay at → IsHaystack input.haystack → IsBegin p (rest_from hay start) (Some at)
    → IsTruthOf p.regex input r
    → IfOk r (λ truth. (o : Options) (res : List Re) → IsRegexOf o res p.regex → IsFor o hay
    → truth ≡ is_some (find_any o.utf8 res hay start))
truth_is_from p hay start at input (Err e) same bytes b h = tt
truth_is_from p hay start at input (Ok truth) same bytes b h = λ o res is for.
    truth_is_meant p.regex o res is hay for (subst (λ (v : Input). IsHaystack v.haystack) same bytes) start truth
    (truth_from p (rest_from hay start) at truth b
    (subst (λ v. IsMatch (forward_engine p.regex) v truth) same (h.answer is.sound.cycles)))

pub truth_nothing :
    (p : Pattern) (hay : List ℕ) (start : ℕ) → IsHaystack hay → IsBegin p (rest_from hay start) None
    → (o : Options) (res : List Re) → IsRegexOf o res p.regex → IsFor o hay
    → false ≡ is_some (find_any o.utf8 res hay start)
truth_nothing p hay start bytes b o res is for =
    truth_is_meant p.regex o res is hay for bytes start false (None, span_none p (rest_from hay start) b, refl)

pub end_is_from :
    (p : Pattern) (hay : List ℕ) (start at : ℕ) (input : Input) (r : Result (Option HalfMatch) SearchError)
    → input ≡ rest_from hay at → IsHaystack input.haystack → IsBegin p (rest_from hay start) (Some at)
    → IsHalf Forward p.regex.forward input r
    → IfOk r (λ found. (o : Options) (res : List Re) → IsRegexOf o res p.regex → IsFor o hay
    → found ≡ option_map (end_of res hay) (find_any o.utf8 res hay start))
end_is_from p hay start at input (Err e) same bytes b h = tt
end_is_from p hay start at input (Ok found) same bytes b h = λ o res is for.
    end_means p.regex o res is hay for (subst (λ (v : Input). IsHaystack v.haystack) same bytes) start found
    (end_from p (rest_from hay start) at found b
    (subst (λ v. WithoutBase (IsAnswer Forward (forward_engine p.regex) v) found) same (h.answer is.sound.cycles)))

pub end_nothing :
    (p : Pattern) (hay : List ℕ) (start : ℕ) → IsHaystack hay → IsBegin p (rest_from hay start) None
    → (o : Options) (res : List Re) → IsRegexOf o res p.regex → IsFor o hay
    → None ≡ option_map (end_of res hay) (find_any o.utf8 res hay start)
end_nothing p hay start bytes b o res is for =
    end_means p.regex o res is hay for bytes start None (None, span_none p (rest_from hay start) b, refl)

pub next_is_from :
    (p : Pattern) → MatchesAreSpans p.regex → (hay : List ℕ) (start at : ℕ) (last : Option ℕ) (input : Input)
    (r : Result (Option Match) SearchError) → input ≡ rest_from hay at → IsHaystack input.haystack
    → input.end ≤ length input.haystack → start ≡ unwrap_or last 0 → IsBegin p (rest_from hay start) (Some at)
    → IfOk r (IsNextMatch p.regex input last) → IfOk r (IsNextMeant p.regex hay last)
next_is_from p law hay start at last input (Err e) same bytes within begin b h = tt
next_is_from p law hay start at last input (Ok found) same bytes within begin b h = λ o res is for.
    next_means p.regex o res is hay for (subst (λ (v : Input). IsHaystack v.haystack) same bytes) start last found
    (subst (λ v. IsNextItem (IsSpan (forward_engine p.regex)) (rest_from hay start) v last found) begin
    (next_from p (rest_from hay start) at last found (last_before start last begin) b
    (subst (λ (v : Input). IsNextItem (IsSpan (forward_engine p.regex)) v v.start last found) same
    ((law is.sound input (bytes, within)).next last found h))))

-- a match that an attempt finds
pub next_at_once :
    (p : Pattern) (hay : List ℕ) (start at : ℕ) (last : Option ℕ) (input : Input) (m : Match)
    → input ≡ rest_from hay at → IsHaystack input.haystack → start ≡ unwrap_or last 0
    → IsBegin p (rest_from hay start) (Some at)
    → (IsSoundPair p.regex → IsSpan (forward_engine p.regex) input (Some m)) → m.start < m.end
    → IsNextMeant p.regex hay last (Some m)
next_at_once p hay start at last input m same bytes begin b span long o res is for =
    next_means p.regex o res is hay for (subst (λ (v : Input). IsHaystack v.haystack) same bytes) start last (Some m)
    (subst (λ v. IsNextItem (IsSpan (forward_engine p.regex)) (rest_from hay start) v last (Some m)) begin
    (next_from p (rest_from hay start) at last (Some m) (last_before start last begin) b
    (FindsHere (subst (λ v. IsSpan (forward_engine p.regex) v (Some m)) same (span is.sound))
    (λ e. let s = e.0 in absurd (omega (arith, s, long))))))

pub next_nothing :
    (p : Pattern) (hay : List ℕ) (start : ℕ) (last : Option ℕ) → IsHaystack hay → start ≡ unwrap_or last 0
    → IsBegin p (rest_from hay start) None → IsNextMeant p.regex hay last None
next_nothing p hay start last bytes begin b o res is for =
    next_means p.regex o res is hay for bytes start last None
    (subst (λ v. IsNextItem (IsSpan (forward_engine p.regex)) (rest_from hay start) v last None) begin
    (FindsHere (span_none p (rest_from hay start) b) tt))

pub past_is_from :
    (p : Pattern) (hay : List ℕ) (start at : ℕ) (last : Option ℕ) (input : Input)
    (r : Result (Option Match) SearchError) → input ≡ rest_from hay at → start ≡ unwrap_or last 0
    → IsBegin p (rest_from hay start) (Some at) → IfOk r (λ o. IfSome o (GoesPast p.regex input last))
    → IfOk r (λ o. IfSome o (GoesPast p.regex (rest_of hay last) last))
past_is_from p hay start at last input (Err e) same begin b h = tt
past_is_from p hay start at last input (Ok None) same begin b h = tt
past_is_from p hay start at last input (Ok (Some m)) same begin b h =
    subst (λ v. GoesPast p.regex (rest_from hay v) last m) begin
    (past_from p (rest_from hay start) at last m b (subst (λ (v : Input). GoesPast p.regex v last m) same h))

pub past_at_once :
    (p : Pattern) (hay : List ℕ) (start at : ℕ) (last : Option ℕ) (input : Input) (m : Match)
    → input ≡ rest_from hay at → start ≡ unwrap_or last 0 → IsBegin p (rest_from hay start) (Some at)
    → MatchLiesIn p.regex input m × (m.start < m.end) → GoesPast p.regex (rest_of hay last) last m
past_at_once p hay start at last input m same begin b lies =
    past_is_from p hay start at last input (Ok (Some m)) same begin b
    (lies.0, λ e. let l = lies.0.0 in let long = lies.1 in omega (arith, l, long))

pub none_is : {A : Type 0} (o : Option A) → ((a : A) → o ≡ Some a → ⊥) → o ≡ None
none_is None f = refl
none_is (Some a) f = absurd (f a refl)

-- the elements of a slice of bytes are bytes
pub are_bytes : (hay : List ℕ) → ((i : ℕ) → get_or hay i 0 < 256) → IsHaystack hay
are_bytes hay fit = λ i byte at. subst (λ n. n < 256) (get_or_from_slice_get hay i byte 0 at) (fit i)
