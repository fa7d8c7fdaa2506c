use Rattle.std.proofs.Common.{◌∙◌, ◌<◌, ◌≡◌, ℕ, List, Option, Some, None, IfSome, ap, ap₂, arith, get_or, length, refl}
use Rattle.std.proofs.Common.{slice_get, subst, sym, true≢false}
use Rattle.std.proofs.lemmas.Option.{get_or_from_slice_get}
use Rattle.std.specs.Prelude.{Result, Err, is_some}
use Rattle.std.specs.Result.{result_err}
use Rattle.automata_base.specs.Haystacks.Matches.{Match}
use Rattle.automata_base.specs.Haystacks.Tapes.{IsHaystack}
use Rattle.automata_config.specs.declared.error.SearchError.{SearchError}
use Rattle.automata_config.specs.declared.error.SearchError.TheVariants as search
use Rattle.regex_automata.specs.Promises.{IsSoundPair}
use Rattle.regex_automata.specs.Spans.Errors.{IsRegexError}
use Rattle.regex_automata.specs.Spans.Follows.{ErrorsFollow}
use Rattle.regex_automata.specs.Spans.Runs.{IsSpanRun}
use Rattle.regex_automata.specs.declared.hybrid.regex.caches.Cache.{Cache}
use Rattle.patterns.specs.Patterns.{config_of}
use Rattle.patterns.specs.Searches.{IsSpanSearch, SearchesAll, SearchesFrom, SearchesNothing, rest_from}
use Rattle.patterns.specs.declared.pattern.Pattern.{Pattern}
use Rattle.examples.specs.Finding.{in_bytes}
use Rattle.examples.proofs.Spans.{found_first, one_meaning}
use Rattle.examples.proofs.fallback.finder.Finder.find.Goals as goal

-- the elements of a slice of bytes are bytes
are_bytes : (line : List ℕ) → ((i : ℕ) → get_or line i 0 < 256) → IsHaystack line
are_bytes line fit = λ i byte at. subst (λ n. n < 256) (get_or_from_slice_get line i byte 0 at) (fit i)

pub returns-in-Ok-Some-clause-found : goal.returns-in-Ok-Some-clause-found
returns-in-Ok-Some-clause-found c = λ text finds.
    let r = finds.regex in
    let one = one_meaning (config_of in_bytes) text r.0 r.1 in
    let same =
    c.in-Ok-Some.ensures.found in_bytes r.0 r.2
    ((λ no. absurd (true≢false (sym no))), (λ no. absurd (true≢false (sym no)))) in (
      one.0,
      one.2,
      ap₂ (λ start end. Some (start, end)) c.start.ensures.start c.end.ensures.end
          ∙ found_first one.0 r.0 c.args.line.now (Some c.in-Ok-Some.found) one.1
          (sym c.in-Ok-Some.field-0-is ∙ same),
    )

pub returns-in-Ok-None-clause-found : goal.returns-in-Ok-None-clause-found
returns-in-Ok-None-clause-found c = λ text finds.
    let r = finds.regex in
    let one = one_meaning (config_of in_bytes) text r.0 r.1 in
    let same =
    c.in-Ok-None.ensures.found in_bytes r.0 r.2
    ((λ no. absurd (true≢false (sym no))), (λ no. absurd (true≢false (sym no)))) in (
      one.0,
      one.2,
      found_first one.0 r.0 c.args.line.now None one.1
          (sym c.in-Ok-None.field-0-is ∙ same),
    )

-- a search over a sound pair does not fail for want of a start
not_apart :
    (p : Pattern) (line : List ℕ) (old new : Cache) (r : Result (Option Match) SearchError) → IsSoundPair p.regex
    → ErrorsFollow p.regex → IsHaystack line → r ≡ Err search.NotAPair → IsSpanSearch p line 0 old new r → ⊥
not_apart p line old new r sound follow bytes is s = go s
  where
    fails : (at : ℕ) → IsSpanRun p.regex (rest_from line at) old new (result_err r) → ⊥
    fails at run =
        let error : IsRegexError p.regex old new (rest_from line at) search.NotAPair =
        subst (λ (e : Option SearchError). IfSome e (IsRegexError p.regex old new (rest_from line at)))
        (ap result_err is) (follow.spans (rest_from line at) old new (result_err r) (bytes, omega arith) run) in
        error.sound sound refl

    go : IsSpanSearch p line 0 old new r → ⊥
    go (SearchesAll s) = fails 0 s.1
    go (SearchesFrom has at may s) = fails at s.1
    go (SearchesNothing has may none) = let ok = none.0 in absurd (cc)

pub returns-in-Err-Match-clause-searched : goal.returns-in-Err-Match-clause-searched
returns-in-Err-Match-clause-searched c = record {
  result = c.find.result;
  search =
      subst (λ (now : Cache). IsSpanSearch c.args.self.now.pattern c.args.line.now 0 c.args.self.now.cache now
      c.find.result) (sym c.simulate-span.ensures.cache) c.find.ensures.searched;
  simulated = sym (ap (λ (r : Result (Option Match) SearchError). is_some (result_err r)) c.in-Err-Match.is);
}

pub returns-in-Err-NotAPair-clause-failed : goal.returns-in-Err-NotAPair-clause-failed
returns-in-Err-NotAPair-clause-failed c = λ text finds.
    absurd (not_apart c.args.self.now.pattern c.args.line.now c.args.self.now.cache c.find.new.cache c.find.result
    finds.regex.2.sound c.spans_follow.ensures.refusals
    (are_bytes c.args.line.now (λ i. let fits = c.type_inv.line i in omega (arith, fits)))
    (c.in-Err-NotAPair.is ∙ ap Err c.in-Err-NotAPair.field-0-is) c.find.ensures.searched)
