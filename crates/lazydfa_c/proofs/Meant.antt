-- Searches for a Unicode word boundary find what the texts mean.
use Rattle.std.proofs.Common.{ℕ, ◌≡◌, ◌≤◌, ◌==◌, ◌&&◌, nat_le, Bool, true, false, List, None, Option, Some, arith, ap}
use Rattle.std.proofs.Common.{◌<◌, ◌∙◌, length, option_map, refl, subst, suc, sym, zero}
use Rattle.std.proofs.lemmas.Bool.Decides.{nat_tests}
use Rattle.std.specs.Prelude.{Err, IfOk, IsAscii, Ok, Result}
use Rattle.regex_hir.specs.Re.{Re}
use Rattle.automata_base.specs.Answers.Spans.{IsSpan}
use Rattle.automata_base.specs.Haystacks.Matches.{Match}
use Rattle.automata_config.specs.declared.error.SearchError.{SearchError}
use Rattle.meaning.specs.Patterns.{find_any, numbered_match}
use Rattle.meta.specs.Regexes.{IsTextFor}
use Rattle.patterns.specs.Searches.{IsNarrowed, NarrowedIsKept, WithoutNarrowedIsNone, rest_from}
use Rattle.patterns.specs.declared.compile.Options.{Options}
use Rattle.patterns.proofs.Building.{regex_is}
use Rattle.patterns.proofs.Searching.{find_means}
use Rattle.patterns.specs.Patterns.{IsRegexOf, config_of}
use Rattle.regex_syntax.specs.declared.Config.{Config}
use Rattle.meta.specs.declared.program.Programs.{Programs}
use Rattle.regex_automata.specs.Promises.{Input, IsHaystack, forward_engine}
use Rattle.lazydfa_c.specs.Calls.{FindsNoStart, IsTold, Narrowed, ReportsMatch, SearchesNarrowed, regex_of}
use Rattle.lazydfa_c.specs.Codes.{number_of}
use Rattle.lazydfa_c.specs.Laws.{BuiltWordsAreSearched, IsCacheOfWords}
use Rattle.lazydfa_c.specs.Programs.{AreProgramsFor, Contents, HasProgramsFor}
use Rattle.lazydfa_c.specs.Requests.{found_from}
use Rattle.lazydfa_c.specs.Statuses.{search_status}
use Rattle.lazydfa_c.specs.Texts.{IsFailure, IsNfaFor, IsRegexFor, reading_for, reading_of, settings_for, texts_in}
use Rattle.lazydfa_c.specs.Words.{AfterFailure, ByDfas, BySimulation, FindsMatchOf, SimulatesMatch, can_simulate}
use Rattle.lazydfa_c.specs.Words.{is_first_kind}
use Rattle.lazydfa_c.specs.declared.code.Code.TheVariants as code
use Rattle.lazydfa_c.specs.declared.input.Found.{Found}
use Rattle.lazydfa_c.specs.declared.object.Searcher.{Searcher}
use Rattle.lazydfa_c.specs.declared.status.Status.{Status}
use Rattle.lazydfa_c.proofs.Errors as errors

both : (a b : Bool) → a ≡ true → b ≡ true → a && b ≡ true
both true b p q = q
both false b p q = p

search_fails : (status : Status) (e : SearchError) → status ≡ search_status e → IsFailure status
search_fails status e is =
    let fails : number_of code.Argument < (search_status e).code = errors.search_told.fails e in
    subst IsFailure (sym is) (omega (arith, fails))

module _ (o : Options) (res : List Re) (s t : Searcher) (hay : List ℕ) (at : ℕ) (found : Found) (status : Status)
    (is : IsCacheOfWords o res s) (bytes : IsHaystack hay) (text : IsTextFor o hay) (kept : NarrowedIsKept)
    (none : WithoutNarrowedIsNone) where
  -- what the texts mean
  abbrev meant : Option Match
  meant = option_map (numbered_match res hay) (find_any o.utf8 res hay at)

  -- what the ordered paths define is what is meant
  paths : IsAscii hay → (m : Option Match) → IsSpan (forward_engine (regex_of s)) (rest_from hay at) m → m ≡ meant
  paths ascii m span =
      find_means (regex_of s) (reading_for true o) res is.regex hay (text, λ e. ascii) bytes at m span

  -- a search by the DFAs reports that, if it does not fail
  reported :
      IsAscii hay → (IsFailure status → ⊥) → (result : Result (Option Match) SearchError)
      → IsTold found_from found result status → IfOk result (IsSpan (forward_engine (regex_of s)) (rest_from hay at))
      → IsTold found_from found (Ok meant) status
  reported ascii well (Err e) told span = absurd (well (search_fails status e told))
  reported ascii well (Ok m) told span =
      subst (λ (v : Option Match). IsTold found_from found (Ok v) status) (paths ascii m span) told

  moved :
      (narrowed : Input) → IsNarrowed s.shared.pattern.value (rest_from hay at) (Some narrowed)
      → (result : Result (Option Match) SearchError) → IfOk result (IsSpan (forward_engine (regex_of s)) narrowed)
      → IfOk result (IsSpan (forward_engine (regex_of s)) (rest_from hay at))
  moved narrowed n (Err e) span = tt
  moved narrowed n (Ok m) span = (kept s.shared.pattern.value (rest_from hay at) narrowed n).spans m span

  by_dfas :
      IsAscii hay → (IsFailure status → ⊥) → Narrowed (ReportsMatch found) (rest_from hay at) s t status
      → IsTold found_from found (Ok meant) status
  by_dfas ascii well (SearchesNarrowed narrowed n r) =
      reported ascii well r.result r.told (moved narrowed n r.result (r.returned.span is.regex.sound))
  by_dfas ascii well (FindsNoStart n same nothing ends) =
      reported ascii well (Ok None) nothing (none s.shared.pattern.value (rest_from hay at) n)

  by_programs : SimulatesMatch found (rest_from hay at) s.shared status → IsTold found_from found (Ok meant) status
  by_programs m =
      subst (λ (v : Option Match). IsTold found_from found (Ok v) status)
      (m.meant is.programs res is.shared is.find
      ∙ ap (λ (utf8 : Bool). option_map (numbered_match res hay) (find_any utf8 res hay at)) is.text) m.told

  can : at ≤ length hay → can_simulate s (rest_from hay at) ≡ true
  can within =
      let last : (length hay == length hay) ≡ true = grind (arith, nat_tests) in
      let first : nat_le at (length hay) ≡ true = grind (arith, nat_tests) in
      both _ _ (both _ _ is.words (both _ _ last first)) (ap is_first_kind is.regex.kind)

  pub find_is_meant :
      at ≤ length hay → FindsMatchOf found (rest_from hay at) s t status → IsTold found_from found (Ok meant) status
  find_is_meant within (ByDfas does why) = let w = why (can within) in by_dfas w.0 w.1 does
  find_is_meant within (AfterFailure c ascii other m failed does fails means keeps) = by_programs means
  find_is_meant within (BySimulation c other means keeps) = by_programs means

-- the programs of texts with a Unicode word boundary
programs_are :
    (groups : ℕ) (config : Config) (texts : List (List ℕ)) (programs : Option Programs)
    → HasProgramsFor groups true config texts programs
    → (p : Programs) × (programs ≡ Some p) × AreProgramsFor config texts p
programs_are zero config texts None has = absurd has
programs_are (suc n) config texts None has = absurd has
programs_are zero config texts (Some p) has = (p, refl, has)
programs_are (suc n) config texts (Some p) has = (p, refl, has)

pub built_is_searched : BuiltWordsAreSearched
built_is_searched o options with bytes lengths handle s h words forward kind same =
    let reading = reading_of options with in let texts = texts_in bytes lengths in
    let nfa = subst (λ (w : Bool). IsNfaFor reading texts w h.nfa) words h.meant in
    let contents = h.holds.contents in let made = h.holds.made in
    let regex =
    subst (λ (n : ℕ). IsRegexFor n (settings_for true o) h.nfa contents.pattern.regex) forward
    (subst (λ (w : Bool). IsRegexFor options.forward_only (settings_for w o) h.nfa contents.pattern.regex) words
    made.0.0) in
    let has =
    programs_are options.groups (config_of reading) texts h.programs
    (subst (λ (w : Bool). HasProgramsFor options.groups w (config_of reading) texts h.programs) words h.grouped) in (
      nfa.1.0,
      nfa.1.1,
      record {
        words = ap (λ (c : Contents). c.words) same ∙ made.2 ∙ words;
        regex =
            subst (IsRegexOf (reading_for true reading) nfa.1.0) (sym (ap (λ (c : Contents). c.pattern.regex) same))
            (regex_is (settings_for true o) (reading_for true reading) nfa.1.0 h.nfa contents.pattern.regex kind nfa.1.2
            regex.0 regex.1);
        programs = has.0;
        shared = ap (λ (c : Contents). c.programs) same ∙ made.1 ∙ has.1;
        find = has.2.meant nfa.1.0 nfa.1.1;
        text = has.2.text;
      },
    )
