use Rattle.std.proofs.Common.{◌≡◌, ◌∙◌, ℕ, true, false, List, Option, arith, ap, subst, sym, refl}
use Rattle.std.specs.Prelude.{Err, IfOk, Ok, Result, option_map}
use Rattle.regex_automata.specs.declared.hybrid.SearchError.{SearchError}
use Rattle.regex_automata.specs.Promises.{AnswersAgree, FirstMatchIsFound, Forward, HalfMatch, Input, IsFirstMatch}
use Rattle.regex_automata.specs.Promises.{IsFound, IsHalf, IsHaystack, IsNearestAnswer, Machine, WithoutBase, engine_of}
use Rattle.regex_automata.specs.Promises.{match_kind_of, without_base}
use Rattle.examples.specs.Steps.{IsEarliest, earliest}
use Rattle.examples.proofs.steps.search.Finder.find.Goals as goal

-- the result of a search is the first match
searched :
    (m : Machine) (text : List ℕ) (found : Option HalfMatch) → AnswersAgree
    → IsHalf Forward m (earliest text) (Ok found)
    → WithoutBase (IsFound Forward m (earliest text)) found → IsEarliest m text found
searched m text found agree half first = record {
  same = λ answer other.
      first.2 ∙ (ap (option_map without_base)
      (agree Forward m m (earliest text) first.0 other.0 refl refl first.1 other.1) ∙ sym other.2);
  nearest = half.nearest refl;
}

-- and so is what steps with another DFA of the NFA find
stepped :
    (fast sure : Machine) (text : List ℕ) (found : Option HalfMatch) → AnswersAgree → FirstMatchIsFound fast
    → fast.nfa ≡ sure.nfa → match_kind_of fast.config ≡ match_kind_of sure.config → fast.nfa.flags.utf8 ≡ false
    → IsHaystack text → IsFirstMatch fast (earliest text) found → IsEarliest sure text found
stepped fast sure text found agree law nfa kind bytes haystack first =
    let reported =
    law (earliest text) found (λ skips. false_true (sym bytes ∙ skips.0)) haystack (omega arith) (omega arith) first in
    record {
      same = λ answer other.
          reported.0.2
          ∙ (ap (option_map without_base)
          (agree Forward fast sure (earliest text) reported.0.0 other.0 nfa kind reported.0.1 other.1) ∙ sym other.2);
      nearest =
          subst (λ k. WithoutBase (IsNearestAnswer Forward (engine_of sure.nfa k) (earliest text)) found) kind
          (subst (λ n. WithoutBase (IsNearestAnswer Forward (engine_of n (match_kind_of fast.config)) (earliest text))
          found) nfa (reported.1 refl));
    } where
      false_true : false ≡ true → ⊥
      false_true h = cc

either :
    (m : Machine) (text : List ℕ) (input : Input) (result : Result (Option HalfMatch) SearchError)
    → AnswersAgree → input ≡ earliest text → IsHalf Forward m input result
    → IfOk result (WithoutBase (IsFound Forward m input)) → IfOk result (IsEarliest m text)
either m text input (Ok found) agree same half first =
    searched m text found agree (subst (λ i. IsHalf Forward m i (Ok found)) same half)
    (subst (λ i. WithoutBase (IsFound Forward m i) found) same first)
either m text input (Err e) agree same half first = tt

pub returns-in-Some-clause-found : goal.returns-in-Some-clause-found
returns-in-Some-clause-found c =
    let same : c.earliest-input.result ≡ earliest c.args.text.now =
    c.earliest-input.ensures ∙ ap (λ (i : Input). record i { earliest = true }) c.new.ensures.input in
    stepped c.args.self.now.fast c.args.self.now.sure c.args.text.now c.in-Some.found c.answers_agree.ensures
    c.first_match_is_found.ensures
    c.args.self.now.nfa c.args.self.now.kind c.args.self.now.bytes
    (subst (λ (i : Input). IsHaystack i.haystack) c.new.ensures.input c.new.ensures.valid.bytes)
    (subst (λ i. IsFirstMatch c.args.self.now.fast i c.in-Some.found) same c.in-Some.ensures.found)

pub returns-in-None-clause-found : goal.returns-in-None-clause-found
returns-in-None-clause-found c =
    let same : c.earliest-input.result ≡ earliest c.args.text.now =
    c.earliest-input.ensures ∙ ap (λ (i : Input). record i { earliest = true }) c.new.ensures.input in
    either c.args.self.now.sure c.args.text.now c.earliest-input.result c.try_search_fwd.result c.answers_agree.ensures
    same c.try_search_fwd.ensures.half c.try_search_fwd.ensures.found
