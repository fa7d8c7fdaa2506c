-- Why there is no next token.
use Rattle.std.proofs.Common.{ℕ, ◌≡◌, Bool, true, false, Option, Some, None, refl, sym, ap}
use Rattle.std.specs.Prelude.{Result, Ok, Err, if◌then◌else◌, nat_lt}
use Rattle.std.specs.Result.{result_err}
use Rattle.automata_base.specs.Haystacks.Matches.{HalfMatch, Match}
use Rattle.automata_config.specs.declared.error.SearchError.{SearchError}
use Rattle.regex_automata.specs.Tokens.{item_of, search_error}
use Rattle.regex_automata.specs.declared.tokens.error.TokenError.{TokenError}
use Rattle.regex_automata.specs.declared.tokens.error.TokenError.TheVariants.{NoToken, Search}
use Rattle.regex_automata.proofs.Results.{err_ok, same_err}

pub no_search : (at : ℕ) (e : SearchError) → NoToken at ≡ Search e → ⊥
no_search at e h = cc

pub same_search : (d e : SearchError) → Search d ≡ Search e → d ≡ e
same_search d e h = cc

pub answer_is_no_refusal :
    (offset : ℕ) (o : Option HalfMatch) (e : SearchError)
    → ◌≡◌ {A = Result Match TokenError} (Err (Search e)) (item_of offset (Ok o)) → ⊥
answer_is_no_refusal offset None e is = no_search offset e (sym (same_err is))
answer_is_no_refusal offset (Some half) e is = go (nat_lt offset half.offset) is where
  go :
      (past : Bool)
      → ◌≡◌ {A = Result Match TokenError} (Err (Search e))
      (if past then Ok (record { pattern = half.pattern; start = offset; end = half.offset }) else Err (NoToken offset))
      → ⊥
  go true h = absurd (err_ok h)
  go false h = no_search offset e (sym (same_err h))

-- the error of the search at an offset is the search error of the item
pub error_is :
    (offset : ℕ) (answer : Result (Option HalfMatch) SearchError) (e : TokenError)
    → ◌≡◌ {A = Result Match TokenError} (Err e) (item_of offset answer) → result_err answer ≡ search_error (Err e)
error_is offset (Ok o) (NoToken at) is = refl
error_is offset (Ok o) (Search e) is = absurd (answer_is_no_refusal offset o e is)
error_is offset (Err d) (NoToken at) is = absurd (no_search at d (same_err is))
error_is offset (Err d) (Search e) is = ap (λ (v : SearchError). Some v) (sym (same_search e d (same_err is)))

pub no_error_is :
    (offset : ℕ) (answer : Result (Option HalfMatch) SearchError) (found : Match)
    → ◌≡◌ {A = Result Match TokenError} (Ok found) (item_of offset answer) → result_err answer ≡ None
no_error_is offset (Ok o) found is = refl
no_error_is offset (Err d) found is = absurd (err_ok (sym is))
