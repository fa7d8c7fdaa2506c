-- The effect of the searches for the items of a list on the caches, one after another.
use Rattle.std.proofs.Common.{ℕ, ◌≡◌, ◌∙◌, Bool, false, List, [], ◌∷◌, ◌++◌, append_assoc, append-nil, Option, Some}
use Rattle.std.proofs.Common.{None, refl, sym, subst}
use Rattle.std.specs.Prelude.{Result, Ok}
use Rattle.automata_base.specs.Haystacks.Input.{Input}
use Rattle.automata_base.specs.Haystacks.Matches.{Match}
use Rattle.automata_base.specs.Answers.Spans.{from}
use Rattle.automata_config.specs.declared.error.SearchError.{SearchError}
use Rattle.automata_hybrid.specs.Machines.Machine.{Machine}
use Rattle.replay.specs.Caches.{AreSearched, AreSearchedLast, AreTokensSearched, IsTokenMade}
use Rattle.replay.specs.Caches.{IsTokenSearchedLast}
use Rattle.regex_automata.specs.Spans.Runs.{IsItemRun, IsNextRun, item_error}
use Rattle.regex_automata.specs.Tokens.{match_of}
use Rattle.regex_automata.specs.declared.hybrid.regex.Regex.{Regex}
use Rattle.regex_automata.specs.declared.hybrid.regex.caches.Cache.{Cache}
use Rattle.regex_automata.specs.declared.tokens.error.TokenError.{TokenError}
use Rattle.regex_automata.specs.declared.tokens.token.Token.{Token}

-- the effect of an item on the caches, by the regex that the loop was given
pub run_turn :
    (p q : Regex) (now : Input) (last : Option ℕ) (ended : Bool) (at next : Cache)
    (item : Option (Result Match SearchError))
    → p ≡ q → ended ≡ false → IsItemRun p now last ended at next item → IsNextRun q now last at next (item_error item)
run_turn p q now last ended at next item regex going run =
    subst (λ (r : Regex). IsItemRun r now last false at next item) regex
    (subst (λ b. IsItemRun p now last b at next item) going run)

-- the remaining searches complete those for the matches so far
abbrev pub Searches :
    Regex → (first : Cache) → Input → List Match → (at : Cache) → (now : Input) → (last : Option ℕ) → Type 0
Searches p first input found at now last =
    (new : Cache) (ms : List Match) (error : Option SearchError)
    → AreSearched p at new now last ms error → AreSearched p first new input None (found ++ ms) error

pub searches_turn :
    (p : Regex) (first at next : Cache) (input now rest : Input) (last last' : Option ℕ) (found more : List Match)
    (m : Match)
    → Searches p first input found at now last → IsNextRun p now last at next None
    → rest ≡ from m.end now → last' ≡ Some m.end → more ≡ found ++ m ∷ []
    → Searches p first input more next rest last'
searches_turn p first at next input now rest last last' found more m all effect same past items =
    λ new ms error searched.
    subst (λ (xs : List Match). AreSearched p first new input None (xs ++ ms) error) (sym items)
    (subst (λ (xs : List Match). AreSearched p first new input None xs error) (sym (append_assoc found (m ∷ []) ms))
    (all new (m ∷ ms) error (
      next,
      effect,
      subst (λ (l : Option ℕ). AreSearched p next new (from m.end now) l ms error) past
          (subst (λ (i : Input). AreSearched p next new i last' ms error) same searched),
    )))

pub searches_end :
    (p : Regex) (first at new final : Cache) (input now : Input) (last : Option ℕ) (found list : List Match)
    (error : Option SearchError)
    → Searches p first input found at now last → AreSearchedLast p at new now last error → list ≡ found → new ≡ final
    → AreSearched p first final input None list error
searches_end p first at new final input now last found list error all ends items same =
    subst (λ (c : Cache). AreSearched p first c input None list error) same
    (subst (λ (xs : List Match). AreSearched p first new input None xs error) (append-nil found ∙ sym items)
    (all new [] error ends))

-- the remaining searches for tokens complete those for the tokens so far
abbrev pub TokensSearch :
    Machine → List ℕ → (end start : ℕ) → (first : Cache) → List Match → (at : Cache) → (place : ℕ) → Type 0
TokensSearch m h end start first found at place =
    (new : Cache) (ts : List Match) (error : Option TokenError)
    → AreTokensSearched m h end place at new ts error → AreTokensSearched m h end start first new (found ++ ts) error

pub token_made_turn :
    (p q : Regex) (h h' : List ℕ) (end end' place : ℕ) (at next : Cache) (item : Option (Result Token TokenError))
    → p ≡ q → h ≡ h' → end ≡ end' → IsTokenMade p.forward h end place at next item
    → IsTokenMade q.forward h' end' place at next item
token_made_turn p q h h' end end' place at next item regex haystack last effect =
    subst (λ (r : Regex). IsTokenMade r.forward h' end' place at next item) regex
    (subst (λ (k : List ℕ). IsTokenMade p.forward k end' place at next item) haystack
    (subst (λ n. IsTokenMade p.forward h n place at next item) last effect))

pub tokens_turn :
    (m : Machine) (h : List ℕ) (end start : ℕ) (first at next : Cache) (found more : List Match) (place place' : ℕ)
    (token : Token)
    → TokensSearch m h end start first found at place → IsTokenMade m h end place at next (Some (Ok token))
    → more ≡ found ++ match_of token ∷ [] → place' ≡ (match_of token).end
    → TokensSearch m h end start first more next place'
tokens_turn m h end start first at next found more place place' token all effect items behind =
    λ new ts error searched.
    let t = match_of token in
    subst (λ (xs : List Match). AreTokensSearched m h end start first new (xs ++ ts) error) (sym items)
    (subst (λ (xs : List Match). AreTokensSearched m h end start first new xs error)
    (sym (append_assoc found (t ∷ []) ts))
    (all new (t ∷ ts) error (
      next,
      record { token = token; is = refl; made = effect },
      subst
          (λ n. AreTokensSearched m h end n next new ts error) behind searched,
    )))

pub tokens_end :
    (m : Machine) (h : List ℕ) (end start : ℕ) (first at new : Cache) (found list : List Match) (place : ℕ)
    (error : Option TokenError)
    → TokensSearch m h end start first found at place → IsTokenSearchedLast m h end place at new error → list ≡ found
    → AreTokensSearched m h end start first new list error
tokens_end m h end start first at new found list place error all ends items =
    subst (λ (xs : List Match). AreTokensSearched m h end start first new xs error) (append-nil found ∙ sym items)
    (all new [] error ends)

-- the searches for tokens, up to the final caches
pub tokens_left :
    (m : Machine) (h : List ℕ) (end start : ℕ) (first new final : Cache) (list : List Match) (error : Option TokenError)
    → new ≡ final → AreTokensSearched m h end start first new list error
    → AreTokensSearched m h end start first final list error
tokens_left m h end start first new final list error same searched =
    subst (λ (c : Cache). AreTokensSearched m h end start first c list error) same searched
