-- What the tokens of a span are, by the answers of its searches, and how they tile it.
use Rattle.std.proofs.Common.{ℕ, ◌≡◌, ◌∙◌, ◌<◌, ◌≤◌, ◌+◌, ◌-◌, ◌⊎◌, inl, inr, Bool, true, false, List, [], ◌∷◌, ◌++◌}
use Rattle.std.proofs.Common.{take, drop, append_assoc, Option, Some, None, refl, sym, ap, subst, arith}
use Rattle.std.specs.Prelude.{Result, Ok, Err, IfSome, nat_lt, if◌then◌else◌, slice_range}
use Rattle.std.proofs.Math.Seq.{take-add}
use Rattle.std.proofs.lemmas.Bool.{ltb-true, ltb-false}
use Rattle.std.proofs.lemmas.List.{drop-drop}
use Rattle.automata_base.specs.Haystacks.Input.{Input}
use Rattle.automata_base.specs.Haystacks.Matches.{HalfMatch, Match}
use Rattle.automata_config.specs.declared.error.SearchError.{SearchError}
use Rattle.automata_hybrid.specs.Machines.Machine.{Machine}
use Rattle.automata_hybrid.specs.Searches.Contracts.{IsUnhindered}
use Rattle.automata_hybrid.specs.Searches.Bounds.{LiesIn}
use Rattle.regex_automata.specs.Tokens.{AreFoundBy, AreGiven, EmptyMatch, FindsNoToken, IsBeginningOf, IsGivenAt}
use Rattle.regex_automata.specs.Tokens.{IsItemAt, LacksListMemory, IsErrorThere}
use Rattle.regex_automata.specs.Tokens.{IsNoTokenOrMemory, NoMatch}
use Rattle.regex_automata.specs.Tokens.{IsTokenAt, SearchReturns, asked, match_bytes, item_of, joined, match_of}
use Rattle.regex_automata.specs.declared.tokens.error.TokenError.{TokenError}
use Rattle.regex_automata.specs.declared.tokens.error.TokenError.TheVariants.{NoToken, Search}
use Rattle.regex_automata.specs.declared.tokens.token.Token.{Token}
use Rattle.regex_automata.proofs.Results.{err_ok, ok_err, same_err, same_ok}
use Rattle.regex_automata.proofs.TokenLists.Refusals.{no_search, same_search}

same_place : (a b : ℕ) → NoToken a ≡ NoToken b → a ≡ b
same_place a b h = cc

module _ (m : Machine) (h : List ℕ) (end : ℕ) where
  half_in :
      (offset : ℕ) (half : HalfMatch) → SearchReturns m h end offset (Ok (Some half))
      → LiesIn m (asked h end offset) half
  half_in offset half returned = returned.0.within

  -- a token is an answer that ends after its offset
  abbrev pub Reports : ℕ → Match → Type 0
  Reports offset t =
      SearchReturns m h end offset (Ok (Some (record { pattern = t.pattern; offset = t.end })))
      × (t.start ≡ offset) × (offset < t.end) × (t.end ≤ end)

  past_place :
      (offset : ℕ) (half : HalfMatch) (t : Match) → offset < half.offset → SearchReturns m h end offset (Ok (Some half))
      → t ≡ record { pattern = half.pattern; start = offset; end = half.offset } → Reports offset t
  past_place offset half t past returned is =
      subst (λ (n : Match). Reports offset n) (sym is) (returned, refl, past, (half_in offset half returned).upto)

  pub token_is : (offset : ℕ) (t : Match) → IsItemAt m h end offset (Ok t) → Reports offset t
  token_is offset t (ahead, (Ok (Some half), returned, is)) = go (nat_lt offset half.offset) refl where
    go : (past : Bool) → nat_lt offset half.offset ≡ past → Reports offset t
    go true e =
        past_place offset half t (ltb-true offset half.offset e) returned
        (same_ok
        (is ∙ ap
        (λ (b : Bool). if b then Ok (record { pattern = half.pattern; start = offset; end = half.offset }) else Err
        (NoToken offset)) e))
    go false e =
        absurd (ok_err
        (is ∙ ap
        (λ (b : Bool). if b then Ok (record { pattern = half.pattern; start = offset; end = half.offset }) else Err
        (NoToken offset)) e))
  token_is offset t (ahead, (Ok None, returned, is)) = absurd (ok_err is)
  token_is offset t (ahead, (Err e, returned, is)) = absurd (ok_err is)

  -- the token that is returned has its bytes
  pub token_is_given :
      (offset : ℕ) (t : Token) (answer : Result (Option HalfMatch) SearchError) → offset < end
      → SearchReturns m h end offset answer
      → ◌≡◌ {A = Result Match TokenError} (Ok (match_of t)) (item_of offset answer)
      → t.bytes.now ≡ match_bytes h (match_of t) → IsTokenAt m h end offset t
  token_is_given offset t answer ahead returned is bytes =
      let item : IsItemAt m h end offset (Ok (match_of t)) = (ahead, (answer, returned, is)) in
      let reports = token_is offset (match_of t) item in
      record {
        item = item;
        bytes = bytes;
        start = reports.1;
        past = reports.2;
        within = reports.3;
        pattern = reports.0.0.within.pattern;
      }

  -- there is no token if there is no answer, or one that ends at its offset
  abbrev pub ReportsNone : ℕ → Type 0
  ReportsNone offset =
      SearchReturns m h end offset (Ok None)
      ⊎ ((pattern : ℕ) × SearchReturns m h end offset (Ok (Some (record { pattern = pattern; offset = offset }))))

  at_place :
      (offset : ℕ) (half : HalfMatch) → half.offset ≤ offset → SearchReturns m h end offset (Ok (Some half))
      → ReportsNone offset
  at_place offset half upto returned =
      let low = (half_in offset half returned).from in
      let same : half.offset ≡ offset = omega (arith, low, upto) in
      inr (
        half.pattern,
        subst
            (λ n. SearchReturns m h end offset (Ok (Some (record { pattern = half.pattern; offset = n })))) same
            returned,
      )

  no_token_is :
      (offset at : ℕ) → IsItemAt m h end offset (Err (NoToken at)) → (at ≡ offset) × (offset < end) × ReportsNone offset
  no_token_is offset at (ahead, (Ok (Some half), returned, is)) = go (nat_lt offset half.offset) refl where
    go : (past : Bool) → nat_lt offset half.offset ≡ past → (at ≡ offset) × (offset < end) × ReportsNone offset
    go true e =
        absurd (err_ok
        (is ∙ ap
        (λ (b : Bool). if b then Ok (record { pattern = half.pattern; start = offset; end = half.offset }) else Err
        (NoToken offset)) e))
    go false e = (
      same_place at offset
          (same_err
          (is ∙ ap
          (λ (b : Bool). if b then Ok (record { pattern = half.pattern; start = offset; end = half.offset }) else Err
          (NoToken offset)) e)),
      ahead,
      at_place offset half (ltb-false offset half.offset e) returned,
    )
  no_token_is offset at (ahead, (Ok None, returned, is)) = (same_place at offset (same_err is), ahead, inl returned)
  no_token_is offset at (ahead, (Err e, returned, is)) = absurd (no_search at e (same_err is))

  -- if the item for an answer is an error, it is the error that is returned
  pub error_is_given :
      (offset : ℕ) (answer : Result (Option HalfMatch) SearchError) (e : TokenError) → offset < end
      → SearchReturns m h end offset answer
      → ◌≡◌ {A = Result Match TokenError} (Err e) (item_of offset answer) → IsGivenAt m h end offset (Err e)
  error_is_given offset answer (NoToken at) ahead returned is =
      let item : IsItemAt m h end offset (Err (NoToken at)) = (ahead, (answer, returned, is)) in
      let none = no_token_is offset at item in
      (item, (none.0, record { within = none.1; none = none.2 }))
  error_is_given offset answer (Search e) ahead returned is = ((ahead, (answer, returned, is)), tt)

  -- a search error is the search's own
  refused_is :
      (offset : ℕ) (e : SearchError) → IsItemAt m h end offset (Err (Search e)) → SearchReturns m h end offset (Err e)
  refused_is offset e (ahead, (Ok (Some half), returned, is)) = go (nat_lt offset half.offset) refl where
    go : (past : Bool) → nat_lt offset half.offset ≡ past → SearchReturns m h end offset (Err e)
    go true k =
        absurd (err_ok
        (is ∙ ap
        (λ (b : Bool). if b then Ok (record { pattern = half.pattern; start = offset; end = half.offset }) else Err
        (NoToken offset)) k))
    go false k =
        absurd (no_search offset e
        (sym (same_err
        (is ∙ ap
        (λ (b : Bool). if b then Ok (record { pattern = half.pattern; start = offset; end = half.offset }) else Err
        (NoToken offset)) k))))
  refused_is offset e (ahead, (Ok None, returned, is)) = absurd (no_search offset e (sym (same_err is)))
  refused_is offset e (ahead, (Err d, returned, is)) =
      subst (λ (x : SearchError). SearchReturns m h end offset (Err x)) (sym (same_search e d (same_err is))) returned

  -- so the tokens are those that searches find, for every property that such answers have
  module _ (P : Input → Option HalfMatch → Type 0)
      (right : (offset : ℕ) (o : Option HalfMatch) → SearchReturns m h end offset (Ok o)
      → P (asked h end offset) o) where
    none_by :
        (offset : ℕ) → ReportsNone offset → FindsNoToken P h end offset
    none_by offset (inl returned) = NoMatch (right offset None returned)
    none_by offset (inr (pattern, returned)) =
        EmptyMatch pattern (right offset (Some (record { pattern = pattern; offset = offset })) returned)

    pub found_by :
        (offset : ℕ) (ts : List Match) (error : Option TokenError) → AreGiven m h end offset ts error
        → AreFoundBy P h end offset ts error
    found_by offset [] None g = g
    found_by offset [] (Some (NoToken at)) (LacksListMemory memory) = absurd (no_search at _ memory)
    found_by offset [] (Some (NoToken at)) (IsErrorThere item) =
        let n = no_token_is offset at item in record { place = n.0; within = n.1; none = none_by offset n.2 }
    found_by offset [] (Some (Search e)) g = tt
    found_by offset (t ∷ ts) error g =
        let n = token_is offset t g.0 in
        let found = right offset (Some (record { pattern = t.pattern; offset = t.end })) n.0 in
        (record { start = n.1; past = n.2; within = n.3; found = found }, found_by t.end ts error g.1)

  -- a part of the haystack can be split anywhere into two parts
  parts : (a b c : ℕ) → a ≤ b → b ≤ c → slice_range h a b ++ slice_range h b c ≡ slice_range h a c
  parts a b c low high =
      let first : a + (b - a) ≡ b = omega (arith, low) in
      let all : (b - a) + (c - b) ≡ c - a = omega (arith, low, high) in
      let rest : drop (b - a) (drop a h) ≡ drop b h = drop-drop (b - a) a h ∙ ap (λ n. drop n h) first in
      ap (λ (l : List ℕ). take (b - a) (drop a h) ++ take (c - b) l) (sym rest)
      ∙ sym (take-add (b - a) (c - b) (drop a h))
      ∙ ap (λ n. take n (drop a h)) all

  token_then :
      (offset : ℕ) (t : Match) (more : List ℕ) → Reports offset t → more ≡ slice_range h t.end end
      → match_bytes h t ++ more ≡ slice_range h offset end
  token_then offset t more n is =
      ap (λ (l : List ℕ). match_bytes h t ++ l) is
      ∙ ap (λ k. slice_range h k t.end ++ slice_range h t.end end) n.1
      ∙ parts offset t.end end (omega (arith, n.2)) n.3

  -- the bytes of the tokens, joined, are a prefix of the span's bytes
  pub begins :
      (offset : ℕ) (ts : List Match) (error : Option TokenError) → AreGiven m h end offset ts error
      → IsBeginningOf (joined h ts) (slice_range h offset end)
  begins offset [] error g = (slice_range h offset end, refl)
  begins offset (t ∷ ts) error g =
      let n = token_is offset t g.0 in
      let rest = begins t.end ts error g.1 in (
        rest.0,
        sym (append_assoc (match_bytes h t) (joined h ts) rest.0
            ∙ token_then offset t (joined h ts ++ rest.0) n (sym rest.1)),
      )

  -- without an error, the bytes of the tokens, joined, are the span's bytes
  pub tiles : (offset : ℕ) (ts : List Match) → AreGiven m h end offset ts None → joined h ts ≡ slice_range h offset end
  tiles offset [] g =
      let none : end - offset ≡ 0 = omega (arith, g) in
      sym (ap (λ n. take n (drop offset h)) none)
  tiles offset (t ∷ ts) g =
      let n = token_is offset t g.0 in token_then offset t (joined h ts) n (tiles t.end ts g.1)

  -- if nothing prevents an answer at the start, nothing prevents one later
  unhindered_later :
      (start offset : ℕ) → start ≤ offset → IsUnhindered m (asked h end start) → IsUnhindered m (asked h end offset)
  unhindered_later start offset later free =
      record {
        reach = λ at byte low high is. free.reach at byte (omega (arith, low, later)) high is;
        supported = free.supported;
        clears = free.clears;
      }

  pub free_of :
      (start offset : ℕ) (ts : List Match) (error : Option TokenError) → start ≤ offset
      → IsUnhindered m (asked h end start) → AreGiven m h end offset ts error → IfSome error IsNoTokenOrMemory
  free_of start offset [] None later free g = tt
  free_of start offset [] (Some (NoToken at)) later free g = tt
  free_of start offset [] (Some (Search e)) later free (LacksListMemory memory) = same_search e _ memory
  free_of start offset [] (Some (Search e)) later free (IsErrorThere item) =
      (refused_is offset e item).0.free (unhindered_later start offset later free)
  free_of start offset (t ∷ ts) error later free g =
      let n = token_is offset t g.0 in free_of start t.end ts error (omega (arith, n.2, later)) free g.1
