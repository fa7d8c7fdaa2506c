-- Tokens are the spans of anchored searches by the ordered paths.
use Rattle.std.proofs.Common.{ℕ, ◌≡◌, ◌+◌, ◌⊎◌, inl, inr, List, [], ◌∷◌, Option, Some, None, option_map, refl, ap}
use Rattle.std.proofs.Common.{arith}
use Rattle.std.specs.Prelude.{Ok}
use Rattle.automata_base.specs.Answers.Answers.{Half, IsAnswer}
use Rattle.automata_base.specs.Answers.Spans.{IsSpan}
use Rattle.automata_base.specs.Haystacks.Matches.{HalfMatch, Match}
use Rattle.automata_base.specs.Nfas.Engines.{Engine, IsSkipping}
use Rattle.automata_base.specs.declared.util.search.Direction.TheVariants.{Forward}
use Rattle.automata_base.proofs.Answers.Starts.{answered}
use Rattle.automata_determinize.proofs.Answers.Starts.{yes_no}
use Rattle.automata_base.proofs.Paths.Orders.{none_some, some_inj, some_none}
use Rattle.automata_hybrid.specs.Searches.Passes.{WithoutBase, without_base}
use Rattle.regex_automata.specs.Tokens.{AreGiven, AreTokenSpans, HasNoSpanPast, IsItemAt, IsNoTokenAt, IsTokenAt}
use Rattle.regex_automata.specs.Tokens.{SearchReturns, HasNoSpan, HasEmptySpan}
use Rattle.regex_automata.specs.Tokens.{TokensAreSpans, asked, match_of}
use Rattle.regex_automata.specs.declared.tokens.error.TokenError.{TokenError}
use Rattle.regex_automata.specs.declared.tokens.token.Token.{Token}
use Rattle.regex_automata.proofs.TokenLists.Tiling.{token_is}
use Rattle.automata_hybrid.specs.Machines.Machine.{engine}
use Rattle.automata_base.proofs.Answers.Tried.{tries_once}

-- an anchored answer ends a path that begins where the search did
span_at :
    (d : Engine) (h : List ℕ) (end offset : ℕ) (half : Half) (m : Match)
    → IsAnswer Forward d (asked h end offset) (Some half)
    → m.pattern ≡ half.pattern → m.start ≡ offset → m.end ≡ half.offset → IsSpan d (asked h end offset) (Some m)
span_at d h end offset half m a same begins ends =
    let n = answered d (asked h end offset) half a in
    let first : a.0 ≡ 0 =
    tries_once (IsSkipping d) (asked h end offset) a.0 (λ skips free. yes_no free) a.1.comes in
    let base : half.base ≡ offset + a.0 = a.2.base in
    record {
      half = half;
      answer = a;
      first = n.0;
      is_first = n.3.0;
      length = n.1;
      ends = n.3.1;
      path = n.2;
      chosen = n.3.2;
      before = 0;
      begins = refl;
      pattern = same;
      start = omega (arith, first, base, begins);
      end = ends;
    }

-- the span of an anchored answer, if there is one
answer_span :
    (d : Engine) (h : List ℕ) (end offset : ℕ) (m : Match) (o : Option Half) → IsAnswer Forward d (asked h end offset) o
    → ◌≡◌ {A = Option HalfMatch} (Some (record { pattern = m.pattern; offset = m.end })) (option_map without_base o)
    → m.start ≡ offset → IsSpan d (asked h end offset) (Some m)
answer_span d h end offset m None a is begins = absurd (some_none is)
answer_span d h end offset m (Some half) a is begins =
    let same = some_inj is in
    span_at d h end offset half m a (ap (λ (v : HalfMatch). v.pattern) same) begins
    (ap (λ (v : HalfMatch). v.offset) same)

no_span :
    (d : Engine) (h : List ℕ) (end offset : ℕ) → WithoutBase (IsAnswer Forward d (asked h end offset)) None
    → IsSpan d (asked h end offset) None
no_span d h end offset (None, a, is) = a
no_span d h end offset (Some half, a, is) = absurd (none_some is)

pub spans_of_paths : TokensAreSpans
spans_of_paths m h end cycles = record { token = token; none = none; list = list } where
  d : Engine
  d = engine m

  reported :
      (offset : ℕ) (t : Match)
      → SearchReturns m h end offset (Ok (Some (record { pattern = t.pattern; offset = t.end })))
      → t.start ≡ offset → IsSpan d (asked h end offset) (Some t)
  reported offset t returned begins =
      let a = returned.0.answer cycles in answer_span d h end offset t a.0 a.1 a.2 begins

  given : (offset : ℕ) (t : Match) → IsItemAt m h end offset (Ok t) → IsSpan d (asked h end offset) (Some t)
  given offset t item = let n = token_is m h end offset t item in reported offset t n.0 n.1

  token : (offset : ℕ) (t : Token) → IsTokenAt m h end offset t → IsSpan d (asked h end offset) (Some (match_of t))
  token offset t is = given offset (match_of t) is.item

  by_cases :
      (offset : ℕ)
      → SearchReturns m h end offset (Ok None)
      ⊎ ((pattern : ℕ) × SearchReturns m h end offset (Ok (Some (record { pattern = pattern; offset = offset }))))
      → HasNoSpanPast d h end offset
  by_cases offset (inl returned) = HasNoSpan (no_span d h end offset (returned.0.answer cycles))
  by_cases offset (inr (pattern, returned)) =
      HasEmptySpan pattern
      (reported offset (record { pattern = pattern; start = offset; end = offset }) returned refl)

  none : (offset : ℕ) → IsNoTokenAt m h end offset → HasNoSpanPast d h end offset
  none offset is = by_cases offset is.none

  list :
      (offset : ℕ) (ts : List Match) (error : Option TokenError) → AreGiven m h end offset ts error
      → AreTokenSpans d h end offset ts
  list offset [] error g = tt
  list offset (t ∷ ts) error g = (given offset t g.0, list t.end ts error g.1)
