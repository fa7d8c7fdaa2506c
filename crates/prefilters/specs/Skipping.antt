-- Where matches can begin, by paths; and that a search may begin past offsets where none does.
use Rattle.std.specs.Prelude.{ℕ, ◌≡◌, ◌<◌, ◌≤◌, ◌+◌, ◌-◌, ◌⊎◌, suc, Bool, false, List, Option, Some, None}
use Rattle.automata_base.specs.Answers.Answers.{Half, IsAnswer, IsInput, SelectsOver}
use Rattle.automata_base.specs.Answers.Spans.{IsMatch, IsSpan, from}
use Rattle.automata_base.specs.Haystacks.Input.{Input}
use Rattle.automata_base.specs.Haystacks.Matches.{Match}
use Rattle.automata_base.specs.Haystacks.Tapes.{forward_tape}
use Rattle.automata_base.specs.declared.util.search.Direction.TheVariants.{Forward}
use Rattle.automata_base.specs.declared.util.search.Anchored.TheVariants.{No, Yes}
use Rattle.automata_base.specs.declared.util.search.MatchKind.TheVariants.{LeftmostFirst}
use Rattle.automata_base.specs.Nfas.Engines.{Engine, LoopsLazily}
use Rattle.automata_base.specs.Paths.Selections.{Accepts, Pair}

-- no match begins at offset `o` of a span that ends at `e`: no path from the anchored start accepts
abbrev pub NoneBeginsAt : Engine → List ℕ → (e o : ℕ) → Type 0
NoneBeginsAt d h e o =
    (i pattern : ℕ) (path : List ℕ) → Accepts d.nfa (forward_tape h o e) d.anchored i pattern path → ⊥

-- no match begins from offset `s` to before offset `p`
abbrev pub NoneBegins : Engine → List ℕ → (e s p : ℕ) → Type 0
NoneBegins d h e s p = (o : ℕ) → s ≤ o → o < p → NoneBeginsAt d h e o

-- unanchored searches begin at the anchored start after any bytes, the fewest first, and not only where the span does
abbrev pub IsLazy : Engine → Type 0
IsLazy d = (skip : ℕ) × LoopsLazily d.nfa d.anchored d.unanchored skip

-- the search is unanchored, and no match begins before offset `p` of its span
pub record MaySkipTo (d : Engine) (input : Input) (p : ℕ) : Type 0 where
  -- unanchored searches skip bytes lazily
  pub loops : IsLazy d
  -- the haystack consists of bytes, and the span ends in it
  pub of_bytes : IsInput input
  -- the search is unanchored
  pub free : input.anchored ≡ No
  -- the offset is not before the span
  pub from : input.start ≤ p
  -- nor after it
  pub upto : p ≤ input.end
  -- no match begins before it
  pub none : NoneBegins d input.haystack input.end input.start p

-- the search is unanchored, and no match begins before offset `p` of its span, nor there
pub record NoneUpTo (d : Engine) (input : Input) (p : ℕ) : Type 0 where
  -- none begins before it
  pub skips : MaySkipTo d input p
  -- nor there
  pub none : NoneBeginsAt d input.haystack input.end p

-- no match begins after offset `p` and before offset `q` of the span, which is after `p`
pub record IsNextBegin (d : Engine) (input : Input) (p q : ℕ) : Type 0 where
  -- it is after it
  pub after : p < q
  -- and in the span
  pub upto : q ≤ input.end
  -- no match begins between them
  pub none : NoneBegins d input.haystack input.end (suc p) q

-- the search is unanchored, and no match begins in its span, not even an empty one at its end
pub record MaySkipAll (d : Engine) (input : Input) : Type 0 where
  -- unanchored searches skip bytes lazily
  pub loops : IsLazy d
  -- the haystack consists of bytes, and the span ends in it
  pub of_bytes : IsInput input
  -- the search is unanchored
  pub free : input.anchored ≡ No
  -- the span is not done
  pub undone : input.start ≤ input.end
  -- no match begins in the span
  pub none : NoneBegins d input.haystack input.end input.start (suc input.end)

-- the same, counted from `k` places before
abbrev pub shifted_pair : ℕ → Option Pair → Option Pair
shifted_pair k None = None
shifted_pair k (Some pair) = Some (record { pattern = pair.pattern; place = k + pair.place })

-- The paths over the whole span select what those from offset `p` on select, under either match kind, in earliest
-- searches too.
abbrev pub SelectionsMove : Type 0
SelectionsMove =
    (d : Engine) (input : Input) (p : ℕ) (answer : Option Pair) → MaySkipTo d input p
    → SelectsOver Forward d (from p input) answer → SelectsOver Forward d input (shifted_pair (p - input.start) answer)

-- two answers are of one pattern and end, and of one span; or each is of the first span of its search
pub record IsRebased (start p : ℕ) (half other : Half) : Type 0 where
  -- the pattern is the same
  pub pattern : other.pattern ≡ half.pattern
  -- the end is the same
  pub offset : other.offset ≡ half.offset
  -- the span that gave it is the same, or the first one of either search
  pub base : (other.base ≡ half.base) ⊎ ((half.base ≡ p) × (other.base ≡ start))

-- a search over the whole span answers what this answer of a search from offset `p` on says
abbrev pub MovesAnswer : Engine → Input → (p : ℕ) → Option Half → Type 0
MovesAnswer d input p None = IsAnswer Forward d input None
MovesAnswer d input p (Some half) =
    (other : Half) × IsAnswer Forward d input (Some other) × IsRebased input.start p half other

-- So the answers are the same, whether or not offsets inside characters are skipped.
abbrev pub AnswersMove : Type 0
AnswersMove =
    (d : Engine) (input : Input) (p : ℕ) (answer : Option Half) → MaySkipTo d input p
    → IsAnswer Forward d (from p input) answer → MovesAnswer d input p answer

-- And so are the matches with their starts.
abbrev pub SpansMove : Type 0
SpansMove =
    (d : Engine) (input : Input) (p : ℕ) (answer : Option Match) → MaySkipTo d input p
    → IsSpan d (from p input) answer → IsSpan d input answer

-- Whether there is a match is the same over the span from offset `p` on.
abbrev pub TruthsMove : Type 0
TruthsMove =
    (d : Engine) (input : Input) (p : ℕ) (truth : Bool) → MaySkipTo d input p
    → IsMatch d (from p input) truth → IsMatch d input truth

-- If no match begins in the span, a search finds none.
abbrev pub NoneIsFound : Type 0
NoneIsFound = (d : Engine) (input : Input) → MaySkipAll d input → IsSpan d input None

-- the input from offset `p` on, for an anchored search
abbrev pub anchored_from : (p : ℕ) → Input → Input
anchored_from p input = record input { start = p; anchored = Yes }

-- If no match begins before offset `p`, what an anchored search from there on answers is the match of the whole span,
-- which begins at `p`: under `MatchKind::LeftmostFirst`, if the search is not earliest, no reverse search is needed.
abbrev pub AnchoredIsSpan : Type 0
AnchoredIsSpan =
    (d : Engine) (input : Input) (p : ℕ) (half : Half) → d.kind ≡ LeftmostFirst → input.earliest ≡ false
    → MaySkipTo d input p → IsAnswer Forward d (anchored_from p input) (Some half)
    → IsSpan d input (Some (record { pattern = half.pattern; start = p; end = half.offset }))
