-- Spans of matches, by paths; and how the search over two DFAs finds them.
use Rattle.std.specs.Prelude.{ℕ, suc, ◌≡◌, ◌<◌, ◌≤◌, ◌+◌, Bool, false, List, [], ◌∷◌, ◌++◌, ◌⊎◌, Option, Some, None}
use Rattle.std.specs.Prelude.{is_some, IfSome}
use Rattle.automata_base.specs.Paths.Order.{Begins}
use Rattle.automata_base.specs.Paths.Paths.{Tape, IsPath}
use Rattle.automata_base.specs.Paths.Selections.{Accepts, IsChosen}
use Rattle.automata_base.specs.Haystacks.Tapes.{Forward, Backward, forward_tape}
use Rattle.automata_base.specs.Nfas.Engines.{Engine, Anchored, No, Yes, Pattern, first_state, BeginsAnchored}
use Rattle.automata_base.specs.Answers.Answers.{Half, IsAnswer}
use Rattle.automata_base.specs.Haystacks.Input.{Input}
use Rattle.automata_base.specs.Haystacks.Matches.{Match}
use Rattle.automata_base.specs.Answers.OfPasses.{IsFarthestAnswer}

-- Where the match of a path begins: the place where the path first reaches the anchored start; in an anchored mode, its
-- first place.
abbrev pub IsPathStart : Engine → Anchored → Tape → List ℕ → ℕ → Type 0
IsPathStart d No t path place =
    (head rest : List ℕ) × (path ≡ head ++ rest) × IsPath d.nfa t d.unanchored place d.anchored head
    × ((shorter : List ℕ) (sooner : ℕ) → Begins shorter head → IsPath d.nfa t d.unanchored sooner d.anchored shorter
    → ⊥)
IsPathStart d Yes t path place = place ≡ 0
IsPathStart d (Pattern k) t path place = place ≡ 0

-- The search from `q` chose this path, which accepts the pattern at that place.
abbrev pub Chooses : Engine → (earliest : Bool) → Tape → (q place pattern : ℕ) → List ℕ → Type 0
Chooses d earliest t q i pattern path =
    Accepts d.nfa t q i pattern path
    × ((j p : ℕ) (other : List ℕ) → Accepts d.nfa t q j p other → IsChosen d.kind earliest i path j other)

-- The same input, for a search that is not earliest.
abbrev pub in_full : Input → Input
in_full input = record input { earliest = false }

-- Whether there is a match: whether the search that is not earliest has an answer.
abbrev pub IsMatch : Engine → Input → Bool → Type 0
IsMatch d input answer = (o : Option Half) × IsAnswer Forward d (in_full input) o × (answer ≡ is_some o)

-- A match is the span of the path that the forward search chose.
pub record IsSpanOfPath (d : Engine) (input : Input) (m : Match) : Type 0 where
  -- the answer of the forward search
  pub half : Half
  -- it answers that
  pub answer : IsAnswer Forward d input (Some half)
  -- the state where the path begins
  pub first : ℕ
  -- it is the first state of the input's anchored mode
  pub is_first : first_state d input.anchored ≡ Some first
  -- how many bytes the path reads
  pub length : ℕ
  -- they are those from the base of the answer to its offset
  pub ends : half.offset ≡ half.base + length
  -- the path, by the numbers of its edges
  pub path : List ℕ
  -- the search chose it
  pub chosen :
      Chooses d input.earliest (forward_tape input.haystack half.base input.end) first length half.pattern path
  -- how many bytes the path reads before its match begins
  pub before : ℕ
  -- its match begins there
  pub begins : IsPathStart d input.anchored (forward_tape input.haystack half.base input.end) path before
  -- the match has the pattern of the answer
  pub pattern : m.pattern ≡ half.pattern
  -- it starts where the match of the path begins
  pub start : m.start ≡ half.base + before
  -- it ends at the offset of the answer
  pub end : m.end ≡ half.offset

-- The match of an input: the pattern and end of the forward search's answer, and the start of the path that it chose.
abbrev pub IsSpan : Engine → Input → Option Match → Type 0
IsSpan d input None = IsAnswer Forward d input None
IsSpan d input (Some m) = IsSpanOfPath d input m

-- The start is where the forward search began, and no reverse search is made: the match is empty there, or the
-- search is anchored by its mode or by its NFA.
abbrev pub IsShort : Engine → Input → Half → Type 0
IsShort f input half = (half.base ≡ half.offset) ⊎ ((input.anchored ≡ No → ⊥) ⊎ BeginsAnchored f)

-- The input of the reverse search: the span from the base of the forward answer to its offset, anchored and not
-- earliest.
abbrev pub back : Input → Half → Input
back input half =
    record { haystack = input.haystack; start = half.base; end = half.offset; anchored = Yes; earliest = false }

-- The match that ends at a forward answer has this start. `Backs` says what the reverse search finds.
pub data HasStartBy (Backs : Input → Option Half → Type 0) (f : Engine) (input : Input) (half : Half) (start : ℕ) :
    Type 0 where
  -- no reverse search is made, and the start is where the span began
  StartIsBase : IsShort f input half → start ≡ half.base → HasStartBy Backs f input half start
  -- the reverse search finds it
  StartIsFound :
      (IsShort f input half → ⊥) → (found : Half) → Backs (back input half) (Some found) → start ≡ found.offset
      → HasStartBy Backs f input half start

-- The start of the match that ends at a forward answer; none if the reverse search finds nothing.
abbrev pub FindsStartBy : (Backs : Input → Option Half → Type 0) → Engine → Input → Half → Option ℕ → Type 0
FindsStartBy Backs f input half None = (IsShort f input half → ⊥) × Backs (back input half) None
FindsStartBy Backs f input half (Some start) = HasStartBy Backs f input half start

-- The outcome of a search over two DFAs: a match or none, or that the two are not a pair, since the reverse search
-- finds no start.
pub data Outcome : Type 0 where
  Found : Option Match → Outcome
  NotAPair : Outcome

-- A match is what the forward search and the reverse search find.
pub record IsMatchBy (Fronts Backs : Input → Option Half → Type 0) (f : Engine) (input : Input) (m : Match) :
    Type 0 where
  -- what the forward search finds
  pub half : Half
  -- it finds that
  pub front : Fronts input (Some half)
  -- the start of the match that ends there
  pub start : FindsStartBy Backs f input half (Some m.start)
  -- the match has the pattern of what is found
  pub pattern : m.pattern ≡ half.pattern
  -- it ends at the offset of what is found
  pub end : m.end ≡ half.offset

-- What a search over a forward and a reverse DFA returns, by what the forward search and the reverse search find.
abbrev pub ReportsBy : (Fronts Backs : Input → Option Half → Type 0) → Engine → Input → Outcome → Type 0
ReportsBy Fronts Backs f input (Found None) = Fronts input None
ReportsBy Fronts Backs f input (Found (Some m)) = IsMatchBy Fronts Backs f input m
ReportsBy Fronts Backs f input NotAPair =
    (half : Half) × Fronts input (Some half) × FindsStartBy Backs f input half None

-- The start of the match that ends at a forward answer, if the reverse search answers by the ordered paths.
abbrev pub FindsStart : Engine → Engine → Input → Half → Option ℕ → Type 0
FindsStart f r input half start = FindsStartBy (IsAnswer Backward r) f input half start

-- What a search over a forward and a reverse DFA returns, if both answer by the ordered paths.
abbrev pub IsTrySearch : Engine → Engine → Input → Outcome → Type 0
IsTrySearch f r input outcome = ReportsBy (IsAnswer Forward f) (IsAnswer Backward r) f input outcome

-- What a search over a forward and a reverse DFA returns, if the reverse search finds only the farthest place, whatever
-- the order of its paths.
abbrev pub IsFarSearch : Engine → Engine → Input → Outcome → Type 0
IsFarSearch f r input outcome = ReportsBy (IsAnswer Forward f) (IsFarthestAnswer Backward r) f input outcome

-- The input whose span begins at this offset.
abbrev pub from : ℕ → Input → Input
from start input = record input { start = start }

-- The match is empty, and at the last end.
abbrev pub IsEmptyAt : Option ℕ → Match → Type 0
IsEmptyAt last m = (m.start ≡ m.end) × (last ≡ Some m.end)

-- The next match of an iteration that is at `start`, after a match that ended at `last`. `Finds` says what a search
-- finds.
pub data IsNextItem (Finds : Input → Option Match → Type 0) (input : Input) (start : ℕ) (last : Option ℕ)
    (item : Option Match) : Type 0 where
  -- the search finds it, and it is not empty at the last end
  FindsHere :
      Finds (from start input) item → IfSome item (λ m. IsEmptyAt last m → ⊥) → IsNextItem Finds input start last item
  -- the search finds an empty match at the last end, and the search one place later finds it
  FindsLater :
      (m : Match) → Finds (from start input) (Some m) → IsEmptyAt last m → Finds (from (suc start) input) item
      → IsNextItem Finds input start last item

-- The matches of an iteration from `start` on.
abbrev pub AreMatches : (Finds : Input → Option Match → Type 0) → Input → ℕ → Option ℕ → List Match → Type 0
AreMatches Finds input start last [] = IsNextItem Finds input start last None
AreMatches Finds input start last (m ∷ ms) =
    IsNextItem Finds input start last (Some m) × AreMatches Finds input m.end (Some m.end) ms

-- The first matches of an iteration from `start` on, whatever comes after them.
abbrev pub AreFirst : (Finds : Input → Option Match → Type 0) → Input → ℕ → Option ℕ → List Match → Type 0
AreFirst Finds input start last [] = Unit {0}
AreFirst Finds input start last (m ∷ ms) =
    IsNextItem Finds input start last (Some m) × AreFirst Finds input m.end (Some m.end) ms

-- The matches of an input, one after another, by the spans of its paths.
abbrev pub AreSpans : Engine → Input → List Match → Type 0
AreSpans d input ms = AreMatches (IsSpan d) input input.start None ms

-- A search over two DFAs that answer by the ordered paths finds this match, or none.
abbrev pub TryFinds : Engine → Engine → Input → Option Match → Type 0
TryFinds f r input answer = IsTrySearch f r input (Found answer)

-- The matches of an input, one after another, as searches over two DFAs that answer by the ordered paths find them.
abbrev pub AreFound : Engine → Engine → Input → List Match → Type 0
AreFound f r input ms = AreMatches (TryFinds f r) input input.start None ms

-- What is promised of a search over a true pair: it finds the match of the paths, or that there is none.
abbrev pub FindsSpan : Engine → Input → Outcome → Type 0
FindsSpan f input outcome = (answer : Option Match) × (outcome ≡ Found answer) × IsSpan f input answer

-- A match comes after the last end, in a span that ends at `end`.
pub record ComesAfter (last end : ℕ) (m : Match) : Type 0 where
  -- it starts at the last end or after it
  pub from : last ≤ m.start
  -- it does not end before it starts
  pub ordered : m.start ≤ m.end
  -- it ends after the last end
  pub past : last < m.end
  -- it ends in the span
  pub within : m.end ≤ end

-- Each match starts at or after the last end and ends after it, in the span.
abbrev pub Rise : (end : ℕ) → Option ℕ → List Match → Type 0
Rise end last [] = Unit {0}
Rise end None (m ∷ ms) = (m.start ≤ m.end) × (m.end ≤ end) × Rise end (Some m.end) ms
Rise end (Some e) (m ∷ ms) = ComesAfter e end m × Rise end (Some m.end) ms
