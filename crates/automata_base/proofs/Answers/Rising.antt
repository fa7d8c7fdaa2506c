-- The matches of an iteration lie in the span.
use Rattle.std.proofs.Common.{ℕ, suc, ◌≡◌, ◌≤◌, ◌+◌, ◌-◌, Bool, List, [], ◌∷◌, ◌++◌, length, Option, Some}
use Rattle.std.proofs.Common.{None, sym, subst, arith}
use Rattle.automata_base.specs.Paths.Paths.{Tape, IsPathFrom, IsPath}
use Rattle.automata_base.proofs.Paths.Orders.{some_inj}
use Rattle.automata_base.proofs.Paths.Places.{path_grows, resume}
use Rattle.automata_base.specs.Haystacks.Tapes.{forward_tape}
use Rattle.automata_base.specs.Nfas.Engines.{Engine, Anchored, No, Yes, Pattern, first_state}
use Rattle.automata_base.specs.Haystacks.Input.{Input}
use Rattle.automata_base.specs.Answers.Spans.{IsPathStart, Chooses, IsSpan}
use Rattle.automata_base.specs.Answers.Spans.{from, IsNextItem, AreFirst, AreMatches}
use Rattle.automata_base.specs.Answers.Spans.{FindsHere, FindsLater}
use Rattle.automata_base.specs.Haystacks.Matches.{Match}
use Rattle.automata_base.proofs.Answers.Backs.{end_inside}
use Rattle.automata_base.proofs.Answers.Starts.{answered}

-- A path starts no later than it ends.
start_inside :
    (d : Engine) (m : Anchored) (t : Tape) (q i pattern place : ℕ) (earliest : Bool) (path : List ℕ)
    → first_state d m ≡ Some q → Chooses d earliest t q i pattern path → IsPathStart d m t path place → place ≤ i
start_inside d No t q i pattern place earliest path f c s =
    path_grows d.nfa t place on.0 d.anchored s.1 i c.0.0 on.1
  where
    whole : IsPath d.nfa t d.unanchored i c.0.0 (s.0 ++ s.1)
    whole =
        subst (λ v. IsPath d.nfa t d.unanchored i c.0.0 v) s.2
        (subst (λ v. IsPath d.nfa t v i c.0.0 path) (sym (some_inj f)) c.0.1)

    on : (seen : List ℕ) × IsPathFrom d.nfa t place seen d.anchored s.1 i c.0.0
    on = resume d.nfa t 0 [] d.unanchored s.0 place d.anchored s.1 i c.0.0 s.3 whole
start_inside d Yes t q i pattern place earliest path f c s = omega (arith, s)
start_inside d (Pattern k) t q i pattern place earliest path f c s = omega (arith, s)

pub span_inside :
    (d : Engine) (input : Input) (m : Match) → input.end ≤ length input.haystack → IsSpan d input (Some m)
    → (input.start ≤ m.start) × (m.start ≤ m.end) × (m.end ≤ input.end)
span_inside d input m w s =
    let a = answered d input s.half s.answer in
    let l =
    start_inside d input.anchored (forward_tape input.haystack s.half.base input.end) s.first s.length s.half.pattern
    s.before input.earliest s.path
    s.is_first s.chosen s.begins in
    let g =
    end_inside d input.haystack s.half.base input.end s.first s.length s.half.pattern s.path a.3.4 w s.chosen.0 in
    (omega (arith, a.3.3, s.start), omega (arith, l, s.ends, s.start, s.end), omega (arith, g, s.ends, s.end))

-- All matches of `Finds` lie in the span.
abbrev pub StaysInside : (Input → Option Match → Type 0) → Type 0
StaysInside Finds =
    (input : Input) (m : Match) → input.end ≤ length input.haystack → Finds input (Some m)
    → (input.start ≤ m.start) × (m.start ≤ m.end) × (m.end ≤ input.end)

pub spans_inside : (d : Engine) → StaysInside (IsSpan d)
spans_inside d input m w s = span_inside d input m w s

-- If each answer of `F` from each start is also one of `G`, the matches of `F` are matches of `G`.
module _
    (F G : Input → Option Match → Type 0) (input : Input)
    (right : (start : ℕ) (o : Option Match) → F (from start input) o → G (from start input) o)
  where
    next_right :
        (start : ℕ) (last : Option ℕ) (o : Option Match) → IsNextItem F input start last o
        → IsNextItem G input start last o
    next_right start last o (FindsHere s apart) = FindsHere (right start o s) apart
    next_right start last o (FindsLater m s empty t) =
        FindsLater m (right start (Some m) s) empty (right (suc start) o t)

    pub matches_right :
        (start : ℕ) (last : Option ℕ) (ms : List Match) → AreMatches F input start last ms
        → AreMatches G input start last ms
    matches_right start last [] s = next_right start last None s
    matches_right start last (m ∷ ms) s = (next_right start last (Some m) s.0, matches_right m.end (Some m.end) ms s.1)

    pub first_right :
        (start : ℕ) (last : Option ℕ) (ms : List Match) → AreFirst F input start last ms
        → AreFirst G input start last ms
    first_right start last [] s = tt
    first_right start last (m ∷ ms) s = (next_right start last (Some m) s.0, first_right m.end (Some m.end) ms s.1)
