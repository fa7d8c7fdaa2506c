-- The input that a search over a cache narrows, by what `Pattern::narrow` returns, and the match that an attempt finds
-- at once.
use Rattle.std.proofs.Common.{ℕ, ◌≡◌, ◌<◌, Option, None, Some, arith, refl, subst}
use Rattle.automata_base.specs.Answers.Spans.{FindsHere, IsNextItem, IsSpan}
use Rattle.automata_base.specs.Haystacks.Input.{Input}
use Rattle.automata_base.specs.Haystacks.Matches.{Match}
use Rattle.automata_base.specs.Nfas.Engines.{Engine}
use Rattle.patterns.specs.Searches.{IsNarrowed}
use Rattle.patterns.specs.declared.pattern.Pattern.{Pattern}

pub narrowed :
    (pattern : Pattern) (input later : Input) (found : Option Input) → found ≡ Some later
    → IsNarrowed pattern input found → IsNarrowed pattern input (Some later)
narrowed pattern input later found is n = subst (IsNarrowed pattern input) is n

none_is : (found : Option Input) → ((later : Input) → found ≡ Some later → ⊥) → found ≡ None
none_is None f = refl
none_is (Some later) f = absurd (f later refl)

pub nowhere :
    (pattern : Pattern) (input : Input) (found : Option Input) → ((later : Input) → found ≡ Some later → ⊥)
    → IsNarrowed pattern input found → IsNarrowed pattern input None
nowhere pattern input found none n = subst (IsNarrowed pattern input) (none_is found none) n

-- a match that is not empty is the next one of an iteration
pub is_next :
    (d : Engine) (input : Input) (last : Option ℕ) (m : Match) → m.start < m.end → IsSpan d input (Some m)
    → IsNextItem (IsSpan d) input input.start last (Some m)
is_next d input last m long span = FindsHere span (λ e. let s = e.0 in absurd (omega (arith, s, long)))
