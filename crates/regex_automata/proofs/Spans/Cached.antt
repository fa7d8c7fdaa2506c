-- What is cached from one item to the next.
use Rattle.std.proofs.Common.{ℕ, ◌≡◌, ◌∙◌, Option, Some, None, refl, sym, ap, subst}
use Rattle.automata_base.specs.Answers.Answers.{Half}
use Rattle.automata_base.specs.Haystacks.Input.{Input}
use Rattle.automata_base.specs.Haystacks.Matches.{Match}
use Rattle.automata_base.specs.Answers.Spans.{IsEmptyAt, back}
use Rattle.automata_base.specs.declared.util.search.Direction.TheVariants.{Backward, Forward}
use Rattle.automata_hybrid.specs.Known.Cached.{KnownStays, Knows}
use Rattle.automata_hybrid.specs.Known.Growth.{IsStill}
use Rattle.automata_hybrid.specs.Known.Known.{Known}
use Rattle.automata_hybrid.specs.Known.Stores.{known_of}
use Rattle.automata_hybrid.proofs.Known.Growth.{nothing_first, nothing_second}
use Rattle.regex_automata.specs.Spans.Agreement.{AreAlike, MatchesAgree}
use Rattle.regex_automata.specs.Spans.Follows.{KnowsNext}
use Rattle.regex_automata.specs.Spans.Iteration.{FindsEmptyAt}
use Rattle.regex_automata.specs.Spans.Outcomes.{FindsMatch}
use Rattle.regex_automata.specs.Regexes.Caches.{AreGrown, AreStill, KnowsBack, KnowsBoth, NothingCleared}
use Rattle.regex_automata.specs.declared.hybrid.regex.Regex.{Regex}
use Rattle.regex_automata.specs.declared.hybrid.regex.caches.Cache.{Cache}
use Rattle.automata_base.proofs.Paths.Orders.{none_some, some_inj}

-- the progress of searches does not matter
still_back :
    (p : Regex) (a b : Known) (input : Input) (half : Half) → IsStill a b → KnowsBack p a input half
    → KnowsBack p b input half
still_back p a b input half s knows = subst (λ (c : Known). KnowsBack p c input half) (sym s) knows

pub still_both : (p : Regex) (a b : Cache) (input : Input) → AreStill a b → KnowsBoth p a input → KnowsBoth p b input
still_both p a b input s knows = (
  subst (λ (c : Known). Knows Forward p.forward c input) (sym s.0) knows.0,
  λ half found. still_back p (known_of a.reverse) (known_of b.reverse) input half s.1 (knows.1 half found),
)

still_trans : (a b c : Known) → IsStill a b → IsStill b c → IsStill a c
still_trans a b c f g = g ∙ ap (λ (k : Known). record k { searched = c.searched }) f

pub still_twice : (a b c : Cache) → AreStill a b → AreStill b c → AreStill a c
still_twice a b c f g = (
  still_trans (known_of a.forward) (known_of b.forward) (known_of c.forward) f.0 g.0,
  still_trans (known_of a.reverse) (known_of b.reverse) (known_of c.reverse) f.1 g.1,
)

-- if nothing was cleared over two searches, nothing was cleared in either
module _ (p : Regex) (a b c : Cache) (f : AreGrown p a b) (g : AreGrown p b c) (n : NothingCleared a c) where
  pub cleared_first : NothingCleared a b
  cleared_first = (
    nothing_first p.forward (known_of a.forward) (known_of b.forward) (known_of c.forward) f.0 g.0 n.0,
    nothing_first p.reverse (known_of a.reverse) (known_of b.reverse) (known_of c.reverse) f.1 g.1 n.1,
  )

  pub cleared_second : NothingCleared b c
  cleared_second = (
    nothing_second p.forward (known_of a.forward) (known_of b.forward) (known_of c.forward) f.0 g.0 n.0,
    nothing_second p.reverse (known_of a.reverse) (known_of b.reverse) (known_of c.reverse) f.1 g.1 n.1,
  )

-- what is not lost is still cached
pub both_stays :
    (p : Regex) → KnownStays p.forward → KnownStays p.reverse → (a b : Cache) (input : Input)
    → AreGrown p a b → NothingCleared a b → KnowsBoth p a input → KnowsBoth p b input
both_stays p front rear a b input grown nothing knows = (
  front Forward input (known_of a.forward) (known_of b.forward) grown.0 nothing.0 knows.0,
  λ half found long.
      rear Backward (back input half) (known_of a.reverse) (known_of b.reverse) grown.1 nothing.1
      (knows.1 half found long),
)

-- if a search finds no empty match at the last end, there is no second search
module _ (agree : MatchesAgree) (p : Regex) (input : Input) (last : Option ℕ) where
  stands :
      (o : Option Match) → FindsMatch p input o → ((m : Match) → o ≡ Some m → IsEmptyAt last m → ⊥)
      → FindsEmptyAt p input last → ⊥
  stands o found full (m, other, empty) = full m (agree p p input o (Some m) same found other) empty where
    same : AreAlike p p
    same = record { forward = refl; forward_kind = refl; reverse = refl; reverse_kind = refl }

  pub stands_none : FindsMatch p input None → FindsEmptyAt p input last → ⊥
  stands_none found = stands None found (λ m e empty. none_some e)

  pub stands_some : (m : Match) → FindsMatch p input (Some m) → (IsEmptyAt last m → ⊥) → FindsEmptyAt p input last → ⊥
  stands_some m found full =
      stands (Some m) found (λ n e empty. full (subst (λ (v : Match). IsEmptyAt last v) (sym (some_inj e)) empty))

-- what a search without a second one leaves cached
pub alone :
    (p : Regex) (input : Input) (last : Option ℕ) (c : Cache) → KnowsBoth p c input → (FindsEmptyAt p input last → ⊥)
    → KnowsNext p c input last
alone p input last c knows only = (knows, λ m found empty. absurd (only (m, found, empty)))
