-- What the reverse search finds, and what is cached for it.
use Rattle.std.specs.Prelude.{IfSome}
use Rattle.std.proofs.Common.{ℕ, ◌≡◌, ◌∙◌, ◌≤◌, length, Option, Some, None, refl, sym, ap, subst, arith}
use Rattle.std.specs.Option.{option_map}
use Rattle.automata_base.specs.Answers.Answers.{Half}
use Rattle.automata_base.specs.Haystacks.Input.{Input}
use Rattle.automata_base.specs.Haystacks.Matches.{HalfMatch, Match}
use Rattle.automata_base.specs.Answers.Spans.{back}
use Rattle.automata_base.specs.declared.util.search.Direction.TheVariants.{Backward, Forward}
use Rattle.automata_hybrid.specs.Searches.Agreement.{AnswersAgree}
use Rattle.automata_hybrid.specs.Known.Cached.{Knows}
use Rattle.automata_hybrid.specs.Known.Stores.{known_of}
use Rattle.automata_hybrid.specs.Machines.Machine.{Machine}
use Rattle.automata_hybrid.specs.Searches.Passes.{IsFound, NoQuitInReach, WithoutBase, with_base}
use Rattle.automata_hybrid.specs.Searches.Bounds.{LiesPast}
use Rattle.automata_hybrid.proofs.Searches.Bounds.{found_within}
use Rattle.regex_automata.specs.Spans.Outcomes.{FindsMatch, IsStartFound, MatchLiesIn}
use Rattle.regex_automata.specs.Regexes.Caches.{KnowsBack, KnowsBoth}
use Rattle.regex_automata.specs.declared.hybrid.regex.Regex.{Regex}
use Rattle.regex_automata.specs.declared.hybrid.regex.caches.Cache.{Cache}
use Rattle.automata_base.proofs.Paths.Orders.{none_some, some_inj, some_none}

-- the reverse search reaches no quit byte that was not in reach before
pub back_reach :
    (m : Machine) (input : Input) (half : Half) → input.start ≤ half.base → half.offset ≤ input.end
    → NoQuitInReach m input → NoQuitInReach m (back input half)
back_reach m input half from within reach =
    λ at byte s e n. reach at byte (omega (arith, from, s)) (omega (arith, within, e)) n

-- what the reverse search found, as a half match with its base
pub back_some :
    (m : Machine) (rest : Input) (o : Option HalfMatch) (found : HalfMatch) → WithoutBase (IsFound Backward m rest) o
    → o ≡ Some found
    → (half : Half) × IsFound Backward m rest (Some half) × (found.offset ≡ half.offset)
back_some m rest o found (None, f, e) is = absurd (some_none (sym is ∙ e))
back_some m rest o found (Some half, f, e) is = (half, f, ap (λ (h : HalfMatch). h.offset) (some_inj (sym is ∙ e)))

pub back_none :
    (m : Machine) (rest : Input) (o : Option HalfMatch) → WithoutBase (IsFound Backward m rest) o → o ≡ None
    → IsFound Backward m rest None
back_none m rest o (None, f, e) is = f
back_none m rest o (Some half, f, e) is = absurd (none_some (sym is ∙ e))

-- the start that the reverse search found lies between the base and the end
pub back_within :
    (m : Machine) (input : Input) (half found : Half) → half.offset ≤ input.end → input.end ≤ length input.haystack
    → IsFound Backward m (back input half) (Some found) → (half.base ≤ found.offset) × (found.offset ≤ half.offset)
back_within m input half found within few f =
    (found_within Backward m (back input half) found (omega (arith, within, few)) f).0

-- A forward search has one answer.
module _ (agree : AnswersAgree) (p : Regex) (input : Input) where
  pub same_half :
      (a b : Half) → IsFound Forward p.forward input (Some a) → IsFound Forward p.forward input (Some b) → a ≡ b
  same_half a b f g = some_inj (agree Forward p.forward p.forward input (Some a) (Some b) refl refl f g)

  -- all that both searches use is cached
  pub knows_both :
      (c : Cache) (half : Half) → Knows Forward p.forward (known_of c.forward) input
      → IsFound Forward p.forward input (Some half)
      → KnowsBack p (known_of c.reverse) input half → KnowsBoth p c input
  knows_both c half knows found rest = (
    knows,
    λ other f. subst (λ (h : Half). KnowsBack p (known_of c.reverse) input h) (same_half half other found f)
        rest,
  )

  pub knows_front :
      (c : Cache) → Knows Forward p.forward (known_of c.forward) input → IsFound Forward p.forward input None
      → KnowsBoth p c input
  knows_front c knows found = (
    knows,
    λ other f. absurd
        (none_some (agree Forward p.forward p.forward input None (Some other) refl refl found f)),
  )

-- what the forward search found, with the start of the span that gave it
pub front_some :
    (m : Machine) (input : Input) (o : Option (HalfMatch × ℕ)) (half : HalfMatch) (base : ℕ)
    → IsFound Forward m input (option_map (λ (p : HalfMatch × ℕ). with_base p.0 p.1) o) → o ≡ Some (half, base)
    → IsFound Forward m input (Some (with_base half base))
front_some m input o half base f is =
    subst (λ (v : Option (HalfMatch × ℕ)). IsFound Forward m input
    (option_map (λ (p : HalfMatch × ℕ). with_base p.0 p.1) v)) is f

pub front_none :
    (m : Machine) (input : Input) (o : Option (HalfMatch × ℕ))
    → IsFound Forward m input (option_map (λ (p : HalfMatch × ℕ). with_base p.0 p.1) o) → o ≡ None
    → IsFound Forward m input None
front_none m input o f is =
    subst (λ (v : Option (HalfMatch × ℕ)). IsFound Forward m input
    (option_map (λ (p : HalfMatch × ℕ). with_base p.0 p.1) v)) is f

-- a start that was found lies between the base and the end
pub start_within :
    (base end : ℕ) (o : Option ℕ) (start : ℕ) → IfSome o (λ s. (base ≤ s) × (s ≤ end)) → o ≡ Some start → (base ≤ start)
    × (start ≤ end)
start_within base end None start w is = absurd (none_some is)
start_within base end (Some s) start w is = subst (λ n. (base ≤ n) × (n ≤ end)) (some_inj is) w

-- the match that both searches found
abbrev match_at : (pattern start end : ℕ) → Match
match_at pattern start end = record { pattern = pattern; start = start; end = end }

pub match_of :
    (p : Regex) (input : Input) (half : Half) (start end pattern : ℕ) (m : Match)
    → IsFound Forward p.forward input (Some half) → IsStartFound p input half (Some start)
    → pattern ≡ half.pattern → end ≡ half.offset → m ≡ match_at pattern start end → FindsMatch p input (Some m)
match_of p input half start end pattern m found begun same_pattern same_end is =
    subst (λ (v : Match). FindsMatch p input (Some v)) (sym is) (record {
      half = half;
      front = found;
      start = begun;
      pattern = same_pattern;
      end = same_end;
    })

pub match_within :
    (p : Regex) (input : Input) (half : HalfMatch) (base start end pattern : ℕ) (m : Match)
    → LiesPast p.forward input half base → (base ≤ start) × (start ≤ half.offset)
    → pattern ≡ half.pattern → end ≡ half.offset → m ≡ match_at pattern start end → MatchLiesIn p input m
match_within p input half base start end pattern m past between same_pattern same_end is =
    subst (λ (v : Match). MatchLiesIn p input v) (sym is) (
      omega (arith, past.from, between.0),
      omega (arith, between.1, same_end),
      omega (arith, past.lies.upto, same_end),
      omega (arith, past.lies.pattern, same_pattern),
    )
