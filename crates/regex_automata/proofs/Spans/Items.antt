-- One item after another.
use Rattle.std.proofs.Common.{ℕ, ◌≡◌, ◌∙◌, ◌+◌, ◌-◌, ◌<◌, ◌≤◌, Bool, true, false, cond, eqb, eq-eqb, eqb-true, Option}
use Rattle.std.proofs.Common.{Some, None, refl, sym, ap, subst, arith}
use Rattle.std.specs.Prelude.{Result, Ok, Err, length}
use Rattle.automata_base.specs.Haystacks.Input.{Input}
use Rattle.automata_base.specs.Haystacks.Matches.{Match}
use Rattle.automata_base.specs.Answers.Spans.{from}
use Rattle.automata_base.specs.declared.util.search.Direction.TheVariants.{Forward}
use Rattle.automata_config.specs.declared.error.SearchError.{SearchError}
use Rattle.automata_hybrid.specs.Searches.Contracts.{IsUnsupported, unsupported_error}
use Rattle.regex_automata.specs.Spans.Iteration.{GivesItem, GoesPast, IsNextMatch}
use Rattle.regex_automata.specs.Spans.Iteration.{LiesInHaystack, most_items}
use Rattle.regex_automata.specs.Spans.Outcomes.{MatchLiesIn}
use Rattle.regex_automata.specs.Spans.Contracts.{ReportsUnsupported}
use Rattle.regex_automata.specs.Spans.Runs.{IsItemRun, IsNextRun, item_error}
use Rattle.regex_automata.specs.declared.hybrid.regex.Regex.{Regex}
use Rattle.regex_automata.specs.declared.hybrid.regex.caches.Cache.{Cache}
use Rattle.regex_automata.proofs.Results.{ok_err, same_err}
use Rattle.automata_hybrid.proofs.Searches.PassState.{false_true}

-- the item is a match
pub gives_match :
    (p : Regex) (input input' : Input) (last : Option ℕ) (ended : Bool) (m : Match) (start end : ℕ)
    → ended ≡ false → IsNextMatch p input last (Some m) → MatchLiesIn p input m → input' ≡ from start input
    → start ≡ m.end
    → end ≡ m.end → GivesItem p (Some (Ok m)) input input' last (Some end) ended ended
gives_match p input input' last true m start end still next lies same begins ends = absurd (false_true (sym still))
gives_match p input input' last false m start end still next lies same begins ends =
    record {
      next = next;
      within = lies;
      rest = same ∙ ap (λ n. from n input) begins;
      place = ap (λ (n : ℕ). Some n) ends;
      going = refl;
    }

-- the match of an item may be sliced from the haystack, since the searched span lies in it
pub lies_in_haystack :
    (p : Regex) (input : Input) (m : Match) → MatchLiesIn p input m → input.end ≤ length input.haystack
    → LiesInHaystack input.haystack (Some (Ok m))
lies_in_haystack p input m lies within = (lies.1, omega (arith, lies.2, within))

-- there is no item
pub gives_none :
    (p : Regex) (input : Input) (last : Option ℕ) (ended : Bool)
    → ended ≡ false → IsNextMatch p input last None → GivesItem p None input input last last ended true
gives_none p input last true still next = absurd (false_true (sym still))
gives_none p input last false still next = (next, record { rest = refl; place = refl; over = refl })

-- the item is an error
pub gives_error :
    (p : Regex) (input : Input) (last : Option ℕ) (ended : Bool) (e : SearchError)
    → ended ≡ false → GivesItem p (Some (Err e)) input input last last ended true
gives_error p input last true e still = absurd (false_true (sym still))
gives_error p input last false e still = record { rest = refl; place = refl; over = refl }

-- the effect on the caches of an item of an iteration that has not ended
pub item_run :
    (p : Regex) (asked input : Input) (last : Option ℕ) (ended : Bool) (old new : Cache)
    (item : Option (Result Match SearchError))
    → ended ≡ false → asked ≡ input → IsNextRun p asked last old new (item_error item)
    → IsItemRun p input last ended old new item
item_run p asked input last true old new item going same run = absurd (false_true (sym going))
item_run p asked input last false old new item going same run =
    subst (λ (i : Input). IsNextRun p i last old new (item_error item)) same run

-- if an item is not an error, the anchored mode is supported; if the mode is not supported, the item is that error
pub reports_found :
    (p : Regex) (asked input : Input) (ended : Bool) (o : Option Match) (item : Option (Result Match SearchError))
    → asked ≡ input
    → (IsUnsupported Forward p.forward asked
    → ◌≡◌ {A = Result (Option Match) SearchError} (Ok o) (Err (unsupported_error asked)))
    → ReportsUnsupported p input ended item
reports_found p asked input ended o item same reports =
    λ on u. absurd (ok_err (reports (subst (λ (i : Input). IsUnsupported Forward p.forward i) (sym same) u)))

pub reports_error :
    (p : Regex) (asked input : Input) (ended : Bool) (e : SearchError)
    → asked ≡ input
    → (IsUnsupported Forward p.forward asked
    → ◌≡◌ {A = Result (Option Match) SearchError} (Err e) (Err (unsupported_error asked)))
    → ReportsUnsupported p input ended (Some (Err e))
reports_error p asked input ended e same reports = λ on u. reported (same_err (for_input u)) where
  for_input :
      IsUnsupported Forward p.forward input
      → ◌≡◌ {A = Result (Option Match) SearchError} (Err e) (Err (unsupported_error input))
  for_input =
      subst
      (λ (i : Input). IsUnsupported Forward p.forward i
      → ◌≡◌ {A = Result (Option Match) SearchError} (Err e) (Err (unsupported_error i)))
      same reports

  reported : {v : SearchError} → e ≡ v → ◌≡◌ {A = Option (Result Match SearchError)} (Some (Err e)) (Some (Err v))
  reported is = cc

-- after a match the upper bound on the remaining items is lower
most_after :
    (input input' : Input) (end : ℕ) → input' ≡ from end input
    → most_items false input' (Some end) ≡ input.end + 1 - end
most_after input input' end same =
    subst (λ (i : Input). most_items false i (Some end) ≡ input.end + 1 - end) (sym same)
    (ap (λ b. cond b (input.end + 1 - end) (input.end + 2 - end)) (eq-eqb end end refl))

most_before :
    (p : Regex) (input : Input) (last : Option ℕ) (m : Match) → GoesPast p input last m
    → input.end + 1 - m.end < most_items false input last
most_before p input None m goes =
    let a : input.start ≤ m.start = goes.0.0 in
    let b : m.start ≤ m.end = goes.0.1 in
    let d : m.end ≤ input.end = goes.0.2 in
    omega (arith, a, b, d)
most_before p input (Some at) m goes = go (eqb at input.start) refl where
  go :
      (same : Bool) → eqb at input.start ≡ same
      → input.end + 1 - m.end < cond same (input.end + 1 - input.start) (input.end + 2 - input.start)
  go true e =
      let past : input.start < m.end = goes.1 (ap (λ (n : ℕ). Some n) (eqb-true at input.start e)) in
      let d : m.end ≤ input.end = goes.0.2 in
      omega (arith, past, d)
  go false e =
      let a : input.start ≤ m.start = goes.0.0 in
      let b : m.start ≤ m.end = goes.0.1 in
      let d : m.end ≤ input.end = goes.0.2 in
      omega (arith, a, b, d)

pub fewer_left :
    (p : Regex) (input input' : Input) (last : Option ℕ) (ended : Bool) (m : Match) (start end : ℕ)
    → ended ≡ false → input' ≡ from start input → start ≡ m.end → end ≡ m.end → GoesPast p input last m
    → most_items ended input' (Some end) < most_items ended input last
fewer_left p input input' last true m start end still same begins ends goes = absurd (false_true (sym still))
fewer_left p input input' last false m start end still same begins ends goes =
    let behind : most_items false input' (Some end) ≡ input.end + 1 - end =
    most_after input input' end (same ∙ ap (λ n. from n input) (begins ∙ sym ends)) in
    subst (λ n. n < most_items false input last) (sym behind)
    (subst (λ n. input.end + 1 - n < most_items false input last) (sym ends) (most_before p input last m goes))

-- while an iteration has not ended, at least one item may remain
pub some_left :
    (input : Input) (last : Option ℕ) (ended : Bool) → ended ≡ false → input.start ≤ input.end
    → 0 < most_items ended input last
some_left input last true still ahead = absurd (false_true (sym still))
some_left input None false still ahead = omega (arith, ahead)
some_left input (Some at) false still ahead = go (eqb at input.start) where
  go : (same : Bool) → 0 < cond same (input.end + 1 - input.start) (input.end + 2 - input.start)
  go true = omega (arith, ahead)
  go false = omega (arith, ahead)
