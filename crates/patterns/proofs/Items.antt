-- One item of an iteration after another.
use Rattle.std.proofs.Common.{ℕ, ◌≡◌, ◌<◌, ◌≤◌, Bool, true, false, List, Option, Some, None, length, refl, ap, subst}
use Rattle.std.proofs.Common.{arith}
use Rattle.std.specs.Prelude.{Result, Ok, Err, IfErr, IfSome}
use Rattle.std.specs.Result.{result_err}
use Rattle.std.specs.Option.{unwrap_or}
use Rattle.std.proofs.lemmas.Option.{none-some, same_Some}
use Rattle.automata_base.specs.Haystacks.Matches.{Match}
use Rattle.automata_config.specs.declared.error.SearchError.{SearchError}
use Rattle.regex_automata.specs.Spans.Iteration.{GoesPast}
use Rattle.regex_automata.specs.Spans.Outcomes.{MatchLiesIn}
use Rattle.regex_automata.specs.declared.hybrid.regex.Regex.{Regex}
use Rattle.regex_automata.specs.declared.hybrid.regex.caches.Cache.{Cache}
use Rattle.patterns.specs.Iteration.{GivesMatch, IsNextMeant, most_left, rest_of}
use Rattle.patterns.specs.Searches.{FailsNext, IsItemSearch, IsNextSearch, rest_from}
use Rattle.patterns.specs.declared.pattern.Pattern.{Pattern}
use Rattle.patterns.proofs.Skips.{after_as, searched_as}

-- a property of an option's value, if it has one
pub given : {A : Type 0} {a : A} {o : Option A} (P : A → Type 0) → o ≡ Some a → IfSome o P → P a
given {a = a} {o = None} P is h = absurd (none-some a is)
given {a = a} {o = Some b} P is h = subst P (same_Some b a is) h

-- a property of the error that a call returns, if it returns one
pub refused : {A : Type 0} (r : Result A SearchError) (P : SearchError → Type 0) → IfSome (result_err r) P → IfErr r P
refused (Ok a) P h = tt
refused (Err e) P h = h

-- the item that a search for the next match gives
abbrev pub item_of : Result (Option Match) SearchError → Option (Result Match SearchError)
item_of (Ok None) = None
item_of (Ok (Some m)) = Some (Ok m)
item_of (Err e) = Some (Err e)

open_is : {P : Type 0} → true ≡ false → P
open_is e = absurd (cc)

module _ (p : Pattern) (old new : Cache) (hay : List ℕ) (last : Option ℕ) where
  pub gives_match : (ended : Bool) (m : Match) (end : ℕ) → ended ≡ false → {o : Option Match} → o ≡ Some m →
      IsNextMeant p.regex hay last o → MatchLiesIn p.regex (rest_of hay last) m → end ≡ m.end →
      GivesMatch p old new hay (Some (Ok m)) last (Some end) ended ended
  gives_match true m end on is next lies ends = open_is on
  gives_match false m end on is next lies ends =
      record {
        next = subst (λ v. IsNextMeant p.regex hay last v) is next;
        within = lies;
        place = ap (λ (n : ℕ). Some n) ends;
        going = refl;
      }

  pub gives_none : (ended : Bool) → ended ≡ false → {o : Option Match} → o ≡ None → IsNextMeant p.regex hay last o →
      GivesMatch p old new hay None last last ended true
  gives_none true on is next = open_is on
  gives_none false on is next =
      (subst (λ v. IsNextMeant p.regex hay last v) is next, record { place = refl; over = refl })

  pub gives_error : (ended : Bool) (e : SearchError) → ended ≡ false → FailsNext p old new hay last e →
      GivesMatch p old new hay (Some (Err e)) last last ended true
  gives_error true e on refused = open_is on
  gives_error false e on refused = (refused, record { place = refl; over = refl })

  -- why the search for an item failed
  pub fails_next : (e : SearchError) → IsNextSearch p hay last old new (Err e) → FailsNext p old new hay last e
  fails_next e s =
      searched_as p hay (unwrap_or last 0)
      (λ at r.
      after_as p (rest_from hay at) old new (λ f. let no = f.1 in absurd (cc)) (λ between x. x.1) r)
      (λ n. let no = n.0 in absurd (cc)) s

  -- the search for an item of an iteration that has not ended
  pub item_search : (ended : Bool) (r : Result (Option Match) SearchError) → ended ≡ false →
      IsNextSearch p hay last old new r → IsItemSearch p hay last ended old new (item_of r)
  item_search true r on s = open_is on
  item_search false (Ok None) on s =
      searched_as p hay (unwrap_or last 0)
      (λ at r. after_as p (rest_from hay at) old new (λ f. (f.0, ap item_of f.1)) (λ between x. x.0) r)
      (λ n. (refl, n.1)) s
  item_search false (Ok (Some m)) on s =
      searched_as p hay (unwrap_or last 0)
      (λ at r. after_as p (rest_from hay at) old new (λ f. (f.0, ap item_of f.1)) (λ between x. x.0) r)
      (λ n. let no = n.0 in absurd (cc)) s
  item_search false (Err e) on s =
      searched_as p hay (unwrap_or last 0)
      (λ at r. after_as p (rest_from hay at) old new (λ f. (f.0, ap item_of f.1)) (λ between x. x.0) r)
      (λ n. let no = n.0 in absurd (cc)) s

-- after a match the upper bound on the remaining items is lower
pub fewer_left :
    (p : Regex) (hay : List ℕ) (last : Option ℕ) (ended : Bool) (m : Match) (end : ℕ) → ended ≡ false → end ≡ m.end →
    GoesPast p (rest_of hay last) last m → most_left ended hay (Some end) < most_left ended hay last
fewer_left p hay last true m end on ends goes = open_is on
fewer_left p hay None false m end on ends goes = let l = goes.0.2 in omega (arith, ends, l)
fewer_left p hay (Some at) false m end on ends goes =
    let l = goes.0.2 in let past = goes.1 refl in omega (arith, ends, l, past)

pub some_left : (hay : List ℕ) (last : Option ℕ) (ended : Bool) → ended ≡ false → unwrap_or last 0 ≤ length hay →
    0 < most_left ended hay last
some_left hay last true on within = open_is on
some_left hay None false on within = omega arith
some_left hay (Some at) false on within = omega (arith, within)

-- the match of an item, and the iteration after it
pub item_match :
    (p : Pattern) (old new : Cache) (hay : List ℕ) (m : Match) (last last' : Option ℕ) (ended ended' : Bool) →
    GivesMatch p old new hay (Some (Ok m)) last last' ended ended' → IsNextMeant p.regex hay last (Some m)
    × (last' ≡ Some m.end) × (ended' ≡ false)
item_match p old new hay m last last' true ended' h = let e = h.0 in absurd (cc)
item_match p old new hay m last last' false ended' h = (h.next, h.place, h.going)

pub item_none : (p : Pattern) (old new : Cache) (hay : List ℕ) (last last' : Option ℕ) (ended ended' : Bool) →
    GivesMatch p old new hay None last last' ended ended' → ended ≡ false → IsNextMeant p.regex hay last None
item_none p old new hay last last' true ended' h on = open_is on
item_none p old new hay last last' false ended' h on = h.0
