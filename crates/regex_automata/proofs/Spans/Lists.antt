-- The matches that a loop over an iteration collects.
use Rattle.std.proofs.Common.{ℕ, ◌≡◌, ◌∙◌, Bool, true, false, List, [], ◌∷◌, ◌++◌, Option, Some, None}
use Rattle.std.proofs.Common.{refl, sym, ap, subst}
use Rattle.std.specs.Prelude.{Ok}
use Rattle.automata_base.specs.Haystacks.Input.{Input}
use Rattle.automata_base.specs.Haystacks.Matches.{Match}
use Rattle.automata_base.specs.Answers.Spans.{AreFirst, AreMatches, FindsHere, FindsLater, IsNextItem, from}
use Rattle.automata_config.specs.declared.error.SearchError.{SearchError}
use Rattle.regex_automata.specs.Spans.Iteration.{AreCollected, ComesTo, GivesItem, IsBeginning, IsNextMatch}
use Rattle.regex_automata.specs.Spans.Outcomes.{FindsMatch}
use Rattle.regex_automata.specs.declared.hybrid.regex.Regex.{Regex}
use Rattle.automata_base.proofs.Answers.Once.{FindsOnce, next_none, next_some}
use Rattle.automata_determinize.proofs.Answers.Rising.{all_first}
use Rattle.automata_base.proofs.Answers.Rising.{first_right, matches_right}

module _ (Finds : Input → Option Match → Type 0) (input : Input) where
  -- one more match
  pub comes_on :
      (start : ℕ) (last : Option ℕ) (ms : List Match) (at : ℕ) (before : Option ℕ) (m : Match)
      → ComesTo Finds input start last ms at before → IsNextItem Finds input at before (Some m)
      → ComesTo Finds input start last (ms ++ m ∷ []) m.end (Some m.end)
  comes_on start last [] at before m c next = (
    subst (λ l. IsNextItem Finds input start l (Some m)) (sym c.1)
        (subst (λ s. IsNextItem Finds input s before (Some m)) (sym c.0) next),
    (refl, refl),
  )
  comes_on start last (n ∷ ms) at before m c next = (c.0, comes_on n.end (Some n.end) ms at before m c.1 next)

  -- the last turn: no further match
  pub comes_all :
      (start : ℕ) (last : Option ℕ) (ms : List Match) (at : ℕ) (before : Option ℕ)
      → ComesTo Finds input start last ms at before → IsNextItem Finds input at before None
      → AreMatches Finds input start last ms
  comes_all start last [] at before c next =
      subst (λ l. IsNextItem Finds input start l None) (sym c.1)
      (subst (λ s. IsNextItem Finds input s before None) (sym c.0) next)
  comes_all start last (n ∷ ms) at before c next = (c.0, comes_all n.end (Some n.end) ms at before c.1 next)

  pub comes_first :
      (start : ℕ) (last : Option ℕ) (ms : List Match) (at : ℕ) (before : Option ℕ)
      → ComesTo Finds input start last ms at before → AreFirst Finds input start last ms
  comes_first start last [] at before c = tt
  comes_first start last (n ∷ ms) at before c = (c.0, comes_first n.end (Some n.end) ms at before c.1)

  pub collected :
      (ms : List Match) (error : Option SearchError) (at : ℕ) (before : Option ℕ)
      → ComesTo Finds input input.start None ms at before → (error ≡ None → IsNextItem Finds input at before None)
      → AreCollected Finds input ms error
  collected ms None at before c next = comes_all input.start None ms at before c (next refl)
  collected ms (Some e) at before c next = comes_first input.start None ms at before c

-- if searches find what is right, the collected matches are right
pub collected_right :
    (F G : Input → Option Match → Type 0) (input : Input)
    (right : (start : ℕ) (o : Option Match) → F (from start input) o → G (from start input) o)
    (ms : List Match) (error : Option SearchError) → AreCollected F input ms error → AreCollected G input ms error
collected_right F G input right ms None f = matches_right F G input right input.start None ms f
collected_right F G input right ms (Some e) f = first_right F G input right input.start None ms f

-- an item of the remaining input is an item of the input
pub item_of_rest :
    (F : Input → Option Match → Type 0) (input : Input) (at start : ℕ) (last : Option ℕ) (o : Option Match)
    → IsNextItem F (from at input) start last o → IsNextItem F input start last o
item_of_rest F input at start last o (FindsHere h apart) = FindsHere h apart
item_of_rest F input at start last o (FindsLater m h empty later) = FindsLater m h empty later

-- the match of an item, and the iteration after it
pub item_match :
    (p : Regex) (input input' : Input) (last last' : Option ℕ) (ended ended' : Bool) (m : Match)
    → GivesItem p (Some (Ok m)) input input' last last' ended ended'
    → IsNextMatch p input last (Some m) × (input' ≡ from m.end input) × (last' ≡ Some m.end) × (ended ≡ false)
    × (ended' ≡ false)
item_match p input input' last last' true ended' m g = let e = g.0 in cc
item_match p input input' last last' false ended' m g = (g.next, g.rest, g.place, refl, g.going)

pub item_none :
    (p : Regex) (input input' : Input) (last last' : Option ℕ) (ended ended' : Bool)
    → GivesItem p None input input' last last' ended ended' → ended ≡ false → IsNextMatch p input last None
item_none p input input' last last' true ended' g still = let h : true ≡ false = still in cc
item_none p input input' last last' false ended' g still = g.0

-- one turn of the loop
pub turn :
    (p q : Regex) (input now : Input) (last : Option ℕ) (o : Option Match) → p ≡ q → now ≡ from now.start input
    → IsNextMatch p now last o → IsNextItem (FindsMatch q) input now.start last o
turn p q input now last o e same f =
    item_of_rest (FindsMatch q) input now.start now.start last o
    (subst (λ (i : Input). IsNextItem (FindsMatch q) i now.start last o) same
    (subst (λ (r : Regex). IsNextItem (FindsMatch r) now now.start last o) e f))

pub comes_turn :
    (F : Input → Option Match → Type 0) (input : Input) (start : ℕ) (last : Option ℕ) (ms more : List Match)
    (at at' : ℕ) (before before' : Option ℕ) (m : Match)
    → ComesTo F input start last ms at before → IsNextItem F input at before (Some m) → more ≡ ms ++ m ∷ []
    → at' ≡ m.end → before' ≡ Some m.end
    → ComesTo F input start last more at' before'
comes_turn F input start last ms more at at' before before' m c next items place past =
    subst (λ (l : Option ℕ). ComesTo F input start last more at' l) (sym past)
    (subst (λ n. ComesTo F input start last more n (Some m.end)) (sym place)
    (subst (λ (l : List Match). ComesTo F input start last l m.end (Some m.end)) (sym items)
    (comes_on F input start last ms at before m c next)))

pub input_turn :
    (input now next : Input) (k : ℕ) → now ≡ from now.start input → next ≡ from k now → next ≡ from next.start input
input_turn input now next k same e =
    let f : next ≡ from k input = e ∙ ap (λ (i : Input). from k i) same in
    f ∙ ap (λ n. from n input) (sym (ap (λ (i : Input). i.start) f))

-- if searches find one answer, the first matches are a prefix of all matches
module _ (F : Input → Option Match → Type 0) (one : FindsOnce F) (input : Input) where
  pub first_begins :
      (start : ℕ) (last : Option ℕ) (ms all : List Match)
      → AreFirst F input start last ms → AreMatches F input start last all → IsBeginning ms all
  first_begins start last [] all f g = (all, refl)
  first_begins start last (m ∷ ms) [] f g = absurd (next_none F input start last m one g f.0)
  first_begins start last (m ∷ ms) (n ∷ all) f g =
      let e : m ≡ n = next_some F input start last m n one f.0 g.0 in
      let rest =
      first_begins m.end (Some m.end) ms all f.1
      (subst (λ (v : Match). AreMatches F input v.end (Some v.end) all) (sym e) g.1) in
      (rest.0, ap (λ (l : List Match). n ∷ l) rest.1 ∙ ap (λ (v : Match). v ∷ (ms ++ rest.0)) (sym e))

  pub collected_begins :
      (ms all : List Match) (error : Option SearchError) → AreCollected F input ms error
      → AreMatches F input input.start None all
      → IsBeginning ms all
  collected_begins ms all None f g = first_begins input.start None ms all (all_first F input input.start None ms f) g
  collected_begins ms all (Some e) f g = first_begins input.start None ms all f g
