-- The tokens that a loop over them collects.
use Rattle.std.proofs.Common.{ℕ, ◌≡◌, ◌∙◌, ◌≤◌, ◌⊎◌, inl, inr, Bool, true, false, List, [], ◌∷◌, ◌++◌, append_assoc}
use Rattle.std.proofs.Common.{append-nil, Option, sym, subst, arith}
use Rattle.std.specs.Prelude.{Result, Ok}
use Rattle.automata_base.specs.Haystacks.Matches.{Match}
use Rattle.automata_hybrid.specs.Machines.Machine.{Machine}
use Rattle.regex_automata.specs.Tokens.{AreGiven, IsItemAt}
use Rattle.regex_automata.specs.declared.hybrid.regex.Regex.{Regex}
use Rattle.regex_automata.specs.declared.tokens.error.TokenError.{TokenError}
use Rattle.automata_hybrid.proofs.Searches.PassState.{false_true}
use Rattle.automata_base.proofs.Answers.Once.{match_is as same_parts}

-- the tokens that follow complete the tokens so far
abbrev pub Completes : Machine → List ℕ → (end start : ℕ) → List Match → (offset : ℕ) → Type 0
Completes m h end start ts offset =
    (more : List Match) (error : Option TokenError) → AreGiven m h end offset more error
    → AreGiven m h end start (ts ++ more) error

-- one more token
pub completes_on :
    (m : Machine) (h : List ℕ) (end start : ℕ) (ts more : List Match) (offset offset' : ℕ) (t : Match)
    → Completes m h end start ts offset → IsItemAt m h end offset (Ok t) → more ≡ ts ++ t ∷ [] → offset' ≡ t.end
    → Completes m h end start more offset'
completes_on m h end start ts more offset offset' t completes item is behind rest error given =
    subst (λ (all : List Match). AreGiven m h end start (all ++ rest) error) (sym is)
    (subst (λ (all : List Match). AreGiven m h end start all error) (sym (append_assoc ts (t ∷ []) rest))
    (completes (t ∷ rest) error (item, subst (λ k. AreGiven m h end k rest error) behind given)))

-- after the last token the list is complete
pub completes_end :
    (m : Machine) (h : List ℕ) (end start : ℕ) (ts : List Match) (offset : ℕ) (error : Option TokenError)
    → Completes m h end start ts offset → AreGiven m h end offset [] error → AreGiven m h end start ts error
completes_end m h end start ts offset error completes last =
    subst (λ (all : List Match). AreGiven m h end start all error) (append-nil ts) (completes [] error last)

-- the item at an offset, for the regex and the span that the loop was given
pub item_turn :
    (p q : Regex) (h h' : List ℕ) (end end' offset : ℕ) (item : Result Match TokenError) → p ≡ q → h ≡ h' → end ≡ end'
    → IsItemAt p.forward h end offset item → IsItemAt q.forward h' end' offset item
item_turn p q h h' end end' offset item regex haystack last is =
    subst (λ (r : Regex). IsItemAt r.forward h' end' offset item) regex
    (subst (λ (k : List ℕ). IsItemAt p.forward k end' offset item) haystack
    (subst (λ n. IsItemAt p.forward h n offset item) last is))

-- two matches with the same parts are equal
pub match_is :
    (m n : Match) (pattern start end : ℕ) → m ≡ record { pattern = pattern; start = start; end = end }
    → pattern ≡ n.pattern → start ≡ n.start → end ≡ n.end → m ≡ n
match_is m n pattern start end is p s e =
    is ∙ same_parts (record { pattern = pattern; start = start; end = end }) n p s e

-- an iteration that ends without an error has reached the span's end
pub at_end :
    (failed : Bool) (end end' offset : ℕ) → (failed ≡ true) ⊎ (end ≤ offset) → failed ≡ false → end ≡ end'
    → end' ≤ offset
at_end failed end end' offset (inl reported) going same = absurd (false_true (sym going ∙ reported))
at_end failed end end' offset (inr past) going same = omega (arith, past, same)
