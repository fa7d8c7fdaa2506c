-- What a search finds is a preferred match.
use Rattle.std.proofs.Common.{ℕ, suc, ◌≡◌, ◌+◌, ◌∙◌, ◌==◌, Bool, true, false, List, [], ◌∷◌, map, length, Option, Some}
use Rattle.std.proofs.Common.{None}
use Rattle.std.proofs.Common.{ap, option_map, refl, sym, ⊎_elim}
use Rattle.std.proofs.lemmas.Bool.{cases_Bool, cond-false, cond-true}
use Rattle.std.proofs.lemmas.Option.{none-some, same_Some}
use Rattle.regex_hir.specs.Find as kit
use Rattle.regex_hir.specs.Re.{Re}
use Rattle.regex_hir.specs.Text.{is_boundary, is_some_and}
use Rattle.regex_hir.proofs.AttemptLemmas.{cond_some}
use Rattle.regex_hir.proofs.FindLemmas.{IsFirst-of_first_between}
use Rattle.automata_base.specs.Haystacks.Matches.{Match}
use Rattle.meaning.specs.Patterns.{find_any, next_by, numbered_match}
use Rattle.meta.specs.Captures.{HoldFound, HoldGroups, HoldNothing}
use Rattle.meta.specs.Groups.{IsPreferredMatch}
use Rattle.meta.specs.Laws.{IsOfPreferred}
use Rattle.meta.specs.declared.captures.Captures.{Captures}

-- the match that a search finds is preferred where it starts
pub found_preferred :
    (utf8 : Bool) (res : List Re) (hay : List ℕ) (start : ℕ) (m : kit.Match)
    → find_any utf8 res hay start ≡ Some m → IsPreferredMatch res hay m
unfolding kit.find kit.find_str
found_preferred false res hay start m e = (IsFirst-of_first_between _ start (length hay) m e).here
found_preferred true res hay start m e =
    (cond_some (is_boundary hay m.start) _ m.trace (IsFirst-of_first_between _ start (length hay) m e).here).1

-- captures hold what is found, if they hold the groups of each match that the search may have found
pub holds_found :
    (res : List Re) (hay : List ℕ) (o : Option kit.Match) (found : Match) (c : Captures)
    → ((m : kit.Match) → o ≡ Some m → IsPreferredMatch res hay m)
    → Some found ≡ option_map (numbered_match res hay) o
    → ((m : kit.Match) → IsPreferredMatch res hay m → found ≡ numbered_match res hay m → HoldGroups m c) → HoldFound o c
holds_found res hay None found c preferred e holds = absurd (none-some found (sym e))
holds_found res hay (Some m) found c preferred e holds = holds m (preferred m refl) (same_Some _ _ e)

pub holds_nothing :
    (res : List Re) (hay : List ℕ) (o : Option kit.Match) (c : Captures)
    → None ≡ option_map (numbered_match res hay) o → HoldNothing c → HoldFound o c
holds_nothing res hay None c e none = none
holds_nothing res hay (Some m) c e none = absurd (none-some _ e)

-- what is returned for a preferred match
pub of_preferred :
    (res : List Re) (hay : List ℕ) (o : Option kit.Match) (found : Match)
    → ((m : kit.Match) → o ≡ Some m → IsPreferredMatch res hay m)
    → Some found ≡ option_map (numbered_match res hay) o → IsOfPreferred res hay found
of_preferred res hay None found preferred e = absurd (none-some found (sym e))
of_preferred res hay (Some m) found preferred e = (m, preferred m refl, same_Some _ _ e)

-- the next match is what a search from some offset finds
pub next_found :
    (search : ℕ → Option kit.Match) (last : Option ℕ) (m : kit.Match) → next_by search last ≡ Some m
    → (start : ℕ) × (search start ≡ Some m)
next_found search None m e = (0, e)
next_found search (Some end) m e =
    ⊎_elim (λ again. (end + 1, sym (cond-true _ (search (end + 1)) (search end) again) ∙ e))
    (λ new. (end, sym (cond-false _ (search (end + 1)) (search end) new) ∙ e))
    (cases_Bool (is_some_and (search end) (λ m. m.trace.end == end)))

abbrev first_item : List Match → Option Match
first_item [] = None
first_item (x ∷ xs) = Some x

-- the first of the remaining matches is that of the next match
pub first_of :
    (f : kit.Match → Match) (search : ℕ → Option kit.Match) (n : ℕ) (o : Option kit.Match) (found : Match)
    (rest : List Match)
    → map f (kit.matches_from search (suc n) o) ≡ found ∷ rest → Some found ≡ option_map f o
unfolding kit.matches_from
first_of f search n None found rest e = absurd (cc)
first_of f search n (Some m) found rest e = ap first_item (sym e)
