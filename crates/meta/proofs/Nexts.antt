-- The groups of the next match of an iteration.
use Rattle.std.proofs.Common.{ℕ, suc, ◌≡◌, ◌∙◌, ◌<◌, Bool, true, false, List, [], map, length, Option, Some, None}
use Rattle.std.proofs.Common.{ap, option_map, refl, subst, sym, arith}
use Rattle.std.proofs.lemmas.Option.{none-some}
use Rattle.regex_hir.specs.Find as kit
use Rattle.regex_hir.specs.Re.{Re}
use Rattle.automata_base.specs.Haystacks.Matches.{Match}
use Rattle.meaning.specs.Patterns.{find_any, next_by, numbered_match}
use Rattle.patterns.specs.Iteration.{most_left}
use Rattle.patterns.specs.declared.compile.Options.{Options}
use Rattle.meta.specs.Captures.{HoldGroups, HoldNothing}
use Rattle.meta.specs.Groups.{IsPreferredMatch}
use Rattle.meta.specs.Iteration.{HoldNext, LiesAfter, YieldsMatch}
use Rattle.meta.specs.Regexes.{IsMetaRegexOf}
use Rattle.meta.specs.declared.captures.Captures.{Captures}
use Rattle.meta.specs.declared.regexes.Regex.{Regex}
use Rattle.meta.proofs.Found.{first_of, found_preferred, holds_found, holds_nothing, next_found}
use Rattle.meta.proofs.Items.{fewer_after}

-- if no match remains there is no next one
none_of :
    (f : kit.Match → Match) (search : ℕ → Option kit.Match) (n : ℕ) (o : Option kit.Match)
    → map f (kit.matches_from search (suc n) o) ≡ [] → None ≡ option_map f o
unfolding kit.matches_from
none_of f search n None e = refl
none_of f search n (Some m) e = absurd (cc)

module _ (regex : Regex) (hay : List ℕ) (last last' : Option ℕ) where
  pub lies_after :
      (found : Match) (ended ended' : Bool) → YieldsMatch regex hay (Some found) last last' ended ended'
      → LiesAfter hay last found
  lies_after found true ended' y = absurd (none-some found (sym y.0))
  lies_after found false ended' y = y.1

  pub fewer_next :
      (found : Match) (ended ended' : Bool) → YieldsMatch regex hay (Some found) last last' ended ended'
      → most_left ended' hay last' < most_left ended hay last
  fewer_next found true ended' y = absurd (none-some found (sym y.0))
  fewer_next found false ended' y =
      subst (λ e. most_left e hay last' < most_left false hay last) (sym y.3)
      (subst (λ l. most_left false hay l < most_left false hay last) (sym y.2)
      (fewer_after hay last false found found.end refl refl y.1))

  pub holds_next :
      (found : Match) (ended ended' : Bool) (c : Captures)
      → YieldsMatch regex hay (Some found) last last' ended ended'
      → ((o : Options) (res : List Re) (m : kit.Match) → IsMetaRegexOf o res regex → IsPreferredMatch res hay m
      → found ≡ numbered_match res hay m → HoldGroups m c)
      → HoldNext regex hay last ended c
  holds_next found true ended' c y holds = absurd (none-some found (sym y.0))
  holds_next found false ended' c y holds = λ o res is text.
      let search = find_any o.utf8 res hay in
      holds_found res hay (next_by search last) found c
      (λ m e. let from = next_found search last m e in found_preferred o.utf8 res hay from.0 m from.1)
      (first_of (numbered_match res hay) search (length hay) (next_by search last) found _
      (ap (λ n. map (numbered_match res hay) (kit.matches_from search n (next_by search last))) (omega arith)
      ∙ y.0 o res is text))
      (λ m preferred same. holds o res m is preferred same)

  pub holds_none :
      (ended ended' : Bool) (c : Captures) → YieldsMatch regex hay None last last' ended ended' → HoldNothing c
      → HoldNext regex hay last ended c
  holds_none true ended' c y none = none
  holds_none false ended' c y none = λ o res is text.
      let search = find_any o.utf8 res hay in
      holds_nothing res hay (next_by search last) c
      (none_of (numbered_match res hay) search (length hay) (next_by search last)
      (ap (λ n. map (numbered_match res hay) (kit.matches_from search n (next_by search last))) (omega arith)
      ∙ y.0 o res is text))
      none
