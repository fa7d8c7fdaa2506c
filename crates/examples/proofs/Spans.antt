-- A search of one pattern finds the span of the first match of what the pattern's text means.
use Rattle.std.proofs.Common.{◌≡◌, ap, ◌∙◌, ℕ, List, [], ◌∷◌, Option, Some, None, refl, false, length}
use Rattle.std.specs.Prelude.{option_map}
use Rattle.regex_hir.specs.Re.{Re}
use Rattle.regex_hir.specs.Find as kit
use Rattle.regex_hir.proofs.FindLemmas.{first_between_cong}
use Rattle.regex_compile.specs.Implements.{Implements}
use Rattle.regex_nfa.specs.declared.nfa.Nfa.{Nfa}
use Rattle.regex_syntax.specs.declared.Config.{Config}
use Rattle.regex_vm.specs.Found.{first_match, span}
use Rattle.regex_automata.specs.Promises.{Match}
use Rattle.meaning.specs.Patterns.{find_any, numbered_match}
use Rattle.patterns.specs.Patterns.{AreMeanings, IsMeaning}

-- a list of one text has one meaning
pub one_meaning :
    (config : Config) (text : List ℕ) (res : List Re) → AreMeanings config (text ∷ []) res
    → (re : Re) × (res ≡ re ∷ []) × IsMeaning config text re
one_meaning config text [] are = absurd are
one_meaning config text (re ∷ []) are = (re, refl, are.0)
one_meaning config text (re ∷ next ∷ res) are = absurd are.1

-- where a match begins and ends
abbrev pub span_of : Match → ℕ × ℕ
span_of m = (m.start, m.end)

spans :
    (res : List Re) (hay : List ℕ) (o : Option kit.Match)
    → option_map span_of (option_map (numbered_match res hay) o) ≡ option_map span o
spans res hay None = refl
spans res hay (Some m) = refl

-- what a search found is the first match
pub found_first :
    (re : Re) (res : List Re) (hay : List ℕ) (found : Option Match) → res ≡ re ∷ []
    → found ≡ option_map (numbered_match res hay) (find_any false res hay 0)
    → option_map span_of found ≡ option_map span (kit.find re hay 0)
found_first re res hay found one is =
    ap (option_map span_of) is ∙ spans res hay (find_any false res hay 0)
    ∙ ap (λ (r : List Re). option_map span (find_any false r hay 0)) one

-- what the simulation found is the first match
pub simulated_first :
    (nfa : Nfa) (re : Re) (hay : List ℕ) → Implements nfa re
    → first_match nfa hay (length hay) 0 (length hay) ≡ kit.find re hay 0
unfolding kit.find
simulated_first nfa re hay implements = first_between_cong _ _ 0 (length hay) (λ i _ _. implements hay i)
