-- When the lazy DFAs of a regex may search a haystack.
use Rattle.std.proofs.Common.{ℕ, ◌≡◌, List, Bool}
use Rattle.std.proofs.Common.{false, true}
use Rattle.std.specs.Prelude.{MatchBool}
use Rattle.patterns.specs.Patterns.{IsFor}
use Rattle.patterns.specs.declared.compile.Options.{Options}
use Rattle.meta.specs.Regexes.{IsTextFor, MaySearchByDfas, MustSimulate, with_ascii}
use Rattle.meta.specs.RegexSets.{MaySearchByDfa}
use Rattle.meta.specs.declared.regexes.Regex.{Regex}
use Rattle.meta.specs.declared.set.RegexSet.{RegexSet}

-- the lazy DFAs may search the haystack
pub is_for :
    (o : Options) (regex : Regex) (hay : List ℕ) → IsTextFor o hay → MaySearchByDfas regex hay
    → IsFor (with_ascii regex.words o) hay
is_for o regex hay text may = (text, may)

-- a test that both answers explain
pub may_of :
    (b : Bool) (regex : Regex) (hay : List ℕ) → MatchBool b (MaySearchByDfas regex hay) (MustSimulate regex hay)
    → b ≡ true → MaySearchByDfas regex hay
may_of true regex hay h e = h
may_of false regex hay h e = absurd (cc)

-- the lazy DFA of a set may search the haystack
pub set_is_for :
    (o : Options) (set : RegexSet) (hay : List ℕ) → IsTextFor o hay → MaySearchByDfa set hay
    → IsFor (with_ascii set.words o) hay
set_is_for o set hay text may = (text, may)

-- what holds after a test that succeeds
pub tested : (P Q : Type 0) (b : Bool) → MatchBool b P Q → b ≡ true → P
tested P Q true h e = h
tested P Q false h e = absurd (cc)
