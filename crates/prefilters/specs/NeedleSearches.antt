-- The needles of a search.
use Rattle.std.specs.Prelude.{ℕ, List}
use Rattle.prefilters.specs.declared.prefilter.NeedleSearch.{NeedleSearch}
use Rattle.prefilters.specs.declared.prefilter.NeedleSearch.TheVariants.{Literals, Pairs}

-- the needles that are searched for
abbrev pub needles_in : NeedleSearch → List (List ℕ)
needles_in (Literals needles) = needles
needles_in (Pairs needles) = needles
