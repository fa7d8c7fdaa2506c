-- What a start state depends on.
use Rattle.std.specs.Prelude.{ℕ, Option}
use Rattle.automata_base.specs.declared.util.search.Anchored.{Anchored}

-- The look-behind byte and the anchored mode.
pub record StartConfig : Type 0 where
  -- the byte before the span, in the direction of the search; none at an end of the haystack
  pub look_behind : Option ℕ
  -- the anchored mode of the search
  pub anchored : Anchored
