use Rattle.std.proofs.Common.{map, take}
use Rattle.regex_extract.specs.Needles.{needles_of}
use Rattle.patterns.specs.Searches.{AreNeedlesOf}
use Rattle.patterns.proofs.needles.needles_of.Given as goal

abbrev pub invariant-loop-text : goal.invariant-loop-text
invariant-loop-text l =
    AreNeedlesOf l.options (map (λ text. text.now) (take l.text-index l.texts)) (needles_of l.needles)
