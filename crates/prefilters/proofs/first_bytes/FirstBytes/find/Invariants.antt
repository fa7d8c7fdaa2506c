use Rattle.prefilters.specs.FirstBytes.{HasNoFirstByte}
use Rattle.prefilters.proofs.first_bytes.FirstBytes.find.Given as goal

abbrev pub invariant-loop-at : goal.invariant-loop-at
invariant-loop-at l = HasNoFirstByte l.self-inside.table l.hay l.start l.at
