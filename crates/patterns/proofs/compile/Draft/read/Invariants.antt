use Rattle.std.proofs.Common.{map, take}
use Rattle.patterns.specs.Drafts.{IsDraftOf}
use Rattle.patterns.proofs.compile.Draft.read.Given as goal

abbrev pub invariant-loop-text : goal.invariant-loop-text
invariant-loop-text l = IsDraftOf l.options (map (λ text. text.now) (take l.text-index l.texts)) l.self
