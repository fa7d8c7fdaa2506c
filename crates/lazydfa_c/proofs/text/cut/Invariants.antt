use Rattle.std.proofs.Common.{◌≡◌, ◌++◌, All, drop, map}
use Rattle.std.specs.Prelude.{IsUtf8}
use Rattle.lazydfa_c.specs.Texts.{texts_in}
use Rattle.lazydfa_c.proofs.Cutting.{AddsUp}
use Rattle.lazydfa_c.proofs.text.cut.Given as goal

abbrev pub invariant-loop-length : goal.invariant-loop-length
invariant-loop-length l =
    (map (λ text. text.now) l.parts.items ++ texts_in l.rest (drop l.length-index l.lengths)
    ≡ texts_in l.texts l.lengths)
    × AddsUp l.texts l.rest l.lengths l.length-index
    × All IsUtf8 (map (λ text. text.now) l.parts.items)
    × (l.refusal ≡ l.fn.refusal)
