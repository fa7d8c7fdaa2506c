-- The bytes from 0x80 on in a quit set.
use Rattle.std.proofs.Common.{ℕ, suc, ◌≡◌, ◌+◌, ◌-◌, ◌<◌, ◌≤◌, ◌&&◌, Bool, true, List, refl, ap, ◌∙◌, arith}
use Rattle.automata_base.specs.ByteClasses.Classes.{is_quit}
use Rattle.automata_config.specs.Settling.{are_quits}

more : (quits : List Bool) (b n : ℕ) → are_quits quits b (suc n) ≡ is_quit quits b && are_quits quits (b + 1) n
unfolding are_quits
more quits b n = refl

none : (quits : List Bool) (b : ℕ) → are_quits quits b 0 ≡ true
unfolding are_quits
none quits b = refl

pub are_quits-more :
    (quits : List Bool) (b : ℕ) → b < 256
    → are_quits quits b (256 - b) ≡ is_quit quits b && are_quits quits (b + 1) (256 - (b + 1))
are_quits-more quits b h = ap (are_quits quits b) (left b h) ∙ more quits b (256 - (b + 1))
  where
    left : (b : ℕ) → b < 256 → 256 - b ≡ suc (256 - (b + 1))
    left b h = omega (arith, h)

pub are_quits-all : (quits : List Bool) (b : ℕ) → 256 ≤ b → are_quits quits b (256 - b) ≡ true
are_quits-all quits b h = ap (are_quits quits b) (left b h) ∙ none quits b
  where
    left : (b : ℕ) → 256 ≤ b → 256 - b ≡ 0
    left b h = omega (arith, h)
