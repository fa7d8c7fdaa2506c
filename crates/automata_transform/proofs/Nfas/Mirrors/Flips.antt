-- A reversed look holds exactly if the look holds as seen from the other side.
use Rattle.std.proofs.Common.{ℕ, ◌≡◌, Bool, true, false, not, ◌&&◌, Option, refl, ap}
use Rattle.automata_base.specs.declared.util.look.Look.{Look}
use Rattle.automata_base.specs.Haystacks.Looks.{holds, differ, is_word}
use Rattle.automata_base.specs.declared.util.look.Look.TheVariants.{Start, End, StartLF, EndLF, StartCRLF, EndCRLF}
use Rattle.automata_base.specs.declared.util.look.Look.TheVariants.{WordAscii, WordAsciiNegate, WordUnicode}
use Rattle.automata_base.specs.declared.util.look.Look.TheVariants.{WordUnicodeNegate}
use Rattle.automata_base.specs.declared.util.look.Look.TheVariants.{WordStartAscii, WordEndAscii, WordStartUnicode}
use Rattle.automata_base.specs.declared.util.look.Look.TheVariants.{WordEndUnicode}
use Rattle.automata_base.specs.declared.util.look.Look.TheVariants.{WordStartHalfAscii, WordEndHalfAscii}
use Rattle.automata_base.specs.declared.util.look.Look.TheVariants.{WordStartHalfUnicode}
use Rattle.automata_base.specs.declared.util.look.Look.TheVariants.{WordEndHalfUnicode}
use Rattle.automata_transform.specs.Nfas.Mirrors.{flip}

swap_and : (a b : Bool) → (a && b) ≡ (b && a)
swap_and true true = refl
swap_and true false = refl
swap_and false true = refl
swap_and false false = refl

swap_differ : (a b : Bool) → differ a b ≡ differ b a
swap_differ true true = refl
swap_differ true false = refl
swap_differ false true = refl
swap_differ false false = refl

pub flip_holds :
    (t : ℕ) (r : Bool) (look : Look) (prev next : Option ℕ)
    → holds t (not r) (flip look) next prev ≡ holds t r look prev next
flip_holds t r Start prev next = refl
flip_holds t r End prev next = refl
flip_holds t r StartLF prev next = refl
flip_holds t r EndLF prev next = refl
flip_holds t true StartCRLF prev next = refl
flip_holds t false StartCRLF prev next = refl
flip_holds t true EndCRLF prev next = refl
flip_holds t false EndCRLF prev next = refl
flip_holds t r WordAscii prev next = swap_differ (is_word next) (is_word prev)
flip_holds t r WordAsciiNegate prev next = ap not (swap_differ (is_word next) (is_word prev))
flip_holds t r WordUnicode prev next = swap_differ (is_word next) (is_word prev)
flip_holds t r WordUnicodeNegate prev next = ap not (swap_differ (is_word next) (is_word prev))
flip_holds t r WordStartAscii prev next = swap_and (is_word next) (not (is_word prev))
flip_holds t r WordEndAscii prev next = swap_and (not (is_word next)) (is_word prev)
flip_holds t r WordStartUnicode prev next = swap_and (is_word next) (not (is_word prev))
flip_holds t r WordEndUnicode prev next = swap_and (not (is_word next)) (is_word prev)
flip_holds t r WordStartHalfAscii prev next = refl
flip_holds t r WordEndHalfAscii prev next = refl
flip_holds t r WordStartHalfUnicode prev next = refl
flip_holds t r WordEndHalfUnicode prev next = refl
