use Rattle.std.proofs.Common.{◌≡◌, ℕ, zero, suc, arith, ◌<◌, ◌+◌, ◌^◌, List, length, Bool, true, false, cond, set}
use Rattle.std.proofs.Common.{replicate, refl, sym, ap, ◌∙◌, add-one, length-set}
use Rattle.automata_hybrid.proofs.Words.{class_in, is_quit, marked, quit_id}

pub marked-zero :
    (classes : List ℕ) (quits : List Bool) (stride : ℕ) → marked classes quits stride 0 ≡ replicate stride (2 ^ 31)
unfolding marked
marked-zero classes quits stride = refl

marked-more :
    (classes : List ℕ) (quits : List Bool) (stride byte : ℕ)
    → marked classes quits stride (byte + 1)
    ≡ cond (is_quit quits byte) (set (marked classes quits stride byte) (class_in classes byte) (quit_id stride))
    (marked classes quits stride byte)
unfolding marked
marked-more classes quits stride byte = rw add-one refl

-- one iteration of the loop over the bytes
pub marked-step :
    (classes : List ℕ) (quits : List Bool) (stride byte : ℕ) (before after : List ℕ) (class quit : ℕ) (quits_at : Bool)
    → before ≡ marked classes quits stride byte → quits_at ≡ is_quit quits byte → class ≡ class_in classes byte
    → quit ≡ quit_id stride
    → after ≡ cond quits_at (set before class quit) before → after ≡ marked classes quits stride (byte + 1)
marked-step classes quits stride byte before after class quit quits_at was at class_is quit_is now =
    now ∙ rw (was, at, class_is, quit_is) (sym (marked-more classes quits stride byte))

pub length-cond :
    (xs ys : List ℕ) (class quit : ℕ) (b : Bool) → ys ≡ cond b (set xs class quit) xs → length ys ≡ length xs
length-cond xs ys class quit true e = ap length e ∙ length-set xs class quit
length-cond xs ys class quit false e = ap length e

-- if no byte is a quit byte, all cells of a new row are empty
pub marked-none :
    (classes : List ℕ) (quits : List Bool) (stride bytes : ℕ) → ((b : ℕ) → b < bytes → is_quit quits b ≡ false)
    → marked classes quits stride bytes ≡ replicate stride (2 ^ 31)
unfolding marked
marked-none classes quits stride zero none = refl
marked-none classes quits stride (suc byte) none =
    ap (λ z. cond z (set (marked classes quits stride byte) (class_in classes byte) (quit_id stride))
    (marked classes quits stride byte)) (none byte (omega arith))
    ∙ marked-none classes quits stride byte (λ b l. none b (omega arith))
