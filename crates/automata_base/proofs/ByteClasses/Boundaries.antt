-- Boundaries between bytes, the classes that they form, and the stride that has room for the classes.
use Rattle.std.proofs.Common.{ℕ, zero, suc, ◌≡◌, ◌+◌, ◌-◌, ◌*◌, ◌^◌, ◌<◌, ◌≤◌, Bool, true, false, eqb, get_or-set_other}
use Rattle.std.proofs.Common.{length-set, subst}
use Rattle.std.proofs.Common.{cond, List, length, get_or, refl, sym, ap, ◌∙◌, arith, ◌⊎◌, inl, inr}
use Rattle.std.proofs.Math.Nat.{pow-le-pow_right}
use Rattle.std.proofs.lemmas.Bool.{cases_lt}
use Rattle.std.proofs.lemmas.Bool.Decides.{eqb_tells, nat_tests}
use Rattle.std.proofs.lemmas.List.{get_or-set_same}
use Rattle.std.proofs.Math.ListN.{set}
use Rattle.std.specs.Int.{from_bool}
use Rattle.automata_base.specs.ByteClasses.Classes.{boundary_count, class_in, stride_for, AreClasses}

pub count_more : (f : ℕ → Bool) (n : ℕ) → boundary_count f (suc n) ≡ boundary_count f n + cond (f (suc n)) 1 0
unfolding boundary_count
count_more f n = refl

pub count_none : (f : ℕ → Bool) → boundary_count f 0 ≡ 0
unfolding boundary_count
count_none f = refl

one_at_most : (b : Bool) → cond b 1 0 ≤ 1
one_at_most true = omega arith
one_at_most false = omega arith

-- Functions with the same boundaries have the same counts.
pub count-same : (f g : ℕ → Bool) (n : ℕ) → ((b : ℕ) → b ≤ n → f b ≡ g b) → boundary_count f n ≡ boundary_count g n
count-same f g zero h = count_none f ∙ sym (count_none g)
count-same f g (suc n) h =
    count_more f n
    ∙ (ap (λ c. c + cond (f (suc n)) 1 0) (count-same f g n (λ b l. h b (omega (arith, l))))
    ∙ (ap (λ t. boundary_count g n + cond t 1 0) (h (suc n) (omega arith)) ∙ sym (count_more g n)))

pub count_rises :
    (f : ℕ → Bool) (n : ℕ) → (boundary_count f n ≤ boundary_count f (n + 1))
    × (boundary_count f (n + 1) ≤ boundary_count f n + 1)
count_rises f n =
    let more : boundary_count f (n + 1) ≡ boundary_count f n + cond (f (suc n)) 1 0 =
    ap (boundary_count f) (add_one n) ∙ count_more f n in
    (omega (arith, more), omega (arith, more, one_at_most (f (suc n))))
  where
    add_one : (n : ℕ) → n + 1 ≡ suc n
    add_one n = omega arith

pub count_small : (f : ℕ → Bool) (n : ℕ) → boundary_count f n ≤ n
count_small f zero = omega (arith, count_none f)
count_small f (suc n) = omega (arith, count_more f n, one_at_most (f (suc n)), count_small f n)

pub count_grows : (f : ℕ → Bool) (m n : ℕ) → boundary_count f m ≤ boundary_count f (n + m)
count_grows f m zero = omega (arith, ap (boundary_count f) (zero_add m))
  where
    zero_add : (m : ℕ) → 0 + m ≡ m
    zero_add m = omega arith
count_grows f m (suc n) =
    let up = count_rises f (n + m) in
    let e = ap (boundary_count f) (move n m) in
    omega (arith, up.0, count_grows f m n, e)
  where
    move : (n m : ℕ) → suc n + m ≡ n + m + 1
    move n m = omega arith

-- The count up to a byte, from the count up to the previous byte.
pub count_next :
    (f : ℕ → Bool) (k c : ℕ) → 1 ≤ k → c ≡ boundary_count f (k - 1) → c + cond (f k) 1 0 ≡ boundary_count f k
count_next f zero c h e = absurd (omega (arith, h))
count_next f (suc n) c h e =
    ap (λ x. x + cond (f (suc n)) 1 0) (e ∙ ap (boundary_count f) (less n)) ∙ sym (count_more f n)
  where
    less : (n : ℕ) → suc n - 1 ≡ n
    less n = omega arith

pub from_bool-cond : (b : Bool) → from_bool b ≡ cond b 1 0
from_bool-cond true = refl
from_bool-cond false = refl

pub from_bool-small : (b : Bool) → from_bool b ≤ 1
from_bool-small true = omega arith
from_bool-small false = omega arith

-- The table of counts: its first entry, and one more entry.
pub first_counted :
    (f : ℕ → Bool) (map : List ℕ) → get_or map 0 0 ≡ 0 → (k : ℕ) → k < 1 → get_or map k 0 ≡ boundary_count f k
first_counted f map e zero h = e ∙ sym (count_none f)
first_counted f map e (suc k) h = absurd (omega (arith, h))

pub next_counted :
    (f : ℕ → Bool) (map : List ℕ) (n c : ℕ) → n < length map → c ≡ boundary_count f n
    → ((k : ℕ) → k < n → get_or map k 0 ≡ boundary_count f k)
    → (k : ℕ) → k < n + 1 → get_or (set map n c) k 0 ≡ boundary_count f k
next_counted f map n c within e h k l = go (eqb_tells k n)
  where
    go :
        ((eqb k n ≡ true) × (k ≡ n)) ⊎ ((eqb k n ≡ false) × (k ≡ n → ⊥)) → get_or (set map n c) k 0 ≡ boundary_count f k
    go (inl w) =
        ap (λ z. get_or (set map n c) z 0) w.1
        ∙ (get_or-set_same map n c 0 within ∙ (e ∙ ap (boundary_count f) (sym w.1)))
    go (inr w) = get_or-set_other map n k c 0 w.1 ∙ h k (omega (arith, l, w.1))

-- The table holds the counts of the bytes below `byte`, and `class` is the last of them.
pub record Counted (f : ℕ → Bool) (map : List ℕ) (class byte : ℕ) : Type 0 where
  pub whole : length map ≡ 256
  pub last : class ≡ boundary_count f (byte - 1)
  pub small : class < byte
  pub done : (k : ℕ) → k < byte → get_or map k 0 ≡ boundary_count f k

pub counted_next :
    (f : ℕ → Bool) (map : List ℕ) (class byte more : ℕ) → 1 ≤ byte → byte < 256 → more ≡ cond (f byte) 1 0
    → Counted f map class byte → Counted f (set map byte (class + more)) (class + more) (byte + 1)
counted_next f map class byte more first within e c =
    let next : class + more ≡ boundary_count f byte = ap (λ z. class + z) e ∙ count_next f byte class first c.last in
    record {
      whole = length-set map byte (class + more) ∙ c.whole;
      last = next ∙ ap (boundary_count f) (omega arith);
      small = omega (arith, c.small, e, one_at_most (f byte));
      done = next_counted f map byte (class + more) (omega (arith, c.whole, within)) next c.done;
    }

pub counted_same :
    (f : ℕ → Bool) (map : List ℕ) (class byte : ℕ) → 1 ≤ byte → byte < 256 → f byte ≡ false
    → Counted f map class byte → Counted f (set map byte class) class (byte + 1)
counted_same f map class byte first within e c =
    subst (λ z. Counted f (set map byte z) z (byte + 1)) (none class)
    (counted_next f map class byte 0 first within (sym (ap (λ z. cond z 1 0) e)) c)
  where
    none : (class : ℕ) → class + 0 ≡ class
    none class = omega arith

pub counted_at : (f : ℕ → Bool) (map : List ℕ) (class m n : ℕ) → m ≡ n → Counted f map class m → Counted f map class n
counted_at f map class m n e c = subst (Counted f map class) e c

pub are_classes :
    (f : ℕ → Bool) (classes : List ℕ) → length classes ≡ 256
    → ((byte : ℕ) → byte < 256 → class_in classes byte ≡ boundary_count f byte) → AreClasses classes
are_classes f classes whole same = record {
  whole = whole;
  rising = λ byte h.
      let up = count_rises f byte in
      let here = same byte (omega (arith, h)) in
      let there = same (byte + 1) (omega (arith, h)) in
      (omega (arith, up.0, here, there), omega (arith, up.1, here, there));
  below = λ byte h.
      let up = count_grows f byte (255 - byte) in
      let e = ap (boundary_count f) (gap byte h) in
      let here = same byte h in
      let last = same 255 (omega arith) in
      omega (arith, up, e, here, last);
  few = let last = same 255 (omega arith) in omega (arith, last, count_small f 255);
}
  where
    gap : (byte : ℕ) → byte < 256 → 255 - byte + byte ≡ 255
    gap byte h = omega (arith, h)

-- The stride has room for the classes.
pub stride_for-enough : (len : ℕ) → len ≤ 257 → len ≤ stride_for len
unfolding stride_for
stride_for-enough len h = grind (arith, nat_tests)

pub stride_for-few : (len : ℕ) → stride_for len ≤ 512
unfolding stride_for
stride_for-few len = grind (arith, nat_tests)

big_power : (r : ℕ) → 9 ≤ r → 512 ≤ 2 ^ r
big_power r h = pow-le-pow_right {n = 2} (omega arith) {i = 9} {j = r} h

pub stride_for-is : (len r : ℕ) → len ≤ 257 → 2 ^ r ≤ len - 1 → len - 1 < 2 * 2 ^ r → 2 ^ (r + 1) ≡ stride_for len
unfolding stride_for
stride_for-is len zero h l m = grind (arith, nat_tests)
stride_for-is len (suc zero) h l m = grind (arith, nat_tests)
stride_for-is len (suc (suc zero)) h l m = grind (arith, nat_tests)
stride_for-is len (suc (suc (suc zero))) h l m = grind (arith, nat_tests)
stride_for-is len (suc (suc (suc (suc zero)))) h l m = grind (arith, nat_tests)
stride_for-is len (suc (suc (suc (suc (suc zero))))) h l m = grind (arith, nat_tests)
stride_for-is len (suc (suc (suc (suc (suc (suc zero)))))) h l m = grind (arith, nat_tests)
stride_for-is len (suc (suc (suc (suc (suc (suc (suc zero))))))) h l m = grind (arith, nat_tests)
stride_for-is len (suc (suc (suc (suc (suc (suc (suc (suc zero)))))))) h l m = grind (arith, nat_tests)
stride_for-is len (suc (suc (suc (suc (suc (suc (suc (suc (suc r))))))))) h l m =
    absurd (omega (arith, h, l, big_power (suc (suc (suc (suc (suc (suc (suc (suc (suc r))))))))) (omega arith)))

pub log_few : (len r : ℕ) → len ≤ 257 → 2 ^ r ≤ len - 1 → r + 1 ≤ 9
log_few len r h l = go (cases_lt r 9)
  where
    go : (r < 9) ⊎ (9 ≤ r) → r + 1 ≤ 9
    go (inl less) = omega (arith, less)
    go (inr more) = absurd (omega (arith, h, l, big_power r more))
