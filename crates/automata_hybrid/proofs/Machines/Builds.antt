use Rattle.std.proofs.Common.{◌≡◌, ℕ, zero, suc, ◌+◌, ◌-◌, ◌*◌, ◌^◌, ◌<◌, ◌≤◌, List, length, Bool, true, false, cond}
use Rattle.std.proofs.Common.{set, get_or, Option, None, Some, refl, sym, ap, ◌∙◌, subst, ◌⊎◌, inl, inr, ⊎_elim, arith}
use Rattle.std.proofs.Common.{length-set, lit<}
use Rattle.automata_hybrid.proofs.Words.{class_in, eoi_class, is_quit, IsMachine, IsOwn, IsUnit, Machine, marked}
use Rattle.automata_hybrid.proofs.Words.{match_kind_of, minimum_capacity, Powerset, quit_id, slice_index, start_slots}
use Rattle.automata_hybrid.proofs.Words.{successor, unit_class}
use Rattle.std.proofs.lemmas.Bool.{cases_lt, cases_eq}
use Rattle.std.proofs.lemmas.List.{length-replicate, get_or-replicate, get_or-set_same, get_or-set_other}
use Rattle.automata_determinize.specs.Powersets.Accounting.{effective_capacity}
use Rattle.automata_base.specs.ByteClasses.Classes.{is_boundary, boundary_count, class_of}
use Rattle.automata_base.specs.ByteClasses.Classes.{alphabet_length, stride_of, stride_for}
use Rattle.automata_determinize.proofs.Powersets.AlikeClasses.{class_step}
use Rattle.automata_base.proofs.Powersets.AlikeClasses.{class_quits}
use Rattle.automata_config.specs.Options.{starts_for_each_pattern_of, byte_classes_of}
use Rattle.automata_config.specs.Settled.{Settled}
use Rattle.automata_config.specs.Settling.{IsSettled, given_capacity, settled_minimum, greatest_offset}
use Rattle.automata_hybrid.specs.Machines.Machine.{IsSized}
use Rattle.automata_base.proofs.ByteClasses.Boundaries.{count_grows}

count_up_to : (f : ℕ → Bool) (n m : ℕ) → n ≤ m → boundary_count f n ≤ boundary_count f m
count_up_to f n m h =
    let k : ℕ = m - n in
    let e : k + n ≡ m = omega arith in subst (λ x. boundary_count f n ≤ boundary_count f x) e (count_grows f n k)

-- the length of a new row
marked-length : (cs : List ℕ) (qs : List Bool) (s n : ℕ) → length (marked cs qs s n) ≡ s
unfolding marked
marked-length cs qs s zero = length-replicate s (2 ^ 31)
marked-length cs qs s (suc n) = go (is_quit qs n) (marked-length cs qs s n) where
  go :
      (b : Bool) → length (marked cs qs s n) ≡ s
      → length (cond b (set (marked cs qs s n) (class_in cs n) (quit_id s)) (marked cs qs s n)) ≡ s
  go true again = length-set (marked cs qs s n) (class_in cs n) (quit_id s) ∙ again
  go false again = again

marked-either :
    (cs : List ℕ) (qs : List Bool) (s n class : ℕ) → class < s → (get_or (marked cs qs s n) class 0 ≡ quit_id s)
    ⊎ (get_or (marked cs qs s n) class 0 ≡ 2 ^ 31)
unfolding marked
marked-either cs qs s zero class l = inr (get_or-replicate s class (2 ^ 31) 0 l)
marked-either cs qs s (suc n) class l = go (is_quit qs n) (marked-either cs qs s n class l) where
  go :
      (b : Bool) → (get_or (marked cs qs s n) class 0 ≡ quit_id s) ⊎ (get_or (marked cs qs s n) class 0 ≡ 2 ^ 31)
      → (get_or (cond b (set (marked cs qs s n) (class_in cs n) (quit_id s)) (marked cs qs s n)) class 0 ≡ quit_id s)
      ⊎ (get_or (cond b (set (marked cs qs s n) (class_in cs n) (quit_id s)) (marked cs qs s n)) class 0 ≡ 2 ^ 31)
  go false again = again
  go true again = ⊎_elim
      (λ (e : class ≡ class_in cs n). inl
      (let w : class_in cs n < length (marked cs qs s n) = rw marked-length (omega (arith, e, l)) in
      rw e (get_or-set_same (marked cs qs s n) (class_in cs n) (quit_id s) 0 w)))
      (λ (ne : class ≡ class_in cs n → ⊥).
      rw (get_or-set_other (marked cs qs s n) (class_in cs n) class (quit_id s) 0 ne) again)
      (cases_eq class (class_in cs n))

marked-free :
    (cs : List ℕ) (qs : List Bool) (s n class : ℕ) → class < s
    → ((b : ℕ) → b < n → is_quit qs b ≡ true → class ≡ class_in cs b → ⊥) → get_or (marked cs qs s n) class 0 ≡ 2 ^ 31
unfolding marked
marked-free cs qs s zero class l none = get_or-replicate s class (2 ^ 31) 0 l
marked-free cs qs s (suc n) class l none =
    go (is_quit qs n) refl (marked-free cs qs s n class l (λ b h. none b (omega (arith, h)))) where
      go :
          (b : Bool) → is_quit qs n ≡ b → get_or (marked cs qs s n) class 0 ≡ 2 ^ 31
          → get_or (cond b (set (marked cs qs s n) (class_in cs n) (quit_id s)) (marked cs qs s n)) class 0 ≡ 2 ^ 31
      go false e again = again
      go true e again =
          rw (get_or-set_other (marked cs qs s n) (class_in cs n) class (quit_id s) 0 (none n (omega arith) e)) again

marked-quit :
    (cs : List ℕ) (qs : List Bool) (s n byte : ℕ) → byte < n → class_in cs byte < s → is_quit qs byte ≡ true
    → get_or (marked cs qs s n) (class_in cs byte) 0 ≡ quit_id s
unfolding marked
marked-quit cs qs s zero byte h l q = absurd (omega (arith, h))
marked-quit cs qs s (suc n) byte h l q =
    go (is_quit qs n) refl (cases_lt byte n) (λ k. marked-quit cs qs s n byte k l q) where
      here :
          class_in cs byte ≡ class_in cs n
          → get_or (set (marked cs qs s n) (class_in cs n) (quit_id s)) (class_in cs byte) 0 ≡ quit_id s
      here e =
          let w : class_in cs n < length (marked cs qs s n) = rw marked-length (omega (arith, e, l)) in
          rw e (get_or-set_same (marked cs qs s n) (class_in cs n) (quit_id s) 0 w)

      go :
          (b : Bool) → is_quit qs n ≡ b → (byte < n) ⊎ (n ≤ byte)
          → (byte < n → get_or (marked cs qs s n) (class_in cs byte) 0 ≡ quit_id s)
          → get_or (cond b (set (marked cs qs s n) (class_in cs n) (quit_id s)) (marked cs qs s n)) (class_in cs byte) 0
          ≡ quit_id s
      go false e (inl k) again = again k
      go false e (inr k) again =
          let same : byte ≡ n = omega (arith, k, h) in let clash : true ≡ false = sym q ∙ ap (is_quit qs) same ∙ e in cc
      go true e (inl k) again =
          ⊎_elim here
          (λ (ne : class_in cs byte ≡ class_in cs n → ⊥).
          rw (get_or-set_other (marked cs qs s n) (class_in cs n) (class_in cs byte) (quit_id s) 0 ne) (again k))
          (cases_eq (class_in cs byte) (class_in cs n))
      go true e (inr k) again = let same : byte ≡ n = omega (arith, k, h) in here (ap (class_in cs) same)

-- what a DFA is built from
pub record IsBuilt (s : Settled) (m : Machine) : Type 0 where
  pub settled : IsSettled m.config m.nfa s
  pub sizes : IsSized m
  pub classes : m.classes ≡ s.classes
  pub quits : m.quits ≡ s.quits
  pub end_below : eoi_class s.classes < stride_of s.classes
  pub small : stride_of s.classes ≤ 512
  pub capacity : m.capacity ≡ s.capacity

stride_is : (s : Settled) (m : Machine) → IsBuilt s m → m.stride ≡ stride_of s.classes
stride_is s m i = i.sizes.stride ∙ ap (λ (xs : List ℕ). stride_of xs) i.classes

class_is :
    (s : Settled) (m : Machine) → IsBuilt s m → (b : ℕ) → b < 256
    → class_in m.classes b ≡ class_of m.nfa m.quits (byte_classes_of m.config) b
class_is s m i b h = rw (i.classes, i.quits) (i.settled.classes b h)

class_below : (s : Settled) (m : Machine) → IsBuilt s m → (b : ℕ) → b < 256 → class_in m.classes b < eoi_class m.classes
class_below s m i b h =
    let f : ℕ → Bool = is_boundary m.nfa m.quits (byte_classes_of m.config) in
    let le : boundary_count f b ≤ boundary_count f 255 = count_up_to f b 255 (omega (arith, h)) in
    let last : class_in m.classes 255 ≡ boundary_count f 255 = class_is s m i 255 (lit< tt) in
    omega (arith, le, last, class_is s m i b h)

class_within : (s : Settled) (m : Machine) → IsBuilt s m → (b : ℕ) → b < 256 → class_in m.classes b < m.stride
class_within s m i b h =
    let e : eoi_class m.classes < m.stride = rw (stride_is s m i, i.classes) i.end_below in
    omega (arith, e, class_below s m i b h)

-- a DFA that is built satisfies `IsMachine`
pub IsBuilt-IsMachine : (s : Settled) (m : Machine) → IsBuilt s m → IsMachine m
unfolding IsOwn settled_minimum greatest_offset
IsBuilt-IsMachine s m i =
    let end : eoi_class m.classes < m.stride = rw (stride_is s m i, i.classes) i.end_below in
    let small : m.stride ≤ 512 = rw (stride_is s m i) i.small in
    record {
      sizes = i.sizes;
      template = record {
        positive = omega (arith, end);
        small = small;
        power = (alphabet_length m.classes, i.sizes.stride);
        whole = ap length i.sizes.template ∙ marked-length m.classes m.quits m.stride 256;
        cells = λ class l.
            subst (λ (row : List ℕ). (slice_index row class ≡ quit_id m.stride) ⊎ (slice_index row class ≡ 2 ^ 31))
            (sym i.sizes.template)
            (marked-either m.classes m.quits m.stride 256 class l);
      };
      below = end;
      quit =
          λ b h q. at_row (class_in m.classes b) (quit_id m.stride)
          (marked-quit m.classes m.quits m.stride 256 b h (class_within s m i b h) q);
      free =
          λ b h q. at_row (class_in m.classes b) (2 ^ 31)
          (marked-free m.classes m.quits m.stride 256 (class_in m.classes b) (class_within s m i b h) (apart b h q));
      end_free =
          at_row (eoi_class m.classes) (2 ^ 31)
          (marked-free m.classes m.quits m.stride 256 (eoi_class m.classes) end
          (λ b h q e. absurd (omega (arith, e, class_below s m i b h))));
      alike = alike;
      enough = enough;
      offsets = offsets;
    } where
      at_row :
          (class id : ℕ) → slice_index (marked m.classes m.quits m.stride 256) class ≡ id
          → slice_index m.template class ≡ id
      at_row class id h = subst (λ (row : List ℕ). slice_index row class ≡ id) (sym i.sizes.template) h

      apart :
          (b : ℕ) → b < 256 → is_quit m.quits b ≡ false → (u : ℕ) → u < 256 → is_quit m.quits u ≡ true
          → class_in m.classes b ≡ class_in m.classes u → ⊥
      apart b h q u k p e =
          let same : is_quit m.quits b ≡ is_quit m.quits u =
          class_quits m.nfa m.quits (byte_classes_of m.config) b u
          (sym (class_is s m i b h) ∙ e ∙ class_is s m i u k) in
          let clash : false ≡ true = sym q ∙ same ∙ p in
          cc

      alike :
          (q : Powerset) (unit other : Option ℕ) → IsOwn m.nfa q → IsUnit unit → IsUnit other
          → unit_class m unit ≡ unit_class m other
          → successor m.nfa (match_kind_of m.config) q unit ≡ successor m.nfa (match_kind_of m.config) q other
      alike q None None own h k e = refl
      alike q None (Some v) own h k e = absurd (omega (arith, e, class_below s m i v k))
      alike q (Some u) None own h k e = absurd (omega (arith, e, class_below s m i u h))
      alike q (Some u) (Some v) own h k e =
          class_step m.nfa m.quits (byte_classes_of m.config) (match_kind_of m.config) q u v
          (sym (class_is s m i u h) ∙ e ∙ class_is s m i v k) own.1

      same_stride : m.stride ≡ stride_for (class_of m.nfa s.quits (byte_classes_of m.config) 255 + 2)
      same_stride = stride_is s m i ∙ ap (λ n. stride_for (n + 2)) (i.settled.classes 255 (lit< tt))

      minimum_is : settled_minimum m.config m.nfa ≡ minimum_capacity m.stride m.slots m.greatest m.fixed
      minimum_is = rw (same_stride, i.sizes.slots, i.sizes.greatest, i.sizes.fixed, i.settled.quits) refl

      enough : minimum_capacity m.stride m.slots m.greatest m.fixed ≤ m.capacity
      enough =
          let given : m.capacity ≡ effective_capacity (given_capacity m.config m.nfa) (settled_minimum m.config m.nfa) =
          i.capacity ∙ i.settled.capacity in
          subst (λ n. n ≤ m.capacity) minimum_is
          (subst (λ n. settled_minimum m.config m.nfa ≤ n) (sym given) (omega arith))

      offsets : (m.slots + 4) * m.stride < 2 ^ 27
      offsets =
          let le : (4 + start_slots m.nfa (starts_for_each_pattern_of m.config)) * m.stride ≤ 134217727 =
          rw (same_stride, i.settled.quits) i.settled.offsets in
          let e : (m.slots + 4) * m.stride ≡ (4 + start_slots m.nfa (starts_for_each_pattern_of m.config)) * m.stride =
          rw i.sizes.slots (omega arith) in
          omega (arith, le, e)
