-- The bytes of a class have no boundary between them.
use Rattle.std.proofs.Common.{ℕ, zero, suc, ◌≡◌, ◌+◌, ◌-◌, ◌<◌, ◌≤◌, ◌⊎◌, ◌||◌, Bool, true, false, not, cond, List}
use Rattle.std.proofs.Common.{refl, sym, ap, ◌∙◌, inl, inr, true≢false, arith}
use Rattle.std.proofs.lemmas.Bool.{or_parts, cases_lt}
use Rattle.automata_base.specs.ByteClasses.Classes.{is_quit, quits_bound}
use Rattle.automata_base.specs.ByteClasses.Classes.{states_bound, is_boundary}
use Rattle.automata_base.specs.ByteClasses.Classes.{boundary_count, class_of}
use Rattle.automata_base.specs.Haystacks.Looks.{differ}
use Rattle.automata_base.specs.Nfas.Nodes.{Automaton}
use Rattle.automata_base.proofs.ByteClasses.Boundaries.{count_none, count_grows}
use Rattle.automata_base.proofs.ByteClasses.Boundaries.{count_more}

no_more :
    (f : ℕ → Bool) (m n : ℕ) → boundary_count f m ≡ boundary_count f (suc n) → boundary_count f m ≤ boundary_count f n
    → (f (suc n) ≡ false) × (boundary_count f m ≡ boundary_count f n)
no_more f m n e l = (go (f (suc n)) (omega (arith, count_more f n, e, l)), omega (arith, count_more f n, e, l))
  where
    go : (b : Bool) → cond b 1 0 ≤ 0 → b ≡ false
    go true h = absurd (omega (arith, h))
    go false h = refl

walk_up :
    {X : Type 0} (f : ℕ → Bool) (g : ℕ → X) → ((b : ℕ) → f (suc b) ≡ false → g b ≡ g (suc b))
    → (u d : ℕ) → boundary_count f u ≡ boundary_count f (d + u) → g u ≡ g (d + u)
walk_up f g step u zero e = ap g (none u)
  where
    none : (u : ℕ) → u ≡ 0 + u
    none u = omega arith
walk_up f g step u (suc d) e =
    let more = no_more f u (d + u) (e ∙ ap (boundary_count f) (over d u)) (count_grows f u d) in
    walk_up f g step u d more.1 ∙ (step (d + u) more.0 ∙ ap g (sym (over d u)))
  where
    over : (d u : ℕ) → suc d + u ≡ suc (d + u)
    over d u = omega arith

-- A function that changes only at boundaries is constant on each class.
pub same_in_class :
    {X : Type 0} (f : ℕ → Bool) (g : ℕ → X) → ((b : ℕ) → f (suc b) ≡ false → g b ≡ g (suc b))
    → (u v : ℕ) → boundary_count f u ≡ boundary_count f v → g u ≡ g v
same_in_class f g step u v e = go (cases_lt u v)
  where
    gap : (m n : ℕ) → m ≤ n → n ≡ (n - m) + m
    gap m n h = omega (arith, h)

    go : (u < v) ⊎ (v ≤ u) → g u ≡ g v
    go (inl h) =
        let d = gap u v (omega (arith, h)) in
        walk_up f g step u (v - u) (e ∙ ap (boundary_count f) d) ∙ ap g (sym d)
    go (inr h) =
        let d = gap v u h in
        sym (walk_up f g step v (u - v) (sym e ∙ ap (boundary_count f) d) ∙ ap g (sym d))

-- What it means for a byte to have no boundary before it.
pub parts_of :
    (a : Automaton) (quits : List Bool) (on : Bool) (b : ℕ) → is_boundary a quits on b ≡ false
    → (on ≡ true) × (states_bound a.flags.line_terminator a.states b ≡ false) × (quits_bound quits b ≡ false)
unfolding is_boundary
parts_of a quits on b h =
    let p = or_parts (not on) (states_bound a.flags.line_terminator a.states b || quits_bound quits b) h in
    let q = or_parts (states_bound a.flags.line_terminator a.states b) (quits_bound quits b) p.1 in
    (is_on on p.0, q.0, q.1)
  where
    is_on : (x : Bool) → not x ≡ false → x ≡ true
    is_on true e = refl
    is_on false e = absurd (true≢false e)

differ_false : (x y : Bool) → differ x y ≡ false → y ≡ x
differ_false true true h = refl
differ_false true false h = absurd (true≢false h)
differ_false false true h = absurd (true≢false h)
differ_false false false h = refl

quit_next : (quits : List Bool) (b : ℕ) → quits_bound quits (suc b) ≡ false → is_quit quits b ≡ is_quit quits (suc b)
quit_next quits b h =
    ap (is_quit quits) (less b) ∙ differ_false (is_quit quits (suc b)) (is_quit quits (suc b - 1)) h
  where
    less : (b : ℕ) → b ≡ suc b - 1
    less b = omega arith

-- If a class has a quit byte, all its bytes are quit bytes.
pub class_quits :
    (a : Automaton) (quits : List Bool) (on : Bool) (u v : ℕ)
    → class_of a quits on u ≡ class_of a quits on v → is_quit quits u ≡ is_quit quits v
class_quits a quits on u v e =
    same_in_class (is_boundary a quits on) (is_quit quits) (λ b h. quit_next quits b (parts_of a quits on (suc b) h).2)
    u v e

-- If byte classes are off, each byte is its own class.
each_bounds : (a : Automaton) (quits : List Bool) (b : ℕ) → is_boundary a quits false b ≡ true
unfolding is_boundary
each_bounds a quits b = refl

pub class_off : (a : Automaton) (quits : List Bool) (byte : ℕ) → class_of a quits false byte ≡ byte
class_off a quits zero = count_none (is_boundary a quits false)
class_off a quits (suc byte) =
    let again = class_off a quits byte in
    let more = count_more (is_boundary a quits false) byte in
    let one = ap {B = ℕ} (λ x. cond x 1 0) (each_bounds a quits (suc byte)) in omega (arith, again, more, one)
