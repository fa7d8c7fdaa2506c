-- How marks before bytes accumulate.
use Rattle.std.proofs.Common.{ℕ, ◌≡◌, ◌+◌, ◌-◌, ◌<◌, ◌⊎◌, ◌&&◌, ◌||◌, Bool, true, false, eqb, ltb, List, drop, refl}
use Rattle.std.proofs.Common.{sym, ap, ◌∙◌, inl, inr, arith}
use borrow.Author.Count.{below_more}
use Rattle.std.proofs.lemmas.Bool.{lt-ltb, le-ltb}
use Rattle.std.proofs.lemmas.Bool.Decides.{eqb_tells}
use Rattle.std.proofs.lemmas.Grind.{common_steps}
use Rattle.automata_base.specs.ByteClasses.Classes.{bounds, look_bounds, states_bound, quits_bound, is_boundary}
use Rattle.automata_base.specs.ByteClasses.Classes.{is_quit}
use Rattle.automata_base.specs.Haystacks.Looks.{differ, Look, Start, End, StartLF, EndLF, StartCRLF, EndCRLF}
use Rattle.automata_base.specs.Retraced.Boundaries.{is_marked, Adds}
use Rattle.automata_base.specs.Nfas.Nodes.{Automaton}
use Rattle.std.proofs.lemmas.Bool.{or_parts}
use Rattle.std.proofs.Math.Bool.{or-false}

or-assoc : (a b c : Bool) → (a || b) || c ≡ a || (b || c)
or-assoc true b c = refl
or-assoc false b c = refl

pub adds_none : (m : List Bool) (f : ℕ → Bool) → ((b : ℕ) → f b ≡ false) → Adds m m f
adds_none m f none = record { marks = λ b h. sym (ap (λ z. is_marked m b || z) (none b) ∙ or-false (is_marked m b)) }

pub adds_both :
    (m n o : List Bool) (f g h : ℕ → Bool) → ((b : ℕ) → h b ≡ f b || g b) → Adds m n f → Adds n o g → Adds m o h
adds_both m n o f g h joined x y = record {
  marks = λ b l.
      y.marks b l
      ∙ (ap (λ z. z || g b) (x.marks b l)
      ∙ (or-assoc (is_marked m b) (f b) (g b) ∙ ap (λ z. is_marked m b || z) (sym (joined b))));
}

pub adds_like : (m n : List Bool) (f g : ℕ → Bool) → ((b : ℕ) → g b ≡ f b) → Adds m n f → Adds m n g
adds_like m n f g same x = record { marks = λ b l. x.marks b l ∙ ap (λ z. is_marked m b || z) (sym (same b)) }

-- The marks from a loop over the bytes from 1 up to `k`, exclusive.
abbrev pub upto : ℕ → (ℕ → Bool) → ℕ → Bool
upto k f b = ltb b k && f b

pub runs_next :
    (m n o : List Bool) (f : ℕ → Bool) (k : ℕ) (is : Bool)
    → is ≡ f k → Adds m n (upto k f) → Adds n o (λ b. eqb b k && is) → Adds m o (upto (k + 1) f)
runs_next m n o f k is e x y =
    adds_both m n o (upto k f) (λ b. eqb b k && is) (upto (k + 1) f) (λ b. go b (eqb_tells b k)) x y
  where
    go : (b : ℕ) → ((eqb b k ≡ true) × (b ≡ k)) ⊎ ((eqb b k ≡ false) × (b ≡ k → ⊥))
        → ltb b (k + 1) && f b ≡ (ltb b k && f b) || (eqb b k && is)
    go b (inl w) =
        ap (λ z. z && f b) (lt-ltb b (k + 1) (omega (arith, w.1)))
        ∙ (ap f w.1 ∙ (sym e ∙ (ap (λ z. z && is) (sym w.0)
        ∙ ap (λ z. (z && f b) || (eqb b k && is)) (sym (le-ltb b k (omega (arith, w.1)))))))
    go b (inr w) =
        ap (λ z. z && f b) (next b w.1)
        ∙ (sym (or-false (ltb b k && f b)) ∙ ap (λ z. (ltb b k && f b) || (z && is)) (sym w.0))
      where
        next : (b : ℕ) → (b ≡ k → ⊥) → ltb b (k + 1) ≡ ltb b k
        next b ne = grind (arith, common_steps)

-- The marks from a loop over a list whose items each mark some bytes. The items from index `i` on remain.
abbrev pub Left : {X : Type 0} → (List X → ℕ → Bool) → List Bool → List Bool → List X → ℕ → Type 0
Left G m n xs i = (b : ℕ) → b < 256 → (is_marked n b || G (drop i xs) b) ≡ (is_marked m b || G xs b)

pub unmarked_next :
    (f : ℕ → Bool) (k : ℕ) (any now : Bool) → now ≡ any || f k → (any ≡ false → (b : ℕ) → b < k → f b ≡ false)
    → now ≡ false → (b : ℕ) → b < k + 1 → f b ≡ false
unmarked_next f k any now sum before none b l =
    let o = or_parts any (f k) (sym sum ∙ none) in
    below_more (λ i. f i ≡ false) k (λ i j. before o.0 i j) o.1 b l

pub adds_no_quits :
    (m : List Bool) (quits : List Bool) → ((b : ℕ) → b < 256 → is_quit quits b ≡ false) → Adds m m (quits_bound quits)
adds_no_quits m quits none = record {
  marks = λ b l.
      let bound : quits_bound quits b ≡ false =
      ap (λ z. differ z (is_quit quits (b - 1))) (none b l) ∙ none (b - 1) (omega arith) in
      sym (ap (λ z. is_marked m b || z) bound ∙ or-false (is_marked m b));
}

-- Looks and states.
pub word_bounds :
    (t : ℕ) (look : Look)
    → (look ≡ Start → ⊥) → (look ≡ End → ⊥) → (look ≡ StartLF → ⊥) → (look ≡ EndLF → ⊥) → (look ≡ StartCRLF → ⊥)
    → (look ≡ EndCRLF → ⊥)
    → (b : ℕ) → look_bounds t look b ≡ ((bounds 48 57 b || bounds 65 90 b) || (bounds 95 95 b || bounds 97 122 b))
unfolding look_bounds
word_bounds t Start n1 n2 n3 n4 n5 n6 b = absurd (n1 refl)
word_bounds t End n1 n2 n3 n4 n5 n6 b = absurd (n2 refl)
word_bounds t StartLF n1 n2 n3 n4 n5 n6 b = absurd (n3 refl)
word_bounds t EndLF n1 n2 n3 n4 n5 n6 b = absurd (n4 refl)
word_bounds t StartCRLF n1 n2 n3 n4 n5 n6 b = absurd (n5 refl)
word_bounds t EndCRLF n1 n2 n3 n4 n5 n6 b = absurd (n6 refl)
word_bounds t look n1 n2 n3 n4 n5 n6 b = refl

-- All boundaries.
pub bounded_off :
    (a : Automaton) (quits : List Bool) (on : Bool) → on ≡ false → (b : ℕ) → is_boundary a quits on b ≡ true
unfolding is_boundary
bounded_off a quits on e b = ap (λ z. is_boundary a quits z b) e

pub bounded_on :
    (a : Automaton) (quits : List Bool) (on : Bool) (m n o : List Bool) → on ≡ true
    → ((b : ℕ) → b < 256 → is_marked m b ≡ false)
    → Adds m n (states_bound a.flags.line_terminator a.states) → Adds n o (quits_bound quits)
    → (b : ℕ) → b < 256 → is_marked o b ≡ is_boundary a quits on b
unfolding is_boundary
bounded_on a quits on m n o e none x y b h =
    y.marks b h
    ∙ (ap (λ z. z || quits_bound quits b)
    (x.marks b h ∙ ap (λ z. z || states_bound a.flags.line_terminator a.states b) (none b h))
    ∙ sym (ap (λ z. is_boundary a quits z b) e))
