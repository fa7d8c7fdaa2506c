-- The default settings settle an automaton of a single match or fail state.
use Rattle.std.proofs.Common.{ℕ, ◌≡◌, ◌≤◌, ◌&&◌, ◌||◌, not, Bool, true, false, cond, ltb, List, [], ◌∷◌, length, Some}
use Rattle.std.proofs.Common.{None, refl, sym, ap, subst, arith}
use Rattle.std.proofs.lemmas.Bool.{le-ltb}
use Rattle.automata_hybrid.proofs.Words.{Automaton}
use Rattle.automata_base.specs.Nfas.Nodes.{stack_room}
use Rattle.automata_base.specs.declared.nfa.thompson.state.State.{State}
use Rattle.automata_base.specs.declared.nfa.thompson.state.State.TheVariants.{Match, Fail}
use Rattle.automata_config.specs.Options.{quits_of, unicode_word_boundary_of, unset}
use Rattle.automata_config.specs.Settling.{given_capacity, greatest_offset, has_unicode_word, holds_non_ascii}
use Rattle.automata_config.specs.Settling.{is_too_small, is_unsupported, settling_error, settled_minimum}
use Rattle.automata_config.specs.Settling.{settled_stride}
use Rattle.automata_base.proofs.ByteClasses.Boundaries.{stride_for-few}

no_reason :
    {X : Type 0} (p q r : Bool) (x y z : X) → p ≡ false → q ≡ false → r ≡ false
    → cond p (Some x) (cond q (Some y) (cond r (Some z) None)) ≡ None
no_reason false false false x y z e f g = refl
no_reason true q r x y z e f g = absurd (cc)
no_reason false true r x y z e f g = absurd (cc)
no_reason false false true x y z e f g = absurd (cc)

minimum_fits :
    (a : Automaton) → length a.states ≡ 1 → length a.start_pattern ≤ 1 → stack_room a.states ≤ 1
    → settled_minimum unset a ≤ 2097152
unfolding settled_minimum
minimum_fits a one few room =
    let stride : settled_stride unset a ≤ 512 = stride_for-few _ in
    omega (arith, stride, one, few, room)

within_given : (a : Automaton) → settled_minimum unset a ≤ 2097152 → settled_minimum unset a ≤ given_capacity unset a
within_given a fits = omega (arith, fits)

offset_fits : (a : Automaton) → greatest_offset unset a ≤ 134217727
unfolding greatest_offset
offset_fits a = let stride : settled_stride unset a ≤ 512 = stride_for-few _ in omega (arith, stride)

one_settles :
    (a : Automaton) → length a.states ≡ 1 → length a.start_pattern ≤ 1 → stack_room a.states ≤ 1
    → has_unicode_word a ≡ false
    → settling_error unset a ≡ None
one_settles a one few room word =
    no_reason (is_unsupported unset a) (is_too_small unset a) (ltb 134217727 (greatest_offset unset a)) _ _ _
    (ap (λ b. b && not (unicode_word_boundary_of unset || holds_non_ascii (quits_of unset))) word)
    (le-ltb (given_capacity unset a) (settled_minimum unset a) (within_given a (minimum_fits a one few room)))
    (le-ltb 134217727 (greatest_offset unset a) (offset_fits a))

pub match_settles : (a : Automaton) → a.states ≡ Match 0 ∷ [] → a.start_pattern ≡ 0 ∷ [] → settling_error unset a ≡ None
unfolding stack_room has_unicode_word
match_settles a states starts =
    one_settles a (ap (λ (s : List State). length s) states)
    (subst (λ (s : List ℕ). length s ≤ 1) (sym starts) (omega arith))
    (subst (λ (s : List State). stack_room s ≤ 1) (sym states) (omega arith))
    (subst (λ (s : List State). has_unicode_word (record a { states = s }) ≡ false) (sym states) refl)

pub fail_settles : (a : Automaton) → a.states ≡ Fail ∷ [] → a.start_pattern ≡ [] → settling_error unset a ≡ None
unfolding stack_room has_unicode_word
fail_settles a states starts =
    one_settles a (ap (λ (s : List State). length s) states)
    (subst (λ (s : List ℕ). length s ≤ 1) (sym starts) (omega arith))
    (subst (λ (s : List State). stack_room s ≤ 1) (sym states) (omega arith))
    (subst (λ (s : List State). has_unicode_word (record a { states = s }) ≡ false) (sym states) refl)
