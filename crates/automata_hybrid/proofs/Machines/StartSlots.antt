use Rattle.std.proofs.Common.{◌≡◌, ℕ, zero, suc, ◌+◌, ◌*◌, ◌/◌, ◌%◌, ◌<◌, ◌≤◌, length, Bool, true, false, cond, eqb}
use Rattle.std.proofs.Common.{Option, None, Some, refl, sym, ap, ◌∙◌, arith, lit<}
use Rattle.std.proofs.lemmas.Nat.{div-mul-add, mod-mul-add}
use Rattle.std.proofs.lemmas.Option.{slice_get_past}
use Rattle.automata_hybrid.proofs.Words.{Anchored, Automaton, behind_of, dead, Machine, No, slot_behind, start_slots}
use Rattle.automata_hybrid.proofs.Words.{start_state_of}
use Rattle.automata_base.specs.Haystacks.Looks.{is_word_byte}
use Rattle.automata_base.specs.declared.util.search.Anchored.TheVariants.{Yes, Pattern}
use Rattle.automata_determinize.proofs.Powersets.Alike.{behind_alike}
use Rattle.automata_hybrid.specs.Machines.StartSlots.{group_of}

-- there are six kinds of look-behind
kind_below : (t : ℕ) (x : Option ℕ) → behind_of t x < 6
kind_below t None = lit< tt
kind_below t (Some u) = go (eqb u 10) (eqb u 13) (eqb u t) (is_word_byte u) where
  go : (a b c w : Bool) → cond a 3 (cond b 4 (cond c 5 (cond w 1 0))) < 6
  go true b c w = lit< tt
  go false true c w = lit< tt
  go false false true w = lit< tt
  go false false false true = lit< tt
  go false false false false = lit< tt

-- the anchored mode of a group of start slots
mode_of : ℕ → Anchored
mode_of zero = No
mode_of (suc zero) = Yes
mode_of (suc (suc pattern)) = Pattern pattern

mode_group : (mode : Anchored) → mode_of (group_of mode) ≡ mode
unfolding mode_of
mode_group No = refl
mode_group Yes = refl
mode_group (Pattern p) = refl

-- modes and look-behind bytes with the same slot have the same start state
pub starts_alike :
    (m : Machine) (mode other : Anchored) (x y : Option ℕ) → slot_behind m mode x ≡ slot_behind m other y
    → start_state_of m.nfa mode x ≡ start_state_of m.nfa other y
starts_alike m mode other x y e =
    let t : ℕ = m.nfa.flags.line_terminator in
    let k : ℕ = behind_of t x in
    let l : ℕ = behind_of t y in
    let group : group_of mode ≡ group_of other =
    sym (div-mul-add (group_of mode) 6 k (kind_below t x))
    ∙ (ap (λ n. n / 6) e ∙ div-mul-add (group_of other) 6 l (kind_below t y)) in
    let kind : k ≡ l =
    sym (mod-mul-add (group_of mode) 6 k (kind_below t x))
    ∙ (ap (λ n. n % 6) e ∙ mod-mul-add (group_of other) 6 l (kind_below t y)) in
    let same : mode ≡ other = sym (mode_group mode) ∙ (ap mode_of group ∙ mode_group other) in
    ap (λ v. start_state_of m.nfa v x) same ∙ behind_alike m.nfa other x y kind

-- the start state of a pattern that is out of range is dead
pub past_patterns :
    (a : Automaton) (p : ℕ) (x : Option ℕ) → length a.start_pattern ≤ p → start_state_of a (Pattern p) x ≡ dead
unfolding start_state_of
past_patterns a p x l = rw (slice_get_past a.start_pattern p l) refl

-- there are at most as many slots as with start states for each pattern
pub few_slots :
    (a : Automaton) (each : Bool) (slots : ℕ) → slots ≡ start_slots a each → slots ≤ 12 + 6 * length a.start_pattern
few_slots a true slots e = omega (arith, e)
few_slots a false slots e = omega (arith, e)
