-- The automaton distinguishes no two bytes of a class.
use Rattle.std.proofs.Common.{ℕ, zero, suc, ◌≡◌, ◌+◌, ◌-◌, ◌||◌, Bool, true, false, not, cond, eqb, List}
use Rattle.std.proofs.Common.{[], ◌∷◌, get_or, Some, None, refl, sym, ap, ◌∙◌, true≢false, arith}
use Rattle.std.proofs.lemmas.Bool.{or_parts, eqb-true}
use Rattle.std.proofs.lemmas.Grind.{common_steps}
use Rattle.automata_base.specs.declared.nfa.thompson.state.State.{State}
use Rattle.automata_base.specs.declared.nfa.thompson.state.State.TheVariants as is
use Rattle.automata_base.specs.declared.nfa.thompson.state.Transition.{Transition}
use Rattle.automata_base.specs.ByteClasses.Classes.{bounds, transitions_bound, targets_bound}
use Rattle.automata_base.specs.ByteClasses.Classes.{look_bounds, state_bounds, states_bound, is_boundary}
use Rattle.automata_base.specs.ByteClasses.Classes.{class_of}
use Rattle.std.specs.Prelude.{slice_get}
use Rattle.automata_base.specs.declared.util.search.MatchKind.{MatchKind}
use Rattle.automata_base.specs.declared.util.look.Look.{Look}
use Rattle.automata_base.specs.declared.util.look.Look.TheVariants.{Start, End, StartLF, EndLF, StartCRLF, EndCRLF}
use Rattle.automata_base.specs.Haystacks.Looks.{within}
use Rattle.automata_base.specs.Haystacks.Looks.{is_word_byte}
use Rattle.automata_base.specs.Nfas.Nfa.{takes, takes_at, takes_in, node_or_fail, any_node, looks_at}
use Rattle.automata_base.specs.Nfas.Nodes.{Automaton, nfa_of, node_of, nodes_of, ranges_of, dense_from}
use Rattle.automata_base.specs.Powersets.Passes.{is_word_look, is_crlf_look}
use Rattle.automata_base.specs.Powersets.Powerset.{Powerset}
use Rattle.automata_determinize.specs.Retraced.Steps.{successor}
use Rattle.automata_determinize.specs.Paths.Starts.{NeedsOwnLooks}
use Rattle.automata_determinize.proofs.Powersets.Alike.{alike_step}
use Rattle.automata_determinize.proofs.Powersets.AlikeBytes.{is_line_look, IsAlike}
use Rattle.automata_base.proofs.Powersets.Dense.{some_unless}
use Rattle.automata_base.proofs.Powersets.Dense.{within_itself}
use Rattle.automata_base.proofs.Powersets.Dense.{within_other}
use Rattle.automata_base.proofs.Powersets.Dense.{dense_below}
use Rattle.automata_base.proofs.Powersets.AlikeClasses.{same_in_class, parts_of}

-- If no range has a boundary before the next byte, both bytes are in the range or neither is.
within_next : (lo hi b : ℕ) → bounds lo hi (suc b) ≡ false → within lo hi b ≡ within lo hi (suc b)
within_next lo hi b h =
    let p = or_parts (eqb (suc b) lo) (eqb (suc b) (hi + 1)) h in
    grind (arith, common_steps, p.0, p.1)

eqb_next : (k b : ℕ) → bounds k k (suc b) ≡ false → eqb b k ≡ eqb (suc b) k
eqb_next k b h =
    let p = or_parts (eqb (suc b) k) (eqb (suc b) (k + 1)) h in
    grind (arith, common_steps, p.0, p.1)

ranges_next :
    (ts : List Transition) (b : ℕ) → transitions_bound ts (suc b) ≡ false
    → takes_in (ranges_of ts) b ≡ takes_in (ranges_of ts) (suc b)
ranges_next [] b h = refl
ranges_next (t ∷ ts) b h =
    let p = or_parts (bounds t.lo t.hi (suc b)) (transitions_bound ts (suc b)) h in
    ap (λ z. cond z (Some t.next) (takes_in (ranges_of ts) b)) (within_next t.lo t.hi b p.0)
    ∙ ap (λ z. cond (within t.lo t.hi (suc b)) (Some t.next) z) (ranges_next ts b p.1)

dense_takes : (xs : List ℕ) (k i u : ℕ) → u ≡ k + i → takes_in (dense_from k xs) u ≡ some_unless (get_or xs i 0)
dense_takes [] k i u e = refl
dense_takes (zero ∷ xs) k zero u e = dense_below xs (suc k) u (omega (arith, e))
dense_takes (zero ∷ xs) k (suc i) u e = dense_takes xs (suc k) i u (omega (arith, e))
dense_takes (suc m ∷ xs) k zero u e =
    let same : u ≡ k = omega (arith, e) in
    ap (λ b. cond b (Some (suc m)) (takes_in (dense_from (suc k) xs) u)) (ap (λ z. within k k z) same ∙ within_itself k)
dense_takes (suc m ∷ xs) k (suc i) u e =
    ap (λ b. cond b (Some (suc m)) (takes_in (dense_from (suc k) xs) u)) (within_other k u (λ f. omega (arith, e, f)))
    ∙ dense_takes xs (suc k) i u (omega (arith, e))

not_false : (b : Bool) → not b ≡ false → b ≡ true
not_false true h = refl
not_false false h = absurd (true≢false h)

dense_next :
    (xs : List ℕ) (b : ℕ) → targets_bound xs (suc b) ≡ false
    → takes_in (dense_from 0 xs) b ≡ takes_in (dense_from 0 xs) (suc b)
dense_next xs b h =
    dense_takes xs 0 b b (omega arith)
    ∙ (ap some_unless (sym (eqb-true (get_or xs (suc b) 0) (get_or xs b 0) same))
    ∙ sym (dense_takes xs 0 (suc b) (suc b) (omega arith)))
  where
    less : (b : ℕ) → suc b - 1 ≡ b
    less b = omega arith

    same : eqb (get_or xs (suc b) 0) (get_or xs b 0) ≡ true
    same =
        ap (λ k. eqb (get_or xs (suc b) 0) (get_or xs k 0)) (sym (less b))
        ∙ not_false (eqb (get_or xs (suc b) 0) (get_or xs (suc b - 1) 0)) h

state_next :
    (t : ℕ) (s : State) (b : ℕ) → state_bounds t s (suc b) ≡ false
    → takes_at (node_of s) b ≡ takes_at (node_of s) (suc b)
unfolding state_bounds
state_next t (is.ByteRange lo hi next) b h = ap (λ z. cond z (Some next) None) (within_next lo hi b h)
state_next t (is.Sparse ts) b h = ranges_next ts.items b h
state_next t (is.Dense targets) b h = dense_next targets.value b h
state_next t (is.Look look next) b h = refl
state_next t (is.Union alternates) b h = refl
state_next t (is.BinaryUnion alt1 alt2) b h = refl
state_next t (is.Capture next pattern index slot) b h = refl
state_next t is.Fail b h = refl
state_next t (is.Match pattern) b h = refl

takes_next :
    (t : ℕ) (states : List State) (q b : ℕ) → states_bound t states (suc b) ≡ false
    → takes_at (node_or_fail (slice_get (nodes_of states) q)) b
    ≡ takes_at (node_or_fail (slice_get (nodes_of states) q)) (suc b)
takes_next t [] q b h = refl
takes_next t (s ∷ ss) zero b h = state_next t s b (or_parts (state_bounds t s (suc b)) (states_bound t ss (suc b)) h).0
takes_next t (s ∷ ss) (suc q) b h =
    takes_next t ss q b (or_parts (state_bounds t s (suc b)) (states_bound t ss (suc b)) h).1

-- Looks.
abbrev LookNext : (Look → Bool) → (ℕ → ℕ → Bool) → Type 0
LookNext test bound =
    (t : ℕ) (look : Look) (b : ℕ) → test look ≡ true → look_bounds t look b ≡ false → bound t b ≡ false

line_next : LookNext is_line_look (λ t b. bounds t t b)
unfolding look_bounds
line_next t StartLF b e h = h
line_next t EndLF b e h = h
line_next t look b e h = absurd (true≢false (sym e))

crlf_next : LookNext is_crlf_look (λ t b. bounds 13 13 b || bounds 10 10 b)
unfolding look_bounds
crlf_next t StartCRLF b e h = h
crlf_next t EndCRLF b e h = h
crlf_next t look b e h = absurd (true≢false (sym e))

abbrev word_bound : ℕ → Bool
word_bound b = (bounds 48 57 b || bounds 65 90 b) || (bounds 95 95 b || bounds 97 122 b)

word_next : LookNext is_word_look (λ t b. word_bound b)
unfolding look_bounds
word_next t Start b e h = absurd (true≢false (sym e))
word_next t End b e h = absurd (true≢false (sym e))
word_next t StartLF b e h = absurd (true≢false (sym e))
word_next t EndLF b e h = absurd (true≢false (sym e))
word_next t StartCRLF b e h = absurd (true≢false (sym e))
word_next t EndCRLF b e h = absurd (true≢false (sym e))
word_next t look b e h = h

-- If a look that passes the test is among the states, its boundaries are among those of the states.
state_look :
    (test : Look → Bool) (bound : ℕ → ℕ → Bool) → LookNext test bound
    → (t : ℕ) (s : State) (b : ℕ) → looks_at test (node_of s) ≡ true → state_bounds t s b ≡ false → bound t b ≡ false
unfolding state_bounds
state_look test bound next t (is.ByteRange lo hi to) b e h = absurd (true≢false (sym e))
state_look test bound next t (is.Sparse ts) b e h = absurd (true≢false (sym e))
state_look test bound next t (is.Dense targets) b e h = absurd (true≢false (sym e))
state_look test bound next t (is.Look look to) b e h = next t look b e h
state_look test bound next t (is.Union alternates) b e h = absurd (true≢false (sym e))
state_look test bound next t (is.BinaryUnion alt1 alt2) b e h = absurd (true≢false (sym e))
state_look test bound next t (is.Capture to pattern index slot) b e h = absurd (true≢false (sym e))
state_look test bound next t is.Fail b e h = absurd (true≢false (sym e))
state_look test bound next t (is.Match pattern) b e h = absurd (true≢false (sym e))

states_look :
    (test : Look → Bool) (bound : ℕ → ℕ → Bool) → LookNext test bound
    → (t : ℕ) (states : List State) (b : ℕ) → any_node test (nodes_of states) ≡ true → states_bound t states b ≡ false
    → bound t b ≡ false
states_look test bound next t [] b e h = absurd (true≢false (sym e))
states_look test bound next t (s ∷ ss) b e h =
    let parts = or_parts (state_bounds t s b) (states_bound t ss b) h in
    either (looks_at test (node_of s)) (any_node test (nodes_of ss)) (bound t b ≡ false) e
    (λ f. state_look test bound next t s b f parts.0) (λ f. states_look test bound next t ss b f parts.1)
  where
    either : (x y : Bool) (P : Type 0) → x || y ≡ true → (x ≡ true → P) → (y ≡ true → P) → P
    either true y P h f g = f refl
    either false y P h f g = g h

word_byte_next : (b : ℕ) → word_bound (suc b) ≡ false → is_word_byte b ≡ is_word_byte (suc b)
word_byte_next b h =
    let p = or_parts (bounds 48 57 (suc b) || bounds 65 90 (suc b)) (bounds 95 95 (suc b) || bounds 97 122 (suc b)) h in
    let digits_upper = or_parts (bounds 48 57 (suc b)) (bounds 65 90 (suc b)) p.0 in
    let under_lower = or_parts (bounds 95 95 (suc b)) (bounds 97 122 (suc b)) p.1 in
    ap (λ z. z || within 65 90 b || eqb b 95 || within 97 122 b) (within_next 48 57 b digits_upper.0)
    ∙ (ap (λ z. within 48 57 (suc b) || z || eqb b 95 || within 97 122 b) (within_next 65 90 b digits_upper.1)
    ∙ (ap (λ z. within 48 57 (suc b) || within 65 90 (suc b) || z || within 97 122 b) (eqb_next 95 b under_lower.0)
    ∙ ap (λ z. within 48 57 (suc b) || within 65 90 (suc b) || eqb (suc b) 95 || z)
    (within_next 97 122 b under_lower.1)))

-- Bytes of one class are alike.
pub class_alike :
    (a : Automaton) (quits : List Bool) (on : Bool) (u v : ℕ)
    → class_of a quits on u ≡ class_of a quits on v → IsAlike a u v
class_alike a quits on u v e = record {
  takes = λ q. same_in_class f (takes (nfa_of a) q) (λ b h. takes_next t a.states q b (states b h)) u v e;
  line = λ has. same_in_class f (λ b. eqb b t)
      (λ b h. eqb_next t b (states_look is_line_look _ line_next t a.states (suc b) has (states b h))) u v e;
  carriage_return = λ has. same_in_class f (λ b. eqb b 13) (λ b h. eqb_next 13 b (crlf has b h).0) u v e;
  line_feed = λ has. same_in_class f (λ b. eqb b 10) (λ b h. eqb_next 10 b (crlf has b h).1) u v e;
  word = λ has. same_in_class f is_word_byte
      (λ b h. word_byte_next b (states_look is_word_look _ word_next t a.states (suc b) has (states b h))) u v e;
}
  where
    f : ℕ → Bool
    f = is_boundary a quits on

    t : ℕ
    t = a.flags.line_terminator

    states : (b : ℕ) → f (suc b) ≡ false → states_bound t a.states (suc b) ≡ false
    states b h = (parts_of a quits on (suc b) h).1

    crlf :
        any_node is_crlf_look (nodes_of a.states) ≡ true → (b : ℕ) → f (suc b) ≡ false
        → (bounds 13 13 (suc b) ≡ false) × (bounds 10 10 (suc b) ≡ false)
    crlf has b h =
        or_parts (bounds 13 13 (suc b)) (bounds 10 10 (suc b))
        (states_look is_crlf_look _ crlf_next t a.states (suc b) has (states b h))

-- So they lead a powerset state to the same successor.
pub class_step :
    (a : Automaton) (quits : List Bool) (on : Bool) (kind : MatchKind) (q : Powerset) (u v : ℕ)
    → class_of a quits on u ≡ class_of a quits on v → NeedsOwnLooks a q
    → successor a kind q (Some u) ≡ successor a kind q (Some v)
class_step a quits on kind q u v e own = alike_step a kind q u v (class_alike a quits on u v e) own
