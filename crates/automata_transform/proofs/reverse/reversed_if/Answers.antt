use Rattle.std.proofs.Common.{ℕ, List, ◌≡◌, ◌≤◌, ◌+◌, ◌*◌, true, length, refl, sym, subst, arith}
use Rattle.automata_base.specs.declared.nfa.thompson.state.State.{State}
use Rattle.automata_base.specs.Nfas.Automata.{automaton}
use Rattle.automata_base.specs.Nfas.Errors.{states_below}
use Rattle.automata_transform.specs.Nfas.Mirrors.{IsReversalOf, IsReversed, ReadsAlike, reversed_flags}
use Rattle.automata_base.specs.Nfas.Nodes.{Automaton, stack_room}
use Rattle.automata_transform.specs.Nfas.ReversedSizes.{most_alternates}
use Rattle.automata_transform.specs.Retraced.Folds.{AddsNoLook}
use Rattle.automata_transform.proofs.Nfas.Folds.Led.{some_is}
use Rattle.automata_transform.proofs.Nfas.Folds.Looks.{looks_occur}
use Rattle.automata_transform.proofs.Nfas.Folds.Alike.{itself_alike}
use Rattle.automata_transform.proofs.Nfas.Mirrors.Fits.{plain_tests}
use Rattle.automata_transform.proofs.Nfas.Mirrors.Looks.{reversed_looks}
use Rattle.automata_transform.proofs.Nfas.Mirrors.Made.{whole_made}
use Rattle.automata_transform.proofs.Nfas.Mirrors.Rooms.{room_most}
use Rattle.automata_transform.proofs.reverse.reversed_if.Goals as goal

-- An NFA reversed state by state is a reversal.
plain_reversal : (a b : Automaton) → IsReversed a b → stack_room b.states ≤ most_alternates a + 1 → IsReversalOf a b
plain_reversal a b r few = record {
  reads = record { mirror = b; reversed = r; alike = itself_alike b };
  states = refl;
  looks = λ look o. o;
  flips = reversed_looks a b r;
  room = enough (stack_room b.states);
  alternates = few;
}
  where
    enough : (n : ℕ) → n ≤ 4 * n
    enough n = omega arith

pub has_wide-requires : goal.has_wide-requires
has_wide-requires c =
    let m = c.in_ok-mirror.mirror in
    let some = c.in_ok-mirror.ensures.fit.starts in
    subst (λ (z : List State). states_below (length z) z ≡ true) (sym c.deref.ensures.value)
    (plain_tests (length m.states.items) (length m.entries.items) m.states.items (omega (arith, some))
    c.in_ok-mirror.ensures.fit.plain).0

pub returns-in-Some-clause-turned : goal.returns-in-Some-clause-turned
returns-in-Some-clause-turned c =
    let m = c.in_ok-mirror.mirror in
    let plain = automaton m.states.items m.root m.root m.entries.items (reversed_flags c.args.nfa.now.flags) in
    let reversed =
    whole_made c.args.nfa.now plain c.args.nfa.now.states c.args.nfa.now.start_anchored
    (length c.args.nfa.now.start_pattern) m.root
    m.states.items m.entries.items c.in_ok-mirror.ensures.checked refl refl refl c.in_ok-mirror.ensures.reversed
    refl in
    let looks =
    looks_occur plain c.in-Some.folded
    (some_is (λ (nfa : Automaton). AddsNoLook m.states.items nfa.states) _ c.in-Some.folded
    c.in_ok-folded.ensures.looks c.in-Some.is) in
    record {
      reads = record {
        mirror = plain;
        reversed = reversed;
        alike =
            some_is (λ (nfa : Automaton). ReadsAlike plain nfa) _ c.in-Some.folded c.in_ok-folded.ensures.alike
            c.in-Some.is;
      };
      states =
          some_is (λ (nfa : Automaton). length nfa.states ≡ length m.states.items) _ c.in-Some.folded
          c.in_ok-folded.ensures.size c.in-Some.is;
      looks = looks;
      flips = λ look o. reversed_looks c.args.nfa.now plain reversed look (looks look o);
      room =
          some_is (λ (nfa : Automaton). stack_room nfa.states ≤ 4 * stack_room m.states.items) _ c.in-Some.folded
          c.in_ok-folded.ensures.room c.in-Some.is;
      alternates = room_most m.states.items (most_alternates c.args.nfa.now) c.in_ok-mirror.ensures.fit.narrow;
    }

pub returns-in-Some-clause-alike : goal.returns-in-Some-clause-alike
returns-in-Some-clause-alike c = c.requires.0 c.if-not-alike.false

pub returns-then-has_wide-clause-turned : goal.returns-then-has_wide-clause-turned
returns-then-has_wide-clause-turned c =
    let m = c.in_ok-again.again in
    plain_reversal c.args.nfa.now c.in_ok-unfolded.unfolded
    (whole_made c.args.nfa.now c.in_ok-unfolded.unfolded c.args.nfa.now.states c.args.nfa.now.start_anchored
    (length c.args.nfa.now.start_pattern) m.root m.states.items m.entries.items c.in_ok-again.ensures.checked
    refl refl refl
    c.in_ok-again.ensures.reversed c.in_ok-unfolded.ensures.same)
    (subst (λ (z : Automaton). stack_room z.states ≤ most_alternates c.args.nfa.now + 1)
    (sym c.in_ok-unfolded.ensures.same)
    (room_most m.states.items (most_alternates c.args.nfa.now) c.in_ok-again.ensures.fit.narrow))

pub returns-then-has_wide-clause-alike : goal.returns-then-has_wide-clause-alike
returns-then-has_wide-clause-alike c = c.requires.0 c.if-not-alike.false

pub returns-clause-turned : goal.returns-clause-turned
returns-clause-turned c =
    let m = c.in_ok-mirror.mirror in
    plain_reversal c.args.nfa.now c.in_ok-reversed.reversed
    (whole_made c.args.nfa.now c.in_ok-reversed.reversed c.args.nfa.now.states c.args.nfa.now.start_anchored
    (length c.args.nfa.now.start_pattern) m.root m.states.items m.entries.items c.in_ok-mirror.ensures.checked
    refl refl refl
    c.in_ok-mirror.ensures.reversed c.in_ok-reversed.ensures.same)
    (subst (λ (z : Automaton). stack_room z.states ≤ most_alternates c.args.nfa.now + 1)
    (sym c.in_ok-reversed.ensures.same)
    (room_most m.states.items (most_alternates c.args.nfa.now) c.in_ok-mirror.ensures.fit.narrow))

pub returns-clause-alike : goal.returns-clause-alike
returns-clause-alike c = c.requires.0 c.if-not-alike.false

pub returns-in_err-reversed-clause-tested : goal.returns-in_err-reversed-clause-tested
returns-in_err-reversed-clause-tested c = λ e. c.requires.0 c.if-not-alike.false

pub returns-in_err-mirror-clause-tested : goal.returns-in_err-mirror-clause-tested
returns-in_err-mirror-clause-tested c = λ e. c.requires.0 c.if-not-alike.false

pub returns-in_err-again-clause-tested : goal.returns-in_err-again-clause-tested
returns-in_err-again-clause-tested c = λ e. c.requires.0 c.if-not-alike.false

pub returns-in_err-unfolded-clause-tested : goal.returns-in_err-unfolded-clause-tested
returns-in_err-unfolded-clause-tested c = λ e. c.requires.0 c.if-not-alike.false
