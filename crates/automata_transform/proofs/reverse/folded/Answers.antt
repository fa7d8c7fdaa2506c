use Rattle.std.proofs.Common.{List, ℕ, ◌≡◌, Option, Some, None, length, sym, subst, ap, ◌∙◌, arith}
use Rattle.std.specs.Prelude.{IfSome}
use Rattle.automata_base.specs.declared.nfa.thompson.state.Flags.{Flags}
use Rattle.automata_base.specs.Lists.{In}
use Rattle.automata_base.specs.Nfas.Automata.{automaton}
use Rattle.automata_transform.specs.Nfas.Mirrors.{ReadsAlike, reversed_flags}
use Rattle.automata_base.specs.Nfas.Nodes.{Automaton}
use Rattle.automata_transform.specs.Retraced.Folds.{AddsNoLook, IsFoldedFrom}
use Rattle.automata_transform.proofs.Nfas.Folds.Alike.{folded_alike}
use Rattle.automata_transform.proofs.Nfas.Folds.Final.{whole_folded}
use Rattle.automata_transform.proofs.Nfas.Mirrors.Fits.{plain_tests}
use Rattle.automata_transform.proofs.reverse.folded.Goals as goal

-- What is said of an NFA is said of it if it is kept.
kept_is :
    (P : Automaton → Type 0) (made : Automaton) (o : Option Automaton)
    → IfSome o (λ kept. kept ≡ made) → P made → IfSome o P
kept_is P made None h p = tt
kept_is P made (Some kept) h p = subst P (sym h) p

pub fold-requires-clause-range : goal.fold-requires-clause-range
fold-requires-clause-range c =
    let some = c.requires.starts in
    (plain_tests (length c.args.mirror.states.items) (length c.args.mirror.entries.items) c.args.mirror.states.items
    (omega (arith, some)) c.requires.plain).0

pub fold-requires-clause-entered : goal.fold-requires-clause-entered
fold-requires-clause-entered c = λ e i.
    c.requires.entered e (subst (λ (z : List ℕ). In e z) c.as_slice-2.ensures.value i)

pub returns-in-Ok-from_states-clause-alike : goal.returns-in-Ok-from_states-clause-alike
returns-in-Ok-from_states-clause-alike c =
    let old = c.args.mirror.states.items in
    let new = c.fold.new.states.items in
    let root = c.args.mirror.root in
    let entries = c.args.mirror.entries.items in
    let nfa = c.in-Ok-from_states.made in
    let flags = c.turned_flags-flags.result in
    let f = subst (λ (z : List ℕ). IsFoldedFrom old new root z) c.as_slice-2.ensures.value c.in-Ok.ensures.folded in
    kept_is (λ (z : Automaton). ReadsAlike (automaton old root root entries (reversed_flags c.args.nfa.now.flags)) z)
    nfa c.within_room.result c.within_room.ensures.same
    (subst (λ (z : Flags). ReadsAlike (automaton old root root entries z) nfa)
    (c.turned_flags-flags.ensures ∙ ap reversed_flags c.flags-given.ensures)
    (subst (λ (z : Automaton). ReadsAlike (automaton old root root entries flags) z)
    (sym c.in-Ok-from_states.ensures.same)
    (folded_alike old new root entries flags f.free f.made
    (whole_folded old new root entries flags f.free f.made f.folded) f.rooted f.entered)))

pub returns-in-Ok-from_states-clause-looks : goal.returns-in-Ok-from_states-clause-looks
returns-in-Ok-from_states-clause-looks c =
    kept_is (λ (z : Automaton). AddsNoLook c.args.mirror.states.items z.states) c.in-Ok-from_states.made
    c.within_room.result
    c.within_room.ensures.same
    (subst (λ (z : Automaton). AddsNoLook c.args.mirror.states.items z.states) (sym c.in-Ok-from_states.ensures.same)
    c.in-Ok.ensures.looks)
