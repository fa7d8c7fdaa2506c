use Rattle.std.proofs.Common.{List, ℕ, ◌≡◌, ◌≤◌, ◌<◌, [], ◌∷◌, ◌++◌, ◌+◌, ◌^◌, true, length, length-append, refl}
use Rattle.std.proofs.Common.{sym, ap, ◌∙◌, subst, arith}
use Rattle.automata_base.specs.declared.nfa.thompson.state.State.{State}
use Rattle.automata_transform.specs.Retraced.Copies.{AreParts, IsPartAdded}
use Rattle.automata_base.specs.Lists.{all_below}
use Rattle.automata_base.specs.Nfas.Nodes.{nodes_of}
use Rattle.automata_base.specs.Nfas.Errors.{states_below}
use Rattle.automata_transform.specs.Retraced.ReversedEdges.{HaveCopies, IsCopied, matches_in}
use Rattle.automata_base.proofs.Powersets.Walking.{nodes_length}
use Rattle.automata_transform.proofs.Nfas.Mirrors.Copies.{before_last, have_more, have_none, roots_are}
use Rattle.automata_transform.proofs.Nfas.Mirrors.Copies.{matches_below, matches_few}
use Rattle.automata_transform.proofs.Nfas.Mirrors.Fits.{added_copies, added_length, added_more, added_nodes, part_fits}
use Rattle.automata_transform.proofs.Nfas.Mirrors.Fits.{part_large}
use Rattle.automata_transform.proofs.Nfas.Mirrors.Lists.{err_is}
use Rattle.automata_transform.proofs.copies.parts_of.Goals as goal

pub add_part-requires-clause-roots : goal.add_part-requires-clause-roots
add_part-requires-clause-roots c =
    ap (λ (z : List State). all_below (length z) c.deref.result.now) (c.loop-p.invariant.kept c.loop-p-test.true)
    ∙ (ap (all_below (length c.args.turned.now.items))
    (roots_are c.in_ok-matches.matches.items c.args.states.now c.args.reached.now c.deref.result.now
    c.index-roots.result.now c.args.patterns
    c.loop-p.p c.new_unchecked-pattern.result c.deref.ensures.value c.loop-p-test.true c.in_ok-matches.ensures.few
    c.index-roots.ensures
    c.in_ok-matches.ensures.matches c.new_unchecked-pattern.ensures)
    ∙ matches_below (length c.args.states.now) (length c.args.turned.now.items) c.args.states.now
    c.new_unchecked-pattern.result c.args.reached.now
    c.requires.turned.whole c.requires.below)

pub add_part-requires-clause-range : goal.add_part-requires-clause-range
add_part-requires-clause-range c =
    subst (λ (z : List State). states_below (length z) z ≡ true) (sym (c.loop-p.invariant.kept c.loop-p-test.true))
    c.requires.turned.range

pub loop-p-init : goal.loop-p-init
loop-p-init c = record {
  copies =
      subst (λ (z : List State). HaveCopies (nodes_of z) c.args.states.now c.args.turned.now.items c.args.reached.now
      c.new-3.result.items)
      (sym c.new-2.ensures.items)
      (subst (λ (z : List ℕ). HaveCopies [] c.args.states.now c.args.turned.now.items c.args.reached.now z)
      (sym c.new-3.ensures.items)
      (have_none c.args.states.now c.args.turned.now.items c.args.reached.now));
  count = ap (λ z. length z) c.new-3.ensures.items;
  capacity = c.in_ok-set.ensures.capacity ∙ (c.len.ensures ∙ c.args.turned.now.ok.0);
  kept = λ l. refl;
  fit =
      subst (λ (z : List State). AreParts c.args.turned.now.items (length c.args.reached.now) c.args.patterns 0
      (nodes_of z) c.new-3.result.items)
      (sym c.new-2.ensures.items)
      (subst (λ (z : List ℕ). AreParts c.args.turned.now.items (length c.args.reached.now) c.args.patterns 0 [] z)
      (sym c.new-3.ensures.items)
      (record { plain = tt; few = omega arith; narrow = omega arith; entered = λ e i. absurd i }));
}

pub loop-p-preserved : goal.loop-p-preserved
loop-p-preserved c =
    let old = nodes_of c.loop-p.parts.states.items in
    let new = nodes_of c.add_part.new.parts.states.items in
    let kept = c.loop-p.invariant.kept c.loop-p-test.true in
    let part =
    subst (λ (z : List State). (entry : ℕ)
    × (c.add_part.new.parts.entries.items ≡ c.loop-p.parts.entries.items ++ entry ∷ [])
    × IsPartAdded old new z c.deref.result.now c.new_unchecked-pattern.result entry)
    kept c.in_ok-add_part.ensures.part in
    let roots : c.deref.result.now ≡ matches_in c.args.states.now c.new_unchecked-pattern.result c.args.reached.now =
    roots_are c.in_ok-matches.matches.items c.args.states.now c.args.reached.now c.deref.result.now
    c.index-roots.result.now c.args.patterns
    c.loop-p.p c.new_unchecked-pattern.result c.deref.ensures.value c.loop-p-test.true c.in_ok-matches.ensures.few
    c.index-roots.ensures
    c.in_ok-matches.ensures.matches c.new_unchecked-pattern.ensures in
    let few : length c.deref.result.now ≤ length c.args.reached.now =
    subst (λ (z : List ℕ). length z ≤ length c.args.reached.now) (sym roots)
    (matches_few c.args.states.now c.new_unchecked-pattern.result c.args.reached.now) in
    record {
      copies =
          have_more old new
          (added_nodes old c.args.turned.now.items c.deref.result.now c.new_unchecked-pattern.result part.2.0)
          c.args.states.now
          c.args.turned.now.items c.args.reached.now c.loop-p.parts.entries.items c.add_part.new.parts.entries.items
          c.new_unchecked-pattern.result part.0
          (length old) part.2.0
          (added_more old new c.args.turned.now.items c.deref.result.now c.new_unchecked-pattern.result part.0 part.2.0
          part.2.1)
          (c.new_unchecked-pattern.ensures ∙ sym c.loop-p.invariant.count) part.1 refl
          (added_length old new c.args.turned.now.items c.deref.result.now c.new_unchecked-pattern.result part.0
          part.2.0 part.2.1)
          (subst (λ z. IsCopied new c.args.turned.now.items z c.new_unchecked-pattern.result part.0 (length old)
          part.2.0) roots
          (added_copies old new c.args.turned.now.items c.deref.result.now c.new_unchecked-pattern.result part.0
          part.2.0 part.2.1))
          c.loop-p.invariant.copies;
      count =
          ap (λ xs. length xs) part.1
          ∙ (length-append c.loop-p.parts.entries.items (part.0 ∷ []) ∙ ap (λ n. n + 1) c.loop-p.invariant.count);
      capacity = c.in_ok-add_part.ensures.capacity ∙ ap (λ z. length z) kept;
      kept = λ l. c.in_ok-add_part.ensures.kept (before_last c.loop-p.p c.args.patterns l) ∙ kept;
      fit =
          part_fits c.args.turned.now.items (length c.args.reached.now) c.args.patterns c.loop-p.p old new
          c.loop-p.parts.entries.items
          c.add_part.new.parts.entries.items c.deref.result.now part.0 c.requires.turned.ordered c.loop-p-test.true few
          (subst (λ z. IsPartAdded old new c.args.turned.now.items c.deref.result.now z part.0)
          c.new_unchecked-pattern.ensures part.2)
          part.1 c.loop-p.invariant.fit;
    }

pub returns-in_err-add_part-clause-large : goal.returns-in_err-add_part-clause-large
returns-in_err-add_part-clause-large c = λ e.
    part_large c.args.turned.now.items (length c.args.reached.now) c.args.patterns c.loop-p.p
    (nodes_of c.loop-p.parts.states.items)
    c.loop-p.parts.entries.items (length c.loop-p.parts.states.items) c.loop-p-test.true c.loop-p.invariant.fit
    (sym (nodes_length c.loop-p.parts.states.items))
    (subst (λ (z : List State). 2 ^ 27 < length c.loop-p.parts.states.items + length z + 1)
    (c.loop-p.invariant.kept c.loop-p-test.true)
    (c.in_err-add_part.ensures.large
    (err_is c.from_residual-in_err-add_part.result _ _ c.from_residual-in_err-add_part.ensures.1 e)))
