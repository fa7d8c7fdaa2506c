use Rattle.std.proofs.Common.{ℕ, ◌≡◌, List, [], ◌∷◌, Some, false, length, sym, subst, ap, ◌∙◌, arith}
use Rattle.std.specs.Prelude.{slice_get}
use Rattle.automata_base.specs.declared.nfa.thompson.state.State.{State}
use Rattle.automata_base.specs.declared.nfa.thompson.state.Transition.{Transition}
use Rattle.automata_base.specs.declared.nfa.thompson.reach.Edges.TheVariants.{Every}
use Rattle.automata_base.specs.Lists.{In, all_below}
use Rattle.automata_base.specs.Nfas.Nodes.{nodes_of}
use Rattle.automata_transform.specs.Retraced.Folds.{IsFoldedState, IsNotFree, ReadsRange, is_large}
use Rattle.automata_base.specs.Retraced.Reach.{node_in, targets_of}
use Rattle.std.proofs.lemmas.Option.{slice_get_within}
use Rattle.automata_transform.proofs.Nfas.Folds.Final.{folded_from, range_kept}
use Rattle.automata_base.proofs.Nfas.Reach.Adding.{once_keeps}
use Rattle.automata_base.proofs.Powersets.Belows.{all_below_from}
use Rattle.automata_transform.proofs.folding.fold.Goals as goal

pub add_ids-requires : goal.add_ids-requires
add_ids-requires c =
    let whole =
    c.add.ensures.capacity
    ∙ (c.in_ok-led.ensures.capacity ∙ ap (λ (z : List State). length z) c.as_slice.ensures.value) in
    ap (λ v. all_below v c.args.entries.now) whole
    ∙ all_below_from (length c.args.states.now.items) c.args.entries.now c.requires.entered

pub fold_all-requires-clause-kept : goal.fold_all-requires-clause-kept
fold_all-requires-clause-kept c = λ q range r i.
    let old = c.args.states.now.items in
    let led =
    subst (λ (z : List State). (q t : ℕ) → is_large (node_in z q) ≡ false → In t (targets_of Every z q)
    → In t c.in_ok-led.led.items)
    c.as_slice.ensures.value c.in_ok-led.ensures.led in
    range_kept old c.in_ok-free.free.items
    (λ q t l k f.
    c.in_ok-free.ensures.new t f
    (subst (λ (z : List ℕ). In t z) (sym c.add_ids.ensures.items)
    (once_keeps t c.add.new.set.items c.args.entries.now
    (subst (λ (z : List ℕ). In t z) (sym c.add.ensures.items)
    (once_keeps t c.in_ok-led.led.items (c.args.root ∷ []) (led q t l k))))))
    q range r (subst (λ (z : List ℕ). In range.next z) c.as_slice-3.ensures.value i)

pub put_made-requires-clause-below : goal.put_made-requires-clause-below
put_made-requires-clause-below c = λ x i.
    let r = c.in_ok-free.ensures.reads x (subst (λ (z : List ℕ). In x z) c.as_slice-4.ensures.value i) in
    let low = slice_get_within c.as_slice-2.result.now x r.1.0 r.1.1 in
    let same = ap (λ (z : List State). length z) c.as_slice-2.ensures.value in
    let after = c.in_ok-fold_all.ensures.same in
    omega (arith, low, same, after)

pub returns-clause-folded : goal.returns-clause-folded
returns-clause-folded c =
    let old = c.args.states.now.items in
    let mid = c.fold_all.new.states.items in
    let new = c.put_made.new.states.items in
    let made = c.fold_all.new.made.items in
    let free = c.in_ok-free.free.items in
    folded_from old mid new made c.in_ok-led.led.items c.add.new.set.items c.add_ids.new.set.items free
    c.args.entries.now c.args.root
    (subst (λ (z : List State). (q t : ℕ) → is_large (node_in z q) ≡ false → In t (targets_of Every z q)
    → In t c.in_ok-led.led.items)
    c.as_slice.ensures.value c.in_ok-led.ensures.led)
    c.add.ensures.items c.add_ids.ensures.items
    (subst (λ (z : List State). (x : ℕ) → In x free → (range : Transition) × ReadsRange z x range)
    c.as_slice-2.ensures.value
    c.in_ok-free.ensures.reads)
    c.in_ok-free.ensures.new
    (subst (λ (z : List ℕ). (x : ℕ) → IsFoldedState old z (nodes_of made) (slice_get old x) (slice_get mid x))
    c.as_slice-3.ensures.value
    c.in_ok-fold_all.ensures.folded)
    (subst (λ (z : List ℕ). (x : ℕ) → IsNotFree z x → slice_get new x ≡ slice_get mid x) c.as_slice-4.ensures.value
    c.put_made.ensures.kept)
    (subst (λ (z : List ℕ). (k x : ℕ) (s : State) → slice_get z k ≡ Some x → slice_get made k ≡ Some s
    → slice_get new x ≡ Some s)
    c.as_slice-4.ensures.value c.put_made.ensures.made)
