use Rattle.std.proofs.Common.{refl, sym, ap, ◌∙◌}
use Rattle.automata_base.specs.ByteClasses.Classes.{state_bounds, transitions_bound}
use Rattle.automata_base.proofs.ByteClasses.Marking.{adds_none, adds_like}
use Rattle.automata_base.proofs.util.alphabet.mark_state.Goals as goal

pub returns-in-ByteRange : goal.returns-in-ByteRange
unfolding state_bounds
returns-in-ByteRange c = rw c.in-ByteRange.is c.mark_range.ensures

pub returns-in-Sparse : goal.returns-in-Sparse
unfolding state_bounds
returns-in-Sparse c =
    adds_like c.args.marks.now c.mark_transitions.new.marks (transitions_bound c.deref.result.now)
    (state_bounds c.args.terminator c.args.state.now)
    (λ b. ap (λ s. state_bounds c.args.terminator s b) c.in-Sparse.is
    ∙ ap (λ ts. transitions_bound ts b) (sym c.deref.ensures.value))
    c.mark_transitions.ensures

pub returns-in-Dense : goal.returns-in-Dense
unfolding state_bounds
returns-in-Dense c = rw c.in-Dense.is (rw c.deref-in-Dense.ensures at c.mark_targets.ensures)

pub returns-in-Look : goal.returns-in-Look
unfolding state_bounds
returns-in-Look c = rw c.in-Look.is c.mark_look.ensures

pub returns-in-Union : goal.returns-in-Union
unfolding state_bounds
returns-in-Union c = rw c.in-Union.is (adds_none c.args.marks.now _ (λ b. refl))

pub returns-in-BinaryUnion : goal.returns-in-BinaryUnion
unfolding state_bounds
returns-in-BinaryUnion c = rw c.in-BinaryUnion.is (adds_none c.args.marks.now _ (λ b. refl))

pub returns-in-Capture : goal.returns-in-Capture
unfolding state_bounds
returns-in-Capture c = rw c.in-Capture.is (adds_none c.args.marks.now _ (λ b. refl))

pub returns-in-Fail : goal.returns-in-Fail
unfolding state_bounds
returns-in-Fail c = rw c.in-Fail.is (adds_none c.args.marks.now _ (λ b. refl))

pub returns-in-Match : goal.returns-in-Match
unfolding state_bounds
returns-in-Match c = rw c.in-Match.is (adds_none c.args.marks.now _ (λ b. refl))
