use Rattle.std.proofs.Common.{refl}
use Rattle.automata_base.specs.Haystacks.LookSets.{truth_of}
use Rattle.automata_base.proofs.Powersets.Walking.{leaf_step, walk_ends}
use Rattle.automata_base.proofs.Powersets.Walking.{state_read}
use Rattle.automata_base.proofs.nfa.thompson.closure.close_one.Goals as goal

pub returns-then-is_leaf-clause-way : goal.returns-then-is_leaf-clause-way
returns-then-is_leaf-clause-way c =
    walk_ends c.args.nfa.now c.args.looks c.args.set.now.items c.args.start c.insert-added.new.self.items
    (leaf_step c.args.nfa.now c.args.looks c.args.set.now.items c.args.start c.insert-added.new.self.items
    c.state.result.now c.insert-added.result
    c.state.ensures.checked (state_read c.args.nfa.now.states c.args.start c.state.result.now c.state.ensures.same)
    (c.if-is_leaf.ensures refl (truth_of c.args.looks)) c.requires.start
    c.insert-added.ensures.new c.insert-added.ensures.added c.insert-added.ensures.had c.insert-added.ensures.unchanged)
