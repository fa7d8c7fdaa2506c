use Rattle.std.proofs.Common.{refl, subst, ◌∙◌}
use Rattle.automata_base.specs.Haystacks.LookSets.{truth_of}
use Rattle.automata_base.specs.Lists.{In}
use Rattle.automata_base.specs.Nfas.Nodes.{nfa_of}
use Rattle.automata_base.proofs.Powersets.Leaves.{added_way, had_way}
use Rattle.automata_base.proofs.nfa.thompson.closure.discover.Goals as goal

pub returns-then-not-append_at_root-clause-passed : goal.returns-then-not-append_at_root-clause-passed
returns-then-not-append_at_root-clause-passed c = λ f looks.
    let same = c.if-not-append_at_root.ensures.same refl in
    had_way (nfa_of c.args.nfa.now) (truth_of looks) c.args.set.now.items c.insert.new.self.items c.args.id
    (subst (λ z. In c.args.id z) same (c.insert.ensures.had f)) (c.insert.ensures.unchanged f ∙ same)

pub returns-else-not-append_at_root-clause-passed : goal.returns-else-not-append_at_root-clause-passed
returns-else-not-append_at_root-clause-passed c = λ f looks.
    added_way (nfa_of c.args.nfa.now) (truth_of looks) c.args.set.now.items c.append_at_root.new.set.items c.args.id
    (c.if-not-append_at_root.ensures.added refl looks)

pub returns-else-not-append_at_root-clause-grown : goal.returns-else-not-append_at_root-clause-grown
returns-else-not-append_at_root-clause-grown c =
    let x = c.if-not-append_at_root.ensures.added refl 0 in
    (x.added, x.after_before)
