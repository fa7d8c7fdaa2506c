use Rattle.std.proofs.Common.{sym, subst}
use Rattle.automata_transform.specs.Nfas.MergedNfas.{IsMergedNfa, KeepsBounds, KeepsCaptures}
use Rattle.automata_transform.proofs.Nfas.Standing.{bounds_self, merged_self, ok_of}
use Rattle.automata_transform.proofs.Nfas.Captures.{kept_self}
use Rattle.automata_transform.proofs.merging.unmerged.Goals as goal

pub returns-clause-merged : goal.returns-clause-merged
returns-clause-merged c =
    ok_of _ _ _ c.clone.result (λ m e. subst (IsMergedNfa c.args.nfa.now) (sym e) (merged_self c.args.nfa.now))
    c.clone.ensures.cases

pub returns-clause-bounds : goal.returns-clause-bounds
returns-clause-bounds c =
    ok_of _ _ _ c.clone.result (λ m e. subst (KeepsBounds c.args.nfa.now) (sym e) (bounds_self c.args.nfa.now))
    c.clone.ensures.cases

pub returns-clause-captures : goal.returns-clause-captures
returns-clause-captures c =
    ok_of _ _ _ c.clone.result (λ m e. subst (KeepsCaptures c.args.nfa.now) (sym e) (kept_self c.args.nfa.now))
    c.clone.ensures.cases
