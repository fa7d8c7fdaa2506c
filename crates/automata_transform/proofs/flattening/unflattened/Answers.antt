use Rattle.std.proofs.Common.{sym, subst}
use Rattle.automata_transform.specs.Nfas.MergedNfas.{KeepsBounds, KeepsCaptures}
use Rattle.automata_transform.specs.Nfas.FlattenedNfas.{IsFlattenedNfa}
use Rattle.automata_transform.proofs.Nfas.Flattens.Tests.{flattened_self}
use Rattle.automata_transform.proofs.Nfas.Standing.{bounds_self, ok_of}
use Rattle.automata_transform.proofs.Nfas.Captures.{kept_self}
use Rattle.automata_transform.proofs.flattening.unflattened.Goals as goal

pub returns-clause-flattened : goal.returns-clause-flattened
returns-clause-flattened c =
    ok_of _ _ _ c.clone.result (λ m e. subst (IsFlattenedNfa c.args.nfa.now) (sym e) (flattened_self c.args.nfa.now))
    c.clone.ensures.cases

pub returns-clause-bounds : goal.returns-clause-bounds
returns-clause-bounds c =
    ok_of _ _ _ c.clone.result (λ m e. subst (KeepsBounds c.args.nfa.now) (sym e) (bounds_self c.args.nfa.now))
    c.clone.ensures.cases

pub returns-clause-captures : goal.returns-clause-captures
returns-clause-captures c =
    ok_of _ _ _ c.clone.result (λ m e. subst (KeepsCaptures c.args.nfa.now) (sym e) (kept_self c.args.nfa.now))
    c.clone.ensures.cases
