use Rattle.std.proofs.Common.{◌≡◌, [], ◌∷◌, rules, sym, subst, IfSome}
use Rattle.automata_base.specs.Haystacks.LookSets.{truth_of}
use Rattle.automata_base.specs.Nfas.KeptClosure.{IsKeptClosure}
use Rattle.automata_base.specs.Nfas.Nodes.{nfa_of}
use Rattle.automata_base.specs.Powersets.Closure.{Visits}
use Rattle.automata_base.proofs.nfa.thompson.closure.append_at_root.Goals as goal

pub returns-then-eq-clause-added : goal.returns-then-eq-clause-added
returns-then-eq-clause-added c = λ t looks.
    let n = nfa_of c.args.nfa.now in
    let closure = c.in-Some.closure.now in
    let is_kept : IsKeptClosure c.args.nfa.now closure =
    subst (λ o. IfSome o (λ k. IsKeptClosure c.args.nfa.now k.now)) c.in-Some.is c.requires.closure in
    let same : c.args.id ≡ closure.root = search rules in
    record {
      added = closure.set.items;
      after_before = c.append_apart.ensures.added t;
      visited =
          subst (λ q. Visits n (truth_of looks) (q ∷ []) [] closure.set.items) (sym same)
          (is_kept.closure.visited (truth_of looks));
      apart = c.append_apart.ensures.apart t;
    }
