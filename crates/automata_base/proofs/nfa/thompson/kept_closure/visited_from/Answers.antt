use Rattle.std.proofs.Common.{List, ℕ, [], ◌∷◌, sym, subst}
use Rattle.automata_base.specs.Haystacks.LookSets.{truth_of}
use Rattle.automata_base.specs.Nfas.Nodes.{nfa_of}
use Rattle.automata_base.specs.Powersets.Closure.{Visits, IsUnderWay}
use Rattle.automata_base.proofs.Paths.Loops.{under_way_start}
use Rattle.automata_base.proofs.Powersets.KeptClosures.{under_way_visits}
use Rattle.automata_base.proofs.nfa.thompson.kept_closure.visited_from.Goals as goal

pub returns-clause-visited : goal.returns-clause-visited
returns-clause-visited c =
    let n = nfa_of c.args.nfa.now in
    let s = c.args.root in
    let A = truth_of c.empty.result in
    let items = c.close_from.new.set.items in
    subst (λ looks. Visits n (truth_of looks) (s ∷ []) [] items) c.empty.ensures
    (under_way_visits n A (s ∷ []) items
    (c.close_from.ensures.way (s ∷ []) []
    (subst (λ (z : List ℕ). IsUnderWay n A (s ∷ []) (s ∷ []) z) (sym c.in_ok-set.ensures.empty)
    (under_way_start n A (s ∷ [])))))
