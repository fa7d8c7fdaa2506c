use Rattle.std.proofs.Common.{◌≡◌, ◌+◌, ◌≤◌, ◌++◌, [], ◌∷◌, length, length-append, ap, sym, ◌∙◌, subst, inl, refl}
use Rattle.std.proofs.Common.{arith}
use Rattle.automata_base.specs.Lists.{In}
use Rattle.automata_base.proofs.Nfas.Reach.Adding.{inserted_new}
use Rattle.automata_base.proofs.nfa.thompson.finishing.mark.Goals as goal
use Rattle.automata_base.proofs.Paths.Walks.{in_left}
use Rattle.automata_base.proofs.Paths.FirstVisits.{in_right}

pub returns-clause-items : goal.returns-clause-items
returns-clause-items c =
    inserted_new c.args.visited.now.items c.insert.new.self.items c.args.id c.insert.result c.requires.new
    c.insert.ensures.added
    c.insert.ensures.had

pub returns-clause-room : goal.returns-clause-room
returns-clause-room c =
    let items : c.insert.new.self.items ≡ c.args.visited.now.items ++ c.args.id ∷ [] =
    inserted_new c.args.visited.now.items c.insert.new.self.items c.args.id c.insert.result c.requires.new
    c.insert.ensures.added
    c.insert.ensures.had in
    let more : length c.insert.new.self.items ≡ length c.args.visited.now.items + 1 =
    ap length items ∙ length-append c.args.visited.now.items (c.args.id ∷ []) in
    let few : length c.insert.new.self.items ≤ c.insert.new.self.capacity = c.as_slice.ensures.few in
    let same : c.insert.new.self.capacity ≡ c.args.visited.now.capacity = c.insert.ensures.capacity in
    omega arith

pub returns-clause-kept : goal.returns-clause-kept
returns-clause-kept c = λ q i.
    let items : c.insert.new.self.items ≡ c.args.visited.now.items ++ c.args.id ∷ [] =
    inserted_new c.args.visited.now.items c.insert.new.self.items c.args.id c.insert.result c.requires.new
    c.insert.ensures.added
    c.insert.ensures.had in
    subst (λ z. In q z) (sym items) (in_left q c.args.visited.now.items (c.args.id ∷ []) i)

pub returns-clause-has : goal.returns-clause-has
returns-clause-has c =
    let items : c.insert.new.self.items ≡ c.args.visited.now.items ++ c.args.id ∷ [] =
    inserted_new c.args.visited.now.items c.insert.new.self.items c.args.id c.insert.result c.requires.new
    c.insert.ensures.added
    c.insert.ensures.had in
    subst (λ z. In c.args.id z) (sym items) (in_right c.args.id c.args.visited.now.items (c.args.id ∷ []) (inl refl))
