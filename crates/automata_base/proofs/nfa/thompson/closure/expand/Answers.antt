use Rattle.std.proofs.Common.{arith, ap, sym, ◌∙◌, subst, ◌≡◌, ◌<◌, ◌≤◌, ◌+◌, ◌++◌, ◌∷◌, List, ℕ, length, drop, reverse}
use Rattle.std.proofs.Common.{get_or, ◌-◌, length-drop}
use Rattle.std.proofs.lemmas.List.{drop_all, take_all}
use Rattle.automata_base.specs.Lists.{In}
use Rattle.automata_base.specs.declared.nfa.thompson.state.State.{State}
use Rattle.automata_base.specs.Haystacks.LookSets.{truth_of}
use Rattle.automata_base.specs.Nfas.Nodes.{nfa_of, node_of}
use Rattle.automata_base.specs.Powersets.Closure.{children_at}
use Rattle.automata_base.specs.Retraced.Expanding.{IsExpanded}
use Rattle.automata_base.proofs.Powersets.Leaves.{visited_some, pushed_left}
use Rattle.automata_base.proofs.nfa.thompson.closure.expand.Goals as goal

pub visit_leaves-visited-requires-clause-below : goal.visit_leaves-visited-requires-clause-below
visit_leaves-visited-requires-clause-below c = λ q i.
    c.requires.below q
    (subst (In q)
    (c.deref.ensures.value ∙ sym (ap (λ (s : State). children_at (node_of s) (truth_of c.args.looks)) c.in-Union.is)) i)

pub returns-then-visited-len-clause-expanded : goal.returns-then-visited-len-clause-expanded
returns-then-visited-len-clause-expanded c =
    let kids : c.deref.result.now ≡ children_at (node_of c.args.state.now) (truth_of c.args.looks) =
    c.deref.ensures.value ∙ sym (ap (λ (s : State). children_at (node_of s) (truth_of c.args.looks)) c.in-Union.is) in
    let all : length c.deref.result.now ≤ c.visit_leaves-visited.result =
    omega (arith, c.deref.ensures.len, c.len.ensures, c.if-visited-len.true) in
    let none = drop_all c.visit_leaves-visited.result c.deref.result.now all in
    subst (λ (z : List ℕ). IsExpanded (nfa_of c.args.nfa.now) (truth_of c.args.looks) z c.args.set.now.items
    c.visit_leaves-visited.new.set.items
    (reverse c.args.stack.now.items) (reverse c.args.stack.now.items)) kids
    (visited_some (nfa_of c.args.nfa.now) (truth_of c.args.looks) c.deref.result.now c.args.set.now.items
    c.visit_leaves-visited.new.set.items
    (reverse c.args.stack.now.items) (reverse c.args.stack.now.items) c.visit_leaves-visited.result
    (c.visit_leaves-visited.ensures.way (truth_of c.args.looks)) c.visit_leaves-visited.ensures.grown
    (sym (ap (λ (z : List ℕ). z ++ reverse c.args.stack.now.items) none)))

pub returns-else-visited-len-clause-expanded : goal.returns-else-visited-len-clause-expanded
returns-else-visited-len-clause-expanded c =
    let d : c.deref-else-visited-len.result.now ≡ c.deref.result.now =
    c.deref-else-visited-len.ensures.value ∙ sym c.deref.ensures.value in
    let kids : c.deref.result.now ≡ children_at (node_of c.args.state.now) (truth_of c.args.looks) =
    c.deref.ensures.value ∙ sym (ap (λ (s : State). children_at (node_of s) (truth_of c.args.looks)) c.in-Union.is) in
    let some : c.visit_leaves-visited.result < length c.deref.result.now =
    omega (arith, c.deref.ensures.len, c.len.ensures, c.if-visited-len.false, c.visit_leaves-visited.ensures.few) in
    let at : c.index.result.now ≡ get_or c.deref.result.now c.visit_leaves-visited.result c.index.result.now =
    c.index.ensures
    ∙ ap (λ (z : List ℕ). get_or z c.visit_leaves-visited.result c.index.result.now) (sym c.deref.ensures.value) in
    let whole = take_all (length c.deref-else-visited-len.result.now - (c.visit_leaves-visited.result + 1))
    (drop (c.visit_leaves-visited.result + 1) c.deref-else-visited-len.result.now)
    (omega (arith, length-drop (c.visit_leaves-visited.result + 1) c.deref-else-visited-len.result.now)) in
    let pushed : c.push_reversed.new.stack.items ≡ c.args.stack.now.items
    ++ reverse (drop (c.visit_leaves-visited.result + 1) c.deref.result.now) =
    c.push_reversed.ensures.pushed
    ∙ (ap (λ (z : List ℕ). c.args.stack.now.items ++ reverse z) whole
    ∙ ap (λ (z : List ℕ). c.args.stack.now.items ++ reverse (drop (c.visit_leaves-visited.result + 1) z)) d) in
    subst (λ (z : List ℕ). IsExpanded (nfa_of c.args.nfa.now) (truth_of c.args.looks) z c.args.set.now.items
    c.visit_leaves-visited.new.set.items
    (reverse c.args.stack.now.items) (c.index.result.now ∷ reverse c.push_reversed.new.stack.items)) kids
    (visited_some (nfa_of c.args.nfa.now) (truth_of c.args.looks) c.deref.result.now c.args.set.now.items
    c.visit_leaves-visited.new.set.items
    (reverse c.args.stack.now.items) (c.index.result.now ∷ reverse c.push_reversed.new.stack.items)
    c.visit_leaves-visited.result
    (c.visit_leaves-visited.ensures.way (truth_of c.args.looks)) c.visit_leaves-visited.ensures.grown
    (pushed_left c.deref.result.now c.visit_leaves-visited.result c.index.result.now c.args.stack.now.items
    c.push_reversed.new.stack.items some at pushed))
