use Rattle.std.proofs.Common.{◌≡◌, ◌≤◌, ◌∙◌, ap, subst, suc, sym}
use Rattle.std.proofs.Math.Logic.{∥∥₁_map}
use Rattle.automata_hybrid.proofs.Words.{Automaton, CacheView, cost, IsOwn, IsStateOf, Machine, match_kind_of, max_cost}
use Rattle.automata_hybrid.proofs.Words.{Names, Powerset, successor}
use Rattle.automata_determinize.specs.Paths.Starts.{IsOf, NeedsOwnLooks}
use Rattle.automata_determinize.specs.Answers.Within.{ReportsOwn}
use Rattle.automata_hybrid.specs.Machines.Reachable.{IsReachableBy, OverUnit}
use Rattle.automata_hybrid.specs.declared.cache.Cache.TheInside.{Inside}
use Rattle.automata_hybrid.proofs.cache.Cache.determinize.Goals as goal
use Rattle.automata_config.specs.Options.{Options}

pub next_key-requires-clause-is_of : goal.next_key-requires-clause-is_of
unfolding IsOwn
next_key-requires-clause-is_of c =
    let m =
    ap (λ (i : Inside). i.store.table.of) c.self-inside.view_is
    ∙ (ap (λ (v : CacheView). v.store.table.of) c.self.view_is ∙ c.requires.sound.of) in
    let own : IsOwn c.args.dfa.now.nfa c.state-from.result.now =
    subst (λ (u : Machine). IsOwn u.nfa c.state-from.result.now) m c.state-from.ensures.row.own.own in
    subst (λ (a : Automaton). IsOf a c.state-from.result.now) (sym c.get_nfa.ensures) own.0

-- the state of the source row is a state of the DFA
from_row : (c : goal.In_ok-key) → IsStateOf c.args.dfa.now c.state-from.result.now
from_row c =
    let m =
    ap (λ (i : Inside). i.store.table.of) c.self-inside.view_is
    ∙ (ap (λ (v : CacheView). v.store.table.of) c.self.view_is ∙ c.requires.sound.of) in
    subst (λ (u : Machine). IsStateOf u c.state-from.result.now) m c.state-from.ensures.row.own

-- the key is the next state
next_row :
    (c : goal.In_ok-key)
    → c.in_ok-key.key
    ≡ successor c.args.dfa.now.nfa (match_kind_of c.args.dfa.now.config) c.state-from.result.now c.args.unit
next_row c =
    let kind = c.get_match_kind-kind.ensures ∙ ap (λ (o : Options). match_kind_of o) c.get_config.ensures in
    c.in_ok-key.ensures.made.same ∙ (λ i. successor (c.get_nfa.ensures i) (kind i) c.state-from.result.now c.args.unit)

pub returns-clause-is_of : goal.returns-clause-is_of
unfolding IsOwn
returns-clause-is_of c = record {
  own = (
    subst (λ (a : Automaton). IsOf a c.in_ok-key.key) c.get_nfa.ensures c.in_ok-key.ensures.made.is_of,
    subst (λ (a : Automaton). NeedsOwnLooks a c.in_ok-key.key) c.get_nfa.ensures c.in_ok-key.ensures.made.looks,
    subst (λ (a : Automaton). ReportsOwn a c.in_ok-key.key) c.get_nfa.ensures c.in_ok-key.ensures.made.own,
  );
  reached =
      ∥∥₁_map (from_row c).reached
      (λ before. (
        suc before.0,
        subst (IsReachableBy c.args.dfa.now (suc before.0)) (sym (next_row c))
            (OverUnit before.0 c.state-from.result.now c.args.unit before.1 c.requires.clean),
      ));
}

-- the source row is the row of the state that the ID names
from_is :
    (c : goal.In_ok-key) (q : Powerset) → Names c.args.self.now.store.table c.args.id q → c.state-from.result.now ≡ q
from_is c q n =
    let stored : Names c.self.inside.store.table c.args.id q =
    subst (λ (v : CacheView). Names v.store.table c.args.id q) (sym c.self.view_is) n in
    c.state-from.ensures.named q
    (subst (λ (i : Inside). Names i.store.table c.args.id q) (sym c.self-inside.view_is) stored)

pub returns-clause-value : goal.returns-clause-value
returns-clause-value c = λ q n.
    next_row c
    ∙ ap (λ p. successor c.args.dfa.now.nfa (match_kind_of c.args.dfa.now.config) p c.args.unit) (from_is c q n)

pub returns-clause-alike : goal.returns-clause-alike
returns-clause-alike c = λ q n other unit class.
    next_row c
    ∙ (c.requires.sound.machine.alike c.state-from.result.now c.args.unit other (from_row c).own c.requires.unit
    unit (sym class)
    ∙ ap (λ p. successor c.args.dfa.now.nfa (match_kind_of c.args.dfa.now.config) p other) (from_is c q n))

pub returns-clause-cost : goal.returns-clause-cost
returns-clause-cost c =
    let most : max_cost c.get_nfa.result.now ≡ c.args.dfa.now.greatest =
    ap (λ (a : Automaton). max_cost a) c.get_nfa.ensures ∙ sym c.requires.sound.machine.sizes.greatest in
    subst (λ n. cost c.in_ok-key.key ≤ n) most c.in_ok-key.ensures.made.bounded
