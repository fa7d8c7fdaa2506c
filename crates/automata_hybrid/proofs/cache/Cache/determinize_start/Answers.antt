use Rattle.std.proofs.Common.{◌≡◌, ◌<◌, ◌≤◌, ◌∙◌, ap, subst, sym}
use Rattle.automata_hybrid.proofs.Words.{Automaton, cost, IsOwn, max_cost, start_state_of}
use Rattle.automata_determinize.specs.Paths.Starts.{IsOf, NeedsOwnLooks}
use Rattle.automata_determinize.specs.Answers.Within.{ReportsOwn}
use Rattle.automata_hybrid.specs.Machines.Reachable.{AtStart, IsReachableBy}
use Rattle.automata_hybrid.proofs.cache.Cache.determinize_start.Goals as goal

-- the key is the start state of the mode
from_mode : (c : goal.In_ok-key) → c.in_ok-key.key ≡ start_state_of c.args.dfa.now.nfa c.args.mode c.args.prev
from_mode c =
    c.in_ok-key.ensures.made.same ∙ ap (λ (a : Automaton). start_state_of a c.args.mode c.args.prev) c.get_nfa.ensures

pub returns-clause-is_of : goal.returns-clause-is_of
unfolding IsOwn
returns-clause-is_of c = record {
  own = (
    subst (λ (a : Automaton). IsOf a c.in_ok-key.key) c.get_nfa.ensures c.in_ok-key.ensures.made.is_of,
    subst (λ (a : Automaton). NeedsOwnLooks a c.in_ok-key.key) c.get_nfa.ensures c.in_ok-key.ensures.made.looks,
    subst (λ (a : Automaton). ReportsOwn a c.in_ok-key.key) c.get_nfa.ensures c.in_ok-key.ensures.made.own,
  );
  reached =
      ∣ (
        0,
        subst (IsReachableBy c.args.dfa.now 0) (sym (from_mode c))
            (AtStart c.args.mode c.args.prev
            (subst (λ n. n < c.args.dfa.now.slots) c.requires.slot.1.at c.requires.slot.1.within)),
      ) ∣₁;
}

pub returns-clause-cost : goal.returns-clause-cost
returns-clause-cost c =
    let most : max_cost c.get_nfa.result.now ≡ c.args.dfa.now.greatest =
    ap (λ (a : Automaton). max_cost a) c.get_nfa.ensures ∙ sym c.requires.sound.machine.sizes.greatest in
    subst (λ n. cost c.in_ok-key.key ≤ n) most c.in_ok-key.ensures.made.bounded
