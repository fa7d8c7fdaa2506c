use Rattle.std.proofs.Common.{◌≡◌, ◌∙◌, ◌<◌, length, sym, subst}
use Rattle.automata_hybrid.proofs.Words.{IsOwn, Machine}
use Rattle.automata_hybrid.proofs.Steps.Ids.{only_pattern}
use Rattle.automata_hybrid.proofs.search.first_pattern.Goals as goal

pub returns-then-pattern_len-eq1 : goal.returns-then-pattern_len-eq1
unfolding IsOwn
returns-then-pattern_len-eq1 c = λ q n.
    let own : IsOwn c.args.dfa.now.nfa q =
    subst (λ (m : Machine). IsOwn m.nfa q) c.requires.sound.of (c.requires.sound.table.own c.args.id q n) in
    let one : length c.args.dfa.now.nfa.start_pattern ≡ 1 = sym c.pattern_len.ensures ∙ c.if-pattern_len-eq1.true in
    only_pattern q.patterns ((c.requires.sound.table.tagged _ q n).0 c.requires.tagged)
    (λ p i. subst (λ k. p < k) one (own.2 p i))
