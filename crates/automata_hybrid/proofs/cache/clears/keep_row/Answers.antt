use Rattle.std.proofs.Common.{◌≡◌, ◌≤◌, sym, None, subst, rules}
use Rattle.automata_hybrid.proofs.Words.{cost, id_of, IsStateOf, Machine, Rows}
use Rattle.automata_hybrid.proofs.Storage.Clears.{absent-more}
use Rattle.automata_hybrid.proofs.cache.clears.keep_row.Goals as goal

pub returns-clause-absent : goal.returns-clause-absent
returns-clause-absent c =
    λ q o n. subst (λ (u : Rows). id_of u q ≡ None) (sym c.in_ok-added.ensures.added.more)
    (absent-more c.args.old.now c.args.kept.now
    (record { state = c.in_ok-row.row.state; started = c.in_ok-row.row.started }) q c.in_ok-row.ensures.had o n)

pub add-requires-clause-new : goal.add-requires-clause-new
add-requires-clause-new c =
    let lacks : id_of c.args.kept.now c.in_ok-row.row.state ≡ None = search rules in
    record {
      lacks = (lacks, c.in_ok-row.ensures.state.alive);
      cheap =
          subst (λ (m : Machine). cost c.in_ok-row.row.state ≤ m.greatest) (sym c.requires.of)
          c.in_ok-row.ensures.state.cheap;
      own = subst (λ (m : Machine). IsStateOf m c.in_ok-row.row.state) (sym c.requires.of)
          c.in_ok-row.ensures.state.own;
    }
