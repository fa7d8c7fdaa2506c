use Rattle.std.proofs.Common.{◌≡◌, ◌∙◌, None, Some, subst, sym}
use Rattle.automata_hybrid.proofs.Words.{id_of, Names, Powerset}
use Rattle.automata_hybrid.specs.Private.Walks.Parts.{IsRestoreResult}
use Rattle.automata_hybrid.proofs.Storage.Additions.{new_state}
use Rattle.automata_hybrid.proofs.Known.Walks.{restored_row, row_fails, row_there}
use Rattle.automata_hybrid.proofs.Searches.Reads.{at_err}
use Rattle.automata_hybrid.proofs.cache.Cache.restore.Goals as goal

pub returns-in-Some-clause-back : goal.returns-in-Some-clause-back
returns-in-Some-clause-back c =
    let named : Names c.args.self.now.store.table c.in-Some.id c.args.handle.now.state =
    subst (λ (q : Powerset). id_of c.args.self.now.store.table q ≡ Some c.in-Some.id) c.requires.key
    (sym c.in-Some.ensures) in
    record {
      named = named;
      back = row_there c.args.dfa.now c.args.handle.now.state c.in-Some.id c.args.self.now named;
    }

pub add_again-requires-clause-new : goal.add_again-requires-clause-new
add_again-requires-clause-new c =
    let none : id_of c.args.self.now.store.table c.args.handle.now.state ≡ None =
    subst (λ q. id_of c.args.self.now.store.table q ≡ None) c.requires.key (sym c.find.ensures ∙ c.in_default.is) in
    new_state c.args.dfa.now c.args.self.now.store.table c.args.handle.now.state c.requires.sound.of
    (none, c.requires.state.alive) c.requires.state.cheap c.requires.state.own

pub returns-clause-back : goal.returns-clause-back
returns-clause-back c =
    let none : id_of c.args.self.now.store.table c.args.handle.now.state ≡ None =
    subst (λ q. id_of c.args.self.now.store.table q ≡ None) c.requires.key (sym c.find.ensures ∙ c.in_default.is) in
    record {
      named = c.in_ok-id.ensures.added.named;
      back =
          restored_row c.args.dfa.now c.args.handle.now.state c.args.self.now c.add_again.new.self
          c.requires.sound.store (none, c.requires.state.alive) c.in_ok-id.id c.in_ok-id.ensures.added;
    }

pub returns-in_err-id-clause-back : goal.returns-in_err-id-clause-back
returns-in_err-id-clause-back c =
    let none : id_of c.args.self.now.store.table c.args.handle.now.state ≡ None =
    subst (λ q. id_of c.args.self.now.store.table q ≡ None) c.requires.key (sym c.find.ensures ∙ c.in_default.is) in
    at_err c.from_residual.result _
    (IsRestoreResult c.args.dfa.now c.args.handle.now.state c.args.self.now c.add_again.new.self)
    c.from_residual.ensures.1
    (row_fails c.args.dfa.now c.args.handle.now.state c.args.self.now c.add_again.new.self _
    c.requires.sound.store (none, c.requires.state.alive) c.in_err-id.ensures.refused)
