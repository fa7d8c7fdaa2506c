use Rattle.std.proofs.Common.{◌≡◌, ℕ, List, arith, subst, sym}
use Rattle.std.proofs.lemmas.Grind.{common_steps}
use Rattle.automata_hybrid.proofs.Words.{fresh, IsTemplate, Rows}
use Rattle.automata_hybrid.specs.Private.Cache.Table.{IsSoundTable}
use Rattle.automata_hybrid.proofs.Storage.SoundTables.{sound_fresh}
use Rattle.automata_hybrid.proofs.cache.table.Table.fresh.Goals as goal

pub returns-clause-sound : goal.returns-clause-sound
returns-clause-sound c =
    let t : Rows =
    record { of = c.of.result.value; cells = c.resize-3.new.self.items; rows = c.in_ok-with_capacity.field-0.items } in
    let same : t ≡ fresh c.args.dfa.now = grind (arith, common_steps) in
    subst IsSoundTable (sym same)
    (sound_fresh c.args.dfa.now
    (subst (λ n. IsTemplate n c.args.dfa.now.template) c.requires.stride
    (subst (λ (xs : List ℕ). IsTemplate c.args.stride xs) c.requires.template c.requires.whole)))
