use Rattle.std.proofs.Common.{◌∙◌, Some, ap, refl, arith}
use Rattle.std.proofs.Math.Nat.{lt_of_not-le}
use Rattle.automata_hybrid.proofs.Words.{half_at, HalfMatch}
use Rattle.automata_hybrid.proofs.Fast.Runs.{first_half}
use Rattle.automata_hybrid.proofs.Searches.PassState.{false_true}
use Rattle.automata_hybrid.proofs.search.fast.run.last_found.Goals as goal

pub first_pattern-requires : goal.first_pattern-requires
first_pattern-requires c =
    let reports =
    c.requires.reports (lt_of_not-le (λ h. false_true (c.if-is_unknown.ensures.size.1 h))) in
    record { sound = c.requires.sound; valid = reports.0; tagged = reports.1 }

pub returns-then-is_unknown-clause-some : goal.returns-then-is_unknown-clause-some
returns-then-is_unknown-clause-some c = λ low. absurd (omega (arith, low, c.if-is_unknown.ensures.size.0 refl))

pub returns-clause-some : goal.returns-clause-some
returns-clause-some c = λ low q n before.
    ap (λ (h : HalfMatch). Some h) c.new.ensures
    ∙ (first_half q.patterns c.first_pattern.result c.place_offset-offset.result before
    ((c.requires.sound.table.tagged c.args.reported q n).0 (c.requires.reports low).1) (c.first_pattern.ensures q n)
    ∙ ap (λ at. half_at q.patterns at before) c.place_offset-offset.ensures.value)
