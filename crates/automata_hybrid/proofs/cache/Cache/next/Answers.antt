use Rattle.std.proofs.Common.{◌^◌, ◌<◌, ◌≤◌, arith, subst}
use Rattle.std.proofs.lemmas.Grind.{common_steps}
use Rattle.automata_hybrid.proofs.Words.{IsRowId}
use Rattle.automata_hybrid.proofs.Steps.BySteps.{stands_step, tagged_of}
use Rattle.automata_hybrid.proofs.Known.Calls.{cached_run, fixed_run}
use Rattle.automata_hybrid.proofs.Steps.Steps.{cell_known, fixed_answer, known_answer, unknown_clean, unknown_free}
use Rattle.automata_hybrid.proofs.Steps.Ids.{HoldsRow-valid}
use Rattle.automata_hybrid.proofs.cache.Cache.next.Goals as goal

pub returns-then-is_fixed-clause-answer : goal.returns-then-is_fixed-clause-answer
returns-then-is_fixed-clause-answer c =
    let high : 2 ^ 29 ≤ c.args.id = grind (arith, common_steps, c.if-is_fixed.ensures) in
    fixed_answer c.args.dfa.now c.args.id c.args.unit c.args.self.now high
    (λ q n. c.reveal_invariant_of.ensures.table.low c.args.id q n) c.requires.row

pub returns-then-is_fixed-clause-run : goal.returns-then-is_fixed-clause-run
returns-then-is_fixed-clause-run c =
    let high : 2 ^ 29 ≤ c.args.id = grind (arith, common_steps, c.if-is_fixed.ensures) in
    fixed_run c.args.dfa.now c.args.id c.args.unit c.args.self.now
    c.reveal_invariant_of.ensures.store high
    (λ q n. c.reveal_invariant_of.ensures.table.low c.args.id q n)

pub returns-then-not-is_unknown-clause-answer : goal.returns-then-not-is_unknown-clause-answer
returns-then-not-is_unknown-clause-answer c =
    let low : c.args.id < 2 ^ 29 = grind (arith, common_steps, c.if-is_fixed.ensures) in
    let valid : IsRowId c.args.self.now.store.table c.args.id =
    HoldsRow-valid c.args.self.now c.args.id c.requires.row low in
    let known : c.cell-cell.result < 2 ^ 31 = grind (arith, common_steps, c.if-not-is_unknown.ensures.size) in
    known_answer c.args.dfa.now c.args.id c.args.unit c.args.self.now c.unit_class-class.result c.cell-cell.result
    c.requires.of valid
    c.unit_class-class.ensures.value c.unit_class-class.ensures.small c.unit_class-class.ensures.quit
    c.unit_class-class.ensures.free
    c.cell-cell.ensures.value c.cell-cell.ensures.named low known c.cell-cell.ensures.tag
    c.unit_class-class.ensures.unit

pub returns-then-not-is_unknown-clause-run : goal.returns-then-not-is_unknown-clause-run
returns-then-not-is_unknown-clause-run c =
    let low : c.args.id < 2 ^ 29 = grind (arith, common_steps, c.if-is_fixed.ensures) in
    let valid : IsRowId c.args.self.now.store.table c.args.id =
    HoldsRow-valid c.args.self.now c.args.id c.requires.row low in
    let known : c.cell-cell.result < 2 ^ 31 = grind (arith, common_steps, c.if-not-is_unknown.ensures.size) in
    cached_run c.args.dfa.now c.args.id c.args.unit c.args.self.now c.reveal_invariant_of.ensures.machine
    c.unit_class-class.ensures.unit
    c.reveal_invariant_of.ensures.store
    (subst (λ k. k < c.args.dfa.now.stride) c.unit_class-class.ensures.value c.unit_class-class.ensures.below)
    (cell_known c.args.dfa.now c.args.id c.args.unit c.args.self.now c.unit_class-class.result c.cell-cell.result
    c.requires.of valid c.unit_class-class.ensures.value c.unit_class-class.ensures.small
    c.unit_class-class.ensures.quit c.unit_class-class.ensures.free c.cell-cell.ensures.value
    c.cell-cell.ensures.named known)

pub compute_next-requires-clause-clean : goal.compute_next-requires-clause-clean
compute_next-requires-clause-clean c =
    let low : c.args.id < 2 ^ 29 = grind (arith, common_steps, c.if-is_fixed.ensures) in
    let valid : IsRowId c.args.self.now.store.table c.args.id =
    HoldsRow-valid c.args.self.now c.args.id c.requires.row low in
    let unknown : 2 ^ 31 ≤ c.cell-cell.result = grind (arith, common_steps, c.if-not-is_unknown.ensures.size) in
    unknown_clean c.args.dfa.now c.args.id c.args.unit c.args.self.now c.unit_class-class.result c.cell-cell.result
    c.requires.of valid
    c.unit_class-class.ensures.value c.unit_class-class.ensures.small c.unit_class-class.ensures.quit
    c.unit_class-class.ensures.free
    c.cell-cell.ensures.value c.cell-cell.ensures.named unknown

pub compute_next-requires-clause-unknown : goal.compute_next-requires-clause-unknown
compute_next-requires-clause-unknown c =
    let low : c.args.id < 2 ^ 29 = grind (arith, common_steps, c.if-is_fixed.ensures) in
    let valid : IsRowId c.args.self.now.store.table c.args.id =
    HoldsRow-valid c.args.self.now c.args.id c.requires.row low in
    let unknown : 2 ^ 31 ≤ c.cell-cell.result = grind (arith, common_steps, c.if-not-is_unknown.ensures.size) in
    unknown_free c.args.dfa.now c.args.id c.args.unit c.args.self.now c.unit_class-class.result c.cell-cell.result
    c.requires.of valid
    c.unit_class-class.ensures.value c.unit_class-class.ensures.small c.unit_class-class.ensures.quit
    c.unit_class-class.ensures.free
    c.cell-cell.ensures.value c.cell-cell.ensures.named unknown

pub returns-then-is_fixed-clause-stands : goal.returns-then-is_fixed-clause-stands
returns-then-is_fixed-clause-stands c = λ input at stands unit.
    stands_step c.args.dfa.now input c.args.self.now c.args.self.now at c.args.id c.args.id c.args.unit
    (tagged_of c.reveal_invariant_of.ensures) (tagged_of c.reveal_invariant_of.ensures)
    stands unit (returns-then-is_fixed-clause-answer c)

pub returns-then-not-is_unknown-clause-stands : goal.returns-then-not-is_unknown-clause-stands
returns-then-not-is_unknown-clause-stands c = λ input at stands unit.
    stands_step c.args.dfa.now input c.args.self.now c.args.self.now at c.args.id c.cell-cell.result c.args.unit
    (tagged_of c.reveal_invariant_of.ensures) (tagged_of c.reveal_invariant_of.ensures)
    stands unit (returns-then-not-is_unknown-clause-answer c)

pub returns-clause-stands : goal.returns-clause-stands
returns-clause-stands c = λ input at stands unit.
    stands_step c.args.dfa.now input c.args.self.now c.compute_next.new.self at c.args.id c.in_ok-next.next c.args.unit
    (tagged_of c.reveal_invariant_of.ensures) (tagged_of c.in_ok-next.ensures.sound)
    stands unit c.in_ok-next.ensures.taken.answer
