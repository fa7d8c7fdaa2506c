use Rattle.std.proofs.Common.{◌^◌, ◌<◌, ◌≤◌, arith, length}
use Rattle.std.proofs.lemmas.Grind.{common_steps}
use Rattle.automata_hybrid.proofs.Known.Starts.{keeps_fixed, keeps_row}
use Rattle.automata_hybrid.proofs.Storage.Clears.{slot_row}
use Rattle.automata_hybrid.proofs.cache.clears.keep_slot.Goals as goal

pub returns-then-is_fixed-clause-kept : goal.returns-then-is_fixed-clause-kept
returns-then-is_fixed-clause-kept c =
    let high : 2 ^ 29 ≤ c.args.id = grind (arith, common_steps, c.if-is_fixed.ensures) in
    keeps_fixed c.args.old.now c.args.kept.now c.args.slots.now.items c.push.new.self.items c.args.id
    c.requires.old c.requires.sound high c.in_ok-push.ensures.items c.requires.of c.requires.named c.requires.leads

pub keep_row-requires-clause-valid : goal.keep_row-requires-clause-valid
keep_row-requires-clause-valid c =
    let below : c.args.id < 2 ^ 29 = grind (arith, common_steps, c.if-is_fixed.ensures) in
    slot_row c.args.old.now (length c.args.slots.now.items) c.args.id c.requires.leads below

pub returns-clause-kept : goal.returns-clause-kept
returns-clause-kept c =
    let below : c.args.id < 2 ^ 29 = grind (arith, common_steps, c.if-is_fixed.ensures) in
    keeps_row c.args.old.now c.args.kept.now c.keep_row.new.kept c.args.slots.now.items c.push-2.new.self.items
    c.args.id c.in_ok-new.new
    c.requires.old c.requires.sound c.in_ok-new.ensures.sound below c.in_ok-push-2.ensures.items c.requires.of
    c.requires.named c.requires.leads
    c.in_ok-new.ensures.row c.in_ok-new.ensures.named c.in_ok-new.ensures.absent
