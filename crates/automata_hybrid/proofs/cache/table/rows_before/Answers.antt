use Rattle.std.proofs.Common.{◌≤◌, ◌<◌, ◌*◌, ◌/◌, ◌^◌, ◌∙◌, sym, ap, subst}
use Rattle.automata_hybrid.proofs.Storage.Strides.{stride_log}
use Rattle.automata_hybrid.proofs.cache.table.rows_before.Goals as goal

pub returns : goal.returns
returns c =
    let power = c.requires.power in
    ap (λ n. c.args.offset / n)
    (stride_log power.0 c.ilog2.result
    (subst (λ n. 2 ^ c.ilog2.result ≤ n) power.1 c.ilog2.ensures.power_le)
    (subst (λ n. n < 2 * 2 ^ c.ilog2.result) power.1 c.ilog2.ensures.next_power_gt)
    ∙ sym power.1)
