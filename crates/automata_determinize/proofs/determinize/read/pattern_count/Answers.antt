use Rattle.std.proofs.Common.{sym, ◌∙◌}
use Rattle.automata_determinize.proofs.Powersets.Code.Reading.{whole}
use Rattle.automata_determinize.proofs.determinize.read.pattern_count.Goals as goal

pub returns-then-lists_patterns : goal.returns-then-lists_patterns
returns-then-lists_patterns c =
    c.u32_at.ensures
    ∙ (whole c.args.bytes.now c.requires (sym c.lists_patterns.ensures ∙ c.if-lists_patterns.true)).count
