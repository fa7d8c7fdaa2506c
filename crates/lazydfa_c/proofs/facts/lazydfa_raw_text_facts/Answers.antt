use Rattle.std.proofs.Common.{subst, sym}
use Rattle.lazydfa_c.specs.Facts.{ReportsFacts}
use Rattle.lazydfa_c.proofs.Texts.{reports}
use Rattle.lazydfa_c.proofs.facts.lazydfa_raw_text_facts.Goals as goal

pub returns : goal.returns
returns c =
    let text = c.args.text.now in
    let facts = c.write_facts.new.facts in
    let bytes = c.write_facts.new.bytes in
    let lengths = c.write_facts.new.lengths in
    subst (ReportsFacts c.args.options.now text facts c.args.bytes.now bytes c.args.lengths.now lengths)
    (sym c.of.ensures)
    (reports c.args.options.now text c.none.result facts c.args.bytes.now bytes c.args.lengths.now lengths
    c.write_facts.result c.none.ensures c.write_facts.ensures.ok c.write_facts.ensures.kept c.write_facts.ensures.err)
