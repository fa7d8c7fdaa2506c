use Rattle.std.proofs.Common.{◌∙◌, ◌++◌, ap}
use Rattle.std.specs.Prelude.{flat_map}
use Rattle.meta.specs.Captures.{span_in}
use Rattle.lgrep.specs.Replaced.{piece_bytes}
use Rattle.lgrep.specs.Templates.{pieces_for}
use Rattle.lgrep.proofs.Printing.{on_ok}
use Rattle.lgrep.proofs.Replacing.{expanded}
use Rattle.lgrep.proofs.replace.GroupFinder.push_expansion.Goals as goal

pub returns-clause-expanded : goal.returns-clause-expanded
returns-clause-expanded c =
    let captures = c.groups_of.new.captures in
    let pieces = c.pieces_for-pieces.ensures
    ∙ ap (pieces_for c.args.replacements.now) (c.as_usize.ensures.value ∙ c.pattern.ensures) in
    on_ok c.push_pieces.result
    (λ said res groups of. expanded c.args.replacements.now res c.args.line.now c.args.found.now captures
    c.args.bytes.now.items c.push_pieces.new.bytes.items
    (said ∙ ap (λ ps. c.args.bytes.now.items ++ flat_map (piece_bytes c.args.line.now (span_in captures)) ps) pieces)
    (λ m. c.groups_of.ensures.groups res m groups) of)
    c.push_pieces.ensures
