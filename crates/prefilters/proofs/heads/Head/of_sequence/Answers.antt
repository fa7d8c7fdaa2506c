use Rattle.std.proofs.Common.{map}
use Rattle.std.proofs.lemmas.List.Elements.{All-map}
use Rattle.regex_hir.specs.Meaning.{meaning}
use Rattle.prefilters.specs.Heads.{ConsistsOf}
use Rattle.prefilters.proofs.Consisting.{of_cat_all}
use Rattle.prefilters.proofs.heads.Head.of_sequence.Goals as goal

pub returns-else-table-from : goal.returns-else-table-from
returns-else-table-from c =
    let table = c.add_trees.new.table in
    of_cat_all table (map meaning c.args.parts.now)
    (All-map (λ re. ConsistsOf re table) meaning c.args.parts.now c.add_trees.ensures.added)
