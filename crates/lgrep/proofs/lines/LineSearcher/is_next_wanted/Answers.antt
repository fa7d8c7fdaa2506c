use Rattle.std.proofs.Common.{◌≡◌, ◌∙◌, false, sym}
use Rattle.lgrep.specs.Lines.{is_limit}
use Rattle.lgrep.proofs.Listing.{if_ok}
use Rattle.lgrep.proofs.lines.LineSearcher.is_next_wanted.Goals as goal

pub returns-clause-meant : goal.returns-clause-meant
returns-clause-meant c =
    let below : is_limit c.args.flags.now.max c.args.count ≡ false = sym c.is_full.ensures ∙ c.if-is_full.false in
    if_ok c.is_wanted.result
    (λ truth h case_insensitive res is. (
      λ taken. (below, (h case_insensitive res is).0 taken),
      λ both. (h case_insensitive res is).1 both.1,
    ))
    c.is_wanted.ensures.meant
