use Rattle.std.proofs.Common.{sym, ap}
use Rattle.automata_hybrid.proofs.Words.{half_at}
use Rattle.automata_hybrid.proofs.Steps.Ids.{Leads-untagged}
use Rattle.automata_hybrid.proofs.Searches.PassState.{false_true}
use Rattle.automata_hybrid.proofs.search.found_at.Goals as goal

pub returns : goal.returns
returns c =
    λ q l. sym
    (ap (λ ps. half_at ps c.args.at c.args.found)
    (Leads-untagged c.args.cache.now.store.table c.args.id q l (c.requires.sound.table.tagged c.args.id q)
    (λ b. absurd (false_true (c.if-is_match.ensures.1 b)))))
