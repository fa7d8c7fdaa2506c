use Rattle.std.proofs.Common.{ap, subst, sym}
use Rattle.automata_hybrid.specs.Machines.Builds.{Builds}
use Rattle.regex_automata.specs.Promises.{IsLookAcyclic, LeftmostFirst, Machine, nfa_of}
use Rattle.lgrep.specs.Built.{grep_settings}
use Rattle.lgrep.proofs.Listing.{if_ok}
use Rattle.lgrep.proofs.build.line_searcher.Goals as goal

pub new-requires : goal.new-requires
new-requires c =
    subst (λ nfa. IsLookAcyclic (nfa_of nfa)) (sym (ap (λ (m : Machine). m.nfa) c.in_ok-dfa.ensures.2)) c.requires

pub returns-clause-built : goal.returns-clause-built
returns-clause-built c =
    if_ok c.new.result (λ s same.
    subst (λ (m : Machine). Builds (grep_settings LeftmostFirst c.args.capacity) c.args.nfa m) (sym same)
    c.in_ok-dfa.ensures)
    c.new.ensures.dfa
