use Rattle.std.proofs.Common.{ap, subst, sym}
use Rattle.automata_hybrid.specs.Machines.Builds.{Builds}
use Rattle.regex_automata.specs.Promises.{LeftmostFirst, Machine, match_kind_of}
use Rattle.lgrep.specs.Built.{IsViewBuilt, grep_settings}
use Rattle.lgrep.specs.declared.lines.LineSearcher.{LineSearcher}
use Rattle.lgrep.specs.declared.view.View.{View}
use Rattle.lgrep.proofs.Printing.{grep_made}
use Rattle.lgrep.proofs.build.grep_of.Goals as goal

pub returns-clause-meant : goal.returns-clause-meant
returns-clause-meant c = λ res is groups.
    let built = c.in_ok-lines.ensures.built.2 in
    grep_made c.args.case_insensitive res c.args.nfa c.args.show c.in_ok-lines.lines c.in_ok-view.view c.new.result
    c.new.ensures.show c.new.ensures.lines c.new.ensures.view (ap (λ (m : Machine). m.nfa) built)
    (ap (λ (m : Machine). match_kind_of m.config) built) (c.in_ok-view.ensures.meant res is groups) is

pub returns-clause-built : goal.returns-clause-built
returns-clause-built c = record {
  lines =
      subst (λ (s : LineSearcher). Builds (grep_settings LeftmostFirst c.args.capacity) c.args.nfa s.dfa)
      (sym c.new.ensures.lines) c.in_ok-lines.ensures.built;
  view =
      subst (λ (v : View). IsViewBuilt c.args.case_insensitive c.args.capacity c.args.nfa v) (sym c.new.ensures.view)
      c.in_ok-view.ensures.built;
}
