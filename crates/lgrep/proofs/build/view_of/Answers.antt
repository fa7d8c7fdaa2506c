use Rattle.std.proofs.Common.{refl, subst, sym}
use Rattle.automata_base.specs.Nfas.Nodes.{Automaton}
use Rattle.patterns.specs.Patterns.{IsJoinedNfa}
use Rattle.lgrep.specs.Built.{IsViewBuilt}
use Rattle.lgrep.specs.Greps.{HasGroupsFor, IsViewFor}
use Rattle.lgrep.specs.Lines.{bytewise}
use Rattle.lgrep.specs.declared.show.How.{How}
use Rattle.lgrep.specs.declared.view.View.TheVariants as view
use Rattle.lgrep.proofs.build.view_of.Goals as goal

pub returns-in_ok-spans-in-Matches-clause-meant : goal.returns-in_ok-spans-in-Matches-clause-meant
returns-in_ok-spans-in-Matches-clause-meant c = λ res is groups.
    subst (λ (h : How). IsViewFor c.args.case_insensitive h res (view.Matches c.in_ok-spans-in-Matches.spans))
    (sym c.in-Matches.is)
    (c.in_ok-spans-in-Matches.ensures.meant res
    (subst (λ (a : Automaton). IsJoinedNfa (bytewise c.args.case_insensitive) res a)
    (sym c.in_ok-copy-in-Matches.ensures.cases) is))

pub returns-in_ok-sets-in-Which-clause-meant : goal.returns-in_ok-sets-in-Which-clause-meant
returns-in_ok-sets-in-Which-clause-meant c = λ res is groups.
    subst (λ (h : How). IsViewFor c.args.case_insensitive h res (view.Which c.in_ok-sets-in-Which.sets))
    (sym c.in-Which.is)
    (c.in_ok-sets-in-Which.ensures.meant c.args.case_insensitive res
    (subst (λ (a : Automaton). IsJoinedNfa (bytewise c.args.case_insensitive) res a)
    (sym c.in_ok-copy-in-Which.ensures.cases) is))

pub returns-in_ok-spans-in-Matches-clause-built : goal.returns-in_ok-spans-in-Matches-clause-built
returns-in_ok-spans-in-Matches-clause-built c =
    subst (λ (a : Automaton). IsViewBuilt c.args.case_insensitive c.args.capacity a
    (view.Matches c.in_ok-spans-in-Matches.spans)) c.in_ok-copy-in-Matches.ensures.cases
    c.in_ok-spans-in-Matches.ensures.built

pub returns-in_ok-sets-in-Which-clause-built : goal.returns-in_ok-sets-in-Which-clause-built
returns-in_ok-sets-in-Which-clause-built c =
    subst (λ (a : Automaton). IsViewBuilt c.args.case_insensitive c.args.capacity a
    (view.Which c.in_ok-sets-in-Which.sets)) c.in_ok-copy-in-Which.ensures.cases
    c.in_ok-sets-in-Which.ensures.built

pub returns-in_ok-replacer-in-Replaced-clause-meant : goal.returns-in_ok-replacer-in-Replaced-clause-meant
returns-in_ok-replacer-in-Replaced-clause-meant c = λ res is groups.
    subst (λ (h : How). IsViewFor c.args.case_insensitive h res (view.Replaced c.in_ok-replacer-in-Replaced.replacer))
    (sym c.in-Replaced.is)
    (c.in_ok-replacer-in-Replaced.ensures.meant res
    (subst (λ (a : Automaton). IsJoinedNfa (bytewise c.args.case_insensitive) res a)
    (sym c.in_ok-copy-in-Replaced.ensures.cases) is)
    (subst (λ (h : How). HasGroupsFor h res c.args.programs) c.in-Replaced.is groups refl))

pub returns-in_ok-replacer-in-Replaced-clause-built : goal.returns-in_ok-replacer-in-Replaced-clause-built
returns-in_ok-replacer-in-Replaced-clause-built c =
    subst (λ (a : Automaton). IsViewBuilt c.args.case_insensitive c.args.capacity a
    (view.Replaced c.in_ok-replacer-in-Replaced.replacer)) c.in_ok-copy-in-Replaced.ensures.cases
    c.in_ok-replacer-in-Replaced.ensures.built

pub returns-in_ok-replacer-in-Replacements-clause-meant : goal.returns-in_ok-replacer-in-Replacements-clause-meant
returns-in_ok-replacer-in-Replacements-clause-meant c = λ res is groups.
    subst (λ (h : How). IsViewFor c.args.case_insensitive h res
    (view.Replacements c.in_ok-replacer-in-Replacements.replacer))
    (sym c.in-Replacements.is)
    (c.in_ok-replacer-in-Replacements.ensures.meant res
    (subst (λ (a : Automaton). IsJoinedNfa (bytewise c.args.case_insensitive) res a)
    (sym c.in_ok-copy-in-Replacements.ensures.cases) is)
    (subst (λ (h : How). HasGroupsFor h res c.args.programs) c.in-Replacements.is groups refl))

pub returns-in_ok-replacer-in-Replacements-clause-built : goal.returns-in_ok-replacer-in-Replacements-clause-built
returns-in_ok-replacer-in-Replacements-clause-built c =
    subst (λ (a : Automaton). IsViewBuilt c.args.case_insensitive c.args.capacity a
    (view.Replacements c.in_ok-replacer-in-Replacements.replacer)) c.in_ok-copy-in-Replacements.ensures.cases
    c.in_ok-replacer-in-Replacements.ensures.built
