use Rattle.std.proofs.Common.{◌≡◌, List, ap, subst, sym}
use Rattle.regex_hir.specs.Re.{Re}
use Rattle.automata_base.specs.Answers.TruePairs.{KeepsUtf8}
use Rattle.automata_base.specs.Nfas.Nodes.{Automaton}
use Rattle.automata_hybrid.specs.Machines.Builds.{Builds}
use Rattle.regex_automata.specs.Promises.{Forward, KindAll, Machine, engine_of, match_kind_of}
use Rattle.patterns.specs.Patterns.{IsJoinedNfa}
use Rattle.patterns.specs.Sets.{IsDfaOf}
use Rattle.patterns.specs.declared.compile.Options.{Options}
use Rattle.patterns.specs.declared.set.RegexSet.{RegexSet}
use Rattle.lgrep.specs.Built.{grep_settings}
use Rattle.lgrep.specs.Lines.{bytewise}
use Rattle.lgrep.proofs.Listing.{if_ok}
use Rattle.lgrep.proofs.build.set_searcher.Goals as goal

-- a DFA of that NFA that reports all matches
is_dfa :
    (o : Options) (res : List Re) (nfa : Automaton) (m : Machine) → m.nfa ≡ nfa → match_kind_of m.config ≡ KindAll →
    KeepsUtf8 Forward (engine_of nfa KindAll) → IsJoinedNfa o res nfa → IsDfaOf o res m
is_dfa o res nfa m own kind keeps joined = record {
  kind = kind;
  joined = subst (λ a. IsJoinedNfa o res a) (sym own) joined;
  utf8 = subst (λ a. KeepsUtf8 Forward (engine_of a KindAll)) (sym own) keeps;
}

pub returns-clause-meant : goal.returns-clause-meant
returns-clause-meant c =
    let built = c.in_ok-dfa.ensures.2 in
    if_ok c.new.result (λ s same case_insensitive res is.
    subst (λ (v : RegexSet). IsDfaOf (bytewise case_insensitive) res v.dfa) (sym same)
    (is_dfa (bytewise case_insensitive) res c.args.nfa c.in_ok-dfa.dfa (ap (λ (m : Machine). m.nfa) built)
    (ap (λ (m : Machine). match_kind_of m.config) built) c.in_ok-test_utf8.ensures is))
    c.new.ensures

pub returns-clause-built : goal.returns-clause-built
returns-clause-built c =
    if_ok c.new.result (λ s same.
    subst (λ (v : RegexSet). Builds (grep_settings KindAll c.args.capacity) c.args.nfa v.dfa) (sym same)
    c.in_ok-dfa.ensures)
    c.new.ensures
