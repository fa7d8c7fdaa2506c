-- The DFA of a lexer, by what it is built from.
use Rattle.std.proofs.Common.{◌≡◌, List, ap, subst, sym}
use Rattle.regex_hir.specs.Re.{Re}
use Rattle.automata_base.specs.Answers.TruePairs.{KeepsUtf8}
use Rattle.automata_base.specs.Nfas.Nodes.{Automaton}
use Rattle.automata_hybrid.specs.Machines.Builds.{Builds}
use Rattle.regex_automata.specs.Promises.{Forward, KindAll, Machine, engine_of, match_kind_of}
use Rattle.patterns.specs.Patterns.{IsJoinedNfa}
use Rattle.patterns.specs.declared.compile.Options.{Options}
use Rattle.lexer.specs.Lexers.{IsLexerOf, lexer_settings}
use Rattle.lexer.specs.declared.rules.Prefer.{Prefer}

pub lexer_is :
    (o : Options) (prefer : Prefer) (res : List Re) (a : Automaton) (m : Machine) → IsJoinedNfa o res a
    → KeepsUtf8 Forward (engine_of a KindAll) → Builds (lexer_settings o prefer) a m → IsLexerOf o prefer res m
lexer_is o prefer res a m joins keeps (s, settled, same) =
    let own : m.nfa ≡ a = ap (λ (v : Machine). v.nfa) same in
    record {
      kind = ap (λ (v : Machine). match_kind_of v.config) same;
      joined = subst (λ v. IsJoinedNfa o res v) (sym own) joins;
      utf8 = subst (λ v. KeepsUtf8 Forward (engine_of v KindAll)) (sym own) keeps;
    }
