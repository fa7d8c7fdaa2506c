use Rattle.std.proofs.Common.{sym, ap, ◌∙◌, Some}
use Rattle.automata_config.specs.declared.error.BuildError.{BuildError}
use Rattle.regex_automata.proofs.Regexes.Turned.{unicode_of}
use Rattle.regex_automata.proofs.Regexes.Capacities.{enough_of}
use Rattle.regex_automata.proofs.Regexes.Reversals.{refused_of, sound_of}
use Rattle.regex_automata.proofs.hybrid.regex.build.Builder.build_from_nfa.Goals as goal

pub returns-in-Ok-build_from_nfas-clause-sound : goal.returns-in-Ok-build_from_nfas-clause-sound
returns-in-Ok-build_from_nfas-clause-sound c =
    sound_of c.args.self.now c.args.forward c.keeping_unions.result c.in-Ok.reverse c.keeping_unions.ensures.same
    c.in-Ok-build_from_nfas.regex c.in-Ok-build_from_nfas.ensures.ok c.in-Ok.ensures.pair c.in-Ok.ensures.utf8
    c.keeping_unions.ensures.keeps

pub returns-in-Err-clause-refused : goal.returns-in-Err-clause-refused
returns-in-Err-clause-refused c = c.in-Err.ensures.refused c.args.self.now

pub returns-in-Err-build_from_nfas-clause-refused : goal.returns-in-Err-build_from_nfas-clause-refused
returns-in-Err-build_from_nfas-clause-refused c =
    let refused =
    refused_of c.args.self.now c.args.forward c.keeping_unions.result c.in-Ok.reverse c.keeping_unions.ensures.same
    c.in-Err-build_from_nfas.error (sym c.in-Err-build_from_nfas.ensures.refused)
    in record {
      passes = c.in-Ok.ensures.passes;
      reverse = c.in-Ok.reverse;
      reversed = c.in-Ok.ensures.reversed;
      fails = refused;
      unicode = λ e.
          unicode_of c.args.self.now c.args.forward c.in-Ok.reverse c.in-Ok.ensures.reversed
          (refused ∙ ap (λ (v : BuildError). Some v) e);
      enough = enough_of c.args.self.now c.args.forward c.in-Ok.reverse c.in-Err-build_from_nfas.error refused;
    }
