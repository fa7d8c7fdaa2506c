use Rattle.std.proofs.Common.{◌∙◌, sym}
use Rattle.regex_automata.proofs.Regexes.Capacities.{enough_with}
use Rattle.regex_automata.proofs.hybrid.regex.build.Builder.build_from_nfas.Goals as goal

pub returns-clause-enough : goal.returns-clause-enough
returns-clause-enough c =
    enough_with c.args.self.now c.args.forward c.args.reverse c.build_both.result
    (sym c.pattern_len.ensures ∙ (c.if-pattern_len.false ∙ c.pattern_len-2.ensures)) c.build_both.ensures.refused
