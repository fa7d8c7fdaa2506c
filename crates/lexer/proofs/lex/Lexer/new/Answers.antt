use Rattle.lexer.proofs.Building.{lexer_is}
use Rattle.lexer.proofs.lex.Lexer.new.Goals as goal

pub returns-in-Ok-clause-meant : goal.returns-in-Ok-clause-meant
returns-in-Ok-clause-meant c =
    let n = c.in_ok-nfa.ensures.meant in (
      n.0,
      n.1,
      lexer_is c.args.options.now c.args.prefer n.0 c.in_ok-nfa.nfa c.in-Ok.dfa n.2 c.in-Ok.ensures.keeps
          c.in-Ok.ensures.built,
    )
