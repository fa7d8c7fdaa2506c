use Rattle.automata_base.specs.Nfas.Nodes.{nfa_of}
use Rattle.automata_base.specs.Powersets.Passes.{is_crlf_look}
use Rattle.automata_determinize.proofs.Powersets.Making.{masked}
use Rattle.automata_determinize.proofs.determinize.construct.has_crlf.Goals as goal

pub returns : goal.returns
returns c =
    masked (nfa_of c.args.nfa.now) c.look_set_any.result c.crlf.result c.empty.result is_crlf_look c.has_news.result
    c.look_set_any.ensures.same c.crlf.ensures c.empty.ensures c.has_news.ensures.news c.has_news.ensures.none
