use Rattle.std.proofs.Common.{◌≡◌, ◌∙◌, length, ap, sym, List}
use Rattle.automata_base.specs.declared.nfa.thompson.state.State.{State}
use Rattle.automata_base.specs.Lists.{all_below}
use Rattle.automata_base.proofs.Powersets.Belows.{all_below_from}
use Rattle.automata_base.proofs.Paths.Checked.{below_in}
use Rattle.automata_determinize.proofs.determinize.state.State.is_of.Goals as goal

pub returns : goal.returns
returns c =
    let same : c.are_below.result ≡ all_below (length c.args.nfa.now.states) c.args.self.now.nfa =
    c.are_below.ensures
    ∙ (ap (λ xs. all_below (length c.states-len.result.now) xs) c.nfa.ensures
    ∙ ap (λ (ss : List State). all_below (length ss) c.args.self.now.nfa) c.states-len.ensures.same) in (
      (λ yes s i. below_in (length c.args.nfa.now.states) c.args.self.now.nfa s (sym same ∙ yes) i),
      (λ all. same ∙ all_below_from (length c.args.nfa.now.states) c.args.self.now.nfa all),
    )
