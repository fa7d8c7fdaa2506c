use Rattle.std.proofs.Common.{List, [], ◌∷◌, ◌≡◌, ◌↔◌, true, length, sym, subst}
use Rattle.std.specs.Prelude.{IsTrue}
use Rattle.automata_base.specs.declared.nfa.thompson.state.State.{State}
use Rattle.automata_base.specs.Retraced.Reach.{ReachesMatch}
use Rattle.automata_base.specs.Nfas.Errors.{states_below}
use Rattle.automata_base.proofs.Nfas.Reach.InRange.{checked_below}
use Rattle.automata_transform.proofs.Nfas.Mirrors.Begins.{alike_is}
use Rattle.automata_transform.proofs.reverse.begins_alike.Goals as goal

pub reaches_match-requires-clause-range : goal.reaches_match-requires-clause-range
reaches_match-requires-clause-range c =
    subst (λ (z : List State). states_below (length z) z ≡ true) (sym c.states.ensures.same)
    (checked_below c.args.nfa.now c.states.ensures.checked)

pub returns : goal.returns
returns c =
    alike_is c.args.nfa.now c.in_ok-begins.begins c.has_empty.result
    (subst (λ z. IsTrue c.in_ok-begins.begins ↔ ReachesMatch c.args.nfa.now.states (z ∷ [])) c.start_anchored.ensures
    (subst (λ (z : List State). IsTrue c.in_ok-begins.begins ↔ ReachesMatch z (c.start_anchored.result ∷ []))
    c.states.ensures.same
    c.in_ok-begins.ensures)) c.has_empty.ensures
