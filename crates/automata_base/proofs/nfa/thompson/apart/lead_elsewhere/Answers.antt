use Rattle.std.proofs.Common.{sym, ◌∙◌, refl, ap, not}
use Rattle.automata_base.specs.Retraced.Apart.{is_either, lead_elsewhere}
use Rattle.automata_base.specs.declared.nfa.thompson.state.Transition.{Transition}
use Rattle.automata_base.proofs.Powersets.ListTests.{test_fails, test_next}
use Rattle.automata_base.proofs.nfa.thompson.apart.lead_elsewhere.Goals as goal

pub returns-then-is_next_either : goal.returns-then-is_next_either
returns-then-is_next_either c =
    test_fails (lead_elsewhere c.args.one c.args.two) (λ (t : Transition). not (is_either c.args.one c.args.two t.next))
    c.args.transitions.now c.loop-i.i c.index-transitions-i.result
    (lead_elsewhere c.args.one c.args.two c.args.transitions.now) (λ y ys. refl) c.loop-i-test.true
    c.index-transitions-i.is
    (ap not (sym c.is_next_either.ensures ∙ c.if-is_next_either.true)) c.loop-i.invariant

pub loop-i-preserved : goal.loop-i-preserved
loop-i-preserved c =
    test_next (lead_elsewhere c.args.one c.args.two) (λ (t : Transition). not (is_either c.args.one c.args.two t.next))
    c.args.transitions.now c.loop-i.i c.index-transitions-i.result
    (lead_elsewhere c.args.one c.args.two c.args.transitions.now) (λ y ys. refl) c.loop-i-test.true
    c.index-transitions-i.is
    (ap not (sym c.is_next_either.ensures ∙ c.if-is_next_either.false)) c.loop-i.invariant
