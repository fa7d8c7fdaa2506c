use Rattle.std.proofs.Common.{◌≡◌, ◌+◌, Bor, List, ℕ, true, ap, sym, subst, ◌∙◌, arith}
use Rattle.automata_base.specs.Nfas.Errors.{states_below}
use Rattle.automata_base.specs.Nfas.Nodes.{node_of}
use Rattle.automata_base.specs.Powersets.Members.{Members}
use Rattle.automata_transform.specs.Retraced.Folds.{is_large, IsUnionOf}
use Rattle.automata_transform.proofs.Nfas.Folds.Led.{Leads, some_is, leads_next, leads_large, leads_done}
use Rattle.automata_transform.proofs.Nfas.Folds.Parts.{is_given}
use Rattle.automata_base.proofs.Nfas.Reach.Adding.{state_at_below}
use Rattle.automata_transform.proofs.folding.led_to.Goals.{then-is_none, else-is_none}
use Rattle.automata_transform.proofs.folding.led_to.Goals as goal

pub loop-state-init : goal.loop-state-init
loop-state-init c = record { led = λ q t l. absurd (omega (arith, l)); capacity = c.in_ok-led.ensures }

pub add_targets-requires : goal.add_targets-requires
add_targets-requires c =
    state_at_below c.loop-state.led.capacity c.args.states.now c.loop-state.state-index c.state-item.result
    (ap (λ z. states_below z c.args.states.now) c.loop-state.invariant.capacity ∙ c.requires.range)
    c.loop-state-test.true c.state-item.is

pub loop-state-preserved : goal.loop-state-preserved
loop-state-preserved c =
    let states = c.args.states.now in
    let i = c.loop-state.state-index in
    let s = c.state-item.result in
    elim c.if-is_none.branch [
      | then-is_none w ↦ record {
        led =
            subst (λ (v : Members). Leads states v.items (i + 1)) (sym w.led-is)
            (leads_next states i s c.loop-state.led.items w.add_targets.new.set.items c.loop-state-test.true
            c.state-item.is
            w.add_targets.ensures.items c.loop-state.invariant.led);
        capacity =
            ap (λ (v : Members). v.capacity) w.led-is
            ∙ (w.add_targets.ensures.capacity ∙ c.loop-state.invariant.capacity);
      }
      | else-is_none w ↦ (
          let given = is_given c.large.result c.is_none.result c.is_none.ensures w.if-is_none.false in
          record {
            led =
                subst (λ (v : Members). Leads states v.items (i + 1)) (sym w.led-is)
                (leads_large states i s c.loop-state.led.items c.loop-state-test.true c.state-item.is
                (some_is (λ (list : Bor (List ℕ)). IsUnionOf s list.now × (is_large (node_of s) ≡ true)) c.large.result
                given.0
                c.large.ensures.some given.1).1 c.loop-state.invariant.led);
            capacity = ap (λ (v : Members). v.capacity) w.led-is ∙ c.loop-state.invariant.capacity;
          })
    ]

pub returns : goal.returns
returns c = record {
  led =
      leads_done c.args.states.now c.loop-state.led.items c.loop-state.state-index c.loop-state-test.false
      c.loop-state.invariant.led;
  capacity = c.loop-state.invariant.capacity;
}
