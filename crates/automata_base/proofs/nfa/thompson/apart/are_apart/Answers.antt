use Rattle.std.proofs.Common.{ℕ, ◌≡◌, false, sym, ◌∙◌, true≢false, below_more}
use Rattle.automata_base.specs.Lists.{In}
use Rattle.automata_base.specs.Retraced.Apart.{is_either}
use Rattle.automata_base.specs.Retraced.Reach.{targets_of}
use Rattle.automata_base.specs.declared.nfa.thompson.reach.Edges.TheVariants.{Every}
use Rattle.automata_base.proofs.Nfas.Reach.Apart.{apart_here, apart_all, either_first, either_second}
use Rattle.automata_base.proofs.nfa.thompson.apart.are_apart.Goals as goal
use Rattle.automata_base.proofs.nfa.thompson.apart.are_apart.Goals.{else-not-leads_elsewhere-via-then-not-leads_elsewhere+then-i-as_usize+else-i-as_usize-2}
use Rattle.automata_base.proofs.nfa.thompson.apart.are_apart.Goals.{else-not-leads_elsewhere-via-then-not-leads_elsewhere+else-i-as_usize}
use Rattle.automata_base.proofs.nfa.thompson.apart.are_apart.Goals.{else-not-leads_elsewhere-via-else-not-leads_elsewhere}

pub loop-i-preserved : goal.loop-i-preserved
loop-i-preserved c =
    below_more
    (λ q. (r : ℕ) → is_either c.args.one c.args.two q ≡ false → In r (targets_of Every c.args.states.now q)
    → is_either c.args.one c.args.two r ≡ false) _ c.loop-i.invariant here
  where
    here :
        (r : ℕ) → is_either c.args.one c.args.two c.loop-i.i ≡ false
        → In r (targets_of Every c.args.states.now c.loop-i.i) → is_either c.args.one c.args.two r ≡ false
    here r o i =
        elim c.else-not-leads_elsewhere.branch [
          | else-not-leads_elsewhere-via-then-not-leads_elsewhere+then-i-as_usize+else-i-as_usize-2 w ↦
              absurd (true≢false
              (sym (either_second c.args.one c.args.two c.loop-i.i
              (w.if-i-as_usize-2.false ∙ w.as_usize-then-i-as_usize.ensures.value)) ∙ o))
          | else-not-leads_elsewhere-via-then-not-leads_elsewhere+else-i-as_usize w ↦
              absurd (true≢false
              (sym (either_first c.args.one c.args.two c.loop-i.i (w.if-i-as_usize.false ∙ w.as_usize.ensures.value))
              ∙ o))
          | else-not-leads_elsewhere-via-else-not-leads_elsewhere w ↦
              apart_here c.args.states.now c.args.one c.args.two c.loop-i.i c.index-states-i.result c.loop-i-test.true
              c.index-states-i.is
              (sym c.leads_elsewhere.ensures ∙ w.if-not-leads_elsewhere.false) r o i
        ]

pub returns : goal.returns
returns c = λ _. apart_all c.args.states.now c.args.one c.args.two c.loop-i.i c.loop-i-test.false c.loop-i.invariant
