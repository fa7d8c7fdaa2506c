use Rattle.std.proofs.Common.{◌≡◌, [], ◌∷◌, length, reverse, refl, sym, ap, ◌∙◌, subst}
use Rattle.std.proofs.lemmas.List.{nil_from_length}
use Rattle.automata_base.specs.declared.nfa.thompson.finishing.Frame.{Frame}
use Rattle.automata_base.specs.declared.nfa.thompson.reach.Edges.TheVariants.{Epsilon}
use Rattle.automata_base.specs.Retraced.DepthFirst.{IsUnderSearch}
use Rattle.automata_base.specs.Retraced.Reach.{targets_of}
use Rattle.automata_base.proofs.Nfas.Reach.DepthFirst.{search_starts, stack_top}
use Rattle.automata_base.proofs.nfa.thompson.finishing.search_from.Goals as goal

pub returns-then-contains-clause-root : goal.returns-then-contains-clause-root
returns-then-contains-clause-root c =
    c.contains.ensures.had c.if-contains.true

pub mark-requires-clause-new : goal.mark-requires-clause-new
mark-requires-clause-new c = c.contains.ensures.new c.if-contains.false

pub loop-frame-init : goal.loop-frame-init
loop-frame-init c =
    let frame : Frame = record { state = c.args.root; edge = 0 } in
    let turned : reverse c.push.new.self.items ≡ frame ∷ [] =
    stack_top c.push.new.self.items c.args.stack.now.items frame c.in_ok-push.ensures.items
    ∙ ap (λ z. frame ∷ reverse z) c.requires.search.0 in
    record {
      search =
          subst (λ z. IsUnderSearch (length c.args.states.now) (targets_of Epsilon c.args.states.now)
          c.mark.new.visited.items c.args.finished.now.items z) (sym turned)
          (subst (λ z. IsUnderSearch (length c.args.states.now) (targets_of Epsilon c.args.states.now) z
          c.args.finished.now.items (frame ∷ [])) (sym c.mark.ensures.items)
          (search_starts (length c.args.states.now) (targets_of Epsilon c.args.states.now) c.args.visited.now.items
          c.args.finished.now.items
          frame c.args.root refl refl c.requires.root c.requires.search.1));
      root = c.mark.ensures.has;
      kept = c.mark.ensures.kept;
      rooms = (c.mark.ensures.capacity ∙ c.requires.rooms.0, c.requires.rooms.1);
    }

pub step-requires-clause-rooms : goal.step-requires-clause-rooms
step-requires-clause-rooms c = c.loop-frame.invariant.rooms

pub step-requires-clause-search : goal.step-requires-clause-search
step-requires-clause-search c =
    subst (λ z. IsUnderSearch (length c.args.states.now) (targets_of Epsilon c.args.states.now)
    c.loop-frame.visited.items c.loop-frame.finished.items z)
    (stack_top c.loop-frame.stack.items c.pop.new.self.items c.in-Some.frame c.in-Some.ensures.items)
    c.loop-frame.invariant.search

pub loop-frame-preserved : goal.loop-frame-preserved
loop-frame-preserved c = record {
  search = c.in_ok-step.ensures.search;
  root = c.in_ok-step.ensures.kept c.args.root c.loop-frame.invariant.root;
  kept = λ q i. c.in_ok-step.ensures.kept q (c.loop-frame.invariant.kept q i);
  rooms = c.in_ok-step.ensures.rooms;
}

pub returns-in_err-step-clause-kept : goal.returns-in_err-step-clause-kept
returns-in_err-step-clause-kept c = λ q i. c.step.ensures.kept q (c.loop-frame.invariant.kept q i)

pub returns-clause-search : goal.returns-clause-search
returns-clause-search c =
    let none : c.loop-frame.stack.items ≡ [] =
    nil_from_length c.loop-frame.stack.items (sym c.loop-frame.stack.ok.0 ∙ c.in_default.ensures.cases.0) in
    let after : c.pop.new.self.items ≡ [] =
    nil_from_length c.pop.new.self.items (sym c.pop.new.self.ok.0 ∙ c.in_default.ensures.cases.1) in (
      after,
      subst
          (λ z. IsUnderSearch (length c.args.states.now) (targets_of Epsilon c.args.states.now)
          c.loop-frame.visited.items
          c.loop-frame.finished.items z) (ap reverse none) c.loop-frame.invariant.search,
    )

pub returns-clause-root : goal.returns-clause-root
returns-clause-root c = c.loop-frame.invariant.root

pub returns-clause-kept : goal.returns-clause-kept
returns-clause-kept c = c.loop-frame.invariant.kept

pub returns-clause-rooms : goal.returns-clause-rooms
returns-clause-rooms c = c.loop-frame.invariant.rooms
