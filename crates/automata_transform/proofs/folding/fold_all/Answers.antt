use Rattle.std.proofs.Common.{◌≡◌, ◌<◌, ◌≤◌, length, refl, sym, subst, ◌∙◌, arith}
use Rattle.automata_transform.proofs.Nfas.Folds.Led.{union_below}
use Rattle.automata_transform.proofs.Nfas.Folds.Looks.{looks_on, looks_same}
use Rattle.automata_base.proofs.Nfas.Reach.Adding.{state_at_below}
use Rattle.automata_base.proofs.Powersets.Walking.{state_read}
use Rattle.automata_base.specs.Nfas.Nodes.{nodes_of}
use Rattle.automata_transform.proofs.Nfas.Folds.States.{folding_begin, folding_next, folding_done, reads_back}
use Rattle.automata_transform.proofs.folding.fold_all.Goals as goal

pub loop-x-init : goal.loop-x-init
loop-x-init c = record {
  folding = folding_begin c.args.states.now.items c.args.free.now (nodes_of c.args.made.now.items);
  looks = looks_same _ _ refl;
  few = c.requires.few;
}

pub fold_at-requires : goal.fold_at-requires
fold_at-requires c =
    let old = c.args.states.now.items in
    let now = c.loop-x.states.items in
    let f = c.loop-x.invariant.folding in
    let same : length now ≡ length old = f.same in
    let low : c.loop-x.x < length old = omega (arith, c.len-x-end.ensures, c.loop-x-test.true) in
    record {
      at = omega (arith, low, same);
      below = λ s list at u y i.
          subst (λ v. y < v) (sym same)
          (union_below (length old) s list
          (state_at_below (length old) old c.loop-x.x s c.requires.range low
          (state_read old c.loop-x.x s (sym (f.rest c.loop-x.x (omega arith)) ∙ at)))
          u y i);
      few = c.loop-x.invariant.few;
      kept = λ q range k.
          c.requires.kept q range
          (reads_back old now c.args.free.now (nodes_of c.loop-x.made.items) c.loop-x.x f q range k);
    }

pub loop-x-preserved : goal.loop-x-preserved
loop-x-preserved c = record {
  folding =
      folding_next c.args.states.now.items c.loop-x.states.items c.args.free.now (nodes_of c.loop-x.made.items)
      c.loop-x.x
      c.loop-x.invariant.folding c.fold_at.new.states.items (nodes_of c.fold_at.new.made.items)
      c.in_ok-fold_at.ensures.grows.0
      c.in_ok-fold_at.ensures.grows.1 c.in_ok-fold_at.ensures.folded c.in_ok-fold_at.ensures.others
      c.in_ok-fold_at.ensures.same;
  looks =
      looks_on _ c.loop-x.made.items c.fold_at.new.made.items c.loop-x.invariant.looks c.in_ok-fold_at.ensures.looks;
  few = c.in_ok-fold_at.ensures.few;
}

pub returns : goal.returns
returns c =
    let all : length c.args.states.now.items ≤ c.loop-x.x = omega (arith, c.len-x-end.ensures, c.loop-x-test.false) in
    record {
      folded =
          folding_done c.args.states.now.items c.loop-x.states.items c.args.free.now (nodes_of c.loop-x.made.items)
          c.loop-x.x
          c.loop-x.invariant.folding all;
      looks = c.loop-x.invariant.looks;
      same = c.loop-x.invariant.folding.same;
      few = c.loop-x.invariant.few;
    }
