use Rattle.std.proofs.Common.{◌≡◌, ◌∙◌, IfOk, ap, map, subst, sym, take}
use Rattle.std.specs.Prelude.{Err, Ok, Result}
use Rattle.regex_hir.specs.Re.{Re}
use Rattle.regex_hir.specs.Meaning.{alt_all, cat_all, meaning}
use Rattle.regex_hir.specs.declared.hir.Hir.{Hir}
use Rattle.regex_hir.proofs.MeaningLemmas.{meaning-Alternation, meaning-Concat}
use Rattle.prefilters.specs.Beginnings.{AreBeginnings, BeginsWithOneOf}
use Rattle.prefilters.proofs.Starting.{all_more, front, of_branches}
use Rattle.prefilters.proofs.beginnings.+begins.Goals as goal

of_meaning :
    {E : Type 0} (re first : Re) (r : Result Hir E) → BeginsWithOneOf re first → IfOk r (λ h. meaning h ≡ first)
    → IfOk r (λ h. BeginsWithOneOf re (meaning h))
of_meaning re first (Ok h) begins is = subst (BeginsWithOneOf re) (sym is) begins
of_meaning re first (Err e) begins is = is

pub beginning-returns-in-Concat : goal.beginning-returns-in-Concat
beginning-returns-in-Concat t c =
    let subs = c.in-Concat.subs.items in let parts = c.parts_within-parts.result in
    of_meaning (meaning c.args.hir.now) (cat_all (map meaning (take parts subs))) c.sequence.result
    (subst (λ re. BeginsWithOneOf re (cat_all (map meaning (take parts subs))))
    (sym (ap meaning c.in-Concat.is ∙ meaning-Concat c.in-Concat.subs)) (front subs parts))
    (subst (λ hs. IfOk c.sequence.result (λ h. meaning h ≡ cat_all (map meaning (take parts hs))))
    c.deref-in-Concat-2.ensures.value c.sequence.ensures)

pub beginning-returns-in-Ok : goal.beginning-returns-in-Ok
beginning-returns-in-Ok t c =
    let subs = c.in-Alternation.subs.items in let all = c.in-Ok.all.items in
    subst (λ first. BeginsWithOneOf (meaning c.args.hir.now) first) (sym (meaning-Alternation c.in-Ok.all))
    (subst (λ re. BeginsWithOneOf re (alt_all (map meaning all)))
    (sym (ap meaning c.in-Alternation.is ∙ meaning-Alternation c.in-Alternation.subs))
    (of_branches (map meaning subs) (map meaning all)
    (subst (λ hs. AreBeginnings (map meaning hs) (map meaning all)) c.deref-in-Alternation.ensures.value
    c.in-Ok.ensures)))

pub beginnings-loop-at-preserved : goal.beginnings-loop-at-preserved
beginnings-loop-at-preserved t c =
    all_more c.args.subs.now c.loop-at.at c.index-subs-at.result c.in_ok-beginning.field-0 c.loop-at.all.items
    c.push.new.self.items c.loop-at-test.true c.index-subs-at.is c.in_ok-push.ensures.items c.loop-at.invariant
    c.in_ok-beginning.ensures
