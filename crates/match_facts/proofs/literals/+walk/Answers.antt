use Rattle.std.proofs.Common.{◌≡◌, ◌++◌, ◌∙◌, OnOk, Result, Ok, Err, ap, refl, subst, sym}
use Rattle.regex_hir.specs.Re.{Re}
use Rattle.regex_hir.specs.Meaning.{meaning}
use Rattle.regex_hir.specs.declared.hir.Hir.{Hir}
use Rattle.regex_hir.proofs.MeaningLemmas.{meaning-Capture, meaning-Literal, meaning-Repetition}
use Rattle.match_facts.specs.Runs.{EndsRun, ExtendsRun}
use Rattle.match_facts.specs.declared.literals.Run.{Run}
use Rattle.match_facts.proofs.Runs.{extends_ends, extends_group, extends_literal, extends_more, extends_repeat}
use Rattle.match_facts.proofs.literals.+walk.Goals as goal

on_ok : {A E : Type 0} (P Q : Type 0) (r : Result A E) → (P → Q) → OnOk r P → OnOk r Q
on_ok P Q (Ok x) f p = f p
on_ok P Q (Err e) f p = p

-- a walk over a tree, by what the tree means
of_tree :
    (h : Hir) (re : Re) (old new : Run) → meaning h ≡ re → ExtendsRun re old new → ExtendsRun (meaning h) old new
of_tree h re old new e x = subst (λ r. ExtendsRun r old new) (sym e) x

pub walk-returns-in_ok-extend_from_slice-in-Literal : goal.walk-returns-in_ok-extend_from_slice-in-Literal
walk-returns-in_ok-extend_from_slice-in-Literal t c =
    let old : Run = c.args.run.now in
    let new : Run = record { literals = old.literals; last = c.extend_from_slice.new.self } in
    of_tree _ _ old new (ap meaning c.in-Literal.is ∙ meaning-Literal c.in-Literal.bytes)
    (extends_literal c.in-Literal.bytes.items old new refl
    (subst (λ bs. new.last.items ≡ old.last.items ++ bs) c.deref.ensures.value
    c.in_ok-extend_from_slice-in-Literal.ensures.items))

pub walk-returns-in-Capture : goal.walk-returns-in-Capture
walk-returns-in-Capture t c =
    let old : Run = c.args.run.now in let new : Run = c.walk.new.run in
    on_ok _ _ c.walk.result
    (λ (e : ExtendsRun (meaning c.deref-in-Capture.result.now) old new).
    of_tree _ _ old new (ap meaning c.in-Capture.is ∙ meaning-Capture c.in-Capture.index c.in-Capture.sub)
    (extends_group c.in-Capture.index _ old new
    (subst (λ h. ExtendsRun (meaning h) old new) c.deref-in-Capture.ensures e)))
    c.walk.ensures

pub walk-returns-in_ok-walk-in-Repetition : goal.walk-returns-in_ok-walk-in-Repetition
walk-returns-in_ok-walk-in-Repetition t c =
    let old : Run = c.args.run.now in let mid : Run = c.walk-in-Repetition.new.run in let new : Run = c.end.new.self in
    let r = c.in-Repetition in
    on_ok _ _ c.end.result
    (λ (e : EndsRun mid new).
    of_tree _ _ old new (ap meaning r.is ∙ meaning-Repetition r.min r.max r.greedy r.sub)
    (extends_repeat r.min r.max r.greedy _ old mid new c.if-min-gt0.true
    (subst (λ h. ExtendsRun (meaning h) old mid) c.deref-in-Repetition.ensures c.in_ok-walk-in-Repetition.ensures) e))
    c.end.ensures

pub walk-returns-in_default : goal.walk-returns-in_default
walk-returns-in_default t c =
    on_ok _ _ c.end-in_default.result (extends_ends (meaning c.args.hir.now) c.args.run.now c.end-in_default.new.self)
    c.end-in_default.ensures

pub walk_all-loop-i-preserved : goal.walk_all-loop-i-preserved
walk_all-loop-i-preserved t c =
    extends_more c.args.subs.now c.loop-i.i c.index-subs-i.result c.args.run.now c.loop-i.run c.walk.new.run
    c.loop-i-test.true c.index-subs-i.is c.loop-i.invariant c.in_ok-walk.ensures
