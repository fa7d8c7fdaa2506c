use Rattle.std.proofs.Common.{◌≡◌, List, [], ◌∷◌, IfOk, Some, arith, slice_get, subst, sym}
use Rattle.std.proofs.lemmas.Grind.{common_steps}
use Rattle.std.proofs.lemmas.Result.{IfOk-weaker}
use Rattle.automata_base.proofs.Paths.Orders.{some_inj}
use Rattle.regex_automata.specs.declared.hybrid.regex.Regex.{Regex}
use Rattle.regex_automata.specs.declared.hybrid.regex.caches.Cache.{Cache}
use Rattle.replay.specs.declared.requests.Reply.{Reply}
use Rattle.replay.specs.declared.requests.Request.{Request}
use Rattle.regex_automata.specs.Regexes.Caches.{AreFresh}
use Rattle.replay.specs.Caches.{AreAnswered, AreAnsweredAfter}
use Rattle.replay.specs.Histories.{start}
use Rattle.replay.specs.Replies.{AreReplies}
use Rattle.replay.proofs.Replies.WalkReports.{all_report}
use Rattle.replay.proofs.replay.Goals as goal

pub returns-in_ok-new-in-Some-clause-walks : goal.returns-in_ok-new-in-Some-clause-walks
returns-in_ok-new-in-Some-clause-walks c =
    all_report c.args.regexes.now c.args.script.now (λ v. v.items) c.answer_all.result
    (subst (λ (rs : List Regex). IfOk c.answer_all.result (λ v. AreReplies rs c.args.script.now v.items))
    c.in_ok-new-in-Some.ensures.regexes c.answer_all.ensures.returned)

pub returns-in-None-clause-walks : goal.returns-in-None-clause-walks
returns-in-None-clause-walks c =
    let none : c.args.regexes.now ≡ [] = grind (arith, common_steps) in
    all_report c.args.regexes.now c.args.script.now (λ v. v.items) c.refuse_all.result
    (subst (λ (rs : List Regex). IfOk c.refuse_all.result (λ v. AreReplies rs c.args.script.now v.items)) (sym none)
    c.refuse_all.ensures)

-- requests that are answered from fresh caches of the first regex on
answered :
    (regexes : List Regex) (r : Regex) (script : List Request) (c : Cache) (replies : List Reply)
    → slice_get regexes 0 ≡ Some r → AreFresh r c → AreAnsweredAfter regexes start c script replies
    → AreAnswered regexes script replies
answered [] r script c replies first fresh made = tt
answered (x ∷ xs) r script c replies first fresh made =
    let same : x ≡ r = some_inj first in
    (c, subst (λ (p : Regex). AreFresh p c) (sym same) fresh, made)

pub returns-in_ok-new-in-Some-clause-made : goal.returns-in_ok-new-in-Some-clause-made
returns-in_ok-new-in-Some-clause-made c =
    let first : slice_get c.args.regexes.now 0 ≡ Some c.in-Some.regex.now = grind (arith, common_steps) in
    IfOk-weaker c.answer_all.result _ _
    (λ v made. answered c.args.regexes.now c.in-Some.regex.now c.args.script.now c.in_ok-new-in-Some.field-0.cache
    v.items first c.in_ok-new-in-Some.ensures.fresh made)
    (subst
    (λ (rs : List Regex). IfOk c.answer_all.result
    (λ v. AreAnsweredAfter rs start c.in_ok-new-in-Some.field-0.cache c.args.script.now v.items))
    c.in_ok-new-in-Some.ensures.regexes c.answer_all.ensures.made)
