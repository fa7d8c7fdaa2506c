use Rattle.std.proofs.Common.{◌≡◌, ◌<◌, List, length, get_or, ap, refl, ◌∙◌, arith, rules}
use Rattle.std.specs.Prelude.{slice_get}
use Rattle.std.proofs.lemmas.Grind.{common_steps}
use Rattle.std.proofs.lemmas.Option.{slice_get_read}
use Rattle.replay.specs.declared.walks.KeptWalk.{KeptWalk}
use Rattle.replay.proofs.Replies.WalkReplies.{reported_at, no_walk_reply, other_reply, step_made, step_reply}
use Rattle.replay.proofs.Replies.WalkReplies.{at_stepped}
use Rattle.replay.proofs.players.Player.step.Goals as goal

pub returns-in-None-clause-reply : goal.returns-in-None-clause-reply
returns-in-None-clause-reply c = λ h a. no_walk_reply h c.args.self.now _ a (search rules)

pub returns-then-of-self-clause-reply : goal.returns-then-of-self-clause-reply
returns-then-of-self-clause-reply c = λ h a.
    let lt : c.args.number < length c.args.self.now.walks.items = search rules in
    let here : c.in-Some.walk.now ≡ get_or c.args.self.now.walks.items c.args.number c.in-Some.walk.now =
    search rules in
    let at = slice_get_read c.args.self.now.walks.items _ c.args.number c.in-Some.walk.now refl lt here in
    other_reply h c.args.self.now _ c.in-Some.walk.now a at c.if-of-self.true

pub step_at-requires-clause-reported : goal.step_at-requires-clause-reported
step_at-requires-clause-reported c = λ old is.
    let s = c.args.self.now in
    let lt : c.args.number < length s.walks.items = search rules in
    let here : c.in-Some.walk.now ≡ get_or s.walks.items c.args.number c.in-Some.walk.now = search rules in
    let at = slice_get_read s.walks.items _ c.args.number c.in-Some.walk.now refl lt here in
    reported_at c.requires.0 s c.args.number c.in-Some.walk.now old c.deref_mut.result.now c.deref_mut.ensures.value
    c.requires.1 at c.if-of-self.false is

pub returns-clause-reply : goal.returns-clause-reply
returns-clause-reply c = λ h a.
    let s = c.args.self.now in
    let k = c.in-Some.walk.now in
    let lt : c.args.number < length s.walks.items = search rules in
    let here : k ≡ get_or s.walks.items c.args.number k = search rules in
    let at = slice_get_read s.walks.items _ c.args.number k refl lt here in
    step_reply h s c.args.number k c.step_at.result a at c.if-of-self.false
    (c.step_at.ensures.goes k
    (ap (λ (xs : List KeptWalk). slice_get xs c.args.number) c.deref_mut.ensures.value ∙ at)).1.step

pub returns-clause-at : goal.returns-clause-at
returns-clause-at c = λ h a.
    let s = c.args.self.now in
    let k = c.in-Some.walk.now in
    let lt : c.args.number < length s.walks.items = search rules in
    let here : k ≡ get_or s.walks.items c.args.number k = search rules in
    let at = slice_get_read s.walks.items _ c.args.number k refl lt here in
    at_stepped h s _ c.args.number k c.deref_mut.result.now c.step_at.new.walks c.step_at.result a at c.if-of-self.false
    c.deref_mut.ensures.value
    (c.step_at.ensures.goes k (ap (λ (xs : List KeptWalk). slice_get xs c.args.number) c.deref_mut.ensures.value ∙ at))
    refl refl refl c.step_at.ensures.of (grind (arith, common_steps))

pub returns-clause-made : goal.returns-clause-made
returns-clause-made c = λ h a.
    let s = c.args.self.now in
    let k = c.in-Some.walk.now in
    let lt : c.args.number < length s.walks.items = search rules in
    let here : k ≡ get_or s.walks.items c.args.number k = search rules in
    let at = slice_get_read s.walks.items _ c.args.number k refl lt here in
    step_made h s c.args.number k s.cache c.step_at.new.cache c.step_at.result a at c.if-of-self.false
    (c.step_at.ensures.made k (ap (λ (xs : List KeptWalk). slice_get xs c.args.number) c.deref_mut.ensures.value ∙ at))
