use Rattle.std.proofs.Common.{◌≡◌, List, Some, subst, ◌∙◌}
use Rattle.std.specs.Prelude.{slice_get}
use Rattle.regex_automata.specs.declared.hybrid.regex.Regex.{Regex}
use Rattle.replay.specs.Histories.{after}
use Rattle.replay.specs.Caches.{IsRequestEffect}
use Rattle.replay.specs.Replies.{IsReply}
use Rattle.replay.proofs.Replies.Contracts.{of_current}
use Rattle.replay.proofs.Replies.Lists.{completes_turn, completes_end, continues_turn, continues_end}
use Rattle.replay.proofs.answer_all.Goals as goal

pub regex_caches_are_known-requires : goal.regex_caches_are_known-requires
regex_caches_are_known-requires c =
    let (h, a, all, made) = c.loop-request.invariant.so_far in (c.answer-reply.ensures.at h a).of

pub loop-request-preserved : goal.loop-request-preserved
loop-request-preserved c =
    let inv = c.loop-request.invariant in
    let (h, a, all, made) = inv.so_far in
    let regexes = c.args.player.regexes.now in
    let q = c.request-item.result in
    let r = c.answer-reply.result in
    let after_it = c.answer-reply.new.self in
    let next = after_it.cache in
    let same = c.answer-reply.ensures.regexes ∙ inv.regexes in
    let played = c.answer-reply.ensures.at h a in
    record {
      regexes = same;
      so_far = (
        after h q r,
        played,
        completes_turn regexes c.args.script.now c.loop-request.replies.items c.push.new.self.items h
            c.loop-request.request-index q r
            c.loop-request-test.true c.request-item.is all
            (subst (λ (rs : List Regex). IsReply rs h q r) inv.regexes (c.answer-reply.ensures.reply h a))
            c.in_ok-push.ensures.items,
        continues_turn regexes c.args.script.now c.args.player.cache c.loop-request.replies.items c.push.new.self.items
            h c.loop-request.player.cache c.answer-reply.new.self.cache c.loop-request.request-index q r
            c.loop-request-test.true c.request-item.is made
            (of_current regexes (after h q r) next after_it.regex.now
            (subst (λ (rs : List Regex). slice_get rs (after h q r).current ≡ Some after_it.regex.now) same
            played.regex) played.of c.regex_caches_are_known.ensures)
            (subst (λ (rs : List Regex). IsRequestEffect rs h q r c.loop-request.player.cache
            c.answer-reply.new.self.cache) inv.regexes (c.answer-reply.ensures.made h a)) c.in_ok-push.ensures.items,
      );
    }

pub returns : goal.returns
returns c =
    let (h, a, all, made) = c.loop-request.invariant.so_far in
    let regexes = c.args.player.regexes.now in
    let i = c.loop-request.request-index in
    record {
      returned = completes_end regexes c.args.script.now c.loop-request.replies.items h i c.loop-request-test.false all;
      made =
          continues_end regexes c.args.script.now c.args.player.cache c.loop-request.replies.items h
          c.loop-request.player.cache i c.loop-request-test.false made;
    }
