use Rattle.std.proofs.Common.{◌≡◌, drop}
use Rattle.replay.specs.Histories.{History}
use Rattle.replay.specs.Players.{HasPlayed}
use Rattle.replay.proofs.Replies.Lists.{Completes, Continues}
use Rattle.replay.proofs.answer_all.Given as goal

abbrev pub invariant-loop-request : goal.invariant-loop-request
invariant-loop-request l = record {
  regexes : l.player.regexes.now ≡ l.initial.player.regexes.now;
  so_far :
      (h : History) × HasPlayed h l.player
      × Completes l.initial.player.regexes.now l.script l.replies.items h (drop l.request-index l.script)
      × Continues l.initial.player.regexes.now l.script l.initial.player.cache l.replies.items h l.player.cache
      (drop l.request-index l.script);
}
