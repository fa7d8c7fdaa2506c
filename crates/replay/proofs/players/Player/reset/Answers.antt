use Rattle.replay.proofs.Replies.Histories.{refused_reset}
use Rattle.replay.proofs.players.Player.reset.Goals as goal

pub returns-in-Err-clause-reply : goal.returns-in-Err-clause-reply
returns-in-Err-clause-reply c =
    λ h a. refused_reset c.args.self.now.regexes.now h c.args.number c.args.self.now.regex.now a.regex
    c.in-Some.ensures.lookup.0
