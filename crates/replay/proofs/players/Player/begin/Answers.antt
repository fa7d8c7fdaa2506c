use Rattle.std.proofs.Common.{refl, sym, subst, ◌∙◌, List, ◌++◌, ◌∷◌, []}
use Rattle.replay.proofs.Replies.Histories.{is_own}
use Rattle.replay.proofs.Replies.WalkCalls.{fresh_answered}
use Rattle.replay.proofs.Replies.KeptWalks.{walks_push, length-walks}
use Rattle.replay.specs.Replies.{dfa_in}
use Rattle.replay.specs.Players.{AreWalks}
use Rattle.replay.specs.declared.walks.KeptWalk.{KeptWalk}
use Rattle.replay.proofs.players.Player.begin.Goals as goal

pub returns-clause-reply : goal.returns-clause-reply
returns-clause-reply c =
    λ h a. is_own _ h _ _ _ a.regex refl
    (c.len-number.ensures ∙ c.args.self.now.walks.ok.0 ∙ length-walks _ _ _ a.walks)

pub returns-clause-at : goal.returns-clause-at
returns-clause-at c = λ h a. record {
  current = a.current;
  regex = a.regex;
  of = a.of;
  walks =
      subst (λ (ks : List KeptWalk). AreWalks c.args.self.now.regexes.now
      (h.walks ++ record { regex = h.current; way = c.args.way; input = c.args.input.now; reported = 0 } ∷ []) ks)
      (sym c.in-Ok.ensures.items)
      (walks_push c.args.self.now.regexes.now h.walks c.args.self.now.walks.items _ _ a.walks
      (record {
        regex = a.current;
        way = refl;
        input = c.copied.ensures.same;
        reported = λ r at. fresh_answered c.args.way
            (dfa_in c.args.way r) c.copied.result c.start.result c.start.ensures;
      }));
}
