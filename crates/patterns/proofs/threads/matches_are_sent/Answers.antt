use Rattle.std.proofs.Crossing.{crosses}
use denote.Param.Send.{IsSend, IsSync, sendable, param_send}
use denote.Param.SendFields.{declared_send}
use denote.Ref.{NamedLft}
use denote.Signature.{named_lft}
use Rattle.automata_hybrid.proofs.Sent as dfa
use Rattle.regex_automata.proofs.Sent.{cache_sent}
use Rattle.patterns.specs.contracts.matches.Matches.{the_row, the_type}
use Rattle.patterns.specs.contracts.pattern.Pattern.{the_row as pattern_row}
use Rattle.patterns.proofs.threads.matches_are_sent.Goals as goal
use Rattle.patterns.proofs.threads.matches_are_sent.Lts.{arg-0-0}

pattern_shared : IsSync pattern_row
pattern_shared = search (sendable, crosses) depth 60 fits 20000

fields : (p c h : NamedLft) → dfa.MayMove (the_type p c h).parts
fields p c h = (
  search (pattern_shared, sendable) depth 60,
  (
    search (cache_sent, sendable) depth 60,
    (
      search (sendable, crosses) depth 60,
      (
        search (sendable, crosses) depth 60,
        (search (sendable, crosses) depth 60, (search (sendable, crosses) depth 60, tt)),
      ),
    ),
  ),
)

sent : (p c h : NamedLft) → IsSend (the_row p c h)
sent p c h = declared_send (the_type p c h) (dfa.fields_sent (the_type p c h).parts (fields p c h))

pub is_sent-requires-send-T : goal.is_sent-requires-send-T
is_sent-requires-send-T c κs within =
    let s : IsSend (the_row (named_lft 5 2 tt κs) (named_lft 5 3 tt κs) (named_lft 5 4 tt κs)) = sent _ _ _ in
    param_send 0 (arg-0-0 κs) (record { owned = s.owned; leaving = λ k d w. (tt, (tt, tt)) })
