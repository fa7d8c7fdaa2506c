use Rattle.std.proofs.Crossing.{crosses}
use denote.Param.Send.{IsSend, sendable, param_send}
use denote.Param.SendFields.{declared_send}
use denote.Ref.{NamedLft}
use denote.Signature.{named_lft}
use Rattle.automata_hybrid.proofs.Sent as dfa
use Rattle.regex_automata.proofs.Sent.{cache_sent, regex_shared}
use Rattle.regex_automata.specs.contracts.hybrid.regex.iterate.FindMatches.{the_row, the_type}
use Rattle.regex_automata.proofs.threads.matches_are_sent.Goals as goal
use Rattle.regex_automata.proofs.threads.matches_are_sent.Lts.{arg-0-0}

fields : (r c h : NamedLft) → dfa.MayMove (the_type r c h).parts
fields r c h = (
  search (regex_shared, sendable) depth 60,
  (
    search (cache_sent, sendable) depth 60,
    (
      search (sendable, crosses) depth 60,
      (
        search (sendable, crosses) depth 60,
        (
          search (sendable, crosses) depth 60,
          (
            search (sendable, crosses) depth 60,
            (
              search (sendable, crosses) depth 60,
              (
                search (sendable, crosses) depth 60,
                (search (sendable, crosses) depth 60, tt),
              ),
            ),
          ),
        ),
      ),
    ),
  ),
)

sent : (r c h : NamedLft) → IsSend (the_row r c h)
sent r c h = declared_send (the_type r c h) (dfa.fields_sent (the_type r c h).parts (fields r c h))

pub is_sent-requires-send-T : goal.is_sent-requires-send-T
is_sent-requires-send-T c κs within =
    let s : IsSend (the_row (named_lft 5 2 tt κs) (named_lft 5 3 tt κs) (named_lft 5 4 tt κs)) = sent _ _ _ in
    param_send 0 (arg-0-0 κs) (record { owned = s.owned; leaving = λ k d w. (tt, (tt, tt)) })
