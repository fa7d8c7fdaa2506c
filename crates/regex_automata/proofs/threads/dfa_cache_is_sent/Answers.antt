use denote.Param.Send.{param_send}
use Rattle.automata_hybrid.proofs.Sent.{cache_sent}
use Rattle.regex_automata.proofs.threads.dfa_cache_is_sent.Goals as goal
use Rattle.regex_automata.proofs.threads.dfa_cache_is_sent.Lts.{arg-0-0}

pub is_sent-requires-send-T : goal.is_sent-requires-send-T
is_sent-requires-send-T c κs =
    param_send 0 (arg-0-0 κs) (record { owned = cache_sent.owned; leaving = cache_sent.leaving })
