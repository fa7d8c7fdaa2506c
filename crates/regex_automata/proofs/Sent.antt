-- The caches of a regex may move to another thread, since a cache of a lazy DFA may; threads may share a regex.
use Rattle.std.proofs.Crossing.{crosses}
use denote.Param.Send.{IsSend, IsSync, sendable}
use denote.Param.SendFields.{declared_send}
use Rattle.automata_hybrid.proofs.Sent as dfa
use Rattle.regex_automata.specs.contracts.hybrid.regex.Regex.{the_row as regex_row}
use Rattle.regex_automata.specs.contracts.hybrid.regex.caches.Cache.{the_row as cache_row, the_type as cache_type}

pub cache_sent : IsSend cache_row
cache_sent = declared_send cache_type (dfa.fields_sent cache_type.parts (dfa.cache_sent, (dfa.cache_sent, tt)))

pub regex_shared : IsSync regex_row
regex_shared = search (sendable, crosses) depth 60 fits 20000
