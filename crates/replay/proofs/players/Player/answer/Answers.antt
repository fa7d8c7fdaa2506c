use Rattle.std.proofs.Common.{refl, sym, subst}
use Rattle.automata_base.specs.declared.util.search.Direction.TheVariants.{Backward, Forward}
use Rattle.automata_hybrid.specs.Cache.Caches.{CacheView}
use Rattle.automata_hybrid.specs.Machines.Machine.{Machine}
use Rattle.regex_automata.specs.Spans.Contracts.{ArePatternsReported, ArePatternsUpto}
use Rattle.replay.specs.Caches.{IsRequestEffect, IsSearched, ArePatternsSearched}
use Rattle.replay.specs.Replies.{IsReply}
use Rattle.regex_automata.specs.declared.hybrid.regex.caches.Cache.{Cache}
use Rattle.replay.specs.declared.requests.Request.{Request}
use Rattle.replay.specs.declared.requests.Request.TheVariants as request
use Rattle.replay.specs.declared.requests.Reply.TheVariants as reply
use Rattle.replay.proofs.Replies.Histories.{is_made, is_own}
use Rattle.replay.proofs.players.Player.answer.Goals as goal

pub returns-in-Which-clause-reply : goal.returns-in-Which-clause-reply
returns-in-Which-clause-reply c = λ h a.
    let s = c.args.self.now in
    let answer = reply.Patterns c.patterns_below-found.result.0 c.patterns_below-found.result.1 in
    subst (λ (q : Request). IsReply s.regexes.now h q answer) (sym c.in-Which.is)
    (is_own s.regexes.now h (request.Which c.in-Which.capacity c.in-Which.input) answer s.regex.now a.regex refl
    (subst (λ (m : Machine). ArePatternsUpto m c.in-Which.input c.in-Which.capacity
    c.patterns_below-found.result.0.items c.patterns_below-found.result.1) c.forward-in-Which.ensures
    c.patterns_below-found.ensures.returned))

pub returns-in-Find-clause-reply : goal.returns-in-Find-clause-reply
returns-in-Find-clause-reply c = λ h a.
    let s = c.args.self.now in
    let answer = reply.Span c.find.result in
    subst (λ (q : Request). IsReply s.regexes.now h q answer) (sym c.in-Find.is)
    (is_own s.regexes.now h (request.Find c.in-Find.input) answer s.regex.now a.regex refl c.find.ensures.returned)

pub returns-in-IsMatch-clause-reply : goal.returns-in-IsMatch-clause-reply
returns-in-IsMatch-clause-reply c = λ h a.
    let s = c.args.self.now in
    let answer = reply.Truth c.is_match.result in
    subst (λ (q : Request). IsReply s.regexes.now h q answer) (sym c.in-IsMatch.is)
    (is_own s.regexes.now h (request.IsMatch c.in-IsMatch.input) answer s.regex.now a.regex refl
    c.is_match.ensures.returned)

pub returns-in-Which-clause-made : goal.returns-in-Which-clause-made
returns-in-Which-clause-made c = λ h a.
    let s = c.args.self.now in
    let answer = reply.Patterns c.patterns_below-found.result.0 c.patterns_below-found.result.1 in
    let found = c.patterns_below-found.result in
    let next = c.patterns_below-found.new.cache in
    let new : Cache = record { forward = next; reverse = s.cache.reverse } in
    let asked : Request = request.Which c.in-Which.capacity c.in-Which.input in
    subst (λ (q : Request). IsRequestEffect s.regexes.now h q answer s.cache new) (sym c.in-Which.is)
    (is_made s.regexes.now h asked s.cache new answer s.regex.now a.regex (
      (
        λ none. subst (λ (m : Machine). ArePatternsReported m c.in-Which.input c.in-Which.capacity found.0.items)
            c.forward-in-Which.ensures
            (c.patterns_below-found.ensures.found none),
        subst (λ (m : Machine). ArePatternsSearched m c.in-Which.input c.in-Which.capacity s.cache.forward next
            found.0.items found.1) c.forward-in-Which.ensures
            (subst (λ (v : CacheView). ArePatternsSearched c.forward-in-Which.result.now c.in-Which.input
            c.in-Which.capacity v next found.0.items found.1) c.forward_mut-in-Which.ensures.value
            c.patterns_below-found.ensures.made),
      ),
      refl,
    ))

pub returns-in-Find-clause-made : goal.returns-in-Find-clause-made
returns-in-Find-clause-made c = λ h a.
    let s = c.args.self.now in
    let answer = reply.Span c.find.result in
    subst (λ (q : Request). IsRequestEffect s.regexes.now h q answer s.cache c.find.new.cache) (sym c.in-Find.is)
    (is_made s.regexes.now h (request.Find c.in-Find.input) s.cache c.find.new.cache answer s.regex.now a.regex
    (c.find.ensures.found, c.find.ensures.effect))

pub returns-in-IsMatch-clause-made : goal.returns-in-IsMatch-clause-made
returns-in-IsMatch-clause-made c = λ h a.
    let s = c.args.self.now in
    let answer = reply.Truth c.is_match.result in
    subst (λ (q : Request). IsRequestEffect s.regexes.now h q answer s.cache c.is_match.new.cache) (sym c.in-IsMatch.is)
    (is_made s.regexes.now h (request.IsMatch c.in-IsMatch.input) s.cache c.is_match.new.cache answer s.regex.now
    a.regex (c.is_match.ensures.found, c.is_match.ensures.effect))

pub returns-in-SearchFwd-clause-made : goal.returns-in-SearchFwd-clause-made
returns-in-SearchFwd-clause-made c = λ h a.
    let s = c.args.self.now in
    let input = c.in-SearchFwd.input in
    let result = c.try_search_fwd.result in
    let next = c.try_search_fwd.new.cache in
    let new : Cache = record { forward = next; reverse = s.cache.reverse } in
    subst (λ (q : Request). IsRequestEffect s.regexes.now h q (reply.Half result) s.cache new) (sym c.in-SearchFwd.is)
    (is_made s.regexes.now h (request.SearchFwd input) s.cache new (reply.Half result) s.regex.now a.regex (
      subst (λ (m : Machine). IsSearched Forward m input s.cache.forward next result) c.forward.ensures
          (subst (λ (v : CacheView). IsSearched Forward c.forward.result.now input v next result)
          c.forward_mut.ensures.value
          (c.try_search_fwd.ensures.found, c.try_search_fwd.ensures.effect)),
      refl,
    ))

pub returns-in-SearchRev-clause-made : goal.returns-in-SearchRev-clause-made
returns-in-SearchRev-clause-made c = λ h a.
    let s = c.args.self.now in
    let input = c.in-SearchRev.input in
    let result = c.try_search_rev.result in
    let next = c.try_search_rev.new.cache in
    let new : Cache = record { reverse = next; forward = s.cache.forward } in
    subst (λ (q : Request). IsRequestEffect s.regexes.now h q (reply.Half result) s.cache new) (sym c.in-SearchRev.is)
    (is_made s.regexes.now h (request.SearchRev input) s.cache new (reply.Half result) s.regex.now a.regex (
      subst (λ (m : Machine). IsSearched Backward m input s.cache.reverse next result) c.reverse.ensures
          (subst (λ (v : CacheView). IsSearched Backward c.reverse.result.now input v next result)
          c.reverse_mut.ensures.value
          (c.try_search_rev.ensures.found, c.try_search_rev.ensures.effect)),
      refl,
    ))
