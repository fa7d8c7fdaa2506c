use Rattle.std.proofs.Common.{subst}
use Rattle.std.proofs.lemmas.Result.{IfOk-weaker}
use Rattle.automata_hybrid.proofs.Words.{Automaton, Forward, known_of, match_kind_of, ReportedEndsAreRight}
use Rattle.automata_hybrid.proofs.Words.{ReportedIsRight, ReportedLiesWithin}
use Rattle.automata_hybrid.proofs.Known.Memory.{call_memory}
use Rattle.automata_hybrid.proofs.Searches.Contracts.{search_done, search_found, search_run, search_unsupported}
use Rattle.automata_hybrid.proofs.Searches.Contracts.{search_upto}
use Rattle.automata_hybrid.proofs.Searches.Skips.{found_reported}
use Rattle.automata_hybrid.proofs.Searches.Bounds.{lies_past}
use Rattle.automata_hybrid.proofs.dfa.DFA.try_search_fwd_base.Goals as goal

pub returns-clause-based : goal.returns-clause-based
returns-clause-based c =
    let m = c.args.self.now in
    let input = c.args.input.now in
    let old = known_of c.args.cache.now in
    let new = known_of c.search.new.cache in
    let r = c.search.result in
    let s = c.search.ensures.searched in
    let finds = search_found Forward m input old new r s in
    let haystack = c.search.ensures.valid in
    let reported = subst (λ (a : Automaton). ReportedIsRight a) c.get_nfa.ensures c.reported_is_right.ensures.answer in
    let ends = subst (λ (a : Automaton). ReportedEndsAreRight a) c.get_nfa.ensures c.reported_is_right.ensures.ends in
    let lies = subst ReportedLiesWithin c.get_nfa.ensures c.reported_is_right.ensures.within in
    record {
      answer = λ cycles.
          IfOk-weaker r _ _
          (λ o found. reported Forward (match_kind_of m.config) input _ cycles (haystack.bytes, haystack.within.1)
          (found_reported Forward m input _ found))
          finds;
      nearest = λ early.
          IfOk-weaker r _ _
          (λ o found. (ends Forward (match_kind_of m.config) input _ (haystack.bytes, haystack.within.1)
          (found_reported Forward m input _ found)).0 early)
          finds;
      farthest = λ late all.
          IfOk-weaker r _ _
          (λ o found. (ends Forward (match_kind_of m.config) input _ (haystack.bytes, haystack.within.1)
          (found_reported Forward m input _ found)).1 late all)
          finds;
      within = lies_past m input lies haystack.within.1 r finds;
      unsupported = λ u. search_unsupported Forward m input u old new r s;
      free = λ f.
          call_memory Forward m input old new r haystack.within.1 f (search_run Forward m input old new r s);
      done = search_done Forward m input old new r s;
    }

pub returns-clause-found : goal.returns-clause-found
returns-clause-found c =
    search_found Forward c.args.self.now c.args.input.now (known_of c.args.cache.now) (known_of c.search.new.cache)
    c.search.result c.search.ensures.searched

pub returns-clause-effect : goal.returns-clause-effect
returns-clause-effect c =
    search_run Forward c.args.self.now c.args.input.now (known_of c.args.cache.now) (known_of c.search.new.cache)
    c.search.result c.search.ensures.searched

pub returns-clause-upto : goal.returns-clause-upto
returns-clause-upto c =
    search_upto c.args.self.now c.args.input.now (known_of c.args.cache.now) (known_of c.search.new.cache)
    c.search.result c.search.ensures.searched
