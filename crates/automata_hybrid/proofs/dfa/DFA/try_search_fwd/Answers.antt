use Rattle.std.proofs.Common.{sym, ap, subst}
use Rattle.std.proofs.lemmas.Result.{IfOk-weaker}
use Rattle.automata_hybrid.proofs.Words.{Automaton, Forward, IsFound, known_of, match_kind_of, ReportedEndsAreRight}
use Rattle.automata_hybrid.proofs.Words.{ReportedIsRight, ReportedLiesWithin}
use Rattle.automata_hybrid.specs.Searches.Contracts.{IsHalf}
use Rattle.automata_hybrid.specs.Private.Searches.Contracts.{halves}
use Rattle.automata_hybrid.proofs.Known.Memory.{call_memory}
use Rattle.automata_hybrid.proofs.Searches.Contracts.{half_found, half_run, halves_err, halves_ok, search_done}
use Rattle.automata_hybrid.proofs.Searches.Contracts.{search_found, search_run, search_unsupported}
use Rattle.automata_hybrid.proofs.Searches.Skips.{found_reported}
use Rattle.automata_hybrid.proofs.Searches.Bounds.{lies_in}
use Rattle.automata_hybrid.proofs.dfa.DFA.try_search_fwd.Goals as goal

pub returns-clause-half : goal.returns-clause-half
returns-clause-half c =
    let m = c.args.self.now in
    let input = c.args.input.now in
    let old = known_of c.args.cache.now in
    let new = known_of c.search-found.new.cache in
    let r = c.search-found.result in
    let s = c.search-found.ensures.searched in
    let finds = search_found Forward m input old new r s in
    let haystack = c.search-found.ensures.valid in
    let reported = subst (λ (a : Automaton). ReportedIsRight a) c.get_nfa.ensures c.reported_is_right.ensures.answer in
    let ends = subst (λ (a : Automaton). ReportedEndsAreRight a) c.get_nfa.ensures c.reported_is_right.ensures.ends in
    let lies = subst ReportedLiesWithin c.get_nfa.ensures c.reported_is_right.ensures.within in
    let found = halves_ok (IsFound Forward m input) r finds in
    subst (λ v. IsHalf Forward m input v) (sym c.without_base.ensures)
    (record {
      answer = λ cycles.
          halves_ok _ r (IfOk-weaker r _ _
          (λ o found. reported Forward (match_kind_of m.config) input _ cycles (haystack.bytes, haystack.within.1)
          (found_reported Forward m input _ found))
          finds);
      nearest = λ early.
          halves_ok _ r (IfOk-weaker r _ _
          (λ o found. (ends Forward (match_kind_of m.config) input _ (haystack.bytes, haystack.within.1)
          (found_reported Forward m input _ found)).0 early)
          finds);
      farthest = λ late all.
          halves_ok _ r (IfOk-weaker r _ _
          (λ o found. (ends Forward (match_kind_of m.config) input _ (haystack.bytes, haystack.within.1)
          (found_reported Forward m input _ found)).1 late all)
          finds);
      within = lies_in m input lies haystack.within.1 Forward (halves r) found;
      unsupported = λ u. ap halves (search_unsupported Forward m input u old new r s);
      free = λ f.
          halves_err _ r
          (call_memory Forward m input old new r haystack.within.1 f (search_run Forward m input old new r s));
      done = λ past. ap halves (search_done Forward m input old new r s past);
    })

pub returns-clause-found : goal.returns-clause-found
returns-clause-found c =
    half_found Forward c.args.self.now c.args.input.now (known_of c.args.cache.now) (known_of c.search-found.new.cache)
    c.search-found.result c.without_base.result c.without_base.ensures c.search-found.ensures.searched

pub returns-clause-effect : goal.returns-clause-effect
returns-clause-effect c =
    half_run Forward c.args.self.now c.args.input.now (known_of c.args.cache.now) (known_of c.search-found.new.cache)
    c.search-found.result c.without_base.result c.without_base.ensures c.search-found.ensures.searched
