use Rattle.automata_hybrid.proofs.Words.{known_of}
use Rattle.automata_hybrid.proofs.Walks.Reach.{set_memory}
use Rattle.automata_hybrid.proofs.dfa.DFA.try_which_overlapping_matches.Goals as goal

pub returns-clause-which : goal.returns-clause-which
returns-clause-which c =
    let s = c.collect.ensures in
    record {
      paths = s.reported.paths;
      capacity = s.reported.capacity;
      unsupported = s.reported.unsupported;
      done = s.reported.done;
      free = λ f.
          set_memory c.args.self.now c.args.input.now c.args.patset.now c.collect.new.patset
          (known_of c.args.cache.now) (known_of c.collect.new.cache) c.collect.result s.valid.within.1 f s.effect;
    }

pub returns-clause-found : goal.returns-clause-found
returns-clause-found c = c.collect.ensures.reported.found
