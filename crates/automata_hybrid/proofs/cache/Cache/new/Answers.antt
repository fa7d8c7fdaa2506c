use Rattle.automata_hybrid.proofs.cache.Cache.new.Goals as goal

pub returns : goal.returns
returns c = λ i. record { store = c.in_ok-store.ensures i; count = c.in_ok-scratch.ensures.count i }
