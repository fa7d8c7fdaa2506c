-- What a lookup of a state finds, and which states can be added.
use Rattle.std.proofs.Common.{◌≡◌, ◌≤◌, None, subst, sym}
use Rattle.automata_hybrid.proofs.Words.{CacheView, cost, id_of, IsNewState, IsStateOf, Lacks, Machine, Powerset, Rows}
use Rattle.automata_hybrid.specs.declared.cache.add.Found.{Found}
use Rattle.automata_hybrid.specs.Private.Cache.LookUps.{IsLookedUp}

-- a state that can be added to a table of the machine
pub new_state :
    (m : Machine) (t : Rows) (q : Powerset) → t.of ≡ m → Lacks t q → cost q ≤ m.greatest → IsStateOf m q
    → IsNewState t q
new_state m t q of lacks cheap own = record {
  lacks = lacks;
  cheap = subst (λ (n : Machine). cost q ≤ n.greatest) (sym of) cheap;
  own = subst (λ (n : Machine). IsStateOf n q) (sym of) own;
}

-- a new state can also be added to another table of the same machine that lacks it
pub new_there : (t u : Rows) (q : Powerset) → u.of ≡ t.of → id_of u q ≡ None → IsNewState t q → IsNewState u q
new_there t u q of none n = new_state t.of u q of (none, n.lacks.1) n.cheap n.own

-- the result of a lookup also holds of the cache after it, which is unchanged
pub looked_up :
    (before after : CacheView) (key : Powerset) (found at : Found)
    → after ≡ before → found ≡ at → IsLookedUp before.store.table key found → IsLookedUp after.store.table key at
looked_up before after key found at same is h =
    subst (λ (v : CacheView). IsLookedUp v.store.table key at) (sym same)
    (subst (λ (f : Found). IsLookedUp before.store.table key f) is h)
