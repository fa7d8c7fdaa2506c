-- What a map key holds: shared bytes, or a state that was made, with a list of its NFA states.
use Rattle.std.specs.Prelude.{ℕ, List, ◌≡◌}
use Rattle.automata_determinize.specs.Powersets.Code.{decoded, IsCode}
use Rattle.automata_determinize.specs.declared.determinize.key.Bytes.{Bytes}
use Rattle.automata_determinize.specs.declared.determinize.key.Bytes.TheVariants.{Shared, Own}
use Rattle.automata_determinize.specs.declared.determinize.made.MadeState.{MadeState}

-- the bytes of a key
abbrev pub bytes_of : Bytes → List ℕ
bytes_of (Shared b) = b
bytes_of (Own made) = made.value.bytes.items

-- the list has the NFA states of the powerset state that the bytes encode
abbrev pub ListsItsStates : MadeState → Type 0
ListsItsStates made = (decoded made.bytes.items).nfa ≡ made.nfa.items

-- the list of a key, if it has one, has the NFA states of the powerset state that the key's bytes encode
abbrev pub IsListed : Bytes → Type 0
IsListed (Shared b) = Unit {0}
IsListed (Own made) = ListsItsStates made.value

-- what holds for the bytes of every key
pub record IsKey (b : Bytes) : Type 0 where
  -- they encode a powerset state
  pub code : IsCode (bytes_of b)
  -- if there is a list with them, it has the NFA states of that state
  pub listed : IsListed b
