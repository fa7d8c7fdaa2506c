-- NFAs with chains of unions, and the same NFAs in which each chain is one union.
use Rattle.std.specs.Prelude.{ℕ, ◌≡◌, ◌<◌, ◌⊎◌, ◌↔◌, List, [], ◌∷◌, Option, Some, None, length, slice_get}
use Rattle.automata_base.specs.Lists.{In}
use Rattle.automata_base.specs.Nfas.Getters.{HasEmpty}
use Rattle.automata_base.specs.Nfas.Nfa.{Nfa, Node, Split, Assert, Read, Accept, node, takes_in}
use Rattle.automata_base.specs.Nfas.Nodes.{Automaton, nfa_of}
use Rattle.automata_transform.specs.Nfas.MergedNfas.{BeginsAs}

-- The number, or another one if there is none.
abbrev pub number_or : ℕ → Option ℕ → ℕ
number_or q None = q
number_or q (Some r) = r

-- The union that a link of a chain follows; for any other state, the state itself.
abbrev pub followed : (links : List ℕ) → ℕ → ℕ
followed links q = number_or q (slice_get links q)

-- The state is not a link of a chain.
abbrev pub IsNoLink : (links : List ℕ) → ℕ → Type 0
IsNoLink links q = followed links q ≡ q

-- The alternates of a chain: those of its first union, where a link stands for its own alternates, and is the last one.
pub data AreOfChain (n : Nfa) (links : List ℕ) : List ℕ → List ℕ → Type 0 where
  -- no more alternates
  EndsChain : AreOfChain n links [] []
  -- an alternate that is not a link
  KeepsAlternate :
      {x : ℕ} {xs ys : List ℕ} → IsNoLink links x → AreOfChain n links xs ys → AreOfChain n links (x ∷ xs) (x ∷ ys)
  -- a link, whose alternates follow
  FollowsLink :
      {x : ℕ} {alternates ys : List ℕ} → (IsNoLink links x → ⊥) → node n x ≡ Split alternates
      → AreOfChain n links alternates ys → AreOfChain n links (x ∷ []) ys

-- What becomes of the node of a state: a union has the alternates of its chain, and any other node stays. Only unions
-- are links, and only the union that a link follows leads to it. What takes the place of a link does not matter, since
-- nothing leads there.
abbrev pub IsFlatNode : (n : Nfa) → (links : List ℕ) → (q : ℕ) → (was now : Node) → Type 0
IsFlatNode n links q (Split alternates) now =
    ((r : ℕ) → In r alternates → IsNoLink links r ⊎ (followed links r ≡ q))
    × (IsNoLink links q → (all : List ℕ) × (now ≡ Split all) × AreOfChain n links alternates all)
IsFlatNode n links q (Assert look next) now =
    IsNoLink links q × IsNoLink links next × (now ≡ Assert look next)
IsFlatNode n links q (Read ranges) now =
    IsNoLink links q × ((u r : ℕ) → takes_in ranges u ≡ Some r → IsNoLink links r) × (now ≡ Read ranges)
IsFlatNode n links q (Accept pattern) now = IsNoLink links q × (now ≡ Accept pattern)

-- The second NFA is the first one with its chains flattened. The states keep their numbers.
pub record IsFlattened (n m : Nfa) (links : List ℕ) : Type 0 where
  -- lines end at the same byte
  pub terminator : m.terminator ≡ n.terminator
  -- both read the haystack in the same direction
  pub reverse : m.reverse ≡ n.reverse
  -- there are as many states
  pub count : length m.nodes ≡ length n.nodes
  -- each union has the alternates of its chain
  pub nodes : (q : ℕ) → q < length n.nodes → IsFlatNode n links q (node n q) (node m q)

-- The second NFA is the first one, with some of its chains of unions flattened, or none.
pub record IsFlattenedNfa (a b : Automaton) : Type 0 where
  -- it has the same starts and flags
  pub begins : BeginsAs a b
  -- the union that each link follows
  pub links : List ℕ
  -- its states are those of the first one, flattened
  pub flat : IsFlattened (nfa_of a) (nfa_of b) links
  -- no search begins at a link
  pub starts :
      (q : ℕ) → In q (a.start_anchored ∷ a.start_unanchored ∷ a.start_pattern) → IsNoLink links q
  -- both have the empty match, or neither does
  pub empty : HasEmpty a ↔ HasEmpty b
