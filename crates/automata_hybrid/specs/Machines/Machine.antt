-- What contracts see of a lazy DFA, the units that it reads, and what each lazy DFA keeps.
use Rattle.std.specs.Prelude.{ℕ, zero, suc, List, Bool, false, cond, Option, None, Some, slice_set, replicate, ◌≡◌}
use Rattle.automata_base.specs.Nfas.Nodes.{Automaton}
use Rattle.automata_base.specs.Nfas.Engines.{Engine, engine_of}
use Rattle.automata_base.specs.ByteClasses.Classes.{class_in, eoi_class, is_quit, stride_of}
use Rattle.automata_determinize.specs.Powersets.Accounting.{max_cost, start_slots, fixed_cost}
use Rattle.automata_config.specs.Options.{Options, match_kind_of, starts_for_each_pattern_of}
use Rattle.automata_hybrid.specs.Cache.Ids.{quit_id, unknown_id}

-- a lazy DFA as contracts see it: its automaton and its settings; the classes of bytes, the quit set and the capacity
-- that these settle; and the numbers that its caches need: the cells of a row, the start slots, the cells of a new row
-- (quit at quit classes, and unknown at all others), the most that a state costs, and the room for determinization
pub record Machine : Type 0 where
  -- its NFA
  pub nfa : Automaton
  -- its settings
  pub config : Options
  -- the class of each byte
  pub classes : List ℕ
  -- for each byte, whether it is a quit byte
  pub quits : List Bool
  -- the maximum of a cache's accounted bytes
  pub capacity : ℕ
  -- how many cells a row has
  pub stride : ℕ
  -- how many start slots a cache has
  pub slots : ℕ
  -- the cells of a new row: quit at the classes of quit bytes, and unknown at all others
  pub template : List ℕ
  -- the maximum number of bytes that a state costs
  pub greatest : ℕ
  -- the bytes that a cache accounts for as its room for determinization
  pub fixed : ℕ

-- what a DFA searches by: its NFA with its starts, and its match kind
abbrev pub engine : Machine → Engine
engine m = engine_of m.nfa (match_kind_of m.config)

-- the class of a byte or of the end
abbrev pub unit_class : Machine → Option ℕ → ℕ
unit_class m None = eoi_class m.classes
unit_class m (Some byte) = class_in m.classes byte

-- the unit is a quit byte; the end is not
abbrev pub quits_on : Machine → Option ℕ → Bool
quits_on m None = false
quits_on m (Some byte) = is_quit m.quits byte

-- the cells of a row in which the classes of the quit bytes below a number are quit, and the others unknown
unfoldable pub marked : (classes : List ℕ) (quits : List Bool) (stride bytes : ℕ) → List ℕ
marked classes quits stride zero = replicate stride unknown_id
marked classes quits stride (suc byte) =
    cond (is_quit quits byte) (slice_set (marked classes quits stride byte) (class_in classes byte) (quit_id stride))
    (marked classes quits stride byte)

-- the numbers of a DFA, and the cells of a new row, follow from its automaton, its settings and its classes
pub record IsSized (m : Machine) : Type 0 where
  -- a row has as many cells as there are classes, including the class of the end, rounded up to a power of two
  pub stride : m.stride ≡ stride_of m.classes
  -- there are as many start slots as the NFA and the settings need
  pub slots : m.slots ≡ start_slots m.nfa (starts_for_each_pattern_of m.config)
  -- a new row is quit at the classes of quit bytes, and unknown at all others
  pub template : m.template ≡ marked m.classes m.quits m.stride 256
  -- the greatest cost is the cost of a state with every pattern and every NFA state
  pub greatest : m.greatest ≡ max_cost m.nfa
  -- the room for determinization is what the NFA needs
  pub fixed : m.fixed ≡ fixed_cost m.nfa
