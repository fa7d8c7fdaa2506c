-- The view of a configuration in contracts: each option as it was set, if it was, and the value that takes effect.
use Rattle.std.specs.Prelude.{ℕ, Bool, true, false, not, ◌&&◌, nat_le, List, Option, None, unwrap_or, replicate}
use Rattle.std.specs.Option.{option_or}
use Rattle.automata_base.specs.declared.util.search.MatchKind.{MatchKind}
use Rattle.automata_base.specs.declared.util.search.MatchKind.TheVariants.{LeftmostFirst}

-- The options of a lazy DFA. An option that was not set has its default.
pub record Options : Type 0 where
  -- which matches a search reports
  pub match_kind : Option MatchKind
  -- whether each pattern has start states of its own, for anchored searches of it alone
  pub starts_for_each_pattern : Option Bool
  -- whether bytes that the NFA does not distinguish share a class
  pub byte_classes : Option Bool
  -- whether Unicode word boundaries are treated as ASCII ones, with the bytes from 0x80 on as quit bytes
  pub unicode_word_boundary : Option Bool
  -- for each byte, whether it is in the quit set
  pub quits : Option (List Bool)
  -- whether the IDs of start states are tagged as such
  pub specialize_start_states : Option Bool
  -- the most bytes that a cache may account for
  pub cache_capacity : Option ℕ
  -- the bytes up to which the capacity is raised for an NFA whose minimum is large
  pub cache_limit : Option ℕ
  -- whether a capacity below the minimum is raised to it, instead of being an error
  pub skip_cache_capacity_check : Option Bool
  -- the number of clears after which a search may give up; if it is set to none, it never does
  pub minimum_cache_clear_count : Option (Option ℕ)
  -- how many bytes for each state keep a search from giving up, if they were searched since the last clear; if it is
  -- set to none, no number does
  pub minimum_bytes_per_state : Option (Option ℕ)

-- The options when none was set.
abbrev pub unset : Options
unset = record {
  match_kind = None;
  starts_for_each_pattern = None;
  byte_classes = None;
  unicode_word_boundary = None;
  quits = None;
  specialize_start_states = None;
  cache_capacity = None;
  cache_limit = None;
  skip_cache_capacity_check = None;
  minimum_cache_clear_count = None;
  minimum_bytes_per_state = None;
}

-- The options that the newer configuration sets, and for the others those of the older one.
abbrev pub overwritten : (old new : Options) → Options
overwritten old new = record {
  match_kind = option_or new.match_kind old.match_kind;
  starts_for_each_pattern = option_or new.starts_for_each_pattern old.starts_for_each_pattern;
  byte_classes = option_or new.byte_classes old.byte_classes;
  unicode_word_boundary = option_or new.unicode_word_boundary old.unicode_word_boundary;
  quits = option_or new.quits old.quits;
  specialize_start_states = option_or new.specialize_start_states old.specialize_start_states;
  cache_capacity = option_or new.cache_capacity old.cache_capacity;
  cache_limit = option_or new.cache_limit old.cache_limit;
  skip_cache_capacity_check = option_or new.skip_cache_capacity_check old.skip_cache_capacity_check;
  minimum_cache_clear_count = option_or new.minimum_cache_clear_count old.minimum_cache_clear_count;
  minimum_bytes_per_state = option_or new.minimum_bytes_per_state old.minimum_bytes_per_state;
}

-- Which matches a search reports: by default `MatchKind::LeftmostFirst`.
abbrev pub match_kind_of : Options → MatchKind
match_kind_of o = unwrap_or o.match_kind LeftmostFirst

-- Whether each pattern has start states of its own: by default it has none.
abbrev pub starts_for_each_pattern_of : Options → Bool
starts_for_each_pattern_of o = unwrap_or o.starts_for_each_pattern false

-- Whether bytes that the NFA does not distinguish share a class: by default they do.
abbrev pub byte_classes_of : Options → Bool
byte_classes_of o = unwrap_or o.byte_classes true

-- Whether Unicode word boundaries are treated as ASCII ones: by default they are not.
abbrev pub unicode_word_boundary_of : Options → Bool
unicode_word_boundary_of o = unwrap_or o.unicode_word_boundary false

-- The empty quit set.
unfoldable pub no_quits : List Bool
no_quits = replicate 256 false

-- For each byte, whether it is in the configured quit set, which is empty by default.
abbrev pub quits_of : Options → List Bool
quits_of o = unwrap_or o.quits no_quits

-- Whether the IDs of start states are tagged as such: by default they are not.
abbrev pub specialize_start_states_of : Options → Bool
specialize_start_states_of o = unwrap_or o.specialize_start_states false

-- The most bytes that a cache may account for: by default two mebibytes.
abbrev pub cache_capacity_of : Options → ℕ
cache_capacity_of o = unwrap_or o.cache_capacity 2097152

-- The bytes up to which the capacity is raised for an NFA whose minimum is large: by default 0, and it is not raised.
abbrev pub cache_limit_of : Options → ℕ
cache_limit_of o = unwrap_or o.cache_limit 0

-- Whether a capacity below the minimum is raised to it: by default it is an error.
abbrev pub skip_cache_capacity_check_of : Options → Bool
skip_cache_capacity_check_of o = unwrap_or o.skip_cache_capacity_check false

-- The number of clears after which a search may give up: by default none, and it never does.
abbrev pub minimum_cache_clear_count_of : Options → Option ℕ
minimum_cache_clear_count_of o = unwrap_or o.minimum_cache_clear_count None

-- The number of bytes for each state that keeps a search from giving up: by default no number does.
abbrev pub minimum_bytes_per_state_of : Options → Option ℕ
minimum_bytes_per_state_of o = unwrap_or o.minimum_bytes_per_state None

-- Whether a byte may be added to the quit set or removed from it: under the heuristic for Unicode word boundaries, no
-- byte from 0x80 on may be removed.
abbrev pub allows_quit : Options → (byte : ℕ) → (set : Bool) → Bool
allows_quit o byte set = not (unicode_word_boundary_of o && nat_le 128 byte && not set)
