-- Contracts of the calls that reset a cache, or report its memory usage.
use Rattle.std.specs.Prelude.{◌≡◌, ◌⊎◌, ◌+◌, ◌-◌, ◌^◌, ◌≤◌, List, [], ◌∷◌, length, min}
use Rattle.automata_hybrid.specs.Cache.Caches.{dfa_of}
use Rattle.automata_hybrid.specs.Known.Events.{usage}
use Rattle.automata_hybrid.specs.Known.Stores.{known_of}
use Rattle.regex_automata.specs.Regexes.Caches.{AreFresh}
use Rattle.lazydfa_c.specs.Calls.{regex_of}
use Rattle.lazydfa_c.specs.Statuses.{plain}
use Rattle.lazydfa_c.specs.declared.code.Code.TheVariants as code
use Rattle.lazydfa_c.specs.declared.object.Searcher.{Searcher}
use Rattle.lazydfa_c.specs.declared.status.Status.{Status}
use Rattle.lazydfa_c.specs.declared.usage.Usage.{Usage}

-- a cache is unchanged
pub record KeepsCaches (s t : Searcher) : Type 0 where
  -- the caches of both DFAs are unchanged
  pub cache : t.cache ≡ s.cache
  -- its set of patterns is unchanged
  pub patterns : t.patterns ≡ s.patterns
  -- it keeps its regex
  pub same : t.shared ≡ s.shared
  -- its search and its walk in pieces are unchanged
  pub pieces : t.pieces ≡ s.pieces

-- a list of the same length as `old` that begins with the given elements, as many as fit, and keeps the rest of `old`
abbrev pub written_over : {A : Type 0} → List A → (old : List A) → List A
written_over [] old = old
written_over (x ∷ xs) [] = []
written_over (x ∷ xs) (o ∷ old) = x ∷ written_over xs old

-- `lazydfa_cache_reset`: the cache is a fresh one of its regex, or is unchanged if an allocation fails
pub record Resets (s t : Searcher) (status : Status) : Type 0 where
  -- it is fresh and the status is `LAZYDFA_OK`, or it is unchanged and the status is `LAZYDFA_MEMORY`
  pub told :
      ((status ≡ plain code.Done) × AreFresh (regex_of s) t.cache)
      ⊎ ((status ≡ plain code.Memory) × (t.cache ≡ s.cache))
  -- its set of patterns is unchanged
  pub patterns : t.patterns ≡ s.patterns
  -- it keeps its regex
  pub same : t.shared ≡ s.shared
  -- its search and its walk in pieces are unchanged
  pub pieces : t.pieces ≡ s.pieces

-- the memory usage of a cache, how often its parts were cleared, and how many patterns its regex has
pub record IsUsageOf (s : Searcher) (u : Usage) : Type 0 where
  -- the accounted bytes of both parts
  pub memory :
      u.memory ≡ min (usage (dfa_of s.cache.forward) (known_of s.cache.forward)
      + usage (dfa_of s.cache.reverse) (known_of s.cache.reverse)) (2 ^ 64 - 1)
  -- together with the bytes of leaps they are within the sum of the capacities of both parts
  pub leaps : u.memory + u.leaps ≤ (dfa_of s.cache.forward).capacity + (dfa_of s.cache.reverse).capacity
  -- at least as many bytes are held as are accounted for and taken by leaps
  pub held : min (u.memory + u.leaps) (2 ^ 64 - 1) ≤ u.held
  -- how often the cache of the forward DFA was cleared
  pub forward_clears : u.forward_clears ≡ (known_of s.cache.forward).clears
  -- how often the cache of the reverse DFA was cleared
  pub reverse_clears : u.reverse_clears ≡ (known_of s.cache.reverse).clears
  -- the number of patterns
  pub patterns : u.patterns ≡ length (regex_of s).forward.nfa.start_pattern

-- `lazydfa_cache_usage`, which changes nothing
abbrev pub ReportsUsage : Usage → (s t : Searcher) → Status → Type 0
ReportsUsage written s t status = (t ≡ s) × IsUsageOf s written × (status ≡ plain code.Done)
