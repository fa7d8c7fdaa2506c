-- What all matches of a pattern have in common, as it is reported to C.
use Rattle.std.specs.Prelude.{ℕ, ◌≡◌, Bool, false, IsTrue, List, ◌++◌, length, map, vec_len, if◌then◌else◌}
use Rattle.std.specs.List.{flat_map}
use Rattle.match_facts.specs.declared.Facts.{Facts as Known}
use Rattle.core.specs.Str.{IsValidUpTo}
use Rattle.patterns.specs.Facts.{AreFactsOf, IsFactsError}
use Rattle.patterns.specs.declared.compile.Options.{Options as Reading}
use Rattle.patterns.specs.declared.error.PatternError.{PatternError}
use Rattle.lazydfa_c.specs.Caches.{written_over}
use Rattle.lazydfa_c.specs.Limits.{admits}
use Rattle.lazydfa_c.specs.Statuses.{fault_status, plain, status_at}
use Rattle.lazydfa_c.specs.Texts.{IsFailure, reading_of}
use Rattle.lazydfa_c.specs.declared.code.Code.TheVariants as code
use Rattle.lazydfa_c.specs.declared.facts.Facts.{Facts}
use Rattle.lazydfa_c.specs.declared.settings.Settings.{Settings}
use Rattle.lazydfa_c.specs.declared.status.Status.{Status}
use Rattle.lazydfa_c.specs.declared.text.TextOptions.{TextOptions}

-- settings of which every number is zero
abbrev pub default_settings : Settings
default_settings = record {
  cache_capacity = 0;
  cache_limit = 0;
  minimum_cache_clear_count = 0;
  minimum_bytes_per_state = 0;
  has_cache_capacity = 0;
  has_cache_limit = 0;
  has_minimum_cache_clear_count = 0;
  has_minimum_bytes_per_state = 0;
  match_kind = 0;
  starts_for_each_pattern = 0;
  no_byte_classes = 0;
  unicode_word_boundary = 0;
  specialize_start_states = 0;
  skip_cache_capacity_check = 0;
  always_anchored = 0;
}

-- how a pattern's text is parsed; its meaning does not depend on the settings
abbrev pub plain_reading : TextOptions → Reading
plain_reading options = reading_of options default_settings

-- 1 for true and 0 for false
abbrev pub flag : Bool → ℕ
flag b = if b then 1 else 0

-- the bytes of the prefix, followed by the bytes of the literals
abbrev pub fact_bytes : Known → List ℕ
fact_bytes known = known.prefix.items ++ flat_map (λ literal. literal.items) known.literals.items

-- the lengths of the literals
abbrev pub literal_lengths : Known → List ℕ
literal_lengths known = map (λ literal. vec_len literal) known.literals.items

-- the facts, as C lays them out, where `bytes` is the length of the prefix and the literals together
abbrev pub facts_of : Known → (bytes : ℕ) → Facts
facts_of known bytes = record {
  prefix = vec_len known.prefix;
  count = vec_len known.literals;
  length = bytes;
  anchored_start = flag known.anchored_start;
  anchored_end = flag known.anchored_end;
  exact = flag known.exact;
  reserved = 0;
}

-- no facts
abbrev pub no_facts : Facts
no_facts = record {
  prefix = 0;
  count = 0;
  length = 0;
  anchored_start = 0;
  anchored_end = 0;
  exact = 0;
  reserved = 0;
}

-- facts that hold of every match of the pattern, and their bytes and lengths, of which as many are written as there is
-- room for
pub record HasFacts (options : TextOptions) (text : List ℕ) (facts : Facts)
    (old_bytes new_bytes old_lengths new_lengths : List ℕ) : Type 0 where
  -- the text is within the limits
  pub within : IsTrue (admits options text)
  -- the prefix, the literals and the flags
  pub known : Known
  -- they are facts of the pattern
  pub of : AreFactsOf (plain_reading options) text known
  -- the facts are laid out for C, with the length of all bytes
  pub written : facts ≡ facts_of known (length (fact_bytes known))
  -- the bytes of the prefix and of the literals are written, as many as there is room for
  pub bytes : new_bytes ≡ written_over (fact_bytes known) old_bytes
  -- the lengths of the literals are written, as many as there is room for
  pub lengths : new_lengths ≡ written_over (literal_lengths known) old_lengths

-- why a text has no facts: the status says it
pub data IsFactsFailure (options : TextOptions) (text : List ℕ) (status : Status) : Type 0 where
  -- the text exceeds the limits on text and on class escapes
  ExceedsLimits : admits options text ≡ false → status ≡ plain code.TooLarge → IsFactsFailure options text status
  -- it is UTF-8 up to an offset, and not up to a later one
  IsNotText :
      (offset : ℕ) → IsValidUpTo text offset → status ≡ status_at code.NotText offset
      → IsFactsFailure options text status
  -- it is not a pattern
  IsNoPattern :
      (error : PatternError) → IsFactsError (plain_reading options) text error → status ≡ fault_status error.fault
      → IsFactsFailure options text status
  -- an allocation fails
  LacksMemory : status ≡ plain code.Memory → IsFactsFailure options text status

-- `lazydfa_text_facts`
pub data ReportsFacts (options : TextOptions) (text : List ℕ) (facts : Facts)
    (old_bytes new_bytes old_lengths new_lengths : List ℕ) (status : Status) : Type 0 where
  -- the facts are written
  Reports :
      HasFacts options text facts old_bytes new_bytes old_lengths new_lengths → status ≡ plain code.Done
      → ReportsFacts options text facts old_bytes new_bytes old_lengths new_lengths status
  -- the call failed: the facts are zeros, and nothing else is written
  Fails :
      IsFailure status → IsFactsFailure options text status → facts ≡ no_facts → new_bytes ≡ old_bytes
      → new_lengths ≡ old_lengths → ReportsFacts options text facts old_bytes new_bytes old_lengths new_lengths status
