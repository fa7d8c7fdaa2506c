-- What a configuration settles for an NFA: a quit set, byte classes and a capacity, or an error.
use Rattle.std.specs.Prelude.{ℕ, ◌≡◌, ◌+◌, ◌*◌, ◌<◌, ◌≤◌, Bool, not, ◌&&◌, ◌||◌, nat_le, nat_lt, eqb, if◌then◌else◌}
use Rattle.std.specs.Prelude.{List, [], ◌∷◌, map, max, min, Option, Some, None}
use Rattle.std.specs.List.{list_all, list_any, range_with_len}
use Rattle.automata_determinize.specs.Powersets.Accounting.{start_slots, max_cost, fixed_cost, minimum_capacity}
use Rattle.automata_determinize.specs.Powersets.Accounting.{effective_capacity}
use Rattle.automata_base.specs.ByteClasses.Classes.{is_quit, class_of, class_in, stride_for}
use Rattle.automata_base.specs.Nfas.Nfa.{any_node}
use Rattle.automata_base.specs.Haystacks.Looks.{look_index}
use Rattle.automata_base.specs.Nfas.Nodes.{Automaton, nfa_of}
use Rattle.automata_base.specs.declared.util.look.Look.{Look}
use Rattle.automata_base.specs.declared.util.look.Look.TheVariants.{WordUnicode, WordUnicodeNegate, WordStartUnicode}
use Rattle.automata_base.specs.declared.util.look.Look.TheVariants.{WordEndUnicode, WordStartHalfUnicode}
use Rattle.automata_base.specs.declared.util.look.Look.TheVariants.{WordEndHalfUnicode}
use Rattle.automata_config.specs.Options.{Options, starts_for_each_pattern_of, byte_classes_of}
use Rattle.automata_config.specs.Options.{unicode_word_boundary_of, quits_of, cache_capacity_of, cache_limit_of}
use Rattle.automata_config.specs.Options.{skip_cache_capacity_check_of}
use Rattle.automata_config.specs.Settled.{Settled}
use Rattle.automata_config.specs.declared.error.BuildError.{BuildError}
use Rattle.automata_config.specs.declared.error.BuildError.TheVariants.{Unsupported, InsufficientCacheCapacity}
use Rattle.automata_config.specs.declared.error.BuildError.TheVariants.{InsufficientStateIDCapacity}

-- Whether some state of the NFA is this look.
abbrev pub occurs : Automaton → Look → Bool
occurs a look = any_node (λ other. eqb (look_index other) (look_index look)) (nfa_of a).nodes

-- The looks that test for Unicode word characters.
abbrev pub unicode_word_looks : List Look
unicode_word_looks =
    WordUnicode ∷ WordUnicodeNegate ∷ WordStartUnicode ∷ WordEndUnicode ∷ WordStartHalfUnicode ∷ WordEndHalfUnicode ∷ []

-- Whether some state of the NFA is a look that tests for Unicode word characters.
unfoldable pub has_unicode_word : Automaton → Bool
has_unicode_word a = list_any (occurs a) unicode_word_looks

-- Whether each of the `count` bytes from `first` on is in the quit set.
unfoldable pub are_quits : (quits : List Bool) → (first count : ℕ) → Bool
are_quits quits first count = list_all (is_quit quits) (range_with_len first count)

-- Whether every byte from 0x80 on is in the quit set.
abbrev pub holds_non_ascii : (quits : List Bool) → Bool
holds_non_ascii quits = are_quits quits 128 128

-- Whether the NFA has a Unicode word boundary that cannot be decided: neither the heuristic nor the quit set stops a
-- search at each byte from 0x80 on.
abbrev pub is_unsupported : Options → Automaton → Bool
is_unsupported o a = has_unicode_word a && not (unicode_word_boundary_of o || holds_non_ascii (quits_of o))

-- The quit set of a DFA: the configured bytes, and those from 0x80 on if the heuristic needs them.
unfoldable pub settled_quits : Options → Automaton → List Bool
settled_quits o a =
    map (λ byte. is_quit (quits_of o) byte || (has_unicode_word a && unicode_word_boundary_of o && nat_le 128 byte))
    (range_with_len 0 256)

-- The stride of a DFA: the least power of two that is at least the number of its classes.
abbrev pub settled_stride : Options → Automaton → ℕ
settled_stride o a = stride_for (class_of a (settled_quits o a) (byte_classes_of o) 255 + 2)

-- The number of start slots of a cache of the DFA.
abbrev pub settled_slots : Options → Automaton → ℕ
settled_slots o a = start_slots a (starts_for_each_pattern_of o)

-- The minimum capacity of a cache of the DFA, in bytes.
unfoldable pub settled_minimum : Options → Automaton → ℕ
settled_minimum o a = minimum_capacity (settled_stride o a) (settled_slots o a) (max_cost a) (fixed_cost a)

-- The greatest offset that fits into the ID of a row.
abbrev pub max_offset : ℕ
max_offset = 134217727

-- The greatest offset of a row in a table of the minimum capacity.
unfoldable pub greatest_offset : Options → Automaton → ℕ
greatest_offset o a = (4 + settled_slots o a) * settled_stride o a

-- The capacity of a cache that needs this minimum: the configured one, raised to four times the minimum as far as the
-- limit allows.
abbrev pub capacity_for : Options → (minimum : ℕ) → ℕ
capacity_for o minimum = max (cache_capacity_of o) (min (cache_limit_of o) (4 * minimum))

-- The capacity that the settings give a cache of the DFA.
abbrev pub given_capacity : Options → Automaton → ℕ
given_capacity o a = capacity_for o (settled_minimum o a)

-- Whether the capacity is below the minimum, and the check is not skipped.
abbrev pub is_too_small : Options → Automaton → Bool
is_too_small o a = not (skip_cache_capacity_check_of o) && nat_lt (given_capacity o a) (settled_minimum o a)

-- Why no DFA of the NFA can be built, or none if one can.
abbrev pub settling_error : Options → Automaton → Option BuildError
settling_error o a =
    if is_unsupported o a then Some Unsupported
    else (if is_too_small o a then Some (InsufficientCacheCapacity (settled_minimum o a) (given_capacity o a))
    else (if nat_lt max_offset (greatest_offset o a) then Some (InsufficientStateIDCapacity (greatest_offset o a))
    else None))

-- The record has the settled values: the quit set, the byte classes, and the capacity, which is at least the minimum.
pub record IsSettled (o : Options) (a : Automaton) (s : Settled) : Type 0 where
  -- the quit set: the configured bytes, and those from 0x80 on if the heuristic needs them
  pub quits : s.quits ≡ settled_quits o a
  -- the class of each byte
  pub classes : (byte : ℕ) → byte < 256 → class_in s.classes byte ≡ class_of a s.quits (byte_classes_of o) byte
  -- the effective capacity: the one that the settings give, or the minimum if that is larger
  pub capacity : s.capacity ≡ effective_capacity (given_capacity o a) (settled_minimum o a)
  -- the offset of each row in a table of the minimum capacity fits into its ID
  pub offsets : greatest_offset o a ≤ max_offset
