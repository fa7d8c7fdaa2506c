-- Classes of bytes: the greatest intervals of bytes without a boundary inside.
use Rattle.std.specs.Prelude.{ℕ, zero, suc, ◌≡◌, ◌+◌, ◌-◌, ◌<◌, ◌≤◌, Bool, false, not, ◌||◌, eqb, nat_le, if◌then◌else◌}
use Rattle.std.specs.Prelude.{List, [], ◌∷◌, length, slice_index, slice_index_or}
use Rattle.automata_base.specs.declared.nfa.thompson.state.State.{State}
use Rattle.automata_base.specs.declared.nfa.thompson.state.State.TheVariants as is
use Rattle.automata_base.specs.declared.nfa.thompson.state.Transition.{Transition}
use Rattle.automata_base.specs.Haystacks.Looks.{Look, differ, Start, End, StartLF, EndLF, StartCRLF, EndCRLF}
use Rattle.automata_base.specs.Nfas.Nodes.{Automaton}

-- Whether a byte is in the quit set.
abbrev pub is_quit : List Bool → ℕ → Bool
is_quit quits byte = slice_index_or quits byte false

-- Whether the range from `lo` to `hi` has a boundary before the byte: it begins there, or ends at the previous byte.
abbrev pub bounds : (lo hi : ℕ) → ℕ → Bool
bounds lo hi byte = eqb byte lo || eqb byte (hi + 1)

-- Whether one of these ranges has a boundary before the byte: it begins there, or ends at the previous byte.
abbrev pub transitions_bound : List Transition → ℕ → Bool
transitions_bound [] byte = false
transitions_bound (t ∷ ts) byte = bounds t.lo t.hi byte || transitions_bound ts byte

-- Whether a run of bytes with the same target begins or ends before the byte.
abbrev pub targets_bound : List ℕ → ℕ → Bool
targets_bound targets byte = not (eqb (slice_index targets byte) (slice_index targets (byte - 1)))

-- Whether a run of quit bytes begins or ends before the byte.
abbrev pub quits_bound : List Bool → ℕ → Bool
quits_bound quits byte = differ (is_quit quits byte) (is_quit quits (byte - 1))

-- Whether a look has a boundary before the byte. A line look tests for the terminator, a CRLF look for `\r` and `\n`, a
-- word look for `0-9`, `A-Z`, `_` and `a-z`.
unfoldable pub look_bounds : (terminator : ℕ) → Look → ℕ → Bool
look_bounds terminator Start byte = false
look_bounds terminator End byte = false
look_bounds terminator StartLF byte = bounds terminator terminator byte
look_bounds terminator EndLF byte = bounds terminator terminator byte
look_bounds terminator StartCRLF byte = bounds 13 13 byte || bounds 10 10 byte
look_bounds terminator EndCRLF byte = bounds 13 13 byte || bounds 10 10 byte
look_bounds terminator look byte = (bounds 48 57 byte || bounds 65 90 byte) || (bounds 95 95 byte || bounds 97 122 byte)

-- Whether a state has a boundary before the byte.
unfoldable pub state_bounds : (terminator : ℕ) → State → ℕ → Bool
state_bounds terminator (is.ByteRange lo hi next) byte = bounds lo hi byte
state_bounds terminator (is.Sparse ts) byte = transitions_bound ts.items byte
state_bounds terminator (is.Dense targets) byte = targets_bound targets.value byte
state_bounds terminator (is.Look look next) byte = look_bounds terminator look byte
state_bounds terminator (is.Union alternates) byte = false
state_bounds terminator (is.BinaryUnion alt1 alt2) byte = false
state_bounds terminator (is.Capture next pattern index slot) byte = false
state_bounds terminator is.Fail byte = false
state_bounds terminator (is.Match pattern) byte = false

-- Whether some state has a boundary before the byte.
abbrev pub states_bound : (terminator : ℕ) → List State → ℕ → Bool
states_bound terminator [] byte = false
states_bound terminator (s ∷ ss) byte = state_bounds terminator s byte || states_bound terminator ss byte

-- Whether there is a boundary before the byte. With classes off each byte has one.
unfoldable pub is_boundary : Automaton → (quits : List Bool) → (on : Bool) → ℕ → Bool
is_boundary a quits on byte = not on || (states_bound a.flags.line_terminator a.states byte || quits_bound quits byte)

-- The number of boundaries from byte 1 up to and including this one.
unfoldable pub boundary_count : (ℕ → Bool) → ℕ → ℕ
boundary_count boundary zero = 0
boundary_count boundary (suc byte) = boundary_count boundary byte + (if boundary (suc byte) then 1 else 0)

-- The class of a byte of an NFA, for this quit set and with classes on or off.
abbrev pub class_of : Automaton → (quits : List Bool) → (on : Bool) → ℕ → ℕ
class_of a quits on byte = boundary_count (is_boundary a quits on) byte

-- The class of a byte. Contracts see byte classes as a list with the class of each of the 256 bytes. The class of the
-- end of the input comes after the last class of these.
abbrev pub class_in : List ℕ → ℕ → ℕ
class_in classes byte = slice_index classes byte

-- The class of the end of the input: the one after the last class of bytes.
abbrev pub eoi_class : List ℕ → ℕ
eoi_class classes = class_in classes 255 + 1

-- The number of classes, including the one for the end of the input.
abbrev pub alphabet_length : List ℕ → ℕ
alphabet_length classes = class_in classes 255 + 2

-- The least power of two that is at least the length of an alphabet, which is 2 to 257.
unfoldable pub stride_for : ℕ → ℕ
stride_for length =
    if nat_le length 2 then 2 else (if nat_le length 4 then 4 else (if nat_le length 8 then 8
    else (if nat_le length 16 then 16 else (if nat_le length 32 then 32 else (if nat_le length 64 then 64
    else (if nat_le length 128 then 128 else (if nat_le length 256 then 256 else 512)))))))

-- The number of cells of a row of the table: the number of classes, rounded up to a power of two.
abbrev pub stride_of : List ℕ → ℕ
stride_of classes = stride_for (alphabet_length classes)

-- Classes of the 256 bytes: they rise by at most one from byte to byte.
pub record AreClasses (classes : List ℕ) : Type 0 where
  -- there is a class for each byte
  pub whole : length classes ≡ 256
  -- the next byte has the same class or the next one
  pub rising : (byte : ℕ) → byte < 255
      → (class_in classes byte ≤ class_in classes (byte + 1))
      × (class_in classes (byte + 1) ≤ class_in classes byte + 1)
  -- the last byte has the greatest class
  pub below : (byte : ℕ) → byte < 256 → class_in classes byte ≤ class_in classes 255
  -- there are at most 256 classes of bytes, counted from 0
  pub few : class_in classes 255 ≤ 255
