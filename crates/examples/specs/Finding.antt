-- The first match of a pattern's text.
use Rattle.std.specs.Prelude.{ℕ, ◌≡◌, List, Option, false, option_map}
use Rattle.regex_hir.specs.Re.{Re}
use Rattle.regex_hir.specs.Find as kit
use Rattle.regex_compile.specs.Implements.{Implements}
use Rattle.regex_nfa.specs.declared.nfa.Nfa.{Nfa}
use Rattle.regex_vm.specs.Found.{span}
use Rattle.patterns.specs.Patterns.{IsMeaning, config_of, default_options}
use Rattle.patterns.specs.declared.compile.Options.{Options}

-- The options of `Options::default`, except that bytes are searched, not UTF-8.
abbrev pub in_bytes : Options
in_bytes = record default_options { utf8 = false }

-- It is the span of the first match, in these bytes, of what the text means.
abbrev pub IsFirstIn : (text bytes : List ℕ) → Option (ℕ × ℕ) → Type 0
IsFirstIn text bytes found =
    (re : Re) × IsMeaning (config_of in_bytes) text re × (found ≡ option_map span (kit.find re bytes 0))

-- The kit's NFA finds what the text means.
abbrev pub IsSimulated : (text : List ℕ) → Nfa → Type 0
IsSimulated text nfa = (re : Re) × IsMeaning (config_of in_bytes) text re × Implements nfa re
