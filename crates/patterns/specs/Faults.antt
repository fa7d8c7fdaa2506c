-- Why texts yield no pattern, no NFA or no regex. When a pattern is too large for the compiler, and when memory runs
-- out, is left open: no contract of the kit says it.
use Rattle.std.specs.Prelude.{ℕ, ◌≡◌, ◌≢◌, ◌+◌, ◌*◌, ◌<◌, ◌≤◌, ◌⊎◌, ◌==◌, ◌&&◌, ◌||◌, true, false, Bool, List, []}
use Rattle.std.specs.Prelude.{◌∷◌, All, IsCharBoundary, Option, Some, None, length, slice_get, sum_by, take, vec_len}
use Rattle.regex_hir.specs.Re.{Re}
use Rattle.regex_nfa.specs.Sizes.{table_bytes}
use Rattle.regex_nfa.specs.declared.nfa.Nfa as kit_nfa
use Rattle.regex_nfa.specs.declared.state.Transition.{Transition}
use Rattle.regex_compile.specs.declared.error.Error as kit_error
use Rattle.regex_compile.specs.declared.error.Error.TheVariants as compiling
use Rattle.regex_syntax.specs.Verdict.{Refuses}
use Rattle.regex_syntax.specs.declared.Config.{Config}
use Rattle.regex_syntax.specs.declared.error.Error as syntax_error
use Rattle.regex_syntax.specs.declared.error.Span.{Span}
use Rattle.regex_syntax.specs.declared.error.ErrorKind.TheVariants as parsing
use Rattle.automata_base.specs.Nfas.Errors.{states_error}
use Rattle.automata_base.specs.Nfas.Nodes.{Automaton, nodes_of}
use Rattle.automata_base.specs.declared.nfa.thompson.state.NfaError.{NfaError}
use Rattle.automata_base.specs.declared.nfa.thompson.state.NfaError.TheVariants as nfa_error
use Rattle.automata_base.specs.declared.nfa.thompson.state.State.{State}
use Rattle.regex_automata.specs.Regexes.Builds.{IsBuildError}
use Rattle.regex_automata.specs.declared.hybrid.regex.build.RegexBuildError.{RegexBuildError}
use Rattle.meaning.specs.Agreeing.{HasNoUnicodeLook}
use Rattle.meaning.specs.Translated.{joined_nfa, size_of, starts_of}
use Rattle.patterns.specs.Drafts.{Has, IsCompiled}
use Rattle.patterns.specs.Patterns.{AreMeanings, AreNfasOf, IsNfaOf, IsPattern, config_of, settings_of}
use Rattle.patterns.specs.declared.compile.Draft.{Draft}
use Rattle.patterns.specs.declared.compile.Options.{Options}
use Rattle.patterns.specs.declared.error.Fault.{Fault}
use Rattle.patterns.specs.declared.error.Fault.TheVariants.{Syntax, UnicodeWord, TooLarge, Malformed}
use Rattle.patterns.specs.declared.error.Fault.TheVariants.{Refused, Unbuilt, OutOfMemory}
use Rattle.patterns.specs.declared.error.PatternError.{PatternError}

-- the compiler's errors, as faults
abbrev pub compile_fault : kit_error.Error → Fault
compile_fault compiling.TooBig = TooLarge
compile_fault compiling.Malformed = Malformed
compile_fault compiling.OutOfMemory = OutOfMemory

-- the errors of `NFA::from_states`, as faults
abbrev pub joining_fault : NfaError → Fault
joining_fault nfa_error.StateRange = Refused nfa_error.StateRange
joining_fault nfa_error.StartRange = Refused nfa_error.StartRange
joining_fault nfa_error.PatternRange = Refused nfa_error.PatternRange
joining_fault nfa_error.Ranges = Refused nfa_error.Ranges
joining_fault nfa_error.TooLarge = Refused nfa_error.TooLarge
joining_fault nfa_error.OutOfMemory = OutOfMemory

-- the part of the text that the fault is about, if it is an error of the parser
abbrev pub span_of : Fault → Option Span
span_of (Syntax error) = Some error.span
span_of fault = None

-- the number is too great for the ID of a state or a pattern
abbrev pub LacksID : (number : ℕ) → Fault → Type 0
LacksID number fault = (fault ≡ TooLarge) × (2147483646 < number)

-- not all states up to this number have an ID, or memory runs out
abbrev pub LacksRoom : (last : ℕ) → Fault → Type 0
LacksRoom last TooLarge = 2147483646 < last
LacksRoom last OutOfMemory = Unit {0}
LacksRoom last fault = ⊥

-- the text is not a valid pattern, or it nests too deep; the error is about a part of the text
pub record IsSyntaxFault (config : Config) (text : List ℕ) (error : syntax_error.Error) : Type 0 where
  -- The parser rejects the text with this kind of error.
  pub refused : Refuses config text error.kind
  -- The error is not out of memory.
  pub kind : error.kind ≢ parsing.OutOfMemory
  -- The span's start is not after its end.
  pub order : error.span.start ≤ error.span.end
  -- It starts where a character starts, or at the text's end.
  pub start : IsCharBoundary text error.span.start
  -- It ends at such an offset.
  pub end : IsCharBoundary text error.span.end

-- not all targets of these transitions have an ID after `base` other states, or memory runs out
abbrev pub LacksTargets : (base : ℕ) → List Transition → Fault → Type 0
LacksTargets base ts fault =
    (count : ℕ) → All (λ (t : Transition). t.next < count) ts → LacksRoom (base + count) fault

-- whether an escape with this byte can be a word boundary: `\b`, `\B`, `\<` or `\>`
abbrev pub is_boundary_letter : ℕ → Bool
is_boundary_letter b = (b == 98) || (b == 66) || (b == 60) || (b == 62)

-- whether these bytes have such an escape; the flag says whether a backslash precedes the first byte
abbrev pub has_escape_behind : Bool → List ℕ → Bool
has_escape_behind is_behind [] = false
has_escape_behind is_behind (b ∷ bs) = (is_behind && is_boundary_letter b) || has_escape_behind (b == 92) bs

-- whether the text has an escape that can be a word boundary; no Unicode look is written without one
abbrev pub has_boundary_escape : (text : List ℕ) → Bool
has_boundary_escape text = has_escape_behind false text

-- an NFA that finds what the text means has a Unicode look
abbrev pub HasUnicodeLook : Config → (text : List ℕ) → Type 0
HasUnicodeLook config text = (k : kit_nfa.Nfa) × IsCompiled config text k × (HasNoUnicodeLook k → ⊥)

-- why a look of an NFA is not supported: it is a Unicode look, and the haystack need not be ASCII
abbrev pub IsLookFault : (ascii : Bool) → (text : List ℕ) → kit_nfa.Nfa → Fault → Type 0
IsLookFault ascii text k UnicodeWord =
    (ascii ≡ false) × (has_boundary_escape text ≡ true) × (HasNoUnicodeLook k → ⊥)
IsLookFault ascii text k Malformed =
    (ascii ≡ false) × (has_boundary_escape text ≡ false) × (HasNoUnicodeLook k → ⊥)
IsLookFault ascii text k fault = ⊥

-- why the states of a pattern are not added to those of others: a look is not supported, there are not enough IDs, or
-- memory runs out
abbrev pub IsAddFault : (ascii : Bool) → (text : List ℕ) → Draft → kit_nfa.Nfa → Fault → Type 0
IsAddFault ascii text draft k fault =
    IsLookFault ascii text k fault
    ⊎ (LacksID (length draft.starts.items) fault
    ⊎ LacksRoom (length draft.states.items + vec_len k.states) fault)

-- Why a text has no pattern that these options allow. An error of the compiler, `Fault::Malformed`, can only be that
-- the NFA has a Unicode look and the text has no escape for one.
abbrev pub IsFaultOf : Options → (text : List ℕ) → Fault → Type 0
IsFaultOf options text (Syntax error) = IsSyntaxFault (config_of options) text error
IsFaultOf options text UnicodeWord =
    (options.ascii ≡ false) × (has_boundary_escape text ≡ true) × HasUnicodeLook (config_of options) text
IsFaultOf options text Malformed =
    (options.ascii ≡ false) × (has_boundary_escape text ≡ false) × HasUnicodeLook (config_of options) text
IsFaultOf options text TooLarge = IsPattern (config_of options) text
IsFaultOf options text OutOfMemory = Unit {0}
IsFaultOf options text fault = ⊥

-- the first of these texts that has no pattern, and why it has none: all texts before it are patterns
pub record IsFirstFault (options : Options) (texts : List (List ℕ)) (error : PatternError) : Type 0 where
  -- All texts before the error's number are patterns.
  pub before : (res : List Re) × AreMeanings (config_of options) (take error.number texts) res
  -- The text that has no pattern.
  pub text : List ℕ
  -- It is the text at the error's number, counted from 0.
  pub is : slice_get texts error.number ≡ Some text
  -- This is why it has no pattern.
  pub fault : IsFaultOf options text error.fault

-- `NFA::from_states` rejects the states that join these NFAs: its first test that fails has this error
abbrev pub IsJoinRejected : List kit_nfa.Nfa → NfaError → Type 0
IsJoinRejected ks error =
    (states : List State) × (nodes_of states ≡ (joined_nfa ks).nodes)
    × (states_error states (size_of ks) (size_of ks + 1) (starts_of 0 ks) ≡ Some error)

-- why these NFAs are not joined: with the three states that join them there are more states than IDs, or the library
-- rejects these states, or memory runs out
abbrev pub IsJoinFault : List kit_nfa.Nfa → Fault → Type 0
IsJoinFault ks TooLarge = 2147483646 < size_of ks + 2
IsJoinFault ks (Refused error) = IsJoinRejected ks error
IsJoinFault ks OutOfMemory = Unit {0}
IsJoinFault ks fault = ⊥

-- why the patterns of a draft are not joined, whichever they are
abbrev pub CannotJoin : Draft → Fault → Type 0
CannotJoin draft fault = (ks : List kit_nfa.Nfa) → Has draft ks → IsJoinFault ks fault

-- why patterns have no NFA: the NFAs of the texts, whose tables are within the size limit, cannot be joined
pub record IsUnjoined (options : Options) (texts : List (List ℕ)) (error : PatternError) : Type 0 where
  -- what each text means
  pub res : List Re
  -- all texts are patterns, with these meanings
  pub meant : AreMeanings (config_of options) texts res
  -- an NFA for each
  pub ks : List kit_nfa.Nfa
  -- the NFAs find what the texts mean
  pub nfas : AreNfasOf options ks res
  -- their tables take at most the size limit, plus 24 bytes for each pattern
  pub small : sum_by table_bytes ks ≤ options.size_limit + 24 * length texts
  -- this is why they are not joined
  pub fault : IsJoinFault ks error.fault
  -- the error's number is 0, since it is about all texts
  pub number : error.number ≡ 0

-- why texts have no NFA: one of them is not a pattern, or the patterns cannot be joined
abbrev pub IsNfaFault : Options → (texts : List (List ℕ)) → PatternError → Type 0
IsNfaFault options texts error = IsFirstFault options texts error ⊎ IsUnjoined options texts error

-- why nothing is built from their NFA: the builder fails, as `Fails` says; the error's number is 0
pub record IsUnbuilt (Fails : Automaton → RegexBuildError → Type 0) (options : Options) (texts : List (List ℕ))
    (error : PatternError) : Type 0 where
  -- The NFA from which nothing is built.
  pub nfa : Automaton
  -- It is the NFA of the patterns of these texts.
  pub of : IsNfaOf options texts nfa
  -- The error of the builder.
  pub cause : RegexBuildError
  -- It is why the builder fails for this NFA.
  pub is : Fails nfa cause
  -- The fault carries that error.
  pub fault : error.fault ≡ Unbuilt cause
  -- The error's number is 0, since it is about all texts.
  pub number : error.number ≡ 0

-- why texts have no regex: they have no NFA, or no regex is built from it with the settings of these options
abbrev pub IsPatternFault : Options → (texts : List (List ℕ)) → PatternError → Type 0
IsPatternFault options texts error =
    IsNfaFault options texts error ⊎ IsUnbuilt (IsBuildError (settings_of options)) options texts error
