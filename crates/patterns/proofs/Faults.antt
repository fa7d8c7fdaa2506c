-- Conversions of one fault to another.
use Rattle.std.proofs.Common.{ℕ, ◌+◌, ◌<◌, ◌≤◌, List, arith, length, refl, subst, sym, ⊎_elim}
use Rattle.std.specs.Prelude.{◌≢◌, vec_len}
use Rattle.regex_compile.specs.declared.error.Error as kit_error
use Rattle.regex_compile.specs.declared.error.Error.TheVariants as compiling
use Rattle.regex_nfa.specs.declared.nfa.Nfa as kit_nfa
use Rattle.patterns.specs.Drafts.{IsCompiled}
use Rattle.patterns.specs.Faults.{IsAddFault, IsFaultOf, IsLookFault, LacksID, LacksRoom, compile_fault}
use Rattle.patterns.specs.Patterns.{IsPattern, config_of}
use Rattle.patterns.specs.declared.compile.Draft.{Draft}
use Rattle.patterns.specs.declared.compile.Options.{Options}
use Rattle.patterns.specs.declared.error.Fault.{Fault}
use Rattle.patterns.specs.declared.error.Fault.TheVariants.{Syntax, UnicodeWord, TooLarge, Malformed, Refused, Unbuilt}
use Rattle.patterns.specs.declared.error.Fault.TheVariants.{OutOfMemory}

-- a number without an ID is the number of a state, or below it
pub lacks_room :
    (number last : ℕ) (fault : Fault) → number ≤ last → LacksID number fault → LacksRoom last fault
lacks_room number last fault below lacks =
    subst (LacksRoom last) (sym lacks.0) (let above : 2147483646 < number = lacks.1 in omega (arith, above, below))

-- the fault of a pattern that the compiler does not compile
pub compiler_fault :
    (o : Options) (text : List ℕ) (error : kit_error.Error) → IsPattern (config_of o) text
    → error ≢ compiling.Malformed → IsFaultOf o text (compile_fault error)
compiler_fault o text compiling.TooBig is never = is
compiler_fault o text compiling.Malformed is never = absurd (never refl)
compiler_fault o text compiling.OutOfMemory is never = tt

look_fault :
    (o : Options) (text : List ℕ) (k : kit_nfa.Nfa) (fault : Fault) → IsCompiled (config_of o) text k
    → IsLookFault o.ascii text k fault → IsFaultOf o text fault
look_fault o text k (Syntax error) compiled is = absurd is
look_fault o text k UnicodeWord compiled is = (is.0, is.1, (k, compiled, is.2))
look_fault o text k TooLarge compiled is = absurd is
look_fault o text k Malformed compiled is = (is.0, is.1, (k, compiled, is.2))
look_fault o text k (Refused error) compiled is = absurd is
look_fault o text k (Unbuilt error) compiled is = absurd is
look_fault o text k OutOfMemory compiled is = absurd is

room_fault :
    (o : Options) (text : List ℕ) (last : ℕ) (fault : Fault) → IsPattern (config_of o) text → LacksRoom last fault
    → IsFaultOf o text fault
room_fault o text last (Syntax error) is lacks = absurd lacks
room_fault o text last UnicodeWord is lacks = absurd lacks
room_fault o text last TooLarge is lacks = is
room_fault o text last Malformed is lacks = absurd lacks
room_fault o text last (Refused error) is lacks = absurd lacks
room_fault o text last (Unbuilt error) is lacks = absurd lacks
room_fault o text last OutOfMemory is lacks = tt

-- the fault of a text whose states are not added
pub text_fault :
    (o : Options) (text : List ℕ) (draft : Draft) (k : kit_nfa.Nfa) → IsCompiled (config_of o) text k
    → (fault : Fault) → IsAddFault o.ascii text draft k fault → IsFaultOf o text fault
text_fault o text draft k compiled fault is =
    let pattern : IsPattern (config_of o) text = (compiled.0, compiled.1) in
    ⊎_elim (look_fault o text k fault compiled)
    (⊎_elim
    (λ (lacks : LacksID (length draft.starts.items) fault).
    subst (IsFaultOf o text) (sym lacks.0) pattern)
    (room_fault o text (length draft.states.items + vec_len k.states) fault pattern)) is
