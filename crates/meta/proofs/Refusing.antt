-- Why texts have no regex: a word boundary is not a reason.
use Rattle.std.proofs.Common.{◌≡◌, ◌≢◌, ◌∙◌, true, List, ℕ, inl, inr, subst, sym, true≢false}
use Rattle.regex_nfa.specs.declared.nfa.Nfa as kit_nfa
use Rattle.patterns.specs.Faults.{IsFaultOf, IsJoinFault, IsPatternFault}
use Rattle.patterns.specs.declared.compile.Options.{Options}
use Rattle.patterns.specs.declared.error.Fault.{Fault}
use Rattle.patterns.specs.declared.error.Fault.TheVariants.{Malformed, Refused, Syntax, TooLarge, Unbuilt, UnicodeWord}
use Rattle.patterns.specs.declared.error.Fault.TheVariants.{OutOfMemory}
use Rattle.patterns.specs.declared.error.PatternError.{PatternError}

-- the fault is a look that the lazy DFAs do not support
abbrev IsLook : Fault → Type 0
IsLook UnicodeWord = Unit {0}
IsLook Malformed = Unit {0}
IsLook fault = ⊥

no_look_of :
    (o : Options) (text : List ℕ) (fault : Fault) → o.ascii ≡ true → IsFaultOf o text fault → IsLook fault → ⊥
no_look_of o text UnicodeWord ascii is look = true≢false (sym ascii ∙ is.0)
no_look_of o text Malformed ascii is look = true≢false (sym ascii ∙ is.0)
no_look_of o text (Syntax error) ascii is look = look
no_look_of o text TooLarge ascii is look = look
no_look_of o text OutOfMemory ascii is look = look
no_look_of o text (Refused error) ascii is look = look
no_look_of o text (Unbuilt error) ascii is look = look

not_joined : (fault : Fault) (ks : List kit_nfa.Nfa) → IsJoinFault ks fault → IsLook fault → ⊥
not_joined UnicodeWord ks is look = is
not_joined Malformed ks is look = is
not_joined (Syntax error) ks is look = look
not_joined TooLarge ks is look = look
not_joined OutOfMemory ks is look = look
not_joined (Refused error) ks is look = look
not_joined (Unbuilt error) ks is look = look

no_look :
    (o : Options) (texts : List (List ℕ)) (error : PatternError) → o.ascii ≡ true → IsPatternFault o texts error
    → IsLook error.fault → ⊥
no_look o texts error ascii (inl (inl first)) look = no_look_of o first.text error.fault ascii first.fault look
no_look o texts error ascii (inl (inr joined)) look = not_joined error.fault joined.ks joined.fault look
no_look o texts error ascii (inr built) look = subst IsLook built.fault look

-- for ASCII text a word boundary is not a fault
pub no_word :
    (o : Options) (texts : List (List ℕ)) (error : PatternError) → o.ascii ≡ true → IsPatternFault o texts error
    → error.fault ≢ UnicodeWord
no_word o texts error ascii is e = no_look o texts error ascii is (subst IsLook (sym e) tt)

-- nor is another look
pub no_malformed :
    (o : Options) (texts : List (List ℕ)) (error : PatternError) → o.ascii ≡ true → IsPatternFault o texts error
    → error.fault ≢ Malformed
no_malformed o texts error ascii is e = no_look o texts error ascii is (subst IsLook (sym e) tt)
