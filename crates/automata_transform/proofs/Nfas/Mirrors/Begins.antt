-- Two tests of whether the starts begin alike.
use Rattle.std.proofs.Common.{◌≡◌, ◌↔◌, Bool, true, false, [], ◌∷◌}
use Rattle.std.proofs.Common.{refl, sym, ◌∙◌}
use mathlib.Core.Bool.{beq}
use Rattle.std.specs.Prelude.{IsTrue}
use Rattle.automata_base.specs.Nfas.Engines.{MatchesEmpty}
use Rattle.automata_base.specs.Nfas.Getters.{HasEmpty}
use Rattle.automata_transform.specs.Nfas.Mirrors.{BeginsAlike}
use Rattle.automata_base.specs.Nfas.Nodes.{Automaton, nfa_of}
use Rattle.automata_base.specs.Retraced.Reach.{ReachesMatch}
use Rattle.automata_base.proofs.Nfas.Reach.Led.{empty_is}
use Rattle.automata_base.proofs.Paths.Truths.{bool_iff}

begins_is :
    (a : Automaton) (x : Bool) → IsTrue x ↔ ReachesMatch a.states (a.start_anchored ∷ [])
    → IsTrue x ↔ MatchesEmpty (nfa_of a) (a.start_anchored ∷ [])
begins_is a x h = empty_is (record a { start_pattern = a.start_anchored ∷ [] }) (IsTrue x) h

begins_alike :
    (a : Automaton) (x y : Bool) → IsTrue x ↔ ReachesMatch a.states (a.start_anchored ∷ []) → IsTrue y ↔ HasEmpty a
    → x ≡ y → BeginsAlike a
begins_alike a x y f g e =
    ((λ h. (begins_is a x f).0 (e ∙ g.1 h)), λ h. g.0 (sym e ∙ (begins_is a x f).1 h))

alike_begins :
    (a : Automaton) (x y : Bool) → IsTrue x ↔ ReachesMatch a.states (a.start_anchored ∷ []) → IsTrue y ↔ HasEmpty a
    → BeginsAlike a → x ≡ y
alike_begins a x y f g alike =
    bool_iff x y (λ e. g.1 (alike.1 ((begins_is a x f).0 e))) (λ e. (begins_is a x f).1 (alike.0 (g.0 e)))

-- Two tests that agree.
together : (a b : Bool) → beq a b ≡ true → a ≡ b
together true true e = refl
together true false e = let k : false ≡ true = e in cc
together false true e = let k : false ≡ true = e in cc
together false false e = refl

agree : (a b : Bool) → a ≡ b → beq a b ≡ true
agree true true e = refl
agree true false e = sym e
agree false true e = e
agree false false e = refl

-- Comparing both tests decides whether the starts begin alike.
pub alike_is :
    (a : Automaton) (x y : Bool) → IsTrue x ↔ ReachesMatch a.states (a.start_anchored ∷ []) → IsTrue y ↔ HasEmpty a
    → IsTrue (beq x y) ↔ BeginsAlike a
alike_is a x y f g =
    ((λ e. begins_alike a x y f g (together x y e)), λ alike. agree x y (alike_begins a x y f g alike))
