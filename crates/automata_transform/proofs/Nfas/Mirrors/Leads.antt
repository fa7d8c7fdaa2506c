-- Which states edges lead to, and which are kept.
use Rattle.std.proofs.Common.{ℕ, ◌≡◌, List, [], ◌∷◌, Some, refl, sym, subst}
use Rattle.automata_transform.specs.Nfas.Mirrors.{Label, HasArc, IsUseful, IsLed, LeadsTo}
use Rattle.automata_base.specs.Nfas.Nfa.{Nfa, accepts}

led_on :
    (n : Nfa) (q : ℕ) (way : List ℕ) (s r : ℕ) (l : Label) → IsLed n q way s → HasArc n s l r
    → (way' : List ℕ) × IsLed n q way' r
led_on n q [] s r l w h = (r ∷ [], ((l, subst (λ v. HasArc n v l r) (sym w) h), refl))
led_on n q (x ∷ way) s r l w h = let k = led_on n x way s r l w.1 h in (x ∷ k.0, (w.0, k.1))

-- One more edge, at the end or at the beginning.
pub leads_on : (n : Nfa) (q s r : ℕ) (l : Label) → LeadsTo n q s → HasArc n s l r → LeadsTo n q r
leads_on n q s r l w h = led_on n q w.0 s r l w.1 h

pub leads_here : (n : Nfa) (q : ℕ) → LeadsTo n q q
leads_here n q = ([], refl)

pub kept_match : (n : Nfa) (first p q : ℕ) → LeadsTo n first q → accepts n q ≡ Some p → IsUseful n first p q
kept_match n first p q w a = (w, (q, leads_here n q, a))

pub kept_back :
    (n : Nfa) (first p s r : ℕ) (l : Label) → LeadsTo n first s → HasArc n s l r → IsUseful n first p r
    → IsUseful n first p s
kept_back n first p s r l w h k = (w, (k.1.0, (r ∷ k.1.1.0, ((l, h), k.1.1.1)), k.1.2))
