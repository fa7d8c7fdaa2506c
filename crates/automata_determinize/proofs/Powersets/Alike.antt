-- An automaton steps alike on bytes that it does not distinguish, and it starts alike after them. The dead state stays
-- dead.
use Rattle.std.proofs.Common.{ℕ, zero, suc, ◌≡◌, Bool, true, false, not, ◌&&◌, ◌||◌, eqb, if◌then◌else◌, List, [], ◌∷◌}
use Rattle.std.proofs.Common.{length, Option, Some, None, refl, sym, ap, ◌∙◌, subst}
use Rattle.std.proofs.lemmas.Bool.{eqb-true}
use Rattle.automata_base.specs.declared.util.search.Anchored.{Anchored}
use Rattle.automata_determinize.specs.ByteClasses.LookBehind.{behind_of}
use Rattle.automata_determinize.specs.Retraced.Computed.{first_visits, closure_of, once_past, known_looks, make, arrive}
use Rattle.automata_determinize.specs.Retraced.Computed.{any_look, decide}
use Rattle.automata_base.specs.declared.util.search.MatchKind.{MatchKind}
use Rattle.automata_base.specs.declared.util.search.MatchKind.TheVariants.{All, LeftmostFirst}
use Rattle.automata_base.specs.Powersets.Cuts.{cut_for, targets}
use Rattle.automata_base.specs.Lists.{pick}
use Rattle.automata_base.specs.declared.util.look.Look.{Look}
use Rattle.automata_base.specs.Haystacks.Looks.{is_word_byte}
use Rattle.automata_base.specs.Nfas.Nfa.{Nfa, Truth, accepts}
use Rattle.automata_base.specs.Nfas.Nodes.{Automaton, nfa_of}
use Rattle.automata_determinize.specs.Powersets.Passes.{true_looks}
use Rattle.automata_base.specs.Powersets.Powerset.{Powerset, dead}
use Rattle.automata_base.specs.Paths.Starts.{mode_start}
use Rattle.automata_determinize.specs.Paths.Starts.{NeedsOwnLooks}
use Rattle.automata_determinize.specs.Retraced.Steps.{start_or_dead, start_state_of, successor}
use Rattle.automata_base.specs.Haystacks.LookSets.{truth_of, all_looks}
use Rattle.automata_determinize.proofs.Powersets.AlikeUnits.{SeesAlike, arrive_alike, decide_alike}
use Rattle.automata_base.proofs.Paths.LookSets.{truth_of_none}
use Rattle.automata_determinize.proofs.Powersets.AlikeBytes.{IsAlike}

sees_bytes : (a : Automaton) (u v : ℕ) → IsAlike a u v → SeesAlike (nfa_of a) (Some u) (Some v)
sees_bytes a u v s = record {
  absent = refl;
  line = s.line;
  carriage_return = s.carriage_return;
  line_feed = s.line_feed;
  word = s.word;
}

-- The successor is the same on bytes that are alike.
pub alike_step :
    (a : Automaton) (kind : MatchKind) (q : Powerset) (u v : ℕ)
    → IsAlike a u v → NeedsOwnLooks a q → successor a kind q (Some u) ≡ successor a kind q (Some v)
unfolding successor
alike_step a kind q u v s own =
    ap (λ L. arrive n (once_past [] (pick (accepts n) (cut_for kind n L))) (targets n (Some u) (cut_for kind n L))
    (Some u))
    (decide_alike n q (Some u) (Some v) sees own)
    ∙ (ap (λ (g : ℕ → Option ℕ). arrive n reported (pick g L') (Some u)) (λ i b. s.takes b i)
    ∙ arrive_alike n reported (targets n (Some v) L') (Some u) (Some v) sees)
  where
    n : Nfa
    n = nfa_of a

    sees : SeesAlike (nfa_of a) (Some u) (Some v)
    sees = sees_bytes a u v s

    L' : List ℕ
    L' = cut_for kind n (decide n q (Some v))

    reported : List ℕ
    reported = once_past [] (pick (accepts n) L')

-- What the look-behind kind of a byte says about the byte.
Other : (t u : ℕ) (word : Bool) → Type 0
Other t u word = (eqb u 10 ≡ false) × (eqb u 13 ≡ false) × (eqb u t ≡ false) × (is_word_byte u ≡ word)

Reported : (t u kind : ℕ) → Type 0
unfolding Other
Reported t u zero = Other t u false
Reported t u (suc zero) = Other t u true
Reported t u (suc (suc zero)) = ⊥
Reported t u (suc (suc (suc zero))) = u ≡ 10
Reported t u (suc (suc (suc (suc zero)))) = u ≡ 13
Reported t u (suc (suc (suc (suc (suc zero))))) = u ≡ t
Reported t u (suc (suc (suc (suc (suc (suc kind)))))) = ⊥

reported_of : (t u : ℕ) → Reported t u (behind_of t (Some u))
unfolding Reported Other
reported_of t u = go (eqb u 10) refl (eqb u 13) refl (eqb u t) refl (is_word_byte u) refl
  where
    go :
        (a : Bool) → eqb u 10 ≡ a → (b : Bool) → eqb u 13 ≡ b → (c : Bool) → eqb u t ≡ c → (w : Bool)
        → is_word_byte u ≡ w
        → Reported t u (if a then 3 else (if b then 4 else (if c then 5 else (if w then 1 else 0))))
    go true e b f c g w h = eqb-true u 10 e
    go false e true f c g w h = eqb-true u 13 f
    go false e false f true g w h = eqb-true u t g
    go false e false f false g true h = (e, f, g, h)
    go false e false f false g false h = (e, f, g, h)

sees_one : (n : Nfa) (u v : ℕ) → u ≡ v → SeesAlike n (Some u) (Some v)
sees_one n u v e = record {
  absent = refl;
  line = λ h. ap (λ x. eqb x n.terminator) e;
  carriage_return = λ h. ap (λ x. eqb x 13) e;
  line_feed = λ h. ap (λ x. eqb x 10) e;
  word = λ h. ap is_word_byte e;
}

sees_other :
    (n : Nfa) (u v : ℕ) (word : Bool) → Other n.terminator u word → Other n.terminator v word
    → SeesAlike n (Some u) (Some v)
unfolding Other
sees_other n u v word a b = record {
  absent = refl;
  line = λ h. a.2 ∙ sym b.2;
  carriage_return = λ h. a.1 ∙ sym b.1;
  line_feed = λ h. a.0 ∙ sym b.0;
  word = λ h. a.3 ∙ sym b.3;
}

sees_reported :
    (n : Nfa) (u v kind : ℕ) → Reported n.terminator u kind → Reported n.terminator v kind
    → SeesAlike n (Some u) (Some v)
unfolding Reported
sees_reported n u v zero a b = sees_other n u v false a b
sees_reported n u v (suc zero) a b = sees_other n u v true a b
sees_reported n u v (suc (suc zero)) a b = absurd a
sees_reported n u v (suc (suc (suc zero))) a b = sees_one n u v (a ∙ sym b)
sees_reported n u v (suc (suc (suc (suc zero)))) a b = sees_one n u v (a ∙ sym b)
sees_reported n u v (suc (suc (suc (suc (suc zero))))) a b = sees_one n u v (a ∙ sym b)
sees_reported n u v (suc (suc (suc (suc (suc (suc kind)))))) a b = absurd a

sees_behind : (n : Nfa) (x y : Option ℕ) → behind_of n.terminator x ≡ behind_of n.terminator y → SeesAlike n x y
unfolding Reported
sees_behind n None None e = record {
  absent = refl;
  line = λ h. refl;
  carriage_return = λ h. refl;
  line_feed = λ h. refl;
  word = λ h. refl;
}
sees_behind n None (Some v) e = absurd (subst (λ k. Reported n.terminator v k) (sym e) (reported_of n.terminator v))
sees_behind n (Some u) None e = absurd (subst (λ k. Reported n.terminator u k) e (reported_of n.terminator u))
sees_behind n (Some u) (Some v) e =
    sees_reported n u v (behind_of n.terminator (Some v))
    (subst (λ k. Reported n.terminator u k) e (reported_of n.terminator u)) (reported_of n.terminator v)

-- An automaton starts alike after units of the same look-behind kind.
pub behind_alike :
    (a : Automaton) (mode : Anchored) (x y : Option ℕ)
    → behind_of a.flags.line_terminator x ≡ behind_of a.flags.line_terminator y
    → start_state_of a mode x ≡ start_state_of a mode y
unfolding start_state_of
behind_alike a mode x y e = go (mode_start a mode)
  where
    go : (start : Option ℕ) → start_or_dead (nfa_of a) start x ≡ start_or_dead (nfa_of a) start y
    go None = refl
    go (Some s) = arrive_alike (nfa_of a) [] (s ∷ []) x y (sees_behind (nfa_of a) x y e)

-- The dead state leads to itself.
no_roots : (fuel : ℕ) (n : Nfa) (A : Truth) → first_visits fuel n A [] [] ≡ []
no_roots zero n A = refl
no_roots (suc fuel) n A = refl

none_any : (f : Look → Bool) (looks : List Look) → ((look : Look) → f look ≡ false) → any_look f looks ≡ false
none_any f [] e = refl
none_any f (x ∷ xs) e = ap (λ b. b || any_look f xs) (e x) ∙ none_any f xs e

dead_decides : (n : Nfa) (u : Option ℕ) → decide n dead u ≡ []
dead_decides n u =
    ap (λ b. elim b [ true ↦ closure_of n (true_looks n dead u) [] | false ↦ [] ])
    (none_any (λ look. truth_of 0 look && (true_looks n dead u look && not (truth_of 0 look))) all_looks
    (λ look. ap (λ b. b && (true_looks n dead u look && not (truth_of 0 look))) (truth_of_none look)))

dead_makes : (n : Nfa) (u : Option ℕ) → arrive n [] [] u ≡ dead
dead_makes n u = ap (λ C. make n [] C u) (no_roots (length n.nodes) n (known_looks n u))

dead_arrives :
    (n : Nfa) (kind : MatchKind) (u : Option ℕ)
    → arrive n (once_past [] (pick (accepts n) (cut_for kind n []))) (targets n u (cut_for kind n [])) u ≡ dead
dead_arrives n All None = dead_makes n None
dead_arrives n All (Some u) = dead_makes n (Some u)
dead_arrives n LeftmostFirst None = dead_makes n None
dead_arrives n LeftmostFirst (Some u) = dead_makes n (Some u)

pub dead_stays : (a : Automaton) (kind : MatchKind) (u : Option ℕ) → successor a kind dead u ≡ dead
unfolding successor
dead_stays a kind u =
    ap (λ L. arrive n (once_past [] (pick (accepts n) (cut_for kind n L))) (targets n u (cut_for kind n L)) u)
    (dead_decides n u)
    ∙ dead_arrives n kind u
  where
    n : Nfa
    n = nfa_of a
