-- States without epsilon edges at the front of a list: they are visited in a row and never pushed on the stack.
use Rattle.std.proofs.Common.{◌≡◌, ◌<◌, ◌≤◌, ◌+◌, ◌⊎◌, Bool, true, false, cond, ℕ, zero, suc, List, [], ◌∷◌, ◌++◌}
use Rattle.std.proofs.Common.{length}
use Rattle.std.proofs.Common.{refl, sym, ap, ◌∙◌, subst, inl, inr, arith, length-append, drop, length-drop}
use Rattle.std.proofs.Common.{append_assoc, get_or, reverse}
use Rattle.std.proofs.lemmas.List.{reverse-append, reverse-reverse}
use Rattle.std.proofs.lemmas.Bool.{cases_Bool, cond_both}
use Rattle.automata_base.specs.declared.nfa.thompson.state.State.{State}
use Rattle.automata_base.specs.Lists.{In}
use Rattle.automata_base.specs.Nfas.Accepted.{IsChecked}
use Rattle.automata_base.specs.Nfas.Nfa.{Nfa, Truth}
use Rattle.automata_base.specs.Nfas.Nodes.{Automaton, nfa_of, node_of}
use Rattle.automata_base.specs.Haystacks.LookSets.{truth_of}
use Rattle.automata_base.specs.Powersets.Closure.{children, children_at, IsUnderWay}
use Rattle.automata_base.specs.Retraced.Expanding.{IsAddedApart, IsExpanded, Extends}
use Rattle.automata_base.proofs.Paths.Loops.{under_way_apart, under_way_skip, under_way_visit}
use Rattle.automata_base.proofs.Paths.FirstVisits.{in_right}
use Rattle.automata_base.proofs.Paths.Walks.{in_either, in_left}
use Rattle.automata_base.proofs.Powersets.Distinct.{among, among-In, In-among, unvisited}
use Rattle.automata_base.proofs.Powersets.Keeping.{next_drop}
use Rattle.automata_base.proofs.Powersets.Walking.{Walking, work, extra_at, new_step}

-- A leaf on top of the stack is visited, or was visited before.
pub leaf_on : (n : Nfa) (A : Truth) (roots rest order after : List ℕ) (q : ℕ) (added : Bool) → children n A q ≡ []
    → (added ≡ true → In q order → ⊥) → (added ≡ true → after ≡ order ++ q ∷ [])
    → (added ≡ false → In q order) → (added ≡ false → after ≡ order)
    → IsUnderWay n A roots (q ∷ rest) order → IsUnderWay n A roots rest after
leaf_on n A roots rest order after q true leaf new grown had same u =
    subst (IsUnderWay n A roots rest) (sym (grown refl))
    (subst (λ s. IsUnderWay n A roots (s ++ rest) (order ++ q ∷ [])) leaf
    (under_way_visit n A roots q rest order (new refl) u))
leaf_on n A roots rest order after q false leaf new grown had same u =
    subst (IsUnderWay n A roots rest) (sym (same refl)) (under_way_skip n A roots q rest order (had refl) u)

pub extends_on : (first order after : List ℕ) (q : ℕ) (added : Bool)
    → (added ≡ true → after ≡ order ++ q ∷ []) → (added ≡ false → after ≡ order) → Extends first order
    → Extends first after
extends_on first order after q true grown same (more, e) =
    (more ++ q ∷ [], grown refl ∙ (ap (λ z. z ++ q ∷ []) e ∙ append_assoc first more (q ∷ [])))
extends_on first order after q false grown same (more, e) = (more, same refl ∙ e)

among_more : (k : ℕ) (seen added : List ℕ) → among k seen ≡ true → among k (seen ++ added) ≡ true
among_more k seen added e = among-In k (seen ++ added) (in_left k seen added (In-among k seen e))

unvisited_more : (w : ℕ → ℕ) (seen added : List ℕ) (n : ℕ) → unvisited w (seen ++ added) n ≤ unvisited w seen n
unfolding unvisited
unvisited_more w seen added zero = omega arith
unvisited_more w seen added (suc n) = one_more (unvisited_more w seen added n) (cases_Bool (among n seen))
  where
    one_more : unvisited w (seen ++ added) n ≤ unvisited w seen n → (among n seen ≡ true) ⊎ (among n seen ≡ false)
        → cond (among n (seen ++ added)) 0 (w n) + unvisited w (seen ++ added) n ≤ cond (among n seen) 0 (w n)
        + unvisited w seen n
    one_more rest (inl e) =
        let a : cond (among n (seen ++ added)) 0 (w n) ≡ 0 = ap (λ b. cond b 0 (w n)) (among_more n seen added e) in
        omega (arith, a, rest)
    one_more rest (inr e) =
        let a : cond (among n seen) 0 (w n) ≡ w n = ap (λ b. cond b 0 (w n)) e in
        let b : cond (among n (seen ++ added)) 0 (w n) ≤ w n =
        cond_both (among n (seen ++ added)) 0 (w n) (λ z. z ≤ w n) (λ _. omega arith) (λ _. omega arith) in
        omega (arith, a, b, rest)

unvisited_extends :
    (w : ℕ → ℕ) (first after : List ℕ) (n : ℕ) → Extends first after → unvisited w after n ≤ unvisited w first n
unvisited_extends w first after n (more, e) =
    subst (λ z. unvisited w z n ≤ unvisited w first n) (sym e) (unvisited_more w first more n)

In-drop : (q n : ℕ) (xs : List ℕ) → In q (drop n xs) → In q xs
In-drop q zero xs i = i
In-drop q (suc n) [] i = i
In-drop q (suc n) (x ∷ xs) i = inr (In-drop q n xs i)

few_left : (n : ℕ) (children was : List ℕ) → length (drop n children ++ was) ≤ length (children ++ was)
few_left n children was =
    omega (arith, length-append (drop n children) was, length-append children was, length-drop n children)

-- The children of a new state: some were visited, and the others wait on the stack.
waiting_on : (a : Automaton) (looks : ℕ) (old : List ℕ) (start : ℕ) (order after was waiting children : List ℕ)
    → IsExpanded (nfa_of a) (truth_of looks) children order after was waiting
    → Walking a looks old start order (children ++ was)
    → Walking a looks old start after waiting × (work a after waiting ≤ work a order (children ++ was))
unfolding work
waiting_on a looks old start order after was waiting kids x w =
    let shorter : length waiting ≤ length (kids ++ was) =
    subst (λ z. length z ≤ length (kids ++ was)) (sym x.left.1) (few_left x.left.0 kids was) in (
      record {
        way = λ roots tail u. x.way roots tail
            (subst (λ z. IsUnderWay (nfa_of a) (truth_of looks) roots z order) (append_assoc kids was tail)
            (w.way roots tail u));
        room =
            (let less = unvisited_extends (extra_at a.states) order after (length a.states) x.grown in
            omega (arith, less, shorter, w.room));
        below = λ q i. w.below q (back q (in_either q (drop x.left.0 kids) was (subst (In q) x.left.1 i)));
      },
      (let less = unvisited_extends (λ q. suc (extra_at a.states q)) order after (length a.states) x.grown in
          omega (arith, less, shorter)),
    )
  where
    back : (q : ℕ) → In q (drop x.left.0 kids) ⊎ In q was → In q (kids ++ was)
    back q (inl i) = in_left q kids was (In-drop q x.left.0 kids i)
    back q (inr i) = in_right q kids was i

pub expanded_step :
    (a : Automaton) (looks : ℕ) (old : List ℕ) (start : ℕ) (order seen after stack waiting : List ℕ) (q : ℕ)
    (state : State)
    → IsChecked a → state ≡ get_or a.states q state → (In q order → ⊥) → seen ≡ order ++ q ∷ []
    → IsExpanded (nfa_of a) (truth_of looks) (children_at (node_of state) (truth_of looks)) seen after stack waiting
    → Walking a looks old start order (q ∷ stack)
    → Walking a looks old start after waiting × (work a after waiting < work a order (q ∷ stack))
expanded_step a looks old start order seen after stack waiting q state checked is new grown x w =
    let kids = children_at (node_of state) (truth_of looks) in
    let one = new_step a looks old start order seen stack (kids ++ stack) q state checked is new grown refl w in
    let two = waiting_on a looks old start seen after stack waiting kids x one.0 in
    (two.0, omega (arith, one.1, two.1))

-- A state on top of the stack, from which nothing remains to be visited.
pub passed_step : (a : Automaton) (looks : ℕ) (old : List ℕ) (start : ℕ) (order after stack : List ℕ) (q : ℕ)
    → ((roots tail : List ℕ) → IsUnderWay (nfa_of a) (truth_of looks) roots (q ∷ tail) order
    → IsUnderWay (nfa_of a) (truth_of looks) roots tail after)
    → Extends order after → Walking a looks old start order (q ∷ stack)
    → Walking a looks old start after stack × (work a after stack < work a order (q ∷ stack))
unfolding work
passed_step a looks old start order after stack q way grown w = (
  record {
    way = λ roots tail u. way roots (stack ++ tail) (w.way roots tail u);
    room =
        (let less = unvisited_extends (extra_at a.states) order after (length a.states) grown in
        omega (arith, less, w.room));
    below = λ p i. w.below p (inr i);
  },
  (let less = unvisited_extends (λ p. suc (extra_at a.states p)) order after (length a.states) grown in
      omega (arith, less)),
)

-- The states that are visited from a state were added at once.
pub added_way : (n : Nfa) (A : Truth) (order after : List ℕ) (q : ℕ) → IsAddedApart n A q order after
    → (roots tail : List ℕ) → IsUnderWay n A roots (q ∷ tail) order → IsUnderWay n A roots tail after
added_way n A order after q x roots tail u =
    subst (λ z. IsUnderWay n A roots tail z) (sym x.after_before)
    (under_way_apart n n A A roots tail order x.added q x.apart (λ y i. refl) x.visited u)

-- The state was visited before.
pub had_way : (n : Nfa) (A : Truth) (order after : List ℕ) (q : ℕ) → In q order → after ≡ order
    → (roots tail : List ℕ) → IsUnderWay n A roots (q ∷ tail) order → IsUnderWay n A roots tail after
had_way n A order after q had same roots tail u =
    subst (λ z. IsUnderWay n A roots tail z) (sym same) (under_way_skip n A roots q tail order had u)

-- The children of a new state are states.
pub children_below :
    (a : Automaton) (looks : ℕ) (old : List ℕ) (start : ℕ) (order seen stack : List ℕ) (q : ℕ) (state : State)
    → IsChecked a → state ≡ get_or a.states q state → (In q order → ⊥) → seen ≡ order ++ q ∷ []
    → Walking a looks old start order (q ∷ stack)
    → (p : ℕ) → In p (children_at (node_of state) (truth_of looks)) → p < length a.states
children_below a looks old start order seen stack q state checked is new grown w p i =
    let kids = children_at (node_of state) (truth_of looks) in
    (new_step a looks old start order seen stack (kids ++ stack) q state checked is new grown refl w).0.below p
    (in_left p kids stack i)

-- Some children were visited, and the others wait.
pub visited_some : (n : Nfa) (A : Truth) (kids before after was waiting : List ℕ) (k : ℕ)
    → ((roots tail : List ℕ) → IsUnderWay n A roots (kids ++ tail) before
    → IsUnderWay n A roots (drop k kids ++ tail) after)
    → Extends before after → waiting ≡ drop k kids ++ was → IsExpanded n A kids before after was waiting
visited_some n A kids before after was waiting k way grown e = record {
  way = λ roots tail u. subst (λ z. IsUnderWay n A roots z after)
      (sym (append_assoc (drop k kids) was tail) ∙ ap (λ z. z ++ tail) (sym e)) (way roots (was ++ tail) u);
  grown = grown;
  left = (k, e);
}

pub pushed_left : (list : List ℕ) (k x : ℕ) (was stack : List ℕ) → k < length list → x ≡ get_or list k x
    → stack ≡ was ++ reverse (drop (k + 1) list) → x ∷ reverse stack ≡ drop k list ++ reverse was
pushed_left list k x was stack l is e =
    let turned : reverse stack ≡ drop (k + 1) list ++ reverse was =
    ap reverse e
    ∙ (reverse-append was (reverse (drop (k + 1) list))
    ∙ ap (λ z. z ++ reverse was) (reverse-reverse (drop (k + 1) list))) in
    ap (λ z. x ∷ z) turned ∙ ap (λ z. z ++ reverse was) (sym (next_drop list k x l is))
