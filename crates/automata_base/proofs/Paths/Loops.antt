-- The steps of a loop that visits states from a stack.
use Rattle.std.proofs.Common.{ℕ, ◌≡◌, List, [], ◌∷◌, ◌++◌, ◌↔◌, inl, inr, refl, sym, ap, ◌∙◌, subst, ⊎_elim}
use Rattle.std.proofs.Common.{append_assoc, append-nil}
use Rattle.automata_base.specs.Lists.{In}
use Rattle.automata_base.specs.Nfas.Nfa.{Nfa, Truth}
use Rattle.automata_base.specs.Paths.Paths.{IsClosure}
use Rattle.automata_base.specs.Powersets.Closure.{children, Visits, done, skip, visit, IsUnderWay}
use Rattle.automata_base.proofs.Paths.Walks.{in_left, in_either}
use Rattle.automata_base.proofs.Paths.FirstVisits.{visits_closure, in_right}

-- The order in which the visited states are listed does not matter.
pub visits_same :
    (n : Nfa) (A : Truth) (stack seen other out : List ℕ)
    → ((y : ℕ) → In y seen ↔ In y other) → Visits n A stack seen out → Visits n A stack other out
visits_same n A stack seen other out f done = done
visits_same n A stack seen other out f (skip {x = x} {stack = rest} i v) =
    skip ((f x).0 i) (visits_same n A rest seen other out f v)
visits_same n A stack seen other out f (visit {x = x} {stack = rest} {out = more} new v) =
    visit (λ i. new ((f x).1 i)) (visits_same n A (children n A x ++ rest) (x ∷ seen) (x ∷ other) more both v)
  where
    both : (y : ℕ) → In y (x ∷ seen) ↔ In y (x ∷ other)
    both y = (there, back)
      where
        there : In y (x ∷ seen) → In y (x ∷ other)
        there (inl e) = inl e
        there (inr i) = inr ((f y).0 i)

        back : In y (x ∷ other) → In y (x ∷ seen)
        back (inl e) = inl e
        back (inr i) = inr ((f y).1 i)

moved : (x y : ℕ) (xs ys : List ℕ) → In y (x ∷ (xs ++ ys)) ↔ In y (xs ++ (x ∷ ys))
moved x y xs ys = (there, back)
  where
    there : In y (x ∷ (xs ++ ys)) → In y (xs ++ (x ∷ ys))
    there (inl e) = in_right y xs (x ∷ ys) (inl e)
    there (inr i) =
        ⊎_elim (λ (j : In y xs). in_left y xs (x ∷ ys) j) (λ (j : In y ys). in_right y xs (x ∷ ys) (inr j))
        (in_either y xs ys i)

    back : In y (xs ++ (x ∷ ys)) → In y (x ∷ (xs ++ ys))
    back i =
        ⊎_elim (λ (j : In y xs). inr (in_left y xs ys j))
        (λ (j : In y (x ∷ ys)). ⊎_elim (λ (e : y ≡ x). inl e) (λ (k : In y ys). inr (in_right y xs ys k)) j)
        (in_either y xs (x ∷ ys) i)

swapped : (y : ℕ) (xs ys : List ℕ) → In y (xs ++ ys) ↔ In y (ys ++ xs)
swapped y xs ys = (there xs ys, there ys xs)
  where
    there : (us vs : List ℕ) → In y (us ++ vs) → In y (vs ++ us)
    there us vs i =
        ⊎_elim (λ (j : In y us). in_right y vs us j) (λ (j : In y vs). in_left y vs us j) (in_either y us vs i)

-- A stack's visits are the same after further states were visited, if they meet none of these and each visited state
-- has the same edges. Then the states below the stack are visited.
pub visits_apart :
    (n m : Nfa) (A B : Truth) (stack seen more out below rest : List ℕ)
    → ((x : ℕ) → In x out → In x more → ⊥) → ((x : ℕ) → In x out → children n A x ≡ children m B x)
    → Visits n A stack seen out → Visits m B below (out ++ (seen ++ more)) rest
    → Visits m B (stack ++ below) (seen ++ more) (out ++ rest)
visits_apart n m A B stack seen more out below rest apart same done v = v
visits_apart n m A B stack seen more out below rest apart same (skip {x = x} {stack = under} i w) v =
    skip (in_left x seen more i) (visits_apart n m A B under seen more out below rest apart same w v)
visits_apart n m A B stack seen more out below rest apart same (visit {x = x} {stack = under} {out = others} new w) v =
    visit (λ i. ⊎_elim new (λ (k : In x more). apart x (inl refl) k) (in_either x seen more i))
    (subst (λ z. Visits m B z (x ∷ (seen ++ more)) (others ++ rest)) next
    (visits_apart n m A B (children n A x ++ under) (x ∷ seen) more others below rest (λ y i. apart y (inr i))
    (λ y i. same y (inr i)) w
    (visits_same m B below (x ∷ (others ++ (seen ++ more))) (others ++ (x ∷ (seen ++ more))) rest
    (λ y. moved x y others (seen ++ more)) v)))
  where
    next : (children n A x ++ under) ++ below ≡ children m B x ++ (under ++ below)
    next = append_assoc (children n A x) under below ∙ ap (λ z. z ++ (under ++ below)) (same x (inl refl))

pub under_way_start : (n : Nfa) (A : Truth) (roots : List ℕ) → IsUnderWay n A roots roots []
under_way_start n A roots rest v = v

pub under_way_skip :
    (n : Nfa) (A : Truth) (roots : List ℕ) (x : ℕ) (stack visited : List ℕ)
    → In x visited → IsUnderWay n A roots (x ∷ stack) visited → IsUnderWay n A roots stack visited
under_way_skip n A roots x stack visited i u rest v = u rest (skip i v)

pub under_way_visit :
    (n : Nfa) (A : Truth) (roots : List ℕ) (x : ℕ) (stack visited : List ℕ)
    → (In x visited → ⊥) → IsUnderWay n A roots (x ∷ stack) visited
    → IsUnderWay n A roots (children n A x ++ stack) (visited ++ (x ∷ []))
under_way_visit n A roots x stack visited new u rest v =
    subst (λ w. Visits n A roots [] w) (sym (append_assoc visited (x ∷ []) rest))
    (u (x ∷ rest)
    (visit new (visits_same n A (children n A x ++ stack) (visited ++ (x ∷ [])) (x ∷ visited) rest both v)))
  where
    both : (y : ℕ) → In y (visited ++ (x ∷ [])) ↔ In y (x ∷ visited)
    both y = (there, back)
      where
        there : In y (visited ++ (x ∷ [])) → In y (x ∷ visited)
        there i = ⊎_elim (λ (j : In y visited). inr j)
            (λ (j : In y (x ∷ [])). ⊎_elim (λ (e : y ≡ x). inl e) (λ (b : ⊥). absurd b) j)
            (in_either y visited (x ∷ []) i)

        back : In y (x ∷ visited) → In y (visited ++ (x ∷ []))
        back (inl e) = in_right y visited (x ∷ []) (inl e)
        back (inr i) = in_left y visited (x ∷ []) i

-- A loop that is about to visit from `start` may continue after all visits from there, if none of those states was
-- visited.
pub under_way_apart :
    (n m : Nfa) (A B : Truth) (roots tail visited out : List ℕ) (start : ℕ)
    → ((x : ℕ) → In x out → In x visited → ⊥) → ((x : ℕ) → In x out → children n A x ≡ children m B x)
    → Visits n A (start ∷ []) [] out → IsUnderWay m B roots (start ∷ tail) visited
    → IsUnderWay m B roots tail (visited ++ out)
under_way_apart n m A B roots tail visited out start apart same w u rest v =
    subst (λ z. Visits m B roots [] z) (sym (append_assoc visited out rest))
    (u (out ++ rest) (visits_apart n m A B (start ∷ []) [] visited out tail rest apart same w
    (visits_same m B tail (visited ++ out) (out ++ visited) rest (λ y. swapped y visited out) v)))

-- The visits are the same if each visited state has the same edges.
pub visits_alike :
    (n m : Nfa) (A B : Truth) (roots out : List ℕ) → ((x : ℕ) → In x out → children n A x ≡ children m B x)
    → Visits n A roots [] out → Visits m B roots [] out
visits_alike n m A B roots out same w =
    subst (λ z. Visits m B z [] out) (append-nil roots)
    (subst (λ z. Visits m B (roots ++ []) [] z) (append-nil out)
    (visits_apart n m A B roots [] [] out [] [] (λ x i j. j) same w done))

-- When the stack is empty, the visited states are the closure.
pub under_way_done :
    (n : Nfa) (A : Truth) (roots visited : List ℕ) → IsUnderWay n A roots [] visited → IsClosure n A roots visited
under_way_done n A roots visited u =
    visits_closure n A roots visited (subst (λ w. Visits n A roots [] w) (append-nil visited) (u [] done))
