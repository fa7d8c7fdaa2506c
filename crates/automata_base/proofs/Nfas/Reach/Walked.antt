-- A walk that adds the targets of its members, one after another.
use Rattle.std.proofs.Common.{ℕ, ◌≡◌, ◌<◌, ◌≤◌, ◌+◌, ◌⊎◌, ◌↔◌, List, [], ◌∷◌, ◌++◌, length, get_or, take, inl, inr}
use Rattle.std.proofs.Common.{refl, sym, ap, ◌∙◌, subst, arith}
use Rattle.std.proofs.lemmas.List.{take_more, take_all}
use Rattle.automata_base.specs.Lists.{In}
use Rattle.automata_base.specs.Retraced.Once.{once_from}
use Rattle.automata_base.specs.Retraced.Reach.{Route, IsReachedBy}
use Rattle.automata_base.proofs.Powersets.Distinct.{In-get_or}
use Rattle.automata_base.proofs.Nfas.Reach.Adding.{once_keeps, once_has, once_only, once_take}
use Rattle.automata_base.proofs.Paths.Walks.{in_either}

pub way_more :
    (G : ℕ → List ℕ) (q : ℕ) (way : List ℕ) (z r : ℕ) → Route G q way z → In r (G z) → (way' : List ℕ)
    × Route G q way' r
way_more G q [] z r w i = (r ∷ [], (subst (λ v. In r (G v)) (sym w) i, refl))
way_more G q (s ∷ way) z r w i = let h = way_more G s way z r w.1 i in (s ∷ h.0, (w.0, h.1))

-- The roots are members, each member is reached, and the targets of the first `at` members are members.
pub record IsWalked (G : ℕ → List ℕ) (roots : List ℕ) (at : ℕ) (items : List ℕ) : Type 0 where
  pub has : (q : ℕ) → In q roots → In q items
  pub sound : (q : ℕ) → In q items → IsReachedBy G roots q
  pub closed : (q r : ℕ) → In q (take at items) → In r (G q) → In r items

pub walk_starts :
    (G : ℕ → List ℕ) (at : ℕ) (items : List ℕ) → ((q r : ℕ) → In q (take at items) → In r (G q) → In r items)
    → IsWalked G items at items
walk_starts G at items closed = record {
  has = λ q i. i;
  sound = λ q i. (q, [], i, refl);
  closed = closed;
}

-- More roots reach at least the same states.
pub roots_alike :
    (G : ℕ → List ℕ) (roots others : List ℕ) (z : ℕ) → ((q : ℕ) → In q roots → In q others) → IsReachedBy G roots z
    → IsReachedBy G others z
roots_alike G roots others z has h = (h.0, h.1, has h.0 h.2, h.3)

pub roots_once :
    (G : ℕ → List ℕ) (none items roots : List ℕ) (z : ℕ) → none ≡ [] → items ≡ once_from none roots
    → IsReachedBy G items z ↔ IsReachedBy G roots z
roots_once G none items roots z e s = (
  roots_alike G items roots z (λ q i. from q (once_only q [] roots (subst (λ v. In q v) t i))),
  roots_alike G roots items z (λ q i. subst (λ v. In q v) (sym t) (once_has q [] roots i)),
)
  where
    t : items ≡ once_from [] roots
    t = s ∙ ap (λ z. once_from z roots) e

    from : (q : ℕ) → In q [] ⊎ In q roots → In q roots
    from q (inl i) = absurd i
    from q (inr i) = i

pub walk_steps :
    (G : ℕ → List ℕ) (roots : List ℕ) (at : ℕ) (items new : List ℕ) (q : ℕ)
    → at < length items → q ≡ get_or items at q → new ≡ once_from items (G q) → IsWalked G roots at items
    → IsWalked G roots (at + 1) new
walk_steps G roots at items new q l e s w =
    subst (λ z. IsWalked G roots (at + 1) z) (sym s) (record {
      has = λ r i. once_keeps r items (G q) (w.has r i);
      sound = λ r i. sound r (once_only r items (G q) i);
      closed = λ r t i j. closed r t (in_either r (take at items) (q ∷ []) (subst (λ z. In r z) front i)) j;
    })
  where
    front : take (at + 1) (once_from items (G q)) ≡ take at items ++ q ∷ []
    front =
        once_take (at + 1) items (G q) (omega (arith, l))
        ∙ (take_more items at q l ∙ ap (λ z. take at items ++ z ∷ []) (sym e))

    here : IsReachedBy G roots q
    here = w.sound q (subst (λ z. In z items) (sym e) (In-get_or items at q l))

    sound : (r : ℕ) → In r items ⊎ In r (G q) → IsReachedBy G roots r
    sound r (inl i) = w.sound r i
    sound r (inr i) =
        let h = here in
        let m = way_more G h.0 h.1 q r h.3 i in
        (h.0, m.0, h.2, m.1)

    closed : (r t : ℕ) → In r (take at items) ⊎ In r (q ∷ []) → In t (G r) → In t (once_from items (G q))
    closed r t (inl i) j = once_keeps t items (G q) (w.closed r t i j)
    closed r t (inr (inl f)) j = once_has t items (G q) (subst (λ z. In t (G z)) f j)
    closed r t (inr (inr i)) j = absurd i

-- If no member is left to visit, the members are the states that are reached.
pub walk_ends :
    (G : ℕ → List ℕ) (roots : List ℕ) (at : ℕ) (items : List ℕ)
    → length items ≤ at → IsWalked G roots at items → (z : ℕ) → In z items ↔ IsReachedBy G roots z
walk_ends G roots at items l w z = (w.sound z, λ h. along h.0 h.1 (w.has h.0 h.2) h.3)
  where
    closed : (q r : ℕ) → In q items → In r (G q) → In r items
    closed q r i j = w.closed q r (subst (λ v. In q v) (sym (take_all at items l)) i) j

    along : (q : ℕ) (way : List ℕ) → In q items → Route G q way z → In z items
    along q [] i h = subst (λ v. In v items) h i
    along q (r ∷ way) i h = along r way (closed q r i h.0) h.1
