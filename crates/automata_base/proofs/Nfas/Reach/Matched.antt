-- What the members of a walk mean.
use Rattle.std.proofs.Common.{ℕ, ◌≡◌, ◌<◌, ◌≤◌, ◌+◌, ◌⊎◌, ◌↔◌, Bool, true, false, List, [], ◌∷◌, ◌++◌, length, get_or}
use Rattle.std.proofs.Common.{take, inl, inr, refl, sym, ap, ◌∙◌, subst, true≢false}
use Rattle.std.specs.Prelude.{IsTrue, IsFalse}
use Rattle.std.proofs.lemmas.List.{take_more, take_all}
use Rattle.automata_base.specs.declared.nfa.thompson.state.State.{State}
use Rattle.automata_base.specs.declared.nfa.thompson.reach.Edges.TheVariants.{Epsilon}
use Rattle.automata_base.specs.Lists.{In}
use Rattle.automata_base.specs.Nfas.Nodes.{node_of}
use Rattle.automata_base.specs.Retraced.Reach.{node_in, IsMatchAt, IsReached, ReachesMatch}
use Rattle.automata_base.proofs.Powersets.Distinct.{In-get_or}
use Rattle.automata_base.proofs.Powersets.Walking.{node_at}
use Rattle.automata_base.proofs.Paths.Walks.{in_either}

pub match_here :
    (states : List State) (ids : List ℕ) (i id at : ℕ) (s : State)
    → i < length ids → id ≡ get_or ids i id → at ≡ id → at < length states → s ≡ get_or states at s
    → IsMatchAt (node_of s)
    → IsTrue true ↔ ((q : ℕ) × In q ids × IsMatchAt (node_in states q))
match_here states ids i id at s l e a m t h =
    (λ _. (id, subst (λ z. In z ids) (sym e) (In-get_or ids i id l), subst IsMatchAt (sym here) h), λ _. refl)
  where
    here : node_in states id ≡ node_of s
    here = ap (node_in states) (sym a) ∙ node_at states at s s m t

pub match_next :
    (states : List State) (ids : List ℕ) (i id at : ℕ) (s : State)
    → i < length ids → id ≡ get_or ids i id → at ≡ id → at < length states → s ≡ get_or states at s
    → (IsMatchAt (node_of s) → ⊥)
    → ((q : ℕ) → In q (take i ids) → IsMatchAt (node_in states q) → ⊥) → (q : ℕ) → In q (take (i + 1) ids)
    → IsMatchAt (node_in states q) → ⊥
match_next states ids i id at s l e a m t h before q j k =
    go (in_either q (take i ids) (id ∷ [])
    (subst (λ z. In q z) (take_more ids i id l ∙ ap (λ z. take i ids ++ z ∷ []) (sym e)) j))
  where
    here : node_in states id ≡ node_of s
    here = ap (node_in states) (sym a) ∙ node_at states at s s m t

    go : In q (take i ids) ⊎ In q (id ∷ []) → ⊥
    go (inl p) = before q p k
    go (inr (inl f)) = h (subst IsMatchAt here (subst (λ z. IsMatchAt (node_in states z)) f k))
    go (inr (inr p)) = p

pub match_none :
    (states : List State) (ids : List ℕ) (i : ℕ) → length ids ≤ i
    → ((q : ℕ) → In q (take i ids) → IsMatchAt (node_in states q) → ⊥)
    → IsTrue false ↔ ((q : ℕ) × In q ids × IsMatchAt (node_in states q))
match_none states ids i l none =
    (λ e. absurd (true≢false (sym e)), λ h. absurd (none h.0 (subst (λ z. In h.0 z) (sym (take_all i ids l)) h.1) h.2))

pub match_found :
    (states : List State) (roots slice items : List ℕ) (b : Bool) → slice ≡ items
    → IsTrue b ↔ ((q : ℕ) × In q slice × IsMatchAt (node_in states q))
    → ((q : ℕ) → In q items ↔ IsReached Epsilon states roots q)
    → IsTrue b ↔ ReachesMatch states roots
match_found states roots slice items b e found reached = (
  λ t. let h = found.0 t in (h.0, (reached h.0).0 (subst (λ z. In h.0 z) e h.1), h.2),
  λ h. found.1 (h.0, subst (λ z. In h.0 z) (sym e) ((reached h.0).1 h.1), h.2),
)

pub target_found :
    (P : Type 0) (items : List ℕ) (target : ℕ) (b : Bool) → (IsTrue b → In target items)
    → (IsFalse b → In target items → ⊥)
    → In target items ↔ P → IsTrue b ↔ P
target_found P items target true had new reached = (λ t. reached.0 (had refl), λ _. refl)
target_found P items target false had new reached =
    (λ t. absurd (true≢false (sym t)), λ p. absurd (new refl (reached.1 p)))
