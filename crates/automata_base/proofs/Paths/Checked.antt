-- What the tests of an NFA show.
use Rattle.std.proofs.Common.{ℕ, zero, suc, ◌≡◌, ◌<◌, Bool, true, false, cond, ltb, List, [], ◌∷◌}
use Rattle.std.proofs.Common.{length, Some, inl, inr, refl, sym, subst}
use Rattle.std.proofs.lemmas.Bool.{ltb-true}
use Rattle.automata_base.specs.Lists.{In, all_below}
use Rattle.std.specs.Prelude.{slice_get}
use Rattle.automata_base.specs.Nfas.Nfa.{Nfa, Node, Split, Assert, Read, Accept, Range, Truth, node, node_or_fail}
use Rattle.automata_base.specs.Nfas.Nfa.{takes_at, takes_in}
use Rattle.automata_base.specs.Haystacks.Looks.{within}
use Rattle.automata_base.specs.Paths.Paths.{next}
use Rattle.automata_base.specs.Powersets.Closure.{children_at}
use Rattle.automata_base.specs.Nfas.Accepted.{IsInRange}
use Rattle.automata_base.proofs.Paths.Checks.{ranges_below, node_below, nodes_below, is_in_range}
use Rattle.automata_base.proofs.Paths.Orders.{some_inj, none_some}
use Rattle.std.proofs.lemmas.Bool.{and_parts}

pub below_in : (N : ℕ) (xs : List ℕ) (y : ℕ) → all_below N xs ≡ true → In y xs → y < N
below_in N [] y e i = absurd i
below_in N (x ∷ xs) y e (inl i) = subst (λ v. v < N) (sym i) (ltb-true x N (and_parts (ltb x N) (all_below N xs) e).0)
below_in N (x ∷ xs) y e (inr i) = below_in N xs y (and_parts (ltb x N) (all_below N xs) e).1 i

ranges_in : (N : ℕ) (rs : List Range) (u y : ℕ) → ranges_below N rs ≡ true → takes_in rs u ≡ Some y → y < N
ranges_in N [] u y e t = absurd (none_some t)
ranges_in N (r ∷ rs) u y e t =
    go (within r.lo r.hi u) t (ranges_in N rs u y (and_parts (ltb r.next N) (ranges_below N rs) e).1)
  where
    go : (b : Bool) → cond b (Some r.next) (takes_in rs u) ≡ Some y → (takes_in rs u ≡ Some y → y < N) → y < N
    go true t ih =
        subst (λ v. v < N) (some_inj t) (ltb-true r.next N (and_parts (ltb r.next N) (ranges_below N rs) e).0)
    go false t ih = ih t

node_in :
    (N : ℕ) (nodes : List Node) (q : ℕ) → nodes_below N nodes ≡ true
    → node_below N (node_or_fail (slice_get nodes q)) ≡ true
node_in N [] q e = refl
node_in N (x ∷ xs) zero e = (and_parts (node_below N x) (nodes_below N xs) e).0
node_in N (x ∷ xs) (suc q) e = node_in N xs q (and_parts (node_below N x) (nodes_below N xs) e).1

pub children_below : (N : ℕ) (x : Node) (A : Truth) (c : ℕ) → node_below N x ≡ true → In c (children_at x A) → c < N
children_below N (Split alternates) A c e i = below_in N alternates c e i
children_below N (Assert look next) A c e i = go (A look) i
  where
    go : (b : Bool) → In c (cond b (next ∷ []) []) → c < N
    go true (inl s) = subst (λ v. v < N) (sym s) (ltb-true next N e)
    go true (inr s) = absurd s
    go false s = absurd s
children_below N (Read ranges) A c e i = absurd i
children_below N (Accept p) A c e i = absurd i

takes_below : (N : ℕ) (x : Node) (u r : ℕ) → node_below N x ≡ true → takes_at x u ≡ Some r → r < N
takes_below N (Split alternates) u r e t = absurd (none_some t)
takes_below N (Assert look next) u r e t = absurd (none_some t)
takes_below N (Read ranges) u r e t = ranges_in N ranges u r e t
takes_below N (Accept p) u r e t = absurd (none_some t)

pub in_range : (n : Nfa) → is_in_range n ≡ true → IsInRange n
in_range n e = (
  (λ q c A i. children_below (length n.nodes) (node n q) A c (node_in (length n.nodes) n.nodes q e) i),
  λ q u r t. takes_below (length n.nodes) (node n q) u r (node_in (length n.nodes) n.nodes q e) t,
)
