-- The tests of links and of the states of a flattened NFA.
use Rattle.std.proofs.Common.{ℕ, zero, suc, ◌≡◌, ◌<◌, ◌≤◌, ◌+◌, Bool, true, false, cond, List, [], ◌∷◌, ◌++◌, ◌⊎◌, ◌↔◌}
use Rattle.std.proofs.Common.{length, get_or, drop, append_assoc, Option, Some, inl, inr, refl, sym, ap, ◌∙◌, subst}
use Rattle.std.proofs.Common.{arith}
use Rattle.std.proofs.Math.Seq.{drop-cons}
use Rattle.std.proofs.lemmas.Bool.{cases_lt}
use Rattle.std.proofs.lemmas.List.{drop_all}
use Rattle.std.specs.Prelude.{IsTrue}
use Rattle.automata_base.specs.Haystacks.Looks.{within}
use Rattle.automata_base.specs.Lists.{In}
use Rattle.automata_base.specs.Nfas.Getters.{HasEmpty}
use Rattle.automata_base.specs.Nfas.Nfa.{Nfa, Node, Split, Assert, Read, Accept, node, takes_in}
use Rattle.automata_base.specs.Nfas.Nodes.{Automaton, dense_from, node_of, nfa_of, ranges_of}
use Rattle.automata_base.specs.Retraced.Reach.{node_in}
use Rattle.automata_base.specs.declared.nfa.thompson.state.State.{State}
use Rattle.automata_base.specs.declared.nfa.thompson.state.Transition.{Transition}
use Rattle.automata_transform.specs.Nfas.FlattenedNfas.{AreOfChain, EndsChain, KeepsAlternate, FollowsLink, IsNoLink}
use Rattle.automata_transform.specs.Nfas.FlattenedNfas.{IsFlatNode, IsFlattenedNfa, followed}
use Rattle.automata_transform.specs.Nfas.MergedNfas.{BeginsAs}
use Rattle.automata_transform.specs.Retraced.Links.{AreFlat, LeadsToNoLink}
use Rattle.automata_base.proofs.Paths.Orders.{some_inj, none_some}
use Rattle.automata_base.proofs.Powersets.Walking.{nodes_length}

-- If no range from index `i` on leads to a link, none does.
abbrev pub RangesFree : (links : List ℕ) → List Transition → ℕ → Type 0
RangesFree links ts i =
    ((u r : ℕ) → takes_in (ranges_of (drop i ts)) u ≡ Some r → IsNoLink links r) → (u r : ℕ)
    → takes_in (ranges_of ts) u ≡ Some r → IsNoLink links r

one_free :
    (links : List ℕ) (b : Bool) (x r : ℕ) (rest : Option ℕ) → IsNoLink links x
    → (rest ≡ Some r → IsNoLink links r) → ◌≡◌ {A = Option ℕ} (cond b (Some x) rest) (Some r) → IsNoLink links r
one_free links true x r rest free more e = subst (IsNoLink links) (some_inj e) free
one_free links false x r rest free more e = more e

pub ranges_next :
    (links : List ℕ) (ts : List Transition) (i : ℕ) (t : Transition) → i < length ts
    → IsNoLink links (get_or ts i t).next → RangesFree links ts i → RangesFree links ts (i + 1)
ranges_next links ts i t l free before f = before here
  where
    next : drop i ts ≡ get_or ts i t ∷ drop (i + 1) ts
    next =
        let more : suc i ≡ i + 1 = omega arith in
        subst (λ k. drop i ts ≡ get_or ts i t ∷ drop k ts) more (drop-cons ts i t l)

    here : (u r : ℕ) → takes_in (ranges_of (drop i ts)) u ≡ Some r → IsNoLink links r
    here u r e =
        one_free links (within (get_or ts i t).lo (get_or ts i t).hi u) (get_or ts i t).next r
        (takes_in (ranges_of (drop (i + 1) ts)) u) free (f u r)
        (subst (λ z. takes_in (ranges_of z) u ≡ Some r) next e)

pub ranges_all :
    (links : List ℕ) (ts : List Transition) (i : ℕ) → length ts ≤ i → RangesFree links ts i → (u r : ℕ)
    → takes_in (ranges_of ts) u ≡ Some r → IsNoLink links r
ranges_all links ts i l before =
    before (λ u r e. absurd (none_some (subst (λ z. takes_in (ranges_of z) u ≡ Some r) (drop_all i ts l) e)))

-- A dense state leads only to its targets.
pub dense_free :
    (links targets : List ℕ) (k : ℕ) → ((q : ℕ) → In q targets → IsNoLink links q) → (u r : ℕ)
    → takes_in (dense_from k targets) u ≡ Some r → IsNoLink links r
dense_free links [] k free u r e = absurd (none_some e)
dense_free links (zero ∷ rest) k free u r e = dense_free links rest (suc k) (λ q i. free q (inr i)) u r e
dense_free links (suc x ∷ rest) k free u r e =
    one_free links (within k k u) (suc x) r (takes_in (dense_from (suc k) rest) u) (free (suc x) (inl refl))
    (λ f. dense_free links rest (suc k) (λ q i. free q (inr i)) u r f) e

-- Alternates that are no links are those of a chain of one union.
pub own_chain :
    (n : Nfa) (links xs : List ℕ) → ((q : ℕ) → In q xs → IsNoLink links q) → AreOfChain n links xs xs
own_chain n links [] free = EndsChain
own_chain n links (x ∷ xs) free = KeepsAlternate (free x (inl refl)) (own_chain n links xs (λ q i. free q (inr i)))

-- A state that leads to no link and is none stays.
pub stays_flat :
    (n : Nfa) (links : List ℕ) (q : ℕ) (was now : Node) → LeadsToNoLink links was → IsNoLink links q → now ≡ was
    → IsFlatNode n links q was now
stays_flat n links q (Split alternates) now free none same =
    ((λ r i. inl (free r i)), (λ z. (alternates, same, own_chain n links alternates free)))
stays_flat n links q (Assert look next) now free none same = (none, free, same)
stays_flat n links q (Read ranges) now free none same = (none, free, same)
stays_flat n links q (Accept p) now free none same = (none, same)

-- What takes the place of a link does not matter.
pub link_flat :
    (n : Nfa) (links : List ℕ) (q alt1 alt2 : ℕ) (now : Node) → LeadsToNoLink links (Split (alt1 ∷ alt2 ∷ []))
    → (IsNoLink links q → ⊥) → IsFlatNode n links q (Split (alt1 ∷ alt2 ∷ [])) now
link_flat n links q alt1 alt2 now free is = ((λ r i. inl (free r i)), (λ z. absurd (is z)))

before_edges :
    (links : List ℕ) (q alt1 alt2 : ℕ) → IsNoLink links alt1 → followed links alt2 ≡ q → (r : ℕ)
    → In r (alt1 ∷ alt2 ∷ []) → IsNoLink links r ⊎ (followed links r ≡ q)
before_edges links q alt1 alt2 free after r (inl e) = inl (subst (IsNoLink links) (sym e) free)
before_edges links q alt1 alt2 free after r (inr (inl e)) = inr (ap (followed links) e ∙ after)
before_edges links q alt1 alt2 free after r (inr (inr i)) = absurd i

pub link_before :
    (n : Nfa) (links : List ℕ) (q alt1 alt2 : ℕ) (now : Node) → IsNoLink links alt1 → followed links alt2 ≡ q
    → (IsNoLink links q → ⊥) → IsFlatNode n links q (Split (alt1 ∷ alt2 ∷ [])) now
link_before n links q alt1 alt2 now free after is =
    (before_edges links q alt1 alt2 free after, (λ z. absurd (is z)))

pub head_before :
    (n : Nfa) (links : List ℕ) (q alt1 alt2 : ℕ) (now : Node) → IsNoLink links alt1 → followed links alt2 ≡ q
    → (all : List ℕ) × (now ≡ Split all) × AreOfChain n links (alt1 ∷ alt2 ∷ []) all
    → IsFlatNode n links q (Split (alt1 ∷ alt2 ∷ [])) now
head_before n links q alt1 alt2 now free after made = (before_edges links q alt1 alt2 free after, (λ z. made))

-- The alternates so far, and those of the chain that is left, are those of the chain.
abbrev pub IsPrefix : (n : Nfa) → (links : List ℕ) → (alt1 alt2 first last : ℕ) → (all : List ℕ) → Type 0
IsPrefix n links alt1 alt2 first last all =
    (more : List ℕ) → AreOfChain n links (first ∷ last ∷ []) more
    → AreOfChain n links (alt1 ∷ alt2 ∷ []) (all ++ more)

pub prefix_next :
    (n : Nfa) (links : List ℕ) (alt1 alt2 first last x y : ℕ) (all wider : List ℕ)
    → IsPrefix n links alt1 alt2 first last all → IsNoLink links first → (IsNoLink links last → ⊥)
    → node n last ≡ Split (x ∷ y ∷ []) → wider ≡ all ++ first ∷ [] → IsPrefix n links alt1 alt2 x y wider
prefix_next n links alt1 alt2 first last x y all wider before free is at same more chain =
    subst (AreOfChain n links (alt1 ∷ alt2 ∷ []))
    (sym (append_assoc all (first ∷ []) more) ∙ ap (λ z. z ++ more) (sym same))
    (before (first ∷ more) (KeepsAlternate free (FollowsLink is at chain)))

pub prefix_done :
    (n : Nfa) (links : List ℕ) (alt1 alt2 first last : ℕ) (all wider whole : List ℕ)
    → IsPrefix n links alt1 alt2 first last all → IsNoLink links first → IsNoLink links last
    → wider ≡ all ++ first ∷ [] → whole ≡ wider ++ last ∷ [] → AreOfChain n links (alt1 ∷ alt2 ∷ []) whole
prefix_done n links alt1 alt2 first last all wider whole before free end same full =
    subst (AreOfChain n links (alt1 ∷ alt2 ∷ []))
    (sym (append_assoc all (first ∷ []) (last ∷ [])) ∙ (ap (λ z. z ++ last ∷ []) (sym same) ∙ sym full))
    (before (first ∷ last ∷ []) (KeepsAlternate free (KeepsAlternate end EndsChain)))

-- The first states that were made are what becomes of the NFA's.
pub record AreFlatBelow (a : Automaton) (links : List ℕ) (states : List State) (few : ℕ) : Type 0 where
  -- how many they are
  pub count : length states ≡ few
  -- each is what becomes of that state
  pub nodes : (q : ℕ) → q < length states → IsFlatNode (nfa_of a) links q (node (nfa_of a) q) (node_in states q)

node_left : (xs : List State) (x : State) (q : ℕ) → q < length xs → node_in (xs ++ x ∷ []) q ≡ node_in xs q
node_left [] x q l = absurd (omega (arith, l))
node_left (y ∷ xs) x zero l = refl
node_left (y ∷ xs) x (suc q) l = node_left xs x q (omega (arith, l))

node_end : (xs : List State) (x : State) → node_in (xs ++ x ∷ []) (length xs) ≡ node_of x
node_end [] x = refl
node_end (y ∷ xs) x = node_end xs x

length_more : (xs : List State) (x : State) → length (xs ++ x ∷ []) ≡ length xs + 1
length_more [] x = refl
length_more (y ∷ xs) x = let e = length_more xs x in omega (arith, e)

pub flat_next :
    (a : Automaton) (links : List ℕ) (states wider : List State) (count id : ℕ) (x : State) (was : Node)
    → AreFlatBelow a links states count → wider ≡ states ++ x ∷ [] → id ≡ count → node (nfa_of a) count ≡ was
    → IsFlatNode (nfa_of a) links id was (node_of x) → AreFlatBelow a links wider (count + 1)
flat_next a links states wider count id x was before same number at flat = record {
  count = (let many = before.count in omega (arith, many, size));
  nodes = λ q l. go q (cases_lt q (length states)) l;
}
  where
    size : length wider ≡ length states + 1
    size = ap (λ (z : List State). length z) same ∙ length_more states x

    last : IsFlatNode (nfa_of a) links count (node (nfa_of a) count) (node_of x)
    last =
        subst (λ z. IsFlatNode (nfa_of a) links z (node (nfa_of a) count) (node_of x)) number
        (subst (λ z. IsFlatNode (nfa_of a) links id z (node_of x)) (sym at) flat)

    go :
        (q : ℕ) → (q < length states) ⊎ (length states ≤ q) → q < length wider
        → IsFlatNode (nfa_of a) links q (node (nfa_of a) q) (node_in wider q)
    go q (inl k) l =
        subst (λ z. IsFlatNode (nfa_of a) links q (node (nfa_of a) q) z)
        (sym (ap (λ z. node_in z q) same ∙ node_left states x q k)) (before.nodes q k)
    go q (inr k) l =
        let many = before.count in
        let is : count ≡ q = omega (arith, k, l, size, many) in
        subst (λ z. IsFlatNode (nfa_of a) links z (node (nfa_of a) z) (node_in wider z)) is
        (subst (λ z. IsFlatNode (nfa_of a) links count (node (nfa_of a) count) z)
        (sym (ap (λ z. node_in z count) same
        ∙ (ap (λ z. node_in (states ++ x ∷ []) z) (sym many) ∙ node_end states x))) last)

no_link : (q : ℕ) → IsNoLink [] q
no_link q = refl

free_node : (x : Node) → LeadsToNoLink [] x
free_node (Split alternates) = λ q i. refl
free_node (Assert look next) = refl
free_node (Read ranges) = λ u r e. refl
free_node (Accept p) = tt

-- An NFA is its own flattened form, in which nothing is flattened.
pub flattened_self : (a : Automaton) → IsFlattenedNfa a a
flattened_self a = record {
  begins = record { anchored = refl; unanchored = refl; patterns = refl; flags = refl; unions = refl };
  links = [];
  flat = record {
    terminator = refl;
    reverse = refl;
    count = refl;
    nodes = λ q l.
        stays_flat (nfa_of a) [] q (node (nfa_of a) q) (node (nfa_of a) q) (free_node (node (nfa_of a) q)) refl refl;
  };
  starts = λ q i. refl;
  empty = ((λ h. h), (λ h. h));
}

-- The NFA of states that are flat is flattened, if it also begins alike.
pub flattened_of :
    (a b : Automaton) (links : List ℕ) → BeginsAs a b → AreFlat a links b.states
    → ((q : ℕ) → In q (a.start_anchored ∷ a.start_unanchored ∷ a.start_pattern) → IsNoLink links q)
    → (x y : Bool) → IsTrue x ↔ HasEmpty b → IsTrue y ↔ HasEmpty a → x ≡ y → IsFlattenedNfa a b
flattened_of a b links begins flat starts x y there here same = record {
  begins = begins;
  links = links;
  flat = record {
    terminator = ap (λ f. f.line_terminator) begins.flags;
    reverse = ap (λ f. f.reverse) begins.flags;
    count = nodes_length b.states ∙ (flat.count ∙ sym (nodes_length a.states));
    nodes = λ q l.
        (let one = nodes_length a.states in let two = flat.count in
        flat.nodes q (omega (arith, l, one, two)));
  };
  starts = starts;
  empty = ((λ h. there.0 (same ∙ here.1 h)), (λ h. here.0 (sym same ∙ there.1 h)));
}
