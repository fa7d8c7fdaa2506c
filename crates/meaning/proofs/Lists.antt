-- One more state, range or pattern, for the loops that build these lists.
use Rattle.std.proofs.Common.{ℕ, suc, ◌≡◌, ◌<◌, ◌+◌, List, [], ◌∷◌, ◌++◌, take, get_or, length, sym, ap, ap₂, ◌∙◌, refl}
use Rattle.std.proofs.Common.{add-one, arith}
use Rattle.std.proofs.Math.Seq.{take-suc}
use Rattle.std.proofs.lemmas.List.{append_assoc, append-nil}
use Rattle.regex_nfa.specs.declared.nfa.Nfa as kit_nfa
use Rattle.regex_nfa.specs.declared.state.State as kit_state
use Rattle.regex_nfa.specs.declared.state.Transition as kit_transition
use Rattle.automata_base.specs.Nfas.Nfa.{Node}
use Rattle.automata_base.specs.Nfas.Nodes as ours
use Rattle.automata_base.specs.declared.nfa.thompson.state.State as our_state
use Rattle.automata_base.specs.declared.nfa.thompson.state.Transition as our_transition
use Rattle.meaning.specs.Translated as kits
use Rattle.meaning.specs.Translated.{size_of, nodes_of, nodes_of_all, starts_of}

our_ranges : (xs : List our_transition.Transition) (x : our_transition.Transition) →
    ours.ranges_of (xs ++ x ∷ []) ≡ ours.ranges_of xs ++ ours.range_of x ∷ []
our_ranges [] x = refl
our_ranges (y ∷ xs) x = ap (λ v. ours.range_of y ∷ v) (our_ranges xs x)

kit_ranges : (b : ℕ) (xs : List kit_transition.Transition) (x : kit_transition.Transition) →
    kits.ranges_of b (xs ++ x ∷ []) ≡ kits.ranges_of b xs ++ kits.range_of b x ∷ []
kit_ranges b [] x = refl
kit_ranges b (y ∷ xs) x = ap (λ v. kits.range_of b y ∷ v) (kit_ranges b xs x)

pub our_nodes :
    (xs : List our_state.State) (x : our_state.State)
    → ours.nodes_of (xs ++ x ∷ []) ≡ ours.nodes_of xs ++ ours.node_of x ∷ []
our_nodes [] x = refl
our_nodes (y ∷ xs) x = ap (λ v. ours.node_of y ∷ v) (our_nodes xs x)

pub length-our_nodes : (xs : List our_state.State) → length (ours.nodes_of xs) ≡ length xs
length-our_nodes [] = refl
length-our_nodes (x ∷ xs) = ap suc (length-our_nodes xs)

kit_nodes : (b p : ℕ) (ts : List kit_transition.Transition) (xs : List kit_state.State) (x : kit_state.State) →
    kits.nodes_of b p ts (xs ++ x ∷ []) ≡ kits.nodes_of b p ts xs ++ kits.node_of b p ts x ∷ []
kit_nodes b p ts [] x = refl
kit_nodes b p ts (y ∷ xs) x = ap (λ v. kits.node_of b p ts y ∷ v) (kit_nodes b p ts xs x)

pub ranges_push :
    (b : ℕ) (made : List our_transition.Transition) (x : our_transition.Transition)
    (own : List kit_transition.Transition)
    (i : ℕ) (d : kit_transition.Transition) → i < length own → ours.ranges_of made ≡ kits.ranges_of b (take i own) →
    ours.range_of x ≡ kits.range_of b (get_or own i d)
    → ours.ranges_of (made ++ x ∷ []) ≡ kits.ranges_of b (take (i + 1) own)
ranges_push b made x own i d inside h e =
    our_ranges made x ∙ ap₂ (λ a b. a ++ b ∷ []) h e ∙ sym (kit_ranges b (take i own) (get_or own i d))
    ∙ ap (kits.ranges_of b) (sym (take-suc own i d inside) ∙ ap (λ v. take v own) (sym (add-one i)))

pub nodes_push :
    (b p : ℕ) (ts : List kit_transition.Transition) (old : List Node) (made : List our_state.State)
    (x : our_state.State)
    (own : List kit_state.State) (i : ℕ) (d : kit_state.State) → i < length own →
    ours.nodes_of made ≡ old ++ kits.nodes_of b p ts (take i own)
    → ours.node_of x ≡ kits.node_of b p ts (get_or own i d) →
    ours.nodes_of (made ++ x ∷ []) ≡ old ++ kits.nodes_of b p ts (take (i + 1) own)
nodes_push b p ts old made x own i d inside h e =
    our_nodes made x ∙ ap₂ (λ a b. a ++ b ∷ []) h e
    ∙ append_assoc old (kits.nodes_of b p ts (take i own)) (kits.node_of b p ts (get_or own i d) ∷ [])
    ∙ ap (λ v. old ++ v) (sym (kit_nodes b p ts (take i own) (get_or own i d))
    ∙ ap (kits.nodes_of b p ts) (sym (take-suc own i d inside) ∙ ap (λ v. take v own) (sym (add-one i))))

-- one more pattern
pub nodes_of_all_push : (b p : ℕ) (ks : List kit_nfa.Nfa) (k : kit_nfa.Nfa) →
    nodes_of_all b p (ks ++ k ∷ [])
    ≡ nodes_of_all b p ks ++ nodes_of (b + size_of ks) (p + length ks) k.transitions.items k.states.items
nodes_of_all_push b p [] k =
    append-nil (nodes_of b p k.transitions.items k.states.items)
    ∙ ap₂ (λ v w. nodes_of v w k.transitions.items k.states.items) (omega arith) (omega arith)
nodes_of_all_push b p (x ∷ ks) k =
    ap (λ v. nodes_of b p x.transitions.items x.states.items ++ v)
    (nodes_of_all_push (b + length x.states.items) (suc p) ks k
    ∙ ap₂ (λ v w. nodes_of_all (b + length x.states.items) (suc p) ks
    ++ nodes_of v w k.transitions.items k.states.items) (omega arith) (omega arith))
    ∙ sym (append_assoc (nodes_of b p x.transitions.items x.states.items)
    (nodes_of_all (b + length x.states.items) (suc p) ks) _)

pub starts_of_push : (b : ℕ) (ks : List kit_nfa.Nfa) (k : kit_nfa.Nfa) →
    starts_of b (ks ++ k ∷ []) ≡ starts_of b ks ++ (b + size_of ks + k.start) ∷ []
starts_of_push b [] k = ap (λ v. v ∷ []) (omega arith)
starts_of_push b (x ∷ ks) k =
    ap (λ v. (b + x.start) ∷ v)
    (starts_of_push (b + length x.states.items) ks k
    ∙ ap (λ v. starts_of (b + length x.states.items) ks ++ v ∷ []) (omega arith))

pub length-starts_of : (b : ℕ) (ks : List kit_nfa.Nfa) → length (starts_of b ks) ≡ length ks
length-starts_of b [] = refl
length-starts_of b (k ∷ ks) = ap suc (length-starts_of (b + length k.states.items) ks)
