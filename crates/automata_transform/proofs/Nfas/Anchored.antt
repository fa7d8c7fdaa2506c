-- The test whether matches begin only at the start of a haystack.
use Rattle.std.proofs.Common.{ℕ, zero, suc, ◌≡◌, ◌<◌, ◌≤◌, ◌+◌, ◌⊎◌, ◌↔◌, Bool, true, false, List, [], ◌∷◌, ◌++◌}
use Rattle.std.proofs.Common.{length, get_or, take, inl, inr, refl, sym, ap, ap₂, ◌∙◌, subst, true≢false}
use Rattle.std.specs.Prelude.{IsTrue}
use Rattle.std.proofs.lemmas.List.{take_more, take_all}
use Rattle.automata_base.specs.Haystacks.LookSets.{truth_of}
use Rattle.automata_base.specs.Lists.{From, In}
use Rattle.automata_base.specs.Nfas.Nfa.{ends_at}
use Rattle.automata_base.specs.Nfas.Nodes.{Automaton, nfa_of, node_of, nodes_of}
use Rattle.automata_base.specs.Paths.Paths.{IsClosure, IsPathAt}
use Rattle.automata_base.specs.Retraced.Reach.{node_in}
use Rattle.automata_base.specs.declared.nfa.thompson.state.State.{State}
use Rattle.automata_base.specs.declared.util.look.Look.{Look}
use Rattle.automata_base.specs.declared.util.look.Look.TheVariants as l
use Rattle.automata_base.proofs.Paths.Included.{Includes}
use Rattle.automata_base.proofs.Paths.Orders.{none_some, some_inj}
use Rattle.automata_base.proofs.Paths.Readings.{sorted_has}
use Rattle.automata_base.proofs.Paths.Walks.{in_either, walk_more}
use Rattle.automata_base.proofs.Powersets.Distinct.{In-get_or}
use Rattle.automata_base.proofs.Powersets.Walking.{node_at}
use Rattle.automata_transform.specs.Nfas.AnchoredNfas.{NeedsStart, all_but_start}
use Rattle.automata_transform.proofs.Nfas.Mirrors.Copies.{nodes_more}

-- Some state of a list reads a byte or matches.
pub end_here :
    (states : List State) (ids : List ℕ) (i id at : ℕ) (s : State)
    → i < length ids → id ≡ get_or ids i id → at ≡ id → at < length states → s ≡ get_or states at s
    → ends_at (node_of s) ≡ true
    → IsTrue false ↔ ((q : ℕ) → In q ids → ends_at (node_in states q) ≡ false)
end_here states ids i id at s l e a m t h = (
  λ f. absurd (true≢false (sym f)),
  λ none. absurd (true≢false (sym h ∙ ap ends_at (sym here)
      ∙ none id (subst (λ z. In z ids) (sym e) (In-get_or ids i id l)))),
)
  where
    here : node_in states id ≡ node_of s
    here = ap (node_in states) (sym a) ∙ node_at states at s s m t

pub end_next :
    (states : List State) (ids : List ℕ) (i id at : ℕ) (s : State)
    → i < length ids → id ≡ get_or ids i id → at ≡ id → at < length states → s ≡ get_or states at s
    → ends_at (node_of s) ≡ false
    → ((q : ℕ) → In q (take i ids) → ends_at (node_in states q) ≡ false)
    → (q : ℕ) → In q (take (i + 1) ids) → ends_at (node_in states q) ≡ false
end_next states ids i id at s l e a m t h before q j =
    go (in_either q (take i ids) (id ∷ [])
    (subst (λ z. In q z) (take_more ids i id l ∙ ap (λ z. take i ids ++ z ∷ []) (sym e)) j))
  where
    here : node_in states id ≡ node_of s
    here = ap (node_in states) (sym a) ∙ node_at states at s s m t

    go : In q (take i ids) ⊎ In q (id ∷ []) → ends_at (node_in states q) ≡ false
    go (inl p) = before q p
    go (inr (inl f)) = ap (λ z. ends_at (node_in states z)) f ∙ ap ends_at here ∙ h
    go (inr (inr p)) = absurd p

pub end_none :
    (states : List State) (ids : List ℕ) (i : ℕ) → length ids ≤ i
    → ((q : ℕ) → In q (take i ids) → ends_at (node_in states q) ≡ false)
    → IsTrue true ↔ ((q : ℕ) → In q ids → ends_at (node_in states q) ≡ false)
end_none states ids i m none = (λ _ q j. none q (subst (λ z. In q z) (sym (take_all i ids m)) j), λ _. refl)

-- The looks that the test follows.
start_mask : (look : Look) → truth_of 262142 look ≡ all_but_start look
start_mask l.Start = refl
start_mask l.End = refl
start_mask l.StartLF = refl
start_mask l.EndLF = refl
start_mask l.StartCRLF = refl
start_mask l.EndCRLF = refl
start_mask l.WordAscii = refl
start_mask l.WordAsciiNegate = refl
start_mask l.WordUnicode = refl
start_mask l.WordUnicodeNegate = refl
start_mask l.WordStartAscii = refl
start_mask l.WordEndAscii = refl
start_mask l.WordStartUnicode = refl
start_mask l.WordEndUnicode = refl
start_mask l.WordStartHalfAscii = refl
start_mask l.WordEndHalfAscii = refl
start_mask l.WordStartHalfUnicode = refl
start_mask l.WordEndHalfUnicode = refl

-- What holds of the members of a closure holds of the ends of its paths.
pub needs_found :
    (a : Automaton) (looks : ℕ) (slice items : List ℕ) (b : Bool)
    → ((look : Look) → truth_of looks look ≡ truth_of 262142 look) → slice ≡ items
    → IsClosure (nfa_of a) (truth_of looks) (a.start_anchored ∷ []) items
    → IsTrue b ↔ ((q : ℕ) → In q slice → ends_at (node_in a.states q) ≡ false)
    → IsTrue b ↔ NeedsStart a
needs_found a looks slice items b same e closure found = (
  λ t q path w.
      let more = walk_more (nfa_of a) all_but_start (truth_of looks) [] a.start_anchored path q back w in
      found.0 t q (subst (λ z. In q z) (sym e) (closure.0 q (0 ∷ path) (a.start_anchored, refl, more))),
  λ needs. found.1 (λ q i.
      let key = sorted_has IsKey items q closure.1 (subst (λ z. In q z) e i) in ended q key.0 key.1 needs),
)
  where
    IsKey : ℕ → List ℕ → Type 0
    IsKey = From (λ root path q. IsPathAt (nfa_of a) (truth_of looks) [] root path q) (a.start_anchored ∷ [])

    there : Includes (truth_of looks) all_but_start
    there look h = sym (same look ∙ start_mask look) ∙ h

    back : Includes all_but_start (truth_of looks)
    back look h = same look ∙ start_mask look ∙ h

    ended : (q : ℕ) (key : List ℕ) → IsKey q key → NeedsStart a → ends_at (node_in a.states q) ≡ false
    ended q [] h needs = absurd h
    ended q (zero ∷ path) (root, is, w) needs =
        needs q path
        (walk_more (nfa_of a) (truth_of looks) all_but_start [] a.start_anchored path q there
        (subst (λ z. IsPathAt (nfa_of a) (truth_of looks) [] z path q) (sym (some_inj is)) w))
    ended q (suc k ∷ path) (root, is, w) needs = absurd (none_some is)

-- One more state is copied.
pub copied_next :
    (states copies : List State) (i : ℕ) (s copy : State) → i < length states → s ≡ get_or states i s
    → node_of copy ≡ node_of s → nodes_of copies ≡ nodes_of (take i states)
    → nodes_of (copies ++ copy ∷ []) ≡ nodes_of (take (i + 1) states)
copied_next states copies i s copy l e same before =
    nodes_more copies copy ∙ ap₂ (λ v w. v ++ w ∷ []) before same ∙ sym (nodes_more (take i states) s)
    ∙ ap nodes_of (ap (λ z. take i states ++ z ∷ []) e ∙ sym (take_more states i s l))
