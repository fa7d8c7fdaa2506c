-- The patterns' states in the joined NFA, and what its union of their starts finds.
use Rattle.std.proofs.Common.{ℕ, zero, suc, ◌≡◌, ◌+◌, ◌-◌, ◌<◌, ◌≤◌, List, [], ◌∷◌, ◌++◌, Option, None, length}
use Rattle.std.proofs.Common.{option_map, refl, sym, ap, ◌∙◌, ⊎_elim, arith}
use Rattle.std.specs.Prelude.{slice_get, false}
use Rattle.std.specs.Option.{option_or}
use Rattle.std.proofs.lemmas.List.{append_assoc, length-append}
use Rattle.regex_nfa.specs.Run.{run}
use Rattle.regex_nfa.specs.declared.nfa.Nfa as kit_nfa
use Rattle.automata_base.specs.Haystacks.Matches.{HalfMatch}
use Rattle.automata_base.specs.Haystacks.Tapes.{forward_tape}
use Rattle.automata_base.specs.Nfas.Engines.{any_byte}
use Rattle.automata_base.specs.Nfas.Nfa.{Nfa, Node, Split, node, node_or_fail, hop, hop_at}
use Rattle.automata_base.specs.Paths.Paths.{truth}
use Rattle.automata_base.proofs.Paths.Orders.{none_some}
use Rattle.meaning.specs.Translated.{nodes_of, nodes_of_all, joined_nfa, size_of, starts_of}
use Rattle.meaning.specs.Agreeing.{Each, HasSameLooks, HasStatesOf, HoldsAll, IsLeastEnd}
use Rattle.meaning.proofs.Options.{half_of}
use Rattle.meaning.proofs.Nodes.{node_at, length-nodes_of}
use Rattle.meaning.proofs.Edges.{IsLeastPast, all_edges, past_edge, past_none}
use Rattle.meaning.proofs.Runs.{accepts_none, moves_none, run_agrees}

module _ {X : Type 0} where
  nth_left : (xs ys : List X) (i : ℕ) → i < length xs → slice_get (xs ++ ys) i ≡ slice_get xs i
  nth_left [] ys i l = absurd (omega (arith, l))
  nth_left (x ∷ xs) ys zero l = refl
  nth_left (x ∷ xs) ys (suc i) l = nth_left xs ys i (omega (arith, l))

  nth_right : (xs ys : List X) (j i : ℕ) → j ≡ length xs + i → slice_get (xs ++ ys) j ≡ slice_get ys i
  nth_right [] ys j i e = ap (λ v. slice_get ys v) (omega (arith, e))
  nth_right (x ∷ xs) ys zero i e = absurd (omega (arith, e))
  nth_right (x ∷ xs) ys (suc j) i e = nth_right xs ys j i (omega (arith, e))

pub length-nodes_of_all : (b p : ℕ) (ks : List kit_nfa.Nfa) → length (nodes_of_all b p ks) ≡ size_of ks
length-nodes_of_all b p [] = refl
length-nodes_of_all b p (k ∷ ks) =
    let own = length-nodes_of b p k.transitions.items k.states.items in
    let rest = length-nodes_of_all (b + length k.states.items) (suc p) ks in
    let both =
    length-append (nodes_of b p k.transitions.items k.states.items)
    (nodes_of_all (b + length k.states.items) (suc p) ks) in
    omega (arith, own, rest, both)

-- each pattern's states come after those of the previous patterns
holds_from :
    (n : Nfa) → n.terminator ≡ 10 → n.reverse ≡ false → (ks : List kit_nfa.Nfa) (b p : ℕ) (pre post : List Node) →
    length pre ≡ b → n.nodes ≡ pre ++ (nodes_of_all b p ks ++ post) → HoldsAll n b p ks
holds_from n lines forward [] b p pre post count e = tt
holds_from n lines forward (k ∷ ks) b p pre post count e = (
  record {
    nodes = λ q l. ap node_or_fail
        (ap (λ v. slice_get v (b + q)) there
        ∙ nth_right pre (own ++ (rest ++ post)) (b + q) q (omega (arith, count))
        ∙ nth_left own (rest ++ post) q (omega (arith, l, size))
        ∙ node_at b p k.transitions.items k.states.items q l);
    lines = lines;
    forward = forward;
  },
  holds_from n lines forward ks (b + length k.states.items) (suc p) (pre ++ own) post
      (let both = length-append pre own in omega (arith, both, count, size))
      (there ∙ sym (append_assoc pre own (rest ++ post))),
) where
  own : List Node
  own = nodes_of b p k.transitions.items k.states.items

  rest : List Node
  rest = nodes_of_all (b + length k.states.items) (suc p) ks

  size : length own ≡ length k.states.items
  size = length-nodes_of b p k.transitions.items k.states.items

  there : n.nodes ≡ pre ++ (own ++ (rest ++ post))
  there = e ∙ ap (λ v. pre ++ v) (append_assoc own rest post)

module _ (ks : List kit_nfa.Nfa) where
  abbrev n : Nfa
  n = joined_nfa ks

  abbrev union : ℕ
  union = size_of ks

  pub holds_all : HoldsAll n 0 0 ks
  holds_all = holds_from n refl refl ks 0 0 [] _ refl refl

  pub behind :
      (i : ℕ) → node n (union + i)
      ≡ node_or_fail
      (slice_get (Split (starts_of 0 ks) ∷ Split (union ∷ (union + 2) ∷ []) ∷ any_byte (union + 1) ∷ []) i)
  behind i =
      ap node_or_fail
      (nth_right (nodes_of_all 0 0 ks) _ (union + i) i (let c = length-nodes_of_all 0 0 ks in omega (arith, c)))

  pub union_is : node n union ≡ Split (starts_of 0 ks)
  union_is = ap (node n) (omega arith) ∙ behind 0

  pub loop_is : node n (union + 1) ≡ Split (union ∷ (union + 2) ∷ [])
  loop_is = behind 1

  pub skip_is : node n (union + 2) ≡ any_byte (union + 1)
  skip_is = behind 2

-- The end of the match at an offset: it belongs to the first pattern that has a match there.
abbrev pub found_of : List ℕ → (stop i p : ℕ) → List kit_nfa.Nfa → Option HalfMatch
found_of hay stop i p [] = None
found_of hay stop i p (k ∷ ks) =
    option_or (option_map (half_of p) (run k hay stop k.start i)) (found_of hay stop i (suc p) ks)

module _ (n : Nfa) (hay : List ℕ) (s stop u place i : ℕ) (fits : stop ≤ length hay) (at : i ≡ s + place)
    (inside : i ≤ stop) where
  -- a path from the start of one pattern, after the union
  pub pattern_finds :
      (b p : ℕ) (k : kit_nfa.Nfa) → HasStatesOf n b p k → HasSameLooks hay k → b + length k.states.items ≤ u →
      IsLeastEnd n (forward_tape hay s stop) s place (u ∷ []) (b + k.start)
      (option_map (half_of p) (run k hay stop k.start i))
  pattern_finds b p k holds same room =
      run_agrees n b p k holds hay s stop fits same k.start i place (u ∷ []) (let l = k.start_in in omega (arith, l)) at
      inside
      (λ x l m. ⊎_elim (λ (e : b + x ≡ u). absurd (omega (arith, l, e, room))) (λ (x : ⊥). absurd x) m)

  -- paths by the edges to the starts of the patterns from number `p` on
  past : (b p : ℕ) (ks : List kit_nfa.Nfa) → HoldsAll n b p ks → Each (HasSameLooks hay) ks → b + size_of ks ≤ u →
      ((e : ℕ) → hop n (truth n (forward_tape hay s stop) place) u (p + e) ≡ slice_get (starts_of b ks) e) →
      IsLeastPast n (forward_tape hay s stop) s place [] u p (found_of hay stop i p ks)
  past b p [] holds same room edges =
      past_none n (forward_tape hay s stop) s place [] u p (λ d r l h.
      let e : p + (d - p) ≡ d = omega (arith, l) in
      none_some (sym (edges (d - p)) ∙ ap (λ v. hop n (truth n (forward_tape hay s stop) place) u v) e ∙ h))
  past b p (k ∷ ks) holds same room edges =
      past_edge n (forward_tape hay s stop) s place [] u p (b + k.start) _ (found_of hay stop i (suc p) ks)
      (ap (λ v. hop n (truth n (forward_tape hay s stop) place) u v) first ∙ edges 0)
      (λ m. ⊎_elim (λ (e : b + k.start ≡ u). apart e) (λ (x : ⊥). x) m)
      (pattern_finds b p k holds.0 same.0 (omega (arith, room)))
      (past (b + length k.states.items) (suc p) ks holds.1 same.1 (omega (arith, room))
      (λ e. ap (λ v. hop n (truth n (forward_tape hay s stop) place) u v) (later e) ∙ edges (suc e)))
    where
      first : p ≡ p + 0
      first = omega arith

      later : (e : ℕ) → suc p + e ≡ p + suc e
      later e = omega arith

      apart : b + k.start ≡ u → ⊥
      apart e = let l = k.start_in in omega (arith, l, e, room)

-- what the union finds at each place of a span
pub union_finds : (ks : List kit_nfa.Nfa) (hay : List ℕ) (stop : ℕ) → stop ≤ length hay → Each (HasSameLooks hay) ks →
    (s place : ℕ) → s + place ≤ stop →
    IsLeastEnd (joined_nfa ks) (forward_tape hay s stop) s place [] (size_of ks) (found_of hay stop (s + place) 0 ks)
union_finds ks hay stop fits same s place inside =
    all_edges (joined_nfa ks) (forward_tape hay s stop) s place [] (size_of ks) _
    (accepts_none (joined_nfa ks) (forward_tape hay s stop) place (size_of ks) _ (union_is ks) refl)
    (moves_none (joined_nfa ks) (forward_tape hay s stop) place (size_of ks) _ (union_is ks) (λ v r m. none_some m))
    (past (joined_nfa ks) hay s stop (size_of ks) place (s + place) fits refl inside 0 0 ks (holds_all ks) same
    (omega arith)
    (λ e. ap (λ v. hop_at v (truth (joined_nfa ks) (forward_tape hay s stop) place) (0 + e)) (union_is ks)
    ∙ ap (λ v. slice_get (starts_of 0 ks) v) (omega arith)))
