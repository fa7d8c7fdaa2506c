-- The closure of the unanchored start: how it is found and tested, and where its kept states lead.
use Rattle.std.proofs.Common.{ℕ, Bool, ◌≡◌, ◌+◌, ◌<◌, ◌≤◌, List, [], ◌∷◌, ◌++◌, Option, Some, None, inl, inr}
use Rattle.std.proofs.Common.{length, get_or, drop, refl, sym, ap, ◌∙◌, subst, ⊎_elim, append-nil, arith}
use Rattle.std.proofs.Common.{true, false, true≢false, ◌||◌, eqb, option_to_list, Vec}
use Rattle.std.proofs.lemmas.Bool.{cases_eq}
use Rattle.std.proofs.lemmas.Bool.Decides.{nat_tests}
use Rattle.std.specs.declared.alloc.Global.{Global}
use Rattle.std.proofs.lemmas.List.{drop_all}
use Rattle.automata_base.specs.Haystacks.Looks.{Look, look_index}
use Rattle.automata_base.specs.Lists.{In}
use Rattle.automata_base.specs.Nfas.Nfa.{Nfa, Node, Split, Assert, Read, Accept, Truth, node, looks_at, takes, takes_at}
use Rattle.automata_base.specs.Nfas.KeptClosure.{AddsEdges, AreRows, AreTargets}
use Rattle.automata_base.specs.Powersets.Closure.{Visits, done, IsUnderWay, children, children_at}
use Rattle.automata_base.specs.Powersets.Cuts.{has_match, targets}
use Rattle.automata_base.specs.Retraced.Computed.{any_state}
use Rattle.automata_base.specs.Retraced.ReversedEdges.{lists_of, list_at, no_lists, push_at}
use Rattle.automata_base.proofs.Nfas.Mirrors.Lists.{lists_length, list_item, none_at, push_same, push_other}
use Rattle.automata_base.proofs.Powersets.Endings.{picks_next, picks_done}
use Rattle.automata_base.proofs.Powersets.Keeping.{next_drop}

-- A loop has tested the elements before index `i`; the others remain.
abbrev pub Tested : (ℕ → Type 0) → List ℕ → ℕ → Type 0
Tested P xs i = ((q : ℕ) → In q (drop i xs) → P q) → (q : ℕ) → In q xs → P q

pub tested_next :
    (P : ℕ → Type 0) (xs : List ℕ) (i x : ℕ)
    → i < length xs → x ≡ get_or xs i x → P x → Tested P xs i → Tested P xs (i + 1)
tested_next P xs i x l e p t f =
    t (λ q j. ⊎_elim (λ (k : q ≡ x). subst P (sym k) p) (λ (k : In q (drop (i + 1) xs)). f q k)
    (subst (λ z. In q z) (next_drop xs i x l e) j))

pub tested_all : (P : ℕ → Type 0) (xs : List ℕ) (i : ℕ) → length xs ≤ i → Tested P xs i → (q : ℕ) → In q xs → P q
tested_all P xs i l t = t (λ q j. absurd (subst (λ z. In q z) (drop_all i xs l) j))

-- When the stack is empty, the visited states are those visited from the roots.
pub under_way_visits :
    (n : Nfa) (A : Truth) (roots visited : List ℕ) → IsUnderWay n A roots [] visited → Visits n A roots [] visited
under_way_visits n A roots visited u = subst (λ w. Visits n A roots [] w) (append-nil visited) (u [] done)

-- The edges of a list without looks are the same whichever looks hold.
pub plain :
    (n : Nfa) (xs : List ℕ)
    → ((other : Look) → any_state (λ look. eqb (look_index look) (look_index other)) n xs ≡ false)
    → (q : ℕ) → In q xs → (A B : Truth) → children n A q ≡ children n B q
plain n [] none q i A B = absurd i
plain n (x ∷ xs) none q (inl e) A B = subst (λ z. children n A z ≡ children n B z) (sym e) (at (node n x) none)
  where
    same : (k : ℕ) → eqb k k ≡ true
    same k = grind (arith, nat_tests)

    at :
        (m : Node)
        → ((other : Look)
        → (looks_at (λ look. eqb (look_index look) (look_index other)) m
        || any_state (λ look. eqb (look_index look) (look_index other)) n xs) ≡ false)
        → children_at m A ≡ children_at m B
    at (Split alternates) f = refl
    at (Assert look next) f =
        absurd (true≢false
        (sym (ap (λ b. b || any_state (λ z. eqb (look_index z) (look_index look)) n xs) (same (look_index look)))
        ∙ f look))
    at (Read ranges) f = refl
    at (Accept p) f = refl
plain n (x ∷ xs) none q (inr i) A B =
    plain n xs
    (λ other. rest (looks_at (λ look. eqb (look_index look) (look_index other)) (node n x))
    (any_state (λ look. eqb (look_index look) (look_index other)) n xs) (none other)) q i A B
  where
    rest : (a b : Bool) → (a || b) ≡ false → b ≡ false
    rest true b e = absurd (true≢false e)
    rest false b e = e

-- ---- rows

-- A row that was read.
pub row_read :
    (n : Nfa) (list : List ℕ) (rows : List (Vec ℕ Global)) (u : ℕ) (row : Vec ℕ Global)
    → AreRows n list rows → u < length rows → row ≡ get_or rows u row → AreTargets n list u row.items
row_read n list rows u row are l read = subst (AreTargets n list u) (list_item rows u row l read) (are u l)

-- The targets of a node were added to the rows of the bytes below `u`.
pub record Added (m : Node) (old new : List (Vec ℕ Global)) (u : ℕ) : Type 0 where
  pub below :
      (v : ℕ) → v < 256 → v < u → list_at (lists_of new) v ≡ list_at (lists_of old) v ++ option_to_list (takes_at m v)
  pub above : (v : ℕ) → v < 256 → u ≤ v → list_at (lists_of new) v ≡ list_at (lists_of old) v

nothing : (xs ys : List ℕ) (o : Option ℕ) → o ≡ None → ys ≡ xs → ys ≡ xs ++ option_to_list o
nothing xs ys o none same = same ∙ (sym (append-nil xs) ∙ ap (λ z. xs ++ option_to_list z) (sym none))

pub added_next :
    (m : Node) (old rows new : List (Vec ℕ Global)) (u w : ℕ) (o : Option ℕ)
    → u < 256 → w ≡ u → o ≡ takes_at m w → list_at (lists_of new) u ≡ list_at (lists_of rows) u ++ option_to_list o
    → ((v : ℕ) → (u ≡ v → ⊥) → list_at (lists_of new) v ≡ list_at (lists_of rows) v)
    → Added m old rows u → Added m old new (u + 1)
added_next m old rows new u w o small same is_o more others a = record { below = below; above = above }
  where
    here : list_at (lists_of new) u ≡ list_at (lists_of old) u ++ option_to_list (takes_at m u)
    here =
        more ∙ ap (λ z. z ++ option_to_list o) (a.above u small (omega arith))
        ∙ ap (λ z. list_at (lists_of old) u ++ option_to_list z) (is_o ∙ ap (takes_at m) same)

    below :
        (v : ℕ) → v < 256 → v < u + 1
        → list_at (lists_of new) v ≡ list_at (lists_of old) v ++ option_to_list (takes_at m v)
    below v few l =
        ⊎_elim (λ (e : v ≡ u). subst
        (λ z. list_at (lists_of new) z ≡ list_at (lists_of old) z ++ option_to_list (takes_at m z)) (sym e) here)
        (λ (ne : v ≡ u → ⊥). others v (λ e. ne (sym e)) ∙ a.below v few (omega arith))
        (cases_eq v u)

    above : (v : ℕ) → v < 256 → u + 1 ≤ v → list_at (lists_of new) v ≡ list_at (lists_of old) v
    above v few l = others v (λ e. absurd (omega (arith, e, l))) ∙ a.above v few (omega arith)

pub added_some :
    (m : Node) (old rows new : List (Vec ℕ Global)) (u w next : ℕ) (o : Option ℕ)
    → length rows ≡ 256 → u < 256 → w ≡ u → o ≡ takes_at m w → o ≡ Some next
    → lists_of new ≡ push_at (lists_of rows) u next
    → Added m old rows u → Added m old new (u + 1)
added_some m old rows new u w next o few small same is_o some pushed a =
    added_next m old rows new u w o small same is_o
    (ap (λ z. list_at z u) pushed
    ∙ (push_same (lists_of rows) u next (let n = lists_length rows in omega (arith, n, few, small))
    ∙ ap (λ z. list_at (lists_of rows) u ++ option_to_list z) (sym some)))
    (λ v ne. ap (λ z. list_at z v) pushed ∙ push_other (lists_of rows) u v next ne) a

pub added_none :
    (m : Node) (old rows : List (Vec ℕ Global)) (u w : ℕ) (o : Option ℕ)
    → u < 256 → w ≡ u → o ≡ takes_at m w → o ≡ None → Added m old rows u → Added m old rows (u + 1)
added_none m old rows u w o small same is_o none a =
    added_next m old rows rows u w o small same is_o
    (nothing (list_at (lists_of rows) u) (list_at (lists_of rows) u) o none refl) (λ v ne. refl) a

-- The rows of a list, of which the states from index `i` on remain.
pub record Filling (n : Nfa) (list : List ℕ) (rows : List (Vec ℕ Global)) (i : ℕ) : Type 0 where
  pub few : length rows ≡ 256
  pub same : (u : ℕ) → u < 256 → list_at (lists_of rows) u ++ targets n (Some u) (drop i list) ≡ targets n (Some u) list

pub filling_init :
    (n : Nfa) (list : List ℕ) (rows : List (Vec ℕ Global)) → lists_of rows ≡ no_lists 256 → length rows ≡ 256
    → Filling n list rows 0
filling_init n list rows none few = record {
  few = few;
  same =
      λ u small. ap (λ z. list_at z u ++ targets n (Some u) list) none
      ∙ ap (λ z. z ++ targets n (Some u) list) (none_at 256 u);
}

pub filling_next :
    (n : Nfa) (list : List ℕ) (old new : List (Vec ℕ Global)) (i x : ℕ) (m : Node)
    → i < length list → x ≡ get_or list i x → node n x ≡ m
    → length new ≡ 256 → AddsEdges m old new → Filling n list old i → Filling n list new (i + 1)
filling_next n list old new i x m l e at few adds f = record {
  few = few;
  same = λ u small.
      picks_next (λ b. takes n b u) list (list_at (lists_of old) u) (list_at (lists_of new) u) (targets n (Some u) list)
      i x (takes_at m u)
      l e (ap (λ z. takes_at z u) at) (adds u small) (f.same u small);
}

pub filling_done :
    (n : Nfa) (list : List ℕ) (rows : List (Vec ℕ Global)) (i : ℕ)
    → has_match n list ≡ false → length list ≤ i → Filling n list rows i → AreRows n list rows
filling_done n list rows i plain l f u small = record {
  unmatched = plain;
  same =
      picks_done (λ b. takes n b u) list (list_at (lists_of rows) u) (targets n (Some u) list) i l
      (f.same u (omega (arith, small, f.few)));
}
