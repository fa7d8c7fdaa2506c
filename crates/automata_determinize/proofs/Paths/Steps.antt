-- From the least paths to one position to the least paths to the next.
use Rattle.std.proofs.Common.{ℕ, suc, ◌≡◌, ◌<◌, ◌≤◌, cond, List, [], ◌∷◌, ◌++◌, ◌⊎◌, Option, Some, None, inl, inr, refl}
use Rattle.std.proofs.Common.{sym, ap, ◌∙◌, subst, arith}
use Rattle.automata_base.specs.Paths.Order.{Before, Begins}
use Rattle.automata_base.specs.Lists.{IsListOf, pick, From}
use Rattle.std.specs.Prelude.{slice_get}
use Rattle.automata_base.specs.Nfas.Nfa.{Nfa, Node, Split, Assert, Read, Accept, node, takes, takes_at, accepts, ends}
use Rattle.automata_base.specs.Nfas.Nfa.{ends_at}
use Rattle.automata_base.specs.Paths.Paths.{IsPathAt, Tape, IsPathFrom, IsPath, Moves, truth}
use Rattle.automata_determinize.proofs.Paths.Orders.{Under, before_cases, under_append_left}
use Rattle.automata_base.proofs.Paths.Orders.{nil_cons, some_inj, none_some}
use Rattle.automata_base.proofs.Paths.Orders.{before_trans}
use Rattle.automata_determinize.proofs.Paths.Orders.{before_begin}
use Rattle.automata_base.proofs.Paths.Places.{path_extend, walk_path}
use Rattle.automata_determinize.proofs.Paths.Places.{last_place, path_walk, reader_apart}
use Rattle.automata_determinize.proofs.Paths.Compose.{Composes, Divides, compose}
use Rattle.automata_base.proofs.Paths.Sift.{same}
use Rattle.automata_base.proofs.Paths.Staying.{Ending}

-- The path is before the bound, if there is one.
abbrev pub Within : Option (List ℕ) → List ℕ → Type 0
Within None p = Unit {0}
Within (Some a) p = Before p a

-- Paths within a bound to byte and match states at position `i`.
abbrev pub EndsWithin : Nfa → Tape → ℕ → Option (List ℕ) → ℕ → ℕ → List ℕ → Type 0
EndsWithin n t start best i q p = (ends n q ≡ Some q) × IsPath n t start i q p × Within best p

-- The bound is the path of a match at a position up to `i`.
abbrev pub IsPast : Nfa → Tape → ℕ → Option (List ℕ) → ℕ → Type 0
IsPast n t start None i = Unit {0}
IsPast n t start (Some a) i = (j q p : ℕ) × IsPath n t start j q a × (accepts n q ≡ Some p) × (j ≤ i)

takes_ends_at : (x : Node) (u r q : ℕ) → takes_at x u ≡ Some r → cond (ends_at x) (Some q) None ≡ Some q
takes_ends_at (Split alternates) u r q h = absurd (none_some h)
takes_ends_at (Assert look next) u r q h = absurd (none_some h)
takes_ends_at (Read ranges) u r q h = refl
takes_ends_at (Accept p) u r q h = absurd (none_some h)

pub takes_ends : (n : Nfa) (q u r : ℕ) → takes n q u ≡ Some r → ends n q ≡ Some q
takes_ends n q u r h = takes_ends_at (node n q) u r q h

within_more :
    (n : Nfa) (t : Tape) (start i u x r : ℕ) (best : Option (List ℕ)) (p s : List ℕ)
    → IsPast n t start best i → IsPath n t start i x p → takes n x u ≡ Some r → Within best p → Within best (p ++ s)
within_more n t start i u x r None p s past h m w = tt
within_more n t start i u x r (Some a) p s past h m w = go (before_cases p a w)
  where
    go : Under p a ⊎ Begins p a → Before (p ++ s) a
    go (inl k) = under_append_left p a s k
    go (inr b) =
        let k : i < past.0 =
        reader_apart n t start i x u r p past.0 past.1 b.0 b.1 h m
        (subst (λ v. IsPath n t start past.0 past.1 v) b.2 past.3) in
        absurd (omega (arith, k, past.5))

within_less : (best : Option (List ℕ)) (p : List ℕ) (z : ℕ) (zs : List ℕ) → Within best (p ++ (z ∷ zs)) → Within best p
within_less None p z zs w = tt
within_less (Some a) p z zs w = before_trans p (p ++ (z ∷ zs)) a (before_begin p z zs) w

-- Reads one byte.
pub step :
    (n : Nfa) (t : Tape) (start i u : ℕ) (best : Option (List ℕ)) (N xs : List ℕ)
    → slice_get t.bytes i ≡ Some u → IsPast n t start best i
    → IsListOf (EndsWithin n t start best i) N
    → IsListOf
    (Ending n (From (λ root path q. IsPathAt n (truth n t (suc i)) [] root path q) (pick (λ b. takes n b u) N))) xs
    → IsListOf (EndsWithin n t start best (suc i)) xs
step n t start i u best N xs byte past l m =
    compose P g S P' (0 ∷ []) N xs joins divides l
    (same (Ending n (From W (pick g N))) (From S (pick g N)) xs there back m)
  where
    W : ℕ → List ℕ → ℕ → Type 0
    W root path q = IsPathAt n (truth n t (suc i)) [] root path q

    P : ℕ → List ℕ → Type 0
    P = EndsWithin n t start best i

    g : ℕ → Option ℕ
    g b = takes n b u

    S : ℕ → List ℕ → ℕ → Type 0
    S root path q = (ends n q ≡ Some q) × W root path q

    P' : ℕ → List ℕ → Type 0
    P' = EndsWithin n t start best (suc i)

    there : (q : ℕ) (key : List ℕ) → Ending n (From W (pick g N)) q key → From S (pick g N) q key
    there q [] h = h.1
    there q (k ∷ s) h = (h.1.0, h.1.1, (h.0, h.1.2))

    back : (q : ℕ) (key : List ℕ) → From S (pick g N) q key → Ending n (From W (pick g N)) q key
    back q [] h = absurd h
    back q (k ∷ s) h = (h.2.0, (h.0, h.1, h.2.1))

    joins : Composes P g S P' (0 ∷ [])
    joins x r q p s h m w = (
      w.0,
      path_extend n t 0 [] start p i x r s (suc i) q h.1 (u, byte, m) (walk_path n t (suc i) [] r s q w.1),
      within_more n t start i u x r best p (0 ∷ s) past h.1 m h.2,
    )

    divides : Divides P g S P' (0 ∷ [])
    divides q key h = (
      f.0,
      f.1,
      f.2,
      f.3,
      (takes_ends n f.0 u f.1 moves, f.4, within_less best f.2 0 f.3 (subst (λ v. Within best v) f.7 h.2)),
      moves,
      (h.0, f.6),
      f.7,
      apart,
    )
      where
        f : (b r : ℕ) × (head rest : List ℕ) × IsPathFrom n t 0 [] start head i b × Moves n t i b r
            × IsPathAt n (truth n t (suc i)) [] r rest q × (key ≡ head ++ (0 ∷ rest))
        f = last_place n t 0 [] start key i q (omega arith) h.1

        moves : takes n f.0 u ≡ Some f.1
        moves = ap (λ v. takes n f.0 v) (some_inj (sym byte ∙ f.5.1)) ∙ f.5.2

        apart :
            (y r' : ℕ) (other : List ℕ) → P y other → g y ≡ Some r' → Begins other f.2 → ⊥
        apart y r' other k m b =
            let l : i < i =
            reader_apart n t start i y u r' other i f.0 b.0 b.1 k.1 m
            (subst (λ v. IsPath n t start i f.0 v) b.2 f.4) in
            omega (arith, l)

-- The first position.
pub first :
    (n : Nfa) (t : Tape) (start : ℕ) (xs : List ℕ)
    → IsListOf (Ending n (From (λ root path q. IsPathAt n (truth n t 0) [] root path q) (start ∷ []))) xs
    → IsListOf (EndsWithin n t start None 0) xs
first n t start xs m =
    compose P g S P' [] (start ∷ []) xs joins divides l
    (same (Ending n (From W (start ∷ []))) (From S (start ∷ [])) xs there back m)
  where
    W : ℕ → List ℕ → ℕ → Type 0
    W root path q = IsPathAt n (truth n t 0) [] root path q

    P : ℕ → List ℕ → Type 0
    P x p = (x ≡ start) × (p ≡ [])

    g : ℕ → Option ℕ
    g b = Some b

    S : ℕ → List ℕ → ℕ → Type 0
    S root path q = (ends n q ≡ Some q) × W root path q

    P' : ℕ → List ℕ → Type 0
    P' = EndsWithin n t start None 0

    l : IsListOf P (start ∷ [])
    l = (
      λ q key h. inl h.0,
      (
        record {
          key = [];
          has = (refl, refl);
          least = λ other h. inl (sym h.1);
          before = λ y other i h. absurd i;
        },
        tt,
      ),
    )

    there : (q : ℕ) (key : List ℕ) → Ending n (From W (start ∷ [])) q key → From S (start ∷ []) q key
    there q [] h = h.1
    there q (k ∷ s) h = (h.1.0, h.1.1, (h.0, h.1.2))

    back : (q : ℕ) (key : List ℕ) → From S (start ∷ []) q key → Ending n (From W (start ∷ [])) q key
    back q [] h = absurd h
    back q (k ∷ s) h = (h.2.0, (h.0, h.1, h.2.1))

    joins : Composes P g S P' []
    joins x r q p s h m w =
        subst (λ v. P' q (v ++ s)) (sym h.1)
        (w.0, subst (λ v. IsPath n t v 0 q s) (sym (some_inj m) ∙ h.0) (walk_path n t 0 [] r s q w.1), tt)

    divides : Divides P g S P' []
    divides q key h =
        (start, start, [], key, (refl, refl), refl, (h.0, path_walk n t 0 [] start key 0 q refl h.1), refl, apart)
      where
        apart :
            (y r' : ℕ) (other : List ℕ) → P y other → g y ≡ Some r' → Begins other [] → ⊥
        apart y r' [] k m b = nil_cons b.2
        apart y r' (z ∷ other) k m b = nil_cons b.2
