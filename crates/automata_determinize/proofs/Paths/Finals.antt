-- The computed search returns what the paths define.
use Rattle.std.proofs.Common.{ℕ, zero, suc, ◌≡◌, ◌<◌, ◌≤◌, Bool, true, false, List, [], ◌∷◌, ◌⊎◌, length, Option, Some}
use Rattle.std.proofs.Common.{None, refl, sym, subst, arith, ⊎_elim, eq-or-lt_of_le, le_of_suc-le-suc}
use Rattle.automata_base.specs.Lists.{IsSet}
use Rattle.automata_base.specs.Nfas.Nfa.{Nfa}
use Rattle.automata_base.specs.Paths.Paths.{Tape, KeepsCycles}
use Rattle.automata_base.specs.declared.util.search.MatchKind.{MatchKind}
use Rattle.automata_base.specs.declared.util.search.MatchKind.TheVariants.{All}
use Rattle.automata_base.specs.Paths.Selections.{Accepts, Pair, IsNearest, IsFarthest, Pairs, Selects}
use Rattle.automata_determinize.specs.Paths.Selections.{Reports}
use Rattle.automata_base.specs.Paths.Selections.{IsOverlappingOn}
use Rattle.automata_determinize.specs.Retraced.Passes.{earlier_or, first_among, last_among, pair_at, pairs_upto}
use Rattle.automata_determinize.specs.Retraced.Passes.{reported_of}
use Rattle.automata_determinize.specs.Retraced.Passes.{search_of}
use Rattle.automata_base.specs.Nfas.Accepted.{IsInRange}
use Rattle.automata_determinize.specs.Powersets.Passes.{IsTape}
use Rattle.automata_determinize.proofs.Paths.Searches.{sel_right, walk_right}
use Rattle.automata_determinize.proofs.Paths.Sets.{nearest_right, farthest_right, pairs_right}
use Rattle.automata_determinize.proofs.Paths.Machines.{reported_right}
use Rattle.automata_determinize.proofs.Paths.Selecting.{PassSelects}

-- The last position below `k` at which something is reported.
abbrev pub IsLast : (ℕ → List ℕ → Type 0) → ℕ → Option Pair → Type 0
IsLast At k None = (i : ℕ) → i < k → At i []
IsLast At k (Some pair) =
    (rest : List ℕ) × (pair.place < k) × At pair.place (pair.pattern ∷ rest)
    × ((j : ℕ) → pair.place < j → j < k → At j [])

last_right :
    (reported : ℕ → List ℕ) (At : ℕ → List ℕ → Type 0) (k : ℕ) → ((i : ℕ) → At i (reported i))
    → IsLast At k (last_among reported k)
last_right reported At zero f = λ i l. absurd (omega (arith, l))
last_right reported At (suc k) f = go (reported k) (f k) (last_among reported k) (last_right reported At k f)
  where
    new : (i : ℕ) → i < suc k → (i ≡ k) ⊎ (i < k)
    new i l = eq-or-lt_of_le (le_of_suc-le-suc l)

    go : (xs : List ℕ) → At k xs → (o : Option Pair) → IsLast At k o → IsLast At (suc k) (pair_at xs k o)
    go [] a None h = λ i l. ⊎_elim (λ (e : i ≡ k). subst (λ v. At v []) (sym e) a) (λ (b : i < k). h i b) (new i l)
    go [] a (Some pair) h = (
      h.0,
      omega (arith, h.1),
      h.2,
      λ j b l. ⊎_elim (λ (e : j ≡ k). subst (λ v. At v []) (sym e) a) (λ (c : j < k). h.3 j b c) (new j l),
    )
    go (p ∷ rest) a o h = (rest, omega arith, a, λ j b l. absurd (omega (arith, b, l)))

-- The first such position.
abbrev pub IsFirst : (ℕ → List ℕ → Type 0) → ℕ → Option Pair → Type 0
IsFirst At k None = (i : ℕ) → i < k → At i []
IsFirst At k (Some pair) =
    (rest : List ℕ) × (pair.place < k) × At pair.place (pair.pattern ∷ rest) × ((j : ℕ) → j < pair.place → At j [])

first_right :
    (reported : ℕ → List ℕ) (At : ℕ → List ℕ → Type 0) (k : ℕ) → ((i : ℕ) → At i (reported i))
    → IsFirst At k (first_among reported k)
first_right reported At zero f = λ i l. absurd (omega (arith, l))
first_right reported At (suc k) f = go (first_among reported k) (first_right reported At k f) (reported k) (f k)
  where
    new : (i : ℕ) → i < suc k → (i ≡ k) ⊎ (i < k)
    new i l = eq-or-lt_of_le (le_of_suc-le-suc l)

    go :
        (o : Option Pair) → IsFirst At k o → (xs : List ℕ) → At k xs
        → IsFirst At (suc k) (earlier_or o (pair_at xs k None))
    go (Some pair) h xs a = (h.0, omega (arith, h.1), h.2, h.3)
    go None h [] a = λ i l. ⊎_elim (λ (e : i ≡ k). subst (λ v. At v []) (sym e) a) (λ (b : i < k). h i b) (new i l)
    go None h (p ∷ rest) a = (rest, omega arith, a, h)

pub pass_sel_right :
    (kind : MatchKind) (earliest : Bool) (n : Nfa) (t : Tape) (start : ℕ)
    → IsInRange n → start < length n.nodes → PassSelects kind earliest n t start (search_of kind earliest n t start)
pass_sel_right kind true n t start r l =
    go (first_among (reported_of n kind start t) (suc (length t.bytes)))
    (first_right (reported_of n kind start t) (Reports kind n t start) (suc (length t.bytes))
    (λ i. reported_right n kind start t i r l))
  where
    go :
        (o : Option Pair) → IsFirst (Reports kind n t start) (suc (length t.bytes)) o
        → PassSelects kind true n t start o
    go None h = λ i b. h i (omega (arith, b))
    go (Some pair) h = (h.0, le_of_suc-le-suc h.1, h.2, h.3)
pass_sel_right kind false n t start r l =
    go (last_among (reported_of n kind start t) (suc (length t.bytes)))
    (last_right (reported_of n kind start t) (Reports kind n t start) (suc (length t.bytes))
    (λ i. reported_right n kind start t i r l))
  where
    go :
        (o : Option Pair) → IsLast (Reports kind n t start) (suc (length t.bytes)) o
        → PassSelects kind false n t start o
    go None h = λ i b. h i (omega (arith, b))
    go (Some pair) h = (h.0, le_of_suc-le-suc h.1, h.2, λ j b c. h.3 j b (omega (arith, c)))

-- If cycles are kept, the computed search selects what the paths define.
pub search_right :
    (kind : MatchKind) (earliest : Bool) (n : Nfa) (t : Tape) (start : ℕ)
    → IsInRange n → start < length n.nodes → KeepsCycles n → IsTape t
    → Selects kind earliest n t start (search_of kind earliest n t start)
search_right kind earliest n t start r l free tape_of =
    sel_right kind earliest n t start (search_of kind earliest n t start) free tape_of
    (pass_sel_right kind earliest n t start r l)

walk_pairs :
    (kind : MatchKind) (n : Nfa) (t : Tape) (start k : ℕ)
    → IsInRange n → start < length n.nodes → Pairs (Reports kind n t start) k (pairs_upto n kind start t k)
walk_pairs kind n t start zero r l = refl
walk_pairs kind n t start (suc k) r l = record {
  earlier = pairs_upto n kind start t k;
  patterns = reported_of n kind start t k;
  before = walk_pairs kind n t start k r l;
  here = reported_right n kind start t k r l;
  joined = refl;
}

-- If cycles are kept, the computed walk reports what the paths define.
pub walked_right :
    (kind : MatchKind) (n : Nfa) (t : Tape) (start : ℕ)
    → IsInRange n → start < length n.nodes → KeepsCycles n → IsTape t
    → IsOverlappingOn kind n t start (pairs_upto n kind start t (suc (length t.bytes)))
walked_right kind n t start r l free tape_of =
    walk_right kind n t start (pairs_upto n kind start t (suc (length t.bytes))) free tape_of
    (walk_pairs kind n t start (suc (length t.bytes)) r l)

-- For every NFA, an earliest search finds the nearest end, and under `MatchKind::All` any other search finds the
-- farthest.
pub earliest_right :
    (kind : MatchKind) (n : Nfa) (t : Tape) (start : ℕ)
    → IsInRange n → start < length n.nodes → IsTape t → IsNearest n t start (search_of kind true n t start)
earliest_right kind n t start r l tape_of =
    nearest_right kind n t start (search_of kind true n t start) tape_of (pass_sel_right kind true n t start r l)

pub end_right :
    (n : Nfa) (t : Tape) (start : ℕ)
    → IsInRange n → start < length n.nodes → IsTape t → IsFarthest n t start (search_of All false n t start)
end_right n t start r l tape_of =
    farthest_right n t start (search_of All false n t start) tape_of (pass_sel_right All false n t start r l)

-- For every NFA under `MatchKind::All`, the patterns reported at a position are those of the accepting paths that end
-- there.
pub set_right :
    (n : Nfa) (t : Tape) (start i : ℕ)
    → IsInRange n → start < length n.nodes → IsTape t → i ≤ length t.bytes
    → IsSet (λ p. (path : List ℕ) × Accepts n t start i p path) (reported_of n All start t i)
set_right n t start i r l tape_of inside =
    pairs_right n t start i (reported_of n All start t i) tape_of inside (reported_right n All start t i r l)
