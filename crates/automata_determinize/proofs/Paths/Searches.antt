-- Searches and walks of the pass return what the paths define.
use Rattle.std.proofs.Common.{ℕ, zero, suc, ◌≡◌, ◌<◌, ◌≤◌, Bool, true, false, List, [], ◌∷◌, ◌⊎◌, length, Option, Some}
use Rattle.std.proofs.Common.{None, inl, inr, sym, subst, arith, ⊎_elim, eq-or-lt_of_le, le_of_suc-le-suc}
use Rattle.std.proofs.lemmas.Bool.{cases_lt}
use Rattle.automata_base.specs.Paths.Order.{Upto}
use Rattle.automata_base.specs.Lists.{In}
use Rattle.automata_base.specs.Nfas.Nfa.{Nfa}
use Rattle.automata_base.specs.Paths.Paths.{Tape, KeepsCycles}
use Rattle.automata_base.specs.declared.util.search.MatchKind.{MatchKind}
use Rattle.automata_base.specs.declared.util.search.MatchKind.TheVariants.{All, LeftmostFirst}
use Rattle.automata_base.specs.Paths.Selections.{Accepts, IsFirstAt, ArePatternsAt, Pair, Pairs}
use Rattle.automata_determinize.specs.Paths.Selections.{Reports}
use Rattle.automata_base.specs.Paths.Selections.{IsOverlappingOn}
use Rattle.automata_base.specs.Paths.Selections.{ByEdges, ByPlace, IsLeastAt, IsPreferred, ReportsLeast, ReportsNoneAt}
use Rattle.automata_base.specs.Paths.Selections.{Selects}
use Rattle.automata_base.proofs.Paths.Orders.{cons_head, nil_cons}
use Rattle.automata_determinize.proofs.Paths.Orders.{upto_before}
use Rattle.automata_determinize.specs.Powersets.Passes.{IsTape}
use Rattle.automata_determinize.proofs.Paths.Invariants.{pass_reports}
use Rattle.automata_determinize.proofs.Paths.Selecting.{PassReports, PassSelects}
use Rattle.automata_base.proofs.Paths.Searches.{accepting_inside}

pub pairs_map :
    (At At' : ℕ → List ℕ → Type 0) (k : ℕ) (pairs : List Pair)
    → ((i : ℕ) (patterns : List ℕ) → i < k → At i patterns → At' i patterns) → Pairs At k pairs → Pairs At' k pairs
pairs_map At At' zero pairs f p = p
pairs_map At At' (suc k) pairs f p = record {
  earlier = p.earlier;
  patterns = p.patterns;
  before = pairs_map At At' k p.earlier (λ i patterns l. f i patterns (omega (arith, l))) p.before;
  here = f k p.patterns (omega arith) p.here;
  joined = p.joined;
}

-- The whole list of a walk.
pub walk_right :
    (kind : MatchKind) (n : Nfa) (t : Tape) (start : ℕ) (pairs : List Pair)
    → KeepsCycles n → IsTape t → PassReports kind n t start pairs → IsOverlappingOn kind n t start pairs
walk_right kind n t start pairs free tape_of p =
    pairs_map (Reports kind n t start) (ArePatternsAt kind n t start) (suc (length t.bytes)) pairs
    (λ i patterns l. pass_reports kind n t start i patterns free tape_of (le_of_suc-le-suc l)) p

-- No accepting path ends before the first position at which something is reported.
pub none_before :
    (kind : MatchKind) (n : Nfa) (t : Tape) (start k : ℕ)
    → ((j : ℕ) → j < k → ArePatternsAt kind n t start j [])
    → (j pattern : ℕ) (path : List ℕ) → j < k → Accepts n t start j pattern path → ⊥
none_before All n t start k f j pattern path l a = (f j l).0 pattern path a
none_before LeftmostFirst n t start zero f j pattern path l a = omega (arith, l)
none_before LeftmostFirst n t start (suc k) f j pattern path l a =
    go (f j l) (none_before LeftmostFirst n t start k (λ j l. f j (omega (arith, l))))
  where
    go : IsFirstAt n t start j [] → ((j pattern : ℕ) (path : List ℕ) → j < k → Accepts n t start j pattern path → ⊥) → ⊥
    go (ReportsNoneAt none h) ih =
        let w = h pattern path a in ih w.place w.pattern w.less (omega (arith, l, w.earlier)) w.accepted
    go (ReportsLeast p q one h) ih = nil_cons one

-- The first pattern reported at a position is the pattern of the least path there.
pub head_least :
    (kind : MatchKind) (n : Nfa) (t : Tape) (start i p : ℕ) (rest : List ℕ)
    → ArePatternsAt kind n t start i (p ∷ rest)
    → (path : List ℕ) × Accepts n t start i p path
    × ((other : ℕ) (more : List ℕ) → Accepts n t start i other more → Upto path more)
head_least All n t start i p rest h = (h.1.0.key, h.1.0.has, least)
  where
    least : (other : ℕ) (more : List ℕ) → Accepts n t start i other more → Upto h.1.0.key more
    least other more a = ⊎_elim
        (λ (e : other ≡ p). h.1.0.least more (subst (λ v. Accepts n t start i v more) e a))
        (λ (k : In other rest). inr (h.1.0.before other more k a))
        (h.0 other more a)
head_least LeftmostFirst n t start i p rest (ReportsNoneAt none h) = absurd (nil_cons (sym none))
head_least LeftmostFirst n t start i p rest (ReportsLeast q path one h) =
    (path, subst (λ v. Accepts n t start i v path) (sym (cons_head one)) h.accepted, h.least)

three : (i j : ℕ) → (i < j) ⊎ ((i ≡ j) ⊎ (j < i))
three i j = ⊎_elim (λ (l : i < j). inl l)
    (λ (l : j ≤ i). ⊎_elim (λ (e : j ≡ i). inr (inl (sym e))) (λ (k : j < i). inr (inr k)) (eq-or-lt_of_le l))
    (cases_lt i j)

pub sel_none :
    (kind : MatchKind) (earliest : Bool) (n : Nfa) (t : Tape) (start : ℕ)
    → ((i : ℕ) → i ≤ length t.bytes → ArePatternsAt kind n t start i []) → Selects kind earliest n t start None
sel_none kind earliest n t start f i pattern path a =
    none_before kind n t start (suc (length t.bytes)) (λ j l. f j (le_of_suc-le-suc l)) i pattern path
    (let k = accepting_inside n t start i pattern path a in omega (arith, k)) a

pub sel_earliest :
    (kind : MatchKind) (n : Nfa) (t : Tape) (start : ℕ) (pair : Pair) (rest : List ℕ)
    → ArePatternsAt kind n t start pair.place (pair.pattern ∷ rest)
    → ((j : ℕ) → j < pair.place → ArePatternsAt kind n t start j [])
    → Selects kind true n t start (Some pair)
sel_earliest kind n t start pair rest here f = (w.0, w.1, chosen)
  where
    w : (path : List ℕ) × Accepts n t start pair.place pair.pattern path
        × ((other : ℕ) (more : List ℕ) → Accepts n t start pair.place other more → Upto path more)
    w = head_least kind n t start pair.place pair.pattern rest here

    chosen :
        (j pattern : ℕ) (other : List ℕ) → Accepts n t start j pattern other
        → IsPreferred (pair.place < j) pair.place w.0 j other
    chosen j pattern other a = go (three pair.place j)
      where
        go :
            (pair.place < j) ⊎ ((pair.place ≡ j) ⊎ (j < pair.place))
            → IsPreferred (pair.place < j) pair.place w.0 j other
        go (inl l) = ByPlace l
        go (inr (inl e)) = ByEdges e (w.2 pattern other (subst (λ v. Accepts n t start v pattern other) (sym e) a))
        go (inr (inr l)) = absurd (none_before kind n t start pair.place f j pattern other l a)

pub sel_all :
    (n : Nfa) (t : Tape) (start : ℕ) (pair : Pair) (rest : List ℕ)
    → ArePatternsAt All n t start pair.place (pair.pattern ∷ rest)
    → ((j : ℕ) → pair.place < j → j ≤ length t.bytes → ArePatternsAt All n t start j [])
    → Selects All false n t start (Some pair)
sel_all n t start pair rest here f = (w.0, w.1, chosen)
  where
    w : (path : List ℕ) × Accepts n t start pair.place pair.pattern path
        × ((other : ℕ) (more : List ℕ) → Accepts n t start pair.place other more → Upto path more)
    w = head_least All n t start pair.place pair.pattern rest here

    chosen :
        (j pattern : ℕ) (other : List ℕ) → Accepts n t start j pattern other
        → IsPreferred (j < pair.place) pair.place w.0 j other
    chosen j pattern other a = go (three pair.place j)
      where
        go :
            (pair.place < j) ⊎ ((pair.place ≡ j) ⊎ (j < pair.place))
            → IsPreferred (j < pair.place) pair.place w.0 j other
        go (inl l) = absurd ((f j l (accepting_inside n t start j pattern other a)).0 pattern other a)
        go (inr (inl e)) = ByEdges e (w.2 pattern other (subst (λ v. Accepts n t start v pattern other) (sym e) a))
        go (inr (inr l)) = ByPlace l

-- If nothing is reported after `place`, the least path there is not after any accepting path.
upto :
    (n : Nfa) (t : Tape) (start place pattern : ℕ) (path : List ℕ)
    → ((j : ℕ) → place < j → j ≤ length t.bytes → ArePatternsAt LeftmostFirst n t start j [])
    → IsLeastAt n t start place pattern path
    → (k j p : ℕ) (other : List ℕ) → j < k → Accepts n t start j p other → Upto path other
upto n t start place pattern path f h zero j p other l a = absurd (omega (arith, l))
upto n t start place pattern path f h (suc k) j p other l a =
    go (three place j) (upto n t start place pattern path f h k)
  where
    go :
        (place < j) ⊎ ((place ≡ j) ⊎ (j < place))
        → ((j p : ℕ) (other : List ℕ) → j < k → Accepts n t start j p other → Upto path other)
        → Upto path other
    go (inr (inl e)) ih = h.least p other (subst (λ v. Accepts n t start v p other) (sym e) a)
    go (inr (inr b)) ih = inr (h.first j p other b a)
    go (inl b) ih = beyond (f j b (accepting_inside n t start j p other a))
      where
        beyond : IsFirstAt n t start j [] → Upto path other
        beyond (ReportsNoneAt none g) =
            let w = g p other a in
            inr (upto_before path w.less other (ih w.place w.pattern w.less (omega (arith, w.earlier, l)) w.accepted)
            w.before)
        beyond (ReportsLeast q least one g) = absurd (nil_cons one)

pub sel_first :
    (n : Nfa) (t : Tape) (start : ℕ) (pair : Pair) (rest : List ℕ)
    → ArePatternsAt LeftmostFirst n t start pair.place (pair.pattern ∷ rest)
    → ((j : ℕ) → pair.place < j → j ≤ length t.bytes → ArePatternsAt LeftmostFirst n t start j [])
    → Selects LeftmostFirst false n t start (Some pair)
sel_first n t start pair rest (ReportsNoneAt none h) f = absurd (nil_cons (sym none))
sel_first n t start pair rest (ReportsLeast p path one h) f = (
  path,
  subst (λ v. Accepts n t start pair.place v path) (sym (cons_head one)) h.accepted,
  λ j pattern other a. upto n t start pair.place p path f h (suc (length t.bytes)) j pattern other
      (let k = accepting_inside n t start j pattern other a in omega (arith, k)) a,
)

-- A search selects what the paths define.
pub sel_right :
    (kind : MatchKind) (earliest : Bool) (n : Nfa) (t : Tape) (start : ℕ) (answer : Option Pair)
    → KeepsCycles n → IsTape t → PassSelects kind earliest n t start answer → Selects kind earliest n t start answer
sel_right kind earliest n t start None free tape_of p =
    sel_none kind earliest n t start (λ i l. pass_reports kind n t start i [] free tape_of l (p i l))
sel_right kind true n t start (Some pair) free tape_of p =
    sel_earliest kind n t start pair p.0
    (pass_reports kind n t start pair.place (pair.pattern ∷ p.0) free tape_of p.1 p.2)
    (λ j l. pass_reports kind n t start j [] free tape_of (omega (arith, l, p.1)) (p.3 j l))
sel_right All false n t start (Some pair) free tape_of p =
    sel_all n t start pair p.0
    (pass_reports All n t start pair.place (pair.pattern ∷ p.0) free tape_of p.1 p.2)
    (λ j b l. pass_reports All n t start j [] free tape_of l (p.3 j b l))
sel_right LeftmostFirst false n t start (Some pair) free tape_of p =
    sel_first n t start pair p.0
    (pass_reports LeftmostFirst n t start pair.place (pair.pattern ∷ p.0) free tape_of p.1 p.2)
    (λ j b l. pass_reports LeftmostFirst n t start j [] free tape_of l (p.3 j b l))
