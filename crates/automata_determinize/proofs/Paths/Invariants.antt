-- What a powerset state of the pass means before its looks are decided.
use Rattle.std.proofs.Common.{ℕ, zero, suc, ◌≡◌, ◌<◌, ◌≤◌, List, [], ◌∷◌, ◌⊎◌, length, Option, Some, None, inl, inr}
use Rattle.std.proofs.Common.{refl, sym, ap, ◌∙◌, subst, arith, ⊎_elim, eq-or-lt_of_le, le_of_suc-le-suc}
use Rattle.automata_base.specs.Paths.Order.{Before, Upto}
use Rattle.automata_base.specs.Lists.{IsListOf, cons_some, pick, From}
use Rattle.std.specs.Prelude.{slice_get}
use Rattle.automata_base.specs.Nfas.Nfa.{Nfa, accepts, ends, takes}
use Rattle.automata_base.specs.Paths.Paths.{IsPathAt, Tape, IsPath, truth, prev, next, next_in, KeepsCycles}
use Rattle.automata_base.specs.declared.util.search.MatchKind.{MatchKind}
use Rattle.automata_base.specs.declared.util.search.MatchKind.TheVariants.{All, LeftmostFirst}
use Rattle.automata_base.specs.Powersets.Cuts.{cut, cut_for, IsOnce, targets}
use Rattle.automata_determinize.specs.Powersets.Passes.{IsTape, IsClosureOf, IsDecided, IsSuccessor, IsStart, IsPass}
use Rattle.automata_base.specs.Powersets.Powerset.{Powerset}
use Rattle.automata_base.specs.Paths.Selections.{Accepts, IsFirstAt, ArePatternsAt, ReportsLeast}
use Rattle.automata_determinize.specs.Paths.Selections.{Reports}
use Rattle.automata_base.specs.Paths.Selections.{ReportsNoneAt}
use Rattle.automata_determinize.proofs.Paths.Orders.{before_total, before_upto}
use Rattle.automata_base.proofs.Paths.Orders.{before_trans}
use Rattle.automata_base.proofs.Paths.Places.{path_end}
use Rattle.automata_determinize.proofs.Paths.Places.{accepts_ends}
use Rattle.automata_base.proofs.Paths.Sift.{same}
use Rattle.automata_base.proofs.Paths.Staying.{Ending}
use Rattle.automata_determinize.proofs.Paths.Steps.{EndsWithin, Within, IsPast, step, first}
use Rattle.automata_determinize.proofs.Paths.Cuts.{front, leader, no_leader, no_leader_in, led, Led}
use Rattle.automata_determinize.proofs.Paths.Readings.{targets_all, targets_cut, patterns_all, patterns_cut, reported}
use Rattle.automata_determinize.proofs.Paths.Readings.{once_is_none, once_is_one, patterns_of}
use Rattle.automata_determinize.proofs.Paths.Decisions.{decides}

-- Inside the span the next unit is a byte.
pub next_byte :
    (bytes : List ℕ) (after : Option ℕ) (i : ℕ) → i < length bytes → (u : ℕ) × (slice_get bytes i ≡ Some u)
    × (next_in bytes after i ≡ Some u)
next_byte [] after i h = absurd (omega (arith, h))
next_byte (u ∷ us) after zero h = (u, refl, refl)
next_byte (u ∷ us) after (suc i) h = next_byte us after i (omega (arith, h))

abbrev pub W_at : Nfa → Tape → ℕ → ℕ → List ℕ → ℕ → Type 0
W_at n t i root path q = IsPathAt n (truth n t i) [] root path q

-- The bound is the path of the least match that ends before position `i`.
abbrev pub IsBest : Nfa → Tape → ℕ → Option (List ℕ) → ℕ → Type 0
IsBest n t start None i =
    (j pattern : ℕ) (path : List ℕ) → j < i → Accepts n t start j pattern path → ⊥
IsBest n t start (Some a) i =
    (j pattern : ℕ) × (j < i) × Accepts n t start j pattern a
    × ((j' other : ℕ) (path : List ℕ) → j' < i → Accepts n t start j' other path → Upto a path)

abbrev pub IsBestFor : MatchKind → Nfa → Tape → ℕ → Option (List ℕ) → ℕ → Type 0
IsBestFor All n t start best i = best ≡ None
IsBestFor LeftmostFirst n t start best i = IsBest n t start best i

-- The state was made from roots from which the walks at position `i`, under the looks that hold there, are the paths to
-- position `i` within the bound.
abbrev pub Means : MatchKind → Nfa → Tape → ℕ → ℕ → Powerset → Type 0
Means kind n t start i Q =
    (best : Option (List ℕ)) × (patterns roots : List ℕ) × IsClosureOf n patterns roots (prev t i) Q
    × IsBestFor kind n t start best i
    × ((xs : List ℕ) → IsListOf (Ending n (From (W_at n t i) roots)) xs → IsListOf (EndsWithin n t start best i) xs)

pub means_start :
    (kind : MatchKind) (n : Nfa) (t : Tape) (start : ℕ) (Q : Powerset) → IsStart n start t.before Q
    → Means kind n t start 0 Q
means_start kind n t start Q h = (None, [], start ∷ [], h, best kind, λ xs l. first n t start xs l)
  where
    best : (kind : MatchKind) → IsBestFor kind n t start None 0
    best All = refl
    best LeftmostFirst = λ j pattern path l a. omega (arith, l)

-- The decided list has the byte and match states of the paths within the bound.
pub means_decided :
    (kind : MatchKind) (n : Nfa) (t : Tape) (start i : ℕ) (Q : Powerset) (L : List ℕ)
    → KeepsCycles n → IsTape t → (m : Means kind n t start i Q) → IsDecided n Q (next t i) L
    → IsListOf (EndsWithin n t start m.0 i) (pick (ends n) L)
means_decided kind n t start i Q L free tape_of m d =
    m.5 (pick (ends n) L)
    (decides n m.3.truth m.1 m.2 m.3.list (prev t i) (next t i) Q L free (tape_of i) m.3.known m.3.closure m.3.made d)

-- What leftmost-first keeps of a decided list whose first match state is `o`, and the next bound.
abbrev pub After : Nfa → Tape → ℕ → ℕ → List ℕ → Option ℕ → Type 0
After n t start i N o =
    (best : Option (List ℕ)) × IsListOf (EndsWithin n t start best i) (front n N) × IsBest n t start best (suc i)
    × IsPast n t start best i × IsFirstAt n t start i (reported n o)

up_to_here : (j i : ℕ) → j < suc i → (j < i) ⊎ (j ≡ i)
up_to_here j i l = ⊎_elim (λ (e : j ≡ i). inr e) (λ (k : j < i). inl k) (eq-or-lt_of_le (le_of_suc-le-suc l))

-- If the list has no match state, no accepting path to position `i` is within the bound.
none_within :
    (n : Nfa) (t : Tape) (start i : ℕ) (best : Option (List ℕ)) (N : List ℕ) (pattern : ℕ) (path : List ℕ)
    → IsListOf (EndsWithin n t start best i) N → leader n N ≡ None
    → Accepts n t start i pattern path → Within best path → ⊥
none_within n t start i best N pattern path l e a w =
    no_leader_in n N a.0 pattern e (l.0 a.0 path (accepts_ends n a.0 pattern a.2, a.1, w)) a.2

after_none :
    (n : Nfa) (t : Tape) (start i : ℕ) (best : Option (List ℕ)) (N : List ℕ)
    → IsListOf (EndsWithin n t start best i) N → IsBest n t start best i → leader n N ≡ None → After n t start i N None
after_none n t start i None N l b e = (
  None,
  subst (λ v. IsListOf (EndsWithin n t start None i) v) (sym (no_leader n N e)) l,
  later,
  tt,
  ReportsNoneAt refl (λ pattern path a. absurd (none_within n t start i None N pattern path l e a tt)),
)
  where
    later : (j pattern : ℕ) (path : List ℕ) → j < suc i → Accepts n t start j pattern path → ⊥
    later j pattern path k a = ⊎_elim
        (λ (k : j < i). b j pattern path k a)
        (λ (s : j ≡ i). none_within n t start i None N pattern path l e
        (subst (λ v. Accepts n t start v pattern path) s a) tt)
        (up_to_here j i k)
after_none n t start i (Some a) N l b e = (
  Some a,
  subst (λ v. IsListOf (EndsWithin n t start (Some a) i) v) (sym (no_leader n N e)) l,
  (b.0, b.1, omega (arith, b.2), b.3, least),
  (b.0, b.3.0, b.1, b.3.1, b.3.2, omega (arith, b.2)),
  ReportsNoneAt refl (λ pattern path k. record {
    place = b.0;
    pattern = b.1;
    less = a;
    earlier = b.2;
    accepted = b.3;
    before = strictly pattern path k (here pattern path k);
  }),
)
  where
    here : (pattern : ℕ) (path : List ℕ) → Accepts n t start i pattern path → Upto a path
    here pattern path k = ⊎_elim
        (λ (w : Before path a). absurd (none_within n t start i (Some a) N pattern path l e k w))
        (λ (u : Upto a path). u) (before_total path a)

    strictly : (pattern : ℕ) (path : List ℕ) → Accepts n t start i pattern path → Upto a path → Before a path
    strictly pattern path k (inr u) = u
    strictly pattern path k (inl s) =
        let f : (b.0 ≡ i) × (b.3.0 ≡ k.0) =
        path_end n t 0 [] start path b.0 b.3.0 i k.0 (subst (λ v. IsPath n t start b.0 b.3.0 v) s b.3.1) k.1 in
        absurd (omega (arith, f.0, b.2))

    least : (j other : ℕ) (path : List ℕ) → j < suc i → Accepts n t start j other path → Upto a path
    least j other path k c = ⊎_elim
        (λ (k : j < i). b.4 j other path k c)
        (λ (s : j ≡ i). here other path (subst (λ v. Accepts n t start v other path) s c))
        (up_to_here j i k)

-- What the bound of the previous positions implies for a path within it.
abbrev pub Beats : Nfa → Tape → ℕ → ℕ → Option (List ℕ) → List ℕ → Type 0
Beats n t start i best a =
    ((j other : ℕ) (path : List ℕ) → j < i → Accepts n t start j other path → Before a path)
    × ((path : List ℕ) → Within best path ⊎ Before a path) × ((key : List ℕ) → Before key a → Within best key)

beats :
    (n : Nfa) (t : Tape) (start i : ℕ) (best : Option (List ℕ)) (a : List ℕ)
    → IsBest n t start best i → Within best a → Beats n t start i best a
beats n t start i None a b w = (λ j other path l c. absurd (b j other path l c), λ path. inl tt, λ key k. tt)
beats n t start i (Some b0) a b w =
    (λ j other path l c. before_upto a b0 path w (b.4 j other path l c), split, λ key k. before_trans key a b0 k w)
  where
    split : (path : List ℕ) → Before path b0 ⊎ Before a path
    split path =
        ⊎_elim (λ (k : Before path b0). inl k) (λ (k : Upto b0 path). inr (before_upto a b0 path w k))
        (before_total path b0)

after_some :
    (n : Nfa) (t : Tape) (start i : ℕ) (best : Option (List ℕ)) (N : List ℕ) (m : ℕ)
    → IsListOf (EndsWithin n t start best i) N → IsBest n t start best i → leader n N ≡ Some m
    → After n t start i N (Some m)
after_some n t start i best N m l b e = (
  Some a,
  same (λ q key. P q key × Before key a) (EndsWithin n t start (Some a) i) (front n N) there back w.4,
  (i, w.2.0, omega arith, mine, least),
  (i, m, w.2.0, w.1.1, w.2.1, omega arith),
  ReportsLeast w.2.0 a (ap (λ o. cons_some o []) w.2.1) (record { accepted = mine; least = here; first = k.0 }),
)
  where
    P : ℕ → List ℕ → Type 0
    P = EndsWithin n t start best i

    w : Led n P N m
    w = led n P N m l e

    a : List ℕ
    a = w.0

    k : Beats n t start i best w.0
    k = beats n t start i best w.0 b w.1.2

    mine : Accepts n t start i w.2.0 w.0
    mine = (m, w.1.1, w.2.1)

    there : (q : ℕ) (key : List ℕ) → P q key × Before key w.0 → EndsWithin n t start (Some w.0) i q key
    there q key h = (h.0.0, h.0.1, h.1)

    back : (q : ℕ) (key : List ℕ) → EndsWithin n t start (Some w.0) i q key → P q key × Before key w.0
    back q key h = ((h.0, h.1, k.2 key h.2), h.2)

    here : (other : ℕ) (more : List ℕ) → Accepts n t start i other more → Upto w.0 more
    here other more c = ⊎_elim
        (λ (h : Within best more). w.3 c.0 other more c.2 (accepts_ends n c.0 other c.2, c.1, h))
        (λ (h : Before w.0 more). inr h) (k.1 more)

    least : (j other : ℕ) (path : List ℕ) → j < suc i → Accepts n t start j other path → Upto w.0 path
    least j other path l c = ⊎_elim
        (λ (l : j < i). inr (k.0 j other path l c))
        (λ (s : j ≡ i). here other path (subst (λ v. Accepts n t start v other path) s c))
        (up_to_here j i l)

after :
    (n : Nfa) (t : Tape) (start i : ℕ) (best : Option (List ℕ)) (N : List ℕ)
    → IsListOf (EndsWithin n t start best i) N → IsBest n t start best i → After n t start i N (leader n N)
after n t start i best N l b = go (leader n N) refl
  where
    go : (o : Option ℕ) → leader n N ≡ o → After n t start i N o
    go None e = after_none n t start i best N l b e
    go (Some m) e = after_some n t start i best N m l b e

-- The roots and the bound with which the next position begins.
abbrev pub Onward : MatchKind → Nfa → Tape → ℕ → ℕ → List ℕ → ℕ → Type 0
Onward kind n t start i L u =
    (best : Option (List ℕ)) × IsBestFor kind n t start best (suc i)
    × ((xs : List ℕ)
    → IsListOf (Ending n (From (W_at n t (suc i)) (pick (λ b. takes n b u) (cut_for kind n L)))) xs
    → IsListOf (EndsWithin n t start best (suc i)) xs)

onward :
    (kind : MatchKind) (n : Nfa) (t : Tape) (start i : ℕ) (L : List ℕ) (u : ℕ) (best : Option (List ℕ))
    → slice_get t.bytes i ≡ Some u → IsBestFor kind n t start best i
    → IsListOf (EndsWithin n t start best i) (pick (ends n) L) → Onward kind n t start i L u
onward All n t start i L u best byte b l = (None, refl, on)
  where
    g : ℕ → Option ℕ
    g b = takes n b u

    on :
        (xs : List ℕ) → IsListOf (Ending n (From (W_at n t (suc i)) (pick g L))) xs
        → IsListOf (EndsWithin n t start None (suc i)) xs
    on xs h =
        step n t start i u None (pick (ends n) L) xs byte tt
        (subst (λ v. IsListOf (EndsWithin n t start v i) (pick (ends n) L)) b l)
        (subst (λ v. IsListOf (Ending n (From (W_at n t (suc i)) v)) xs) (targets_all n u L) h)
onward LeftmostFirst n t start i L u best byte b l = (a.0, a.2, on)
  where
    g : ℕ → Option ℕ
    g b = takes n b u

    N : List ℕ
    N = pick (ends n) L

    a : After n t start i N (leader n N)
    a = after n t start i best N l b

    on :
        (xs : List ℕ) → IsListOf (Ending n (From (W_at n t (suc i)) (pick g (cut n L)))) xs
        → IsListOf (EndsWithin n t start a.0 (suc i)) xs
    on xs h =
        step n t start i u a.0 (front n N) xs byte a.3 a.1
        (subst (λ v. IsListOf (Ending n (From (W_at n t (suc i)) v)) xs) (targets_cut n u L) h)

pub means_succ :
    (kind : MatchKind) (n : Nfa) (t : Tape) (start i : ℕ) (P Q : Powerset)
    → KeepsCycles n → IsTape t → i < length t.bytes → Means kind n t start i P → IsSuccessor n kind P (next t i) Q
    → Means kind n t start (suc i) Q
means_succ kind n t start i P Q free tape_of inside m s = go (next_byte t.bytes t.after i inside)
  where
    L : List ℕ
    L = s.0

    go : (u : ℕ) × (slice_get t.bytes i ≡ Some u) × (next t i ≡ Some u) → Means kind n t start (suc i) Q
    go b = (w.0, s.1, pick (λ v. takes n v b.0) (cut_for kind n s.0), arrival, w.1, w.2)
      where
        w : Onward kind n t start i s.0 b.0
        w = onward kind n t start i s.0 b.0 m.0 b.1 m.4 (means_decided kind n t start i P s.0 free tape_of m s.2)

        arrival : IsClosureOf n s.1 (pick (λ v. takes n v b.0) (cut_for kind n s.0)) (slice_get t.bytes i) Q
        arrival =
            subst (λ v. IsClosureOf n s.1 (pick (λ v. takes n v b.0) (cut_for kind n s.0)) v Q) (sym b.1)
            (subst (λ v. IsClosureOf n s.1 (targets n v (cut_for kind n s.0)) v Q) b.2 s.4)

pub means_reports :
    (kind : MatchKind) (n : Nfa) (t : Tape) (start i : ℕ) (P Q : Powerset)
    → KeepsCycles n → IsTape t → Means kind n t start i P → IsSuccessor n kind P (next t i) Q
    → ArePatternsAt kind n t start i Q.patterns
means_reports kind n t start i P Q free tape_of m s =
    subst (λ v. ArePatternsAt kind n t start i v) (sym s.4.made.patterns)
    (go kind m.0 m.4 (means_decided kind n t start i P s.0 free tape_of m s.2) s.3)
  where
    go :
        (kind : MatchKind) (best : Option (List ℕ)) → IsBestFor kind n t start best i
        → IsListOf (EndsWithin n t start best i) (pick (ends n) s.0)
        → IsOnce (pick (accepts n) (cut_for kind n s.0)) s.1 → ArePatternsAt kind n t start i s.1
    go All best b l o =
        patterns_of n t start i (pick (ends n) s.0) s.1
        (subst (λ v. IsListOf (EndsWithin n t start v i) (pick (ends n) s.0)) b l)
        (subst (λ v. IsOnce v s.1) (patterns_all n s.0) o)
    go LeftmostFirst best b l o = reported_as (after n t start i best (pick (ends n) s.0) l b).4
      where
        reported_as : IsFirstAt n t start i (reported n (leader n (pick (ends n) s.0))) → IsFirstAt n t start i s.1
        reported_as (ReportsNoneAt none h) =
            ReportsNoneAt (once_is_none (pick (accepts n) (cut n s.0)) s.1 (patterns_cut n s.0 ∙ none) o) h
        reported_as (ReportsLeast p path one h) =
            ReportsLeast p path (once_is_one (pick (accepts n) (cut n s.0)) s.1 p (patterns_cut n s.0 ∙ one) o) h

pub pass_means :
    (kind : MatchKind) (n : Nfa) (t : Tape) (start k : ℕ) (Q : Powerset)
    → KeepsCycles n → IsTape t → k ≤ length t.bytes → IsPass n kind start t k Q → Means kind n t start k Q
pass_means kind n t start zero Q free tape_of l p = means_start kind n t start Q p
pass_means kind n t start (suc k) Q free tape_of l p =
    means_succ kind n t start k p.0 Q free tape_of l
    (pass_means kind n t start k p.0 free tape_of (omega (arith, l)) p.1) p.2

-- What the pass reports at a position is what the paths define.
pub pass_reports :
    (kind : MatchKind) (n : Nfa) (t : Tape) (start i : ℕ) (patterns : List ℕ)
    → KeepsCycles n → IsTape t → i ≤ length t.bytes → Reports kind n t start i patterns
    → ArePatternsAt kind n t start i patterns
pass_reports kind n t start i patterns free tape_of l p =
    subst (λ v. ArePatternsAt kind n t start i v) p.2
    (means_reports kind n t start i p.1.0 p.0 free tape_of (pass_means kind n t start i p.1.0 free tape_of l p.1.1)
    p.1.2)
