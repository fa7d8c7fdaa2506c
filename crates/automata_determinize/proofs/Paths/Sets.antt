-- What holds whatever the cycles: which states are reached.
use Rattle.std.proofs.Common.{ℕ, zero, suc, ◌≡◌, ◌<◌, ◌≤◌, true, false, List, [], ◌∷◌, ◌++◌, ◌⊎◌, ◌↔◌, length, Option}
use Rattle.std.proofs.Common.{Some, None, inl, inr, refl, sym, ap, ◌∙◌, subst, arith, eq-or-lt_of_le}
use Rattle.std.proofs.Common.{le_of_suc-le-suc}
use Rattle.automata_base.specs.Lists.{In, IsSet, IsListOf, cons_some, pick, From}
use Rattle.std.specs.Prelude.{slice_get}
use Rattle.automata_base.specs.declared.util.look.Look.{Look}
use Rattle.automata_base.specs.Nfas.Nfa.{Nfa, Truth, node, takes, accepts, keep, keeps, ends, ends_at}
use Rattle.automata_base.specs.Paths.Paths.{IsPathAt, Tape, IsPath, truth, prev, next, IsClosure}
use Rattle.automata_base.specs.declared.util.search.MatchKind.{MatchKind}
use Rattle.automata_base.specs.declared.util.search.MatchKind.TheVariants.{All, LeftmostFirst}
use Rattle.automata_base.specs.Powersets.Cuts.{cut, cut_for, IsOnce, targets}
use Rattle.automata_determinize.specs.Powersets.Passes.{IsUnit, IsTape, IsKnownLook, IsMake, IsClosureOf, IsDecided}
use Rattle.automata_determinize.specs.Powersets.Passes.{HasNews, HasNoNews}
use Rattle.automata_determinize.specs.Powersets.Passes.{IsSuccessor, IsPass}
use Rattle.automata_base.specs.Powersets.Powerset.{Powerset}
use Rattle.automata_base.specs.Paths.Selections.{Accepts, IsNearest, IsFarthest, Pair}
use Rattle.automata_determinize.specs.Paths.Selections.{Reports}
use Rattle.automata_base.proofs.Paths.Orders.{some_inj, none_some, nil_cons, cons_head}
use Rattle.automata_base.proofs.Paths.Walks.{walk_more}
use Rattle.automata_base.proofs.Paths.Places.{path_extend, walk_path}
use Rattle.automata_determinize.proofs.Paths.Places.{last_place, path_walk, accepts_ends}
use Rattle.automata_determinize.proofs.Paths.Compose.{in_pick}
use Rattle.automata_base.proofs.Paths.Sift.{picked_in, in_picked}
use Rattle.automata_base.proofs.Paths.Staying.{Ending, keep_sieve, ends_sieve, kept_at, keep_true, stays_kept}
use Rattle.automata_determinize.proofs.Paths.Late.{FirstKept, first_kept}
use Rattle.automata_determinize.proofs.Paths.Steps.{takes_ends}
use Rattle.automata_determinize.proofs.Paths.Cuts.{leader, no_leader, no_leader_in, leader_in, leader_accepts}
use Rattle.automata_base.proofs.Paths.Readings.{sorted_has}
use Rattle.automata_determinize.proofs.Paths.Readings.{targets_all, targets_cut, patterns_all, patterns_cut}
use Rattle.automata_determinize.proofs.Paths.Readings.{reported}
use Rattle.automata_determinize.proofs.Paths.Readings.{once_is_none, once_is_one}
use Rattle.automata_determinize.proofs.Paths.Decisions.{decides_known, news_closure, truth_between}
use Rattle.automata_determinize.proofs.Paths.Invariants.{next_byte}
use Rattle.automata_base.proofs.Paths.Searches.{accepting_inside}
use Rattle.automata_base.proofs.Paths.Included.{Includes}
use Rattle.automata_determinize.proofs.Paths.Selecting.{PassSelects}
use Rattle.automata_base.proofs.Paths.Sets.{HasWalk, walk_then, nth_in, in_nth}

-- The state is reached from one of the roots.
abbrev pub Reached : Nfa → Truth → List ℕ → ℕ → Type 0
Reached n A roots q = (key : List ℕ) × From (λ root path z. IsPathAt n A [] root path z) roots q key

-- Whatever the cycles, a decided list has exactly the byte and match states that are reached under the looks that hold.
pub decides_set :
    (n : Nfa) (K : Truth) (patterns roots C : List ℕ) (prev u : Option ℕ) (Q : Powerset) (L : List ℕ)
    → IsUnit u
    → ((look : Look) → (K look ≡ true) ↔ IsKnownLook n prev look)
    → IsClosure n K roots C → IsMake n patterns C prev Q → IsDecided n Q u L
    → IsSet (λ q. (ends n q ≡ Some q) × Reached n (truth_between n prev u) roots q) (pick (ends n) L)
decides_set n K patterns roots C prev u Q L unit known c make (HasNoNews quiet same) = (
  λ q i. let k = sorted_has (Ending n (From W roots)) (pick (ends n) L) q l.1 i in (k.1.0, (k.0, k.1.1)),
  λ q r. l.0 q r.1.0 (r.0, r.1.1),
)
  where
    W : ℕ → List ℕ → ℕ → Type 0
    W root path z = IsPathAt n (truth_between n prev u) [] root path z

    l : IsListOf (Ending n (From W roots)) (pick (ends n) L)
    l =
        subst (λ v. IsListOf (Ending n (From W roots)) (pick (ends n) v)) (sym same)
        (decides_known n K patterns roots C prev u Q unit known c make quiet)
decides_set n K patterns roots C prev u Q L unit known c make (HasNews news h) = (from_list, to_list)
  where
    T : Truth
    T = truth_between n prev u

    W : Truth → ℕ → List ℕ → ℕ → Type 0
    W A root path z = IsPathAt n A [] root path z

    l : IsClosure n T (pick (keep n) C) L
    l = news_closure n patterns C prev u Q L unit make news h

    more : Includes K T
    more look k = ((known look).0 k).1 u unit

    through : (x q : ℕ) (key : List ℕ) → From (W K) roots x key → HasWalk n T x q → Reached n T roots q
    through x q [] k w = absurd k
    through x q (i ∷ p) k w =
        let v = walk_then n T [] k.0 p x q (walk_more n K T [] k.0 p x more k.2) w in
        (i ∷ v.0, (k.0, k.1, v.1))

    inside : (xs : List ℕ) (k r : ℕ) → slice_get xs k ≡ Some r → In r xs
    inside [] k r e = none_some e
    inside (x ∷ xs) zero r e = inl (sym (some_inj e))
    inside (x ∷ xs) (suc k) r e = inr (inside xs k r e)

    reach : (q : ℕ) (key : List ℕ) → From (W T) (pick (keep n) C) q key → Reached n T roots q
    reach q [] k = absurd k
    reach q (i ∷ s) k =
        let x = in_picked (keep n) C k.0 (inside (pick (keep n) C) i k.0 k.1) in
        let y = sorted_has (From (W K) roots) C x.0 c.1 x.1 in
        through x.0 q y.0 y.1 (s, subst (λ v. IsPathAt n T [] v s q) (sym (keep_sieve n x.0 k.0 x.2)) k.2)

    from_list : (q : ℕ) → In q (pick (ends n) L) → (ends n q ≡ Some q) × Reached n T roots q
    from_list q i =
        let x = in_picked (ends n) L q i in
        let e = ends_sieve n x.0 q x.2 in
        let y = sorted_has (From (W T) (pick (keep n) C)) L x.0 l.1 x.1 in
        (subst (λ v. ends n v ≡ Some q) e x.2, subst (λ v. Reached n T roots v) e (reach x.0 y.0 y.1))

    found : (q : ℕ) (key : List ℕ) → ends n q ≡ Some q → From (W T) roots q key → In q L
    found q [] e k = absurd k
    found q (i ∷ t) e k =
        let f : FirstKept n (keeps n) K T [] k.0 t q =
        first_kept n (keeps n) K T [] k.0 t q (λ x s. stays_kept n x s) (kept_at (ends_at (node n q)) q q e) k.2 in
        let j = in_pick (keep n) C f.0 f.0 (c.0 f.0 (i ∷ f.1) (k.0, k.1, f.4)) (keep_true (keeps n f.0) f.0 f.6) in
        l.0 q (j.0 ∷ f.2) (f.0, j.1, f.7)

    to_list : (q : ℕ) → (ends n q ≡ Some q) × Reached n T roots q → In q (pick (ends n) L)
    to_list q r = picked_in (ends n) L q q (found q r.1.0 r.0 r.1.1) r.0

-- Some path leads to `q` at position `i`.
abbrev pub IsMet : Nfa → Tape → ℕ → ℕ → ℕ → Type 0
IsMet n t start i q = (path : List ℕ) × IsPath n t start i q path

abbrev pub EndsMet : Nfa → Tape → ℕ → ℕ → ℕ → Type 0
EndsMet n t start i q = (ends n q ≡ Some q) × IsMet n t start i q

pub step_set :
    (n : Nfa) (t : Tape) (start i u : ℕ) (N : List ℕ)
    → slice_get t.bytes i ≡ Some u → IsSet (EndsMet n t start i) N
    → (q : ℕ) → Reached n (truth n t (suc i)) (pick (λ b. takes n b u) N) q ↔ IsMet n t start (suc i) q
step_set n t start i u N byte s q = (λ r. there r.0 r.1, λ m. back m.0 m.1)
  where
    g : ℕ → Option ℕ
    g b = takes n b u

    W : ℕ → List ℕ → ℕ → Type 0
    W root path z = IsPathAt n (truth n t (suc i)) [] root path z

    there : (key : List ℕ) → From W (pick g N) q key → IsMet n t start (suc i) q
    there [] k = absurd k
    there (j ∷ p) k =
        let x = in_picked g N k.0 (nth_in (pick g N) j k.0 k.1) in
        let y = s.0 x.0 x.1 in (
          y.1.0 ++ (0 ∷ p),
          path_extend n t 0 [] start y.1.0 i x.0 k.0 p (suc i) q y.1.1 (u, byte, x.2)
              (walk_path n t (suc i) [] k.0 p q k.2),
        )

    back : (path : List ℕ) → IsPath n t start (suc i) q path → Reached n (truth n t (suc i)) (pick g N) q
    back path h =
        let f = last_place n t 0 [] start path i q (omega arith) h in
        let moves : takes n f.0 u ≡ Some f.1 = ap (λ v. takes n f.0 v) (some_inj (sym byte ∙ f.5.1)) ∙ f.5.2 in
        let j = in_pick g N f.0 f.1 (s.1 f.0 (takes_ends n f.0 u f.1 moves, (f.2, f.4))) moves in
        (j.0 ∷ f.3, (f.1, j.1, f.6))

-- Under leftmost-first, nothing was reported before.
abbrev pub IsQuiet : MatchKind → Nfa → Tape → ℕ → ℕ → Type 0
IsQuiet All n t start k = Unit {0}
IsQuiet LeftmostFirst n t start k = (j pattern : ℕ) (path : List ℕ) → j < k → Accepts n t start j pattern path → ⊥

abbrev pub MeansSet : Nfa → Tape → ℕ → ℕ → Powerset → Type 0
MeansSet n t start i Q =
    (patterns roots : List ℕ) × IsClosureOf n patterns roots (prev t i) Q
    × ((q : ℕ) → Reached n (truth n t i) roots q ↔ IsMet n t start i q)

pub decided_set :
    (n : Nfa) (t : Tape) (start i : ℕ) (Q : Powerset) (L : List ℕ)
    → IsTape t → MeansSet n t start i Q → IsDecided n Q (next t i) L → IsSet (EndsMet n t start i) (pick (ends n) L)
decided_set n t start i Q L tape_of m d =
    (λ q k. let r = s.0 q k in (r.0, (m.3 q).0 r.1), λ q k. s.1 q (k.0, (m.3 q).1 k.1))
  where
    s : IsSet (λ q. (ends n q ≡ Some q) × Reached n (truth n t i) m.1 q) (pick (ends n) L)
    s =
        decides_set n m.2.truth m.0 m.1 m.2.list (prev t i) (next t i) Q L (tape_of i) m.2.known m.2.closure m.2.made d

start_set : (n : Nfa) (t : Tape) (start : ℕ) (q : ℕ) → Reached n (truth n t 0) (start ∷ []) q ↔ IsMet n t start 0 q
start_set n t start q = (λ r. there r.0 r.1, λ m. (0 ∷ m.0, (start, refl, path_walk n t 0 [] start m.0 0 q refl m.1)))
  where
    there :
        (key : List ℕ) → From (λ root path z. IsPathAt n (truth n t 0) [] root path z) (start ∷ []) q key
        → IsMet n t start 0 q
    there [] k = absurd k
    there (zero ∷ p) k =
        (p, walk_path n t 0 [] start p q (subst (λ v. IsPathAt n (truth n t 0) [] v p q) (sym (some_inj k.1)) k.2))
    there (suc j ∷ p) k = absurd (none_some k.1)

-- If nothing is reported, the cut does not change the targets.
quiet_targets :
    (kind : MatchKind) (n : Nfa) (t : Tape) (start i u : ℕ) (L : List ℕ)
    → IsQuiet kind n t start (suc i) → IsSet (EndsMet n t start i) (pick (ends n) L)
    → pick (λ b. takes n b u) (cut_for kind n L) ≡ pick (λ b. takes n b u) (pick (ends n) L)
quiet_targets All n t start i u L quiet s = targets_all n u L
quiet_targets LeftmostFirst n t start i u L quiet s =
    targets_cut n u L
    ∙ ap (λ v. pick (λ b. takes n b u) v) (no_leader n (pick (ends n) L) (go (leader n (pick (ends n) L)) refl))
  where
    go : (o : Option ℕ) → leader n (pick (ends n) L) ≡ o → leader n (pick (ends n) L) ≡ None
    go None e = e
    go (Some m) e =
        let y = s.0 m (leader_in n (pick (ends n) L) m e) in
        let a = leader_accepts n (pick (ends n) L) m e in
        absurd (quiet i a.0 y.1.0 (omega arith) (m, y.1.1, a.1))

quiet_less :
    (kind : MatchKind) (n : Nfa) (t : Tape) (start k : ℕ) → IsQuiet kind n t start (suc k) → IsQuiet kind n t start k
quiet_less All n t start k q = tt
quiet_less LeftmostFirst n t start k q = λ j pattern path l a. q j pattern path (omega (arith, l)) a

pub means_set_succ :
    (kind : MatchKind) (n : Nfa) (t : Tape) (start i : ℕ) (P Q : Powerset)
    → IsTape t → i < length t.bytes → IsQuiet kind n t start (suc i) → MeansSet n t start i P
    → IsSuccessor n kind P (next t i) Q → MeansSet n t start (suc i) Q
means_set_succ kind n t start i P Q tape_of inside quiet m s = go (next_byte t.bytes t.after i inside)
  where
    N : IsSet (EndsMet n t start i) (pick (ends n) s.0)
    N = decided_set n t start i P s.0 tape_of m s.2

    go : (u : ℕ) × (slice_get t.bytes i ≡ Some u) × (next t i ≡ Some u) → MeansSet n t start (suc i) Q
    go b = (
      s.1,
      pick (λ v. takes n v b.0) (cut_for kind n s.0),
      arrival,
      λ q. subst (Goal q) (sym e)
          (step_set n t start i b.0 (pick (ends n) s.0) b.1 N q),
    )
      where
        Goal : ℕ → List ℕ → Type 0
        Goal q roots = Reached n (truth n t (suc i)) roots q ↔ IsMet n t start (suc i) q

        e : pick (λ v. takes n v b.0) (cut_for kind n s.0) ≡ pick (λ v. takes n v b.0) (pick (ends n) s.0)
        e = quiet_targets kind n t start i b.0 s.0 quiet N

        arrival : IsClosureOf n s.1 (pick (λ v. takes n v b.0) (cut_for kind n s.0)) (slice_get t.bytes i) Q
        arrival =
            subst (λ v. IsClosureOf n s.1 (pick (λ v. takes n v b.0) (cut_for kind n s.0)) v Q) (sym b.1)
            (subst (λ v. IsClosureOf n s.1 (targets n v (cut_for kind n s.0)) v Q) b.2 s.4)

pub pass_sets :
    (kind : MatchKind) (n : Nfa) (t : Tape) (start k : ℕ) (Q : Powerset)
    → IsTape t → k ≤ length t.bytes → IsQuiet kind n t start k → IsPass n kind start t k Q → MeansSet n t start k Q
pass_sets kind n t start zero Q tape_of l quiet p = ([], start ∷ [], p, start_set n t start)
pass_sets kind n t start (suc k) Q tape_of l quiet p =
    means_set_succ kind n t start k p.0 Q tape_of l quiet
    (pass_sets kind n t start k p.0 tape_of (omega (arith, l)) (quiet_less kind n t start k quiet) p.1) p.2

-- A list with each element once has the same elements.
once_set : (xs ys : List ℕ) → IsOnce xs ys → (p : ℕ) → In p xs ↔ In p ys
once_set xs ys o p = (there, λ i. let k = sorted_has (From Root xs) ys p o.1 i in back k.0 k.1)
  where
    Root : ℕ → List ℕ → ℕ → Type 0
    Root root path q = (root ≡ q) × (path ≡ [])

    there : In p xs → In p ys
    there i = let w = in_nth xs p i in o.0 p (w.0 ∷ []) (p, w.1, (refl, refl))

    back : (key : List ℕ) → From Root xs p key → In p xs
    back [] k = absurd k
    back (j ∷ s) k = nth_in xs j p (k.1 ∙ ap Some k.2.0)

-- The reported patterns are those of the accepting paths that end there.
pub all_reports_set :
    (n : Nfa) (t : Tape) (start i : ℕ) (P Q : Powerset)
    → IsTape t → MeansSet n t start i P → IsSuccessor n All P (next t i) Q
    → IsSet (λ p. (path : List ℕ) × Accepts n t start i p path) Q.patterns
all_reports_set n t start i P Q tape_of m s =
    subst (λ v. IsSet (λ p. (path : List ℕ) × Accepts n t start i p path) v) (sym s.4.made.patterns) (there, back)
  where
    N : IsSet (EndsMet n t start i) (pick (ends n) s.0)
    N = decided_set n t start i P s.0 tape_of m s.2

    o : (p : ℕ) → In p (pick (accepts n) (pick (ends n) s.0)) ↔ In p s.1
    o p = once_set (pick (accepts n) (pick (ends n) s.0)) s.1 (subst (λ v. IsOnce v s.1) (patterns_all n s.0) s.3) p

    there : (p : ℕ) → In p s.1 → (path : List ℕ) × Accepts n t start i p path
    there p k =
        let x = in_picked (accepts n) (pick (ends n) s.0) p ((o p).1 k) in
        let y = N.0 x.0 x.1 in
        (y.1.0, (x.0, y.1.1, x.2))

    back : (p : ℕ) → (path : List ℕ) × Accepts n t start i p path → In p s.1
    back p a =
        (o p).0
        (picked_in (accepts n) (pick (ends n) s.0) a.1.0 p
        (N.1 a.1.0 (accepts_ends n a.1.0 p a.1.2, (a.0, a.1.1))) a.1.2)

-- Nothing is reported exactly if no accepting path ends there, and the first pattern reported is one of such a path.
abbrev pub IsHonest : Nfa → Tape → ℕ → ℕ → List ℕ → Type 0
IsHonest n t start i patterns =
    (patterns ≡ [] → (p : ℕ) (path : List ℕ) → Accepts n t start i p path → ⊥)
    × ((p : ℕ) (rest : List ℕ) → patterns ≡ p ∷ rest → (path : List ℕ) × Accepts n t start i p path)

pub reports_honest :
    (kind : MatchKind) (n : Nfa) (t : Tape) (start i : ℕ) (P Q : Powerset)
    → IsTape t → MeansSet n t start i P → IsSuccessor n kind P (next t i) Q → IsHonest n t start i Q.patterns
reports_honest All n t start i P Q tape_of m s =
    (λ e p path a. subst (λ v. In p v) e (w.1 p (path, a)), λ p rest e. w.0 p (subst (λ v. In p v) (sym e) (inl refl)))
  where
    w : IsSet (λ p. (path : List ℕ) × Accepts n t start i p path) Q.patterns
    w = all_reports_set n t start i P Q tape_of m s
reports_honest LeftmostFirst n t start i P Q tape_of m s =
    subst (λ v. IsHonest n t start i v) (sym s.4.made.patterns) (go (leader n (pick (ends n) s.0)) refl)
  where
    N : IsSet (EndsMet n t start i) (pick (ends n) s.0)
    N = decided_set n t start i P s.0 tape_of m s.2

    go : (o : Option ℕ) → leader n (pick (ends n) s.0) ≡ o → IsHonest n t start i s.1
    go None e = (quiet, λ p rest f. absurd (nil_cons (sym none ∙ f)))
      where
        none : s.1 ≡ []
        none = once_is_none (pick (accepts n) (cut n s.0)) s.1 (patterns_cut n s.0 ∙ ap (λ v. reported n v) e) s.3

        quiet : s.1 ≡ [] → (p : ℕ) (path : List ℕ) → Accepts n t start i p path → ⊥
        quiet f p path a =
            no_leader_in n (pick (ends n) s.0) a.0 p e (N.1 a.0 (accepts_ends n a.0 p a.2, (path, a.1))) a.2
    go (Some x) e =
        (λ f. absurd (nil_cons (sym f ∙ one)), λ p rest f. (y.1.0, (x, y.1.1, a.1 ∙ ap Some (cons_head (sym one ∙ f)))))
      where
        a : (p : ℕ) × (accepts n x ≡ Some p)
        a = leader_accepts n (pick (ends n) s.0) x e

        y : EndsMet n t start i x
        y = N.0 x (leader_in n (pick (ends n) s.0) x e)

        one : s.1 ≡ a.0 ∷ []
        one =
            once_is_one (pick (accepts n) (cut n s.0)) s.1 a.0
            (patterns_cut n s.0 ∙ (ap (λ v. reported n v) e ∙ ap (λ v. cons_some v []) a.1)) s.3

pub pass_honest :
    (kind : MatchKind) (n : Nfa) (t : Tape) (start i : ℕ) (patterns : List ℕ)
    → IsTape t → i ≤ length t.bytes → IsQuiet kind n t start i → Reports kind n t start i patterns
    → IsHonest n t start i patterns
pass_honest kind n t start i patterns tape_of l quiet p =
    subst (λ v. IsHonest n t start i v) p.2
    (reports_honest kind n t start i p.1.0 p.0 tape_of (pass_sets kind n t start i p.1.0 tape_of l quiet p.1.1) p.1.2)

-- If nothing was reported before, no accepting path ends before.
pub reported_nothing :
    (kind : MatchKind) (n : Nfa) (t : Tape) (start k : ℕ)
    → IsTape t → k ≤ suc (length t.bytes) → ((j : ℕ) → j < k → Reports kind n t start j [])
    → (j pattern : ℕ) (path : List ℕ) → j < k → Accepts n t start j pattern path → ⊥
reported_nothing kind n t start zero tape_of l f j pattern path h a = omega (arith, h)
reported_nothing kind n t start (suc k) tape_of l f j pattern path h a =
    go kind (eq-or-lt_of_le (le_of_suc-le-suc h)) (pass_honest kind n t start k [] tape_of (le_of_suc-le-suc l))
    (reported_nothing kind n t start k tape_of (omega (arith, l)) (λ j h. f j (omega (arith, h)))) (f k (omega arith))
  where
    quiet :
        (kind : MatchKind) → ((j pattern : ℕ) (path : List ℕ) → j < k → Accepts n t start j pattern path → ⊥)
        → IsQuiet kind n t start k
    quiet All ih = tt
    quiet LeftmostFirst ih = ih

    go :
        (kind : MatchKind) → (j ≡ k) ⊎ (j < k)
        → (IsQuiet kind n t start k → Reports kind n t start k [] → IsHonest n t start k [])
        → ((j pattern : ℕ) (path : List ℕ) → j < k → Accepts n t start j pattern path → ⊥)
        → Reports kind n t start k [] → ⊥
    go kind (inr b) honest ih p = ih j pattern path b a
    go kind (inl e) honest ih p =
        (honest (quiet kind ih) p).0 refl pattern path (subst (λ v. Accepts n t start v pattern path) e a)

pub nearest_right :
    (kind : MatchKind) (n : Nfa) (t : Tape) (start : ℕ) (answer : Option Pair)
    → IsTape t → PassSelects kind true n t start answer → IsNearest n t start answer
nearest_right kind n t start None tape_of p = λ i pattern path a.
    reported_nothing kind n t start (suc (length t.bytes)) tape_of (omega arith) (λ j h. p j (le_of_suc-le-suc h)) i
    pattern path
    (let k = accepting_inside n t start i pattern path a in omega (arith, k)) a
nearest_right kind n t start (Some pair) tape_of p = (
  (pass_honest kind n t start pair.place (pair.pattern ∷ p.0) tape_of p.1 (quiet kind) p.2).1 pair.pattern p.0 refl,
  before,
)
  where
    before : (j pattern : ℕ) (path : List ℕ) → j < pair.place → Accepts n t start j pattern path → ⊥
    before = reported_nothing kind n t start pair.place tape_of (omega (arith, p.1)) p.3

    quiet : (kind : MatchKind) → IsQuiet kind n t start pair.place
    quiet All = tt
    quiet LeftmostFirst = before

-- For every NFA under `MatchKind::All`, the reported pairs are those of the accepting paths.
pub pairs_right :
    (n : Nfa) (t : Tape) (start i : ℕ) (patterns : List ℕ)
    → IsTape t → i ≤ length t.bytes → Reports All n t start i patterns
    → IsSet (λ p. (path : List ℕ) × Accepts n t start i p path) patterns
pairs_right n t start i patterns tape_of l p =
    subst (λ v. IsSet (λ p. (path : List ℕ) × Accepts n t start i p path) v) p.2
    (all_reports_set n t start i p.1.0 p.0 tape_of (pass_sets All n t start i p.1.0 tape_of l tt p.1.1) p.1.2)

pub farthest_right :
    (n : Nfa) (t : Tape) (start : ℕ) (answer : Option Pair)
    → IsTape t → PassSelects All false n t start answer → IsFarthest n t start answer
farthest_right n t start None tape_of p = λ i pattern path a.
    (pairs_right n t start i [] tape_of (accepting_inside n t start i pattern path a)
    (p i (accepting_inside n t start i pattern path a))).1
    pattern (path, a)
farthest_right n t start (Some pair) tape_of p = (
  (pairs_right n t start pair.place (pair.pattern ∷ p.0) tape_of p.1 p.2).0 pair.pattern (inl refl),
  λ j pattern path b a.
      (pairs_right n t start j [] tape_of (accepting_inside n t start j pattern path a)
      (p.3 j b (accepting_inside n t start j pattern path a))).1 pattern (path, a),
)
