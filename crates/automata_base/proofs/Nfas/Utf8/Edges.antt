-- A pair leads to the pairs that its edges lead to.
use Rattle.std.proofs.Common.{ℕ, zero, suc, ◌≡◌, ◌+◌, ◌/◌, ◌%◌, ◌<◌, ◌≤◌, ◌⊎◌, Bool, true, false, cond, ◌&&◌, leb, eqb}
use Rattle.std.proofs.Common.{List, [], ◌∷◌, ◌++◌, get_or, Some, inl, inr, refl, sym, ap, ◌∙◌, subst, arith}
use Rattle.std.proofs.lemmas.Bool.{and_parts, and_right, cases_lt, leb-true, le-leb, lt-leb, leb-false, eqb-true}
use Rattle.automata_base.specs.declared.nfa.thompson.state.State.{State}
use Rattle.automata_base.specs.declared.nfa.thompson.state.State.TheVariants as is
use Rattle.automata_base.specs.declared.nfa.thompson.state.Transition.{Transition}
use Rattle.automata_base.specs.declared.nfa.thompson.utf8.Class.{Class}
use Rattle.automata_base.specs.Retraced.Decoders.{pair, meets, pairs_in, range_pairs, ranges_pairs, byte_pairs}
use Rattle.automata_base.proofs.Nfas.Utf8.Decoder.{step}
use Rattle.automata_base.specs.Retraced.Decoders.{pairs_at, node_pairs, pairs_of}
use Rattle.automata_base.specs.Lists.{In}
use Rattle.automata_base.specs.Haystacks.Looks.{within}
use Rattle.automata_base.specs.Nfas.Nfa.{Node, Split, Assert, Read, Accept, Range, hop, takes, takes_in, takes_at}
use Rattle.automata_base.specs.Nfas.Nodes.{Automaton, nfa_of, node_of, range_of, ranges_of, dense_from}
use Rattle.automata_base.specs.Paths.Paths.{all_true}
use Rattle.automata_base.specs.Retraced.Reach.{node_in}
use Rattle.automata_base.specs.Nfas.Errors.{ordered_from, state_ordered, states_ordered}
use Rattle.automata_base.specs.Powersets.Closure.{children}
use Rattle.automata_base.proofs.Paths.FirstVisits.{hop_children}
use Rattle.automata_base.proofs.Paths.Orders.{some_inj, none_some}
use Rattle.automata_base.proofs.Paths.Sets.{in_nth, nth_in}
use Rattle.automata_base.proofs.Paths.Walks.{in_left}
use Rattle.automata_base.proofs.Paths.FirstVisits.{in_right}
use Rattle.automata_base.proofs.Paths.Walks.{in_either}

-- Whether the classes cover the bytes from `low` on, each once, in order.
abbrev pub chained : ℕ → List Class → Bool
chained low [] = eqb low 256
chained low (c ∷ cs) = eqb c.first low && (leb low c.last && chained (c.last + 1) cs)

chain_ends : (low : ℕ) (cs : List Class) → chained low cs ≡ true → low ≤ 256
chain_ends low [] e = omega (arith, eqb-true low 256 e)
chain_ends low (c ∷ cs) e =
    let p = and_parts (eqb c.first low) (leb low c.last && chained (c.last + 1) cs) e in
    let q = and_parts (leb low c.last) (chained (c.last + 1) cs) p.1 in
    let l : low ≤ c.last = leb-true low c.last q.0 in
    let k : c.last + 1 ≤ 256 = chain_ends (c.last + 1) cs q.1 in
    omega arith

within_is : (lo hi u : ℕ) → lo ≤ u → u ≤ hi → within lo hi u ≡ true
within_is lo hi u l h = ap (λ b. b && leb u hi) (le-leb lo u l) ∙ le-leb u hi h

pub within_past : (lo hi u : ℕ) → hi < u → within lo hi u ≡ false
within_past lo hi u l = and_right (leb lo u) (leb u hi) (lt-leb u hi l)

step_here : (c : Class) (cs : List Class) (s u : ℕ) → u ≤ c.last → step (c ∷ cs) s u ≡ get_or c.to s 0
step_here c cs s u l = ap (λ b. cond b (get_or c.to s 0) (step cs s u)) (le-leb u c.last l)

step_later : (c : Class) (cs : List Class) (s u : ℕ) → c.last < u → step (c ∷ cs) s u ≡ step cs s u
step_later c cs s u l = ap (λ b. cond b (get_or c.to s 0) (step cs s u)) (lt-leb u c.last l)

-- A byte of a range, from `low` on, leads to the pair.
abbrev Hits : List Class → (s low y : ℕ) → Range → Type 0
Hits cs s low y r =
    (u : ℕ) × (low ≤ u) × (u < 256) × (r.lo ≤ u) × (u ≤ r.hi) × (y ≡ pair r.next (step cs s u))

range_from :
    (s y low : ℕ) (r : Range) (cs : List Class) → r.lo ≤ r.hi → chained low cs ≡ true → In y (range_pairs cs s r)
    → Hits cs s low y r
range_from s y low r [] o e i = absurd i
range_from s y low r (c ∷ cs) o e i =
    go (in_either y (pairs_in s r c) (range_pairs cs s r) i) (range_from s y (c.last + 1) r cs o q.1)
  where
    p : (eqb c.first low ≡ true) × ((leb low c.last && chained (c.last + 1) cs) ≡ true)
    p = and_parts (eqb c.first low) (leb low c.last && chained (c.last + 1) cs) e

    q : (leb low c.last ≡ true) × (chained (c.last + 1) cs ≡ true)
    q = and_parts (leb low c.last) (chained (c.last + 1) cs) p.1

    first : c.first ≡ low
    first = eqb-true c.first low p.0

    last : low ≤ c.last
    last = leb-true low c.last q.0

    top : c.last + 1 ≤ 256
    top = chain_ends (c.last + 1) cs q.1

    at :
        (u : ℕ) → low ≤ u → u ≤ c.last → r.lo ≤ u → u ≤ r.hi → y ≡ pair r.next (get_or c.to s 0)
        → Hits (c ∷ cs) s low y r
    at u a b l h f = (u, a, omega (arith, b, top), l, h, f ∙ ap (pair r.next) (sym (step_here c cs s u b)))

    met :
        c.first ≤ r.hi → r.lo ≤ c.last → y ≡ pair r.next (get_or c.to s 0) → (r.lo < low) ⊎ (low ≤ r.lo)
        → Hits (c ∷ cs) s low y r
    met a b f (inl l) = at low (omega arith) last (omega (arith, l)) (omega (arith, a, first)) f
    met a b f (inr l) = at r.lo l b (omega arith) o f

    here : (b : Bool) → meets c r ≡ b → In y (cond b (pair r.next (get_or c.to s 0) ∷ []) []) → Hits (c ∷ cs) s low y r
    here false m j = absurd j
    here true m (inr j) = absurd j
    here true m (inl f) =
        let w = and_parts (leb c.first r.hi) (leb r.lo c.last) m in
        met (leb-true c.first r.hi w.0) (leb-true r.lo c.last w.1) f (cases_lt r.lo low)

    later : Hits cs s (c.last + 1) y r → Hits (c ∷ cs) s low y r
    later (u, a, b, l, h, f) =
        (u, omega (arith, a, last), b, l, h, f ∙ ap (pair r.next) (sym (step_later c cs s u (omega (arith, a)))))

    go :
        In y (pairs_in s r c) ⊎ In y (range_pairs cs s r) → (In y (range_pairs cs s r) → Hits cs s (c.last + 1) y r)
        → Hits (c ∷ cs) s low y r
    go (inl j) ih = here (meets c r) refl j
    go (inr j) ih = later (ih j)

-- A byte from `low` on that the ranges take leads to the pair.
abbrev Led : List Class → (s low y : ℕ) → List Range → Type 0
Led cs s low y ranges =
    (u r : ℕ) × (low ≤ u) × (u < 256) × (takes_in ranges u ≡ Some r) × (y ≡ pair r (step cs s u))

module _ (cs : List Class) (chain : chained 0 cs ≡ true) (s y : ℕ) where
  led_first :
      (low : ℕ) (r : Range) (rs : List Range) → low ≤ r.lo → r.lo ≤ r.hi → In y (range_pairs cs s r)
      → Led cs s low y (r ∷ rs)
  led_first low r rs l o i = go (range_from s y 0 r cs o chain i)
    where
      go : Hits cs s 0 y r → Led cs s low y (r ∷ rs)
      go (u, z, b, k, h, f) = (
        u,
        r.next,
        omega (arith, l, k),
        b,
        ap (λ t. cond t (Some r.next) (takes_in rs u)) (within_is r.lo r.hi u k h),
        f,
      )

  led_later :
      (low past : ℕ) (r : Range) (rs : List Range) → low ≤ past → r.hi < past → Led cs s past y rs
      → Led cs s low y (r ∷ rs)
  led_later low past r rs l h (u, q, a, b, t, f) = (
    u,
    q,
    omega (arith, l, a),
    b,
    ap (λ v. cond v (Some r.next) (takes_in rs u)) (within_past r.lo r.hi u (omega (arith, h, a))) ∙ t,
    f,
  )

  sparse_led :
      (low : ℕ) (ts : List Transition) → ordered_from low ts ≡ true → In y (ranges_pairs cs s (ranges_of ts))
      → Led cs s low y (ranges_of ts)
  sparse_led low [] e i = absurd i
  sparse_led low (t ∷ ts) e i =
      go (in_either y (range_pairs cs s (range_of t)) (ranges_pairs cs s (ranges_of ts)) i)
      (sparse_led (t.hi + 1) ts p.1)
    where
      p : ((leb low t.lo && leb t.lo t.hi) ≡ true) × (ordered_from (t.hi + 1) ts ≡ true)
      p = and_parts (leb low t.lo && leb t.lo t.hi) (ordered_from (t.hi + 1) ts) e

      q : (leb low t.lo ≡ true) × (leb t.lo t.hi ≡ true)
      q = and_parts (leb low t.lo) (leb t.lo t.hi) p.0

      a : low ≤ t.lo
      a = leb-true low t.lo q.0

      b : t.lo ≤ t.hi
      b = leb-true t.lo t.hi q.1

      go : In y (range_pairs cs s (range_of t)) ⊎ In y (ranges_pairs cs s (ranges_of ts))
          → (In y (ranges_pairs cs s (ranges_of ts)) → Led cs s (t.hi + 1) y (ranges_of ts))
          → Led cs s low y (ranges_of (t ∷ ts))
      go (inl j) ih = led_first low (range_of t) (ranges_of ts) a b j
      go (inr j) ih = led_later low (t.hi + 1) (range_of t) (ranges_of ts) (omega (arith, a, b)) (omega arith) (ih j)

  led_more : (low past : ℕ) (rs : List Range) → low ≤ past → Led cs s past y rs → Led cs s low y rs
  led_more low past rs l (u, q, a, b, t, f) = (u, q, omega (arith, l, a), b, t, f)

  dense_led : (k : ℕ) (xs : List ℕ) → In y (ranges_pairs cs s (dense_from k xs)) → Led cs s k y (dense_from k xs)
  dense_led k [] i = absurd i
  dense_led k (zero ∷ xs) i = led_more k (suc k) (dense_from (suc k) xs) (omega arith) (dense_led (suc k) xs i)
  dense_led k (suc m ∷ xs) i =
      go (in_either y (range_pairs cs s (record { lo = k; hi = k; next = suc m }))
      (ranges_pairs cs s (dense_from (suc k) xs)) i)
      (dense_led (suc k) xs)
    where
      go :
          In y (range_pairs cs s (record { lo = k; hi = k; next = suc m }))
          ⊎ In y (ranges_pairs cs s (dense_from (suc k) xs))
          → (In y (ranges_pairs cs s (dense_from (suc k) xs)) → Led cs s (suc k) y (dense_from (suc k) xs))
          → Led cs s k y (dense_from k (suc m ∷ xs))
      go (inl j) ih =
          led_first k (record { lo = k; hi = k; next = suc m }) (dense_from (suc k) xs) (omega arith) (omega arith) j
      go (inr j) ih =
          led_later k (suc k) (record { lo = k; hi = k; next = suc m }) (dense_from (suc k) xs) (omega arith)
          (omega arith) (ih j)

  -- A byte that a node takes leads to the pair.
  abbrev Byte : Node → Type 0
  Byte x = (u r : ℕ) × (u < 256) × (takes_at x u ≡ Some r) × (y ≡ pair r (step cs s u))

  of_led : (rs : List Range) → Led cs s 0 y rs → Byte (Read rs)
  of_led rs (u, r, l, b, t, f) = (u, r, b, t, f)

  state_led : (x : State) → state_ordered x ≡ true → In y (byte_pairs cs s (node_of x)) → Byte (node_of x)
  state_led (is.ByteRange lo hi next) o i =
      go (in_either y (range_pairs cs s (record { lo = lo; hi = hi; next = next })) [] i)
    where
      go :
          In y (range_pairs cs s (record { lo = lo; hi = hi; next = next })) ⊎ In y []
          → Byte (node_of (is.ByteRange lo hi next))
      go (inl j) =
          of_led (record { lo = lo; hi = hi; next = next } ∷ [])
          (led_first 0 (record { lo = lo; hi = hi; next = next }) [] (omega arith) (leb-true lo hi o) j)
      go (inr j) = absurd j
  state_led (is.Sparse ts) o i = of_led (ranges_of ts.items) (sparse_led 0 ts.items o i)
  state_led (is.Dense targets) o i = of_led (dense_from 0 targets.value) (dense_led 0 targets.value i)
  state_led (is.Look look next) o i = absurd i
  state_led (is.Union alternates) o i = absurd i
  state_led (is.BinaryUnion alt1 alt2) o i = absurd i
  state_led (is.Capture next pattern index slot) o i = absurd i
  state_led is.Fail o i = absurd i
  state_led (is.Match pattern) o i = absurd i

  node_led :
      (states : List State) (q : ℕ) → states_ordered states ≡ true → In y (byte_pairs cs s (node_in states q))
      → Byte (node_in states q)
  node_led [] q o i = absurd i
  node_led (x ∷ xs) zero o i = state_led x (and_parts (state_ordered x) (states_ordered xs) o).0 i
  node_led (x ∷ xs) (suc q) o i = node_led xs q (and_parts (state_ordered x) (states_ordered xs) o).1 i

-- The converse.
module _ (s u : ℕ) (byte : u < 256) where
  range_hit :
      (low : ℕ) (r : Range) (cs : List Class) → chained low cs ≡ true → low ≤ u → r.lo ≤ u → u ≤ r.hi
      → In (pair r.next (step cs s u)) (range_pairs cs s r)
  range_hit low r [] e l a b = absurd (omega (arith, eqb-true low 256 e, l, byte))
  range_hit low r (c ∷ cs) e l a b = go (leb u c.last) refl (λ k. range_hit (c.last + 1) r cs q.1 k a b)
    where
      p : (eqb c.first low ≡ true) × ((leb low c.last && chained (c.last + 1) cs) ≡ true)
      p = and_parts (eqb c.first low) (leb low c.last && chained (c.last + 1) cs) e

      q : (leb low c.last ≡ true) × (chained (c.last + 1) cs ≡ true)
      q = and_parts (leb low c.last) (chained (c.last + 1) cs) p.1

      met : u ≤ c.last → meets c r ≡ true
      met h =
          let f : c.first ≡ low = eqb-true c.first low p.0 in
          ap (λ v. v && leb r.lo c.last) (le-leb c.first r.hi (omega (arith, f, l, b)))
          ∙ le-leb r.lo c.last (omega (arith, a, h))

      go :
          (v : Bool) → leb u c.last ≡ v → (c.last + 1 ≤ u → In (pair r.next (step cs s u)) (range_pairs cs s r))
          → In (pair r.next (cond v (get_or c.to s 0) (step cs s u))) (pairs_in s r c ++ range_pairs cs s r)
      go true h ih =
          in_left (pair r.next (get_or c.to s 0)) (pairs_in s r c) (range_pairs cs s r)
          (subst (λ v. In (pair r.next (get_or c.to s 0)) (cond v (pair r.next (get_or c.to s 0) ∷ []) []))
          (sym (met (leb-true u c.last h))) (inl refl))
      go false h ih =
          let k : c.last < u = leb-false u c.last h in
          in_right (pair r.next (step cs s u)) (pairs_in s r c) (range_pairs cs s r) (ih (omega arith))

  ranges_hit :
      (cs : List Class) (rs : List Range) (r : ℕ) → chained 0 cs ≡ true → takes_in rs u ≡ Some r
      → In (pair r (step cs s u)) (ranges_pairs cs s rs)
  ranges_hit cs [] r e t = absurd (none_some t)
  ranges_hit cs (x ∷ xs) r e t = go (within x.lo x.hi u) refl t (ranges_hit cs xs r e)
    where
      go : (v : Bool) → within x.lo x.hi u ≡ v → cond v (Some x.next) (takes_in xs u) ≡ Some r
          → (takes_in xs u ≡ Some r → In (pair r (step cs s u)) (ranges_pairs cs s xs))
          → In (pair r (step cs s u)) (range_pairs cs s x ++ ranges_pairs cs s xs)
      go true h f ih =
          let w = and_parts (leb x.lo u) (leb u x.hi) h in
          in_left (pair r (step cs s u)) (range_pairs cs s x) (ranges_pairs cs s xs)
          (subst (λ z. In (pair z (step cs s u)) (range_pairs cs s x)) (some_inj f)
          (range_hit 0 x cs e (omega arith) (leb-true x.lo u w.0) (leb-true u x.hi w.1)))
      go false h f ih = in_right (pair r (step cs s u)) (range_pairs cs s x) (ranges_pairs cs s xs) (ih f)

  node_hit :
      (cs : List Class) (x : Node) (r : ℕ) → chained 0 cs ≡ true → takes_at x u ≡ Some r
      → In (pair r (step cs s u)) (byte_pairs cs s x)
  node_hit cs (Split alternates) r e t = absurd (none_some t)
  node_hit cs (Assert look next) r e t = absurd (none_some t)
  node_hit cs (Read ranges) r e t = ranges_hit cs ranges r e t
  node_hit cs (Accept p) r e t = absurd (none_some t)

-- Pairs of NFA states with one state of the decoder.
pub of_pairs : (s y : ℕ) (ids : List ℕ) → In y (pairs_at s ids) → (r : ℕ) × In r ids × (y ≡ pair r s)
of_pairs s y [] i = absurd i
of_pairs s y (x ∷ xs) (inl e) = (x, inl refl, e)
of_pairs s y (x ∷ xs) (inr i) = let w = of_pairs s y xs i in (w.0, inr w.1, w.2)

pub in_pairs : (s r : ℕ) (ids : List ℕ) → In r ids → In (pair r s) (pairs_at s ids)
in_pairs s r [] i = absurd i
in_pairs s r (x ∷ xs) (inl e) = inl (ap (λ z. pair z s) e)
in_pairs s r (x ∷ xs) (inr i) = inr (in_pairs s r xs i)

-- The edges of a pair.
abbrev pub Edge : Automaton → List Class → (q s y : ℕ) → Type 0
Edge a cs q s y =
    ((e r : ℕ) × (hop (nfa_of a) all_true q e ≡ Some r) × (y ≡ pair r s))
    ⊎ ((u r : ℕ) × (u < 256) × (takes (nfa_of a) q u ≡ Some r) × (y ≡ pair r (step cs s u)))

module _ (a : Automaton) (cs : List Class) (chain : chained 0 cs ≡ true) where
  pub edge_from :
      (x y : ℕ) → states_ordered a.states ≡ true → In y (pairs_of cs a.states x) → Edge a cs (x / 11) (x % 11) y
  edge_from x y ordered i =
      go (in_either y (pairs_at (x % 11) (children (nfa_of a) all_true (x / 11)))
      (byte_pairs cs (x % 11) (node_in a.states (x / 11))) i)
    where
      free :
          ((r : ℕ) × In r (children (nfa_of a) all_true (x / 11)) × (y ≡ pair r (x % 11)))
          → Edge a cs (x / 11) (x % 11) y
      free w =
          let k = in_nth (children (nfa_of a) all_true (x / 11)) w.0 w.1 in
          inl (k.0, w.0, hop_children (nfa_of a) all_true (x / 11) k.0 ∙ k.1, w.2)

      go :
          In y (pairs_at (x % 11) (children (nfa_of a) all_true (x / 11)))
          ⊎ In y (byte_pairs cs (x % 11) (node_in a.states (x / 11)))
          → Edge a cs (x / 11) (x % 11) y
      go (inl j) = free (of_pairs (x % 11) y (children (nfa_of a) all_true (x / 11)) j)
      go (inr j) = inr (node_led cs chain (x % 11) y a.states (x / 11) ordered j)

  beside : (q s : ℕ) → s < 11 → pairs_of cs a.states (pair q s) ≡ node_pairs cs s (node_in a.states q)
  beside q s l =
      let d : pair q s / 11 ≡ q = omega (arith, l) in
      let m : pair q s % 11 ≡ s = omega (arith, l) in
      ap (λ z. node_pairs cs z (node_in a.states (pair q s / 11))) m ∙ ap (λ z. node_pairs cs s (node_in a.states z)) d

  pub edge_free :
      (q s e r : ℕ) → s < 11 → hop (nfa_of a) all_true q e ≡ Some r → In (pair r s) (pairs_of cs a.states (pair q s))
  edge_free q s e r l h =
      subst (λ z. In (pair r s) z) (sym (beside q s l))
      (in_left (pair r s) (pairs_at s (children (nfa_of a) all_true q)) (byte_pairs cs s (node_in a.states q))
      (in_pairs s r (children (nfa_of a) all_true q)
      (nth_in (children (nfa_of a) all_true q) e r (sym (hop_children (nfa_of a) all_true q e) ∙ h))))

  pub edge_byte :
      (q s u r : ℕ) → s < 11 → u < 256 → takes (nfa_of a) q u ≡ Some r
      → In (pair r (step cs s u)) (pairs_of cs a.states (pair q s))
  edge_byte q s u r l b t =
      subst (λ z. In (pair r (step cs s u)) z) (sym (beside q s l))
      (in_right (pair r (step cs s u)) (pairs_at s (children (nfa_of a) all_true q))
      (byte_pairs cs s (node_in a.states q))
      (node_hit s u b cs (node_in a.states q) r chain t))
