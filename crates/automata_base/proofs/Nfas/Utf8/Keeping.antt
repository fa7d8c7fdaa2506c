-- What an NFA reads if all looks are taken as true, and the UTF-8 promise.
use Rattle.std.proofs.Common.{ℕ, zero, suc, ◌≡◌, ◌+◌, ◌-◌, ◌<◌, ◌≤◌, true, List, [], ◌∷◌, ◌++◌, length, take, drop}
use Rattle.std.proofs.Common.{reverse, Option, Some, IsUtf8, inl, inr, refl, sym, ap, ◌∙◌, subst, arith}
use Rattle.std.proofs.lemmas.List.{take_all, reverse-reverse, length-reverse}
use Rattle.std.proofs.lemmas.Str.{IsUtf8-nil}
use mathlib.Core.List.{reverse-cons}
use Rattle.automata_base.specs.Powersets.Cuts.{MatchKind}
use Rattle.automata_base.specs.Nfas.Engines.{Anchored, No, Yes, Pattern, first_state, engine_of}
use Rattle.automata_base.specs.Lists.{In}
use Rattle.std.specs.Prelude.{slice_get}
use Rattle.automata_base.specs.Haystacks.Looks.{Look}
use Rattle.automata_base.specs.Nfas.Nfa.{Nfa, Node, Split, Assert, Read, Accept, Truth, node, hop, hop_at}
use Rattle.automata_base.specs.Nfas.Nodes.{Automaton, nfa_of}
use Rattle.automata_base.specs.Paths.Paths.{Tape, IsPathFrom, truth, all_true}
use Rattle.automata_base.specs.Paths.Paths.{StaysHere, ReadsByte}
use Rattle.automata_base.specs.Haystacks.Tapes.{IsHaystack, between, Direction, Forward, Backward, tape_of}
use Rattle.automata_base.specs.Answers.TruePairs.{KeepsUtf8}
use Rattle.automata_base.specs.Nfas.Utf8.{ReadsTo, ends, goes, reads, in_order, ReadsUtf8, HasNoLook}
use Rattle.automata_base.proofs.Paths.Orders.{some_inj, none_some}
use Rattle.automata_base.proofs.Paths.Places.{path_grows, walk_path, path_extend}
use Rattle.automata_base.proofs.Paths.Sets.{HasWalk, walk_cons, walk_then, nth_in, in_nth}
use Rattle.automata_base.proofs.Paths.Walks.{hop_more}
use Rattle.automata_base.proofs.Answers.Bytes.{between_length, tape_length}
use Rattle.automata_base.proofs.Nfas.Utf8.Decoding.{AreBytes}
use Rattle.automata_base.proofs.Nfas.Utf8.Reading.{reads_bytes}

-- A haystack is a list of bytes.
bytes_of : (h : List ℕ) → IsHaystack h → AreBytes h
bytes_of [] f = tt
bytes_of (u ∷ us) f = (f 0 u refl, bytes_of us (λ o v e. f (suc o) v e))

haystack_of : (us : List ℕ) → AreBytes us → IsHaystack us
haystack_of [] b o u e = absurd (none_some e)
haystack_of (v ∷ us) b zero u e = subst (λ z. z < 256) (some_inj e) b.0
haystack_of (v ∷ us) b (suc o) u e = haystack_of us b.1 o u e

bytes_take : (m : ℕ) (us : List ℕ) → AreBytes us → AreBytes (take m us)
bytes_take zero us b = tt
bytes_take (suc m) [] b = tt
bytes_take (suc m) (u ∷ us) b = (b.0, bytes_take m us b.1)

bytes_drop : (m : ℕ) (us : List ℕ) → AreBytes us → AreBytes (drop m us)
bytes_drop zero us b = b
bytes_drop (suc m) [] b = tt
bytes_drop (suc m) (u ∷ us) b = bytes_drop m us b.1

bytes_end : (us : List ℕ) (u : ℕ) → AreBytes us → u < 256 → AreBytes (us ++ u ∷ [])
bytes_end [] u b l = (l, tt)
bytes_end (v ∷ us) u b l = (b.0, bytes_end us u b.1 l)

pub bytes_reverse : (us : List ℕ) → AreBytes us → AreBytes (reverse us)
bytes_reverse [] b = tt
bytes_reverse (u ∷ us) b =
    subst AreBytes (sym (reverse-cons u us)) (bytes_end (reverse us) u (bytes_reverse us b.1) b.0)

bytes_between : (h : List ℕ) (i j : ℕ) → IsHaystack h → AreBytes (between h i j)
bytes_between h i j f = bytes_take (j - i) (drop i h) (bytes_drop i h (bytes_of h f))

bytes_tape : (way : Direction) (h : List ℕ) (i j : ℕ) → IsHaystack h → AreBytes (tape_of way h i j).bytes
bytes_tape Forward h i j f = bytes_between h i j f
bytes_tape Backward h i j f = bytes_reverse (between h i j) (bytes_between h i j f)

bytes_order : (way : Direction) (us : List ℕ) → AreBytes us → AreBytes (in_order way us)
bytes_order Forward us b = b
bytes_order Backward us b = bytes_reverse us b

drop_nth : (xs : List ℕ) (i u : ℕ) → slice_get xs i ≡ Some u → drop i xs ≡ u ∷ drop (suc i) xs
drop_nth [] i u e = absurd (none_some e)
drop_nth (x ∷ xs) zero u e = ap (λ z. z ∷ xs) (some_inj e)
drop_nth (x ∷ xs) (suc i) u e = drop_nth xs i u e

-- A path reads the bytes from its first position to its last.
module _ (n : Nfa) (t : Tape) (bytes : AreBytes t.bytes) where
  path_reads :
      (i : ℕ) (seen : List ℕ) (q : ℕ) (path : List ℕ) (j z : ℕ) → IsPathFrom n t i seen q path j z
      → ReadsTo n q (take (j - i) (drop i t.bytes)) z
  path_reads i seen q [] j z w =
      let e : 0 ≡ j - i = omega (arith, w.0) in
      subst (λ m. ReadsTo n q (take m (drop i t.bytes)) z) e (subst (λ v. ReadsTo n q [] v) w.1 ends)
  path_reads i seen q (e ∷ path) j z (StaysHere r hops new on) =
      goes e (hop_more n (truth n t i) all_true q e r (λ look f. refl) hops) (path_reads i (q ∷ seen) r path j z on)
  path_reads i seen q (e ∷ path) j z (ReadsByte r edge moves on) =
      let k = path_grows n t (suc i) [] r path j z on in
      let m : suc (j - suc i) ≡ j - i = omega (arith, k) in
      let u : ℕ = moves.0 in
      subst (λ v. ReadsTo n q (take v (drop i t.bytes)) z) m
      (subst (λ v. ReadsTo n q (take (suc (j - suc i)) v) z) (sym (drop_nth t.bytes i u moves.1))
      (reads (haystack_of t.bytes bytes i u moves.1) moves.2 (path_reads (suc i) [] r path j z on)))

tape_whole :
    (way : Direction) (h : List ℕ) (i j : ℕ) → i ≤ j → j ≤ length h → length (tape_of way h i j).bytes ≡ j - i
tape_whole Forward h i j l k = between_length h i j l k
tape_whole Backward h i j l k = tape_length h i j l k

order_tape : (way : Direction) (h : List ℕ) (i j : ℕ) → in_order way (tape_of way h i j).bytes ≡ between h i j
order_tape Forward h i j = refl
order_tape Backward h i j = reverse-reverse (between h i j)

-- A search in an anchored mode begins at the anchored start or at a pattern's start.
starts_in :
    (a : Automaton) (kind : MatchKind) (mode : Anchored) (start : ℕ) → (mode ≡ No → ⊥)
    → first_state (engine_of a kind) mode ≡ Some start
    → In start (a.start_anchored ∷ a.start_pattern)
starts_in a kind No start f e = absurd (f refl)
starts_in a kind Yes start f e = inl (sym (some_inj e))
starts_in a kind (Pattern k) start f e = inr (nth_in a.start_pattern k start e)

pub keeps_from :
    (way : Direction) (a : Automaton) → (a.flags.utf8 ≡ true → ReadsUtf8 way a) → (kind : MatchKind)
    → KeepsUtf8 way (engine_of a kind)
keeps_from way a f kind h i j pattern mode start path utf8 hay l w anchored first acc =
    subst IsUtf8 (order_tape way h i j)
    (f utf8 start acc.0 pattern (tape_of way h i j).bytes (starts_in a kind mode start anchored first)
    (subst (λ v. ReadsTo (nfa_of a) start v acc.0) whole
    (path_reads (nfa_of a) (tape_of way h i j) (bytes_tape way h i j hay) 0 [] start path (j - i) acc.0 acc.1)) acc.2)
  where
    whole : take (j - i - 0) (drop 0 (tape_of way h i j).bytes) ≡ (tape_of way h i j).bytes
    whole =
        take_all (j - i - 0) (tape_of way h i j).bytes
        (let k = tape_whole way h i j (omega (arith, l)) w in omega (arith, k))

-- Without looks, whatever is read is read along a path.
hop_same_at :
    (x : Node) (A : Truth) (e r : ℕ) → ((look : Look) (next : ℕ) → x ≡ Assert look next → ⊥)
    → hop_at x all_true e ≡ Some r → hop_at x A e ≡ Some r
hop_same_at (Split alternates) A e r f h = h
hop_same_at (Assert look next) A e r f h = absurd (f look next refl)
hop_same_at (Read ranges) A e r f h = h
hop_same_at (Accept p) A e r f h = h

drop_next : (xs us : List ℕ) (i u : ℕ) → drop i xs ≡ u ∷ us → (slice_get xs i ≡ Some u) × (drop (suc i) xs ≡ us)
drop_next [] us zero u e = absurd (nil e)
  where
    nil : [] ≡ u ∷ us → ⊥
    nil e = cc
drop_next [] us (suc i) u e = absurd (nil e)
  where
    nil : [] ≡ u ∷ us → ⊥
    nil e = cc
drop_next (x ∷ xs) us zero u e = (heads e, tails e)
  where
    heads : x ∷ xs ≡ u ∷ us → ◌≡◌ {A = Option ℕ} (Some x) (Some u)
    heads e = cc

    tails : x ∷ xs ≡ u ∷ us → xs ≡ us
    tails e = cc
drop_next (x ∷ xs) us (suc i) u e = drop_next xs us i u e

module _ (a : Automaton) (t : Tape) (lookless : HasNoLook a) where
  hop_same : (i q e r : ℕ) → hop (nfa_of a) all_true q e ≡ Some r → hop (nfa_of a) (truth (nfa_of a) t i) q e ≡ Some r
  hop_same i q e r h =
      hop_same_at (node (nfa_of a) q) (truth (nfa_of a) t i) e r (λ look next f. lookless look (q, next, f)) h

  reads_path :
      (i q : ℕ) (us : List ℕ) (z : ℕ) → ReadsTo (nfa_of a) q us z → (first : ℕ) → drop i t.bytes ≡ us
      → HasWalk (nfa_of a) (truth (nfa_of a) t i) first q → (path : List ℕ)
      × IsPathFrom (nfa_of a) t i [] first path (i + length us) z
  reads_path i q us z ends first d w =
      let e : i ≡ i + 0 = omega arith in
      (w.0, subst (λ v. IsPathFrom (nfa_of a) t i [] first w.0 v z) e (walk_path (nfa_of a) t i [] first w.0 z w.1))
  reads_path i q us z (goes {r = r} e h k) first d w =
      reads_path i r us z k first d
      (walk_then (nfa_of a) (truth (nfa_of a) t i) [] first w.0 q r w.1
      (walk_cons (nfa_of a) (truth (nfa_of a) t i) q e r r (hop_same i q e r h) ([], refl)))
  reads_path i q us z (reads {u = u} {r = r} {bytes = vs} b m k) first d w =
      let f = drop_next t.bytes vs i u d in
      let p = reads_path (suc i) r vs z k r f.1 ([], refl) in
      let e : suc i + length vs ≡ i + length (u ∷ vs) = omega arith in (
        w.0 ++ (0 ∷ p.0),
        subst (λ v. IsPathFrom (nfa_of a) t i [] first (w.0 ++ (0 ∷ p.0)) v z) e
            (path_extend (nfa_of a) t i [] first w.0 i q r p.0 (suc i + length vs) z
            (walk_path (nfa_of a) t i [] first w.0 q w.1) (u, f.0, m) p.1),
      )

order_length : (way : Direction) (us : List ℕ) → length (in_order way us) ≡ length us
order_length Forward us = refl
order_length Backward us = length-reverse us

order_whole : (way : Direction) (us : List ℕ) → between (in_order way us) 0 (length us) ≡ in_order way us
order_whole way us =
    take_all (length us - 0) (in_order way us) (let k = order_length way us in omega (arith, k))

order_tape_whole : (way : Direction) (us : List ℕ) → (tape_of way (in_order way us) 0 (length us)).bytes ≡ us
order_tape_whole Forward us = order_whole Forward us
order_tape_whole Backward us = ap reverse (order_whole Backward us) ∙ reverse-reverse us

starts_mode :
    (a : Automaton) (kind : MatchKind) (start : ℕ) → In start (a.start_anchored ∷ a.start_pattern)
    → (mode : Anchored) × (mode ≡ No → ⊥) × (first_state (engine_of a kind) mode ≡ Some start)
starts_mode a kind start (inl e) = (Yes, (λ f. apart f), ap Some (sym e))
  where
    apart : Yes ≡ No → ⊥
    apart f = cc
starts_mode a kind start (inr i) = let k = in_nth a.start_pattern start i in (Pattern k.0, (λ f. apart k.0 f), k.1)
  where
    apart : (k : ℕ) → Pattern k ≡ No → ⊥
    apart k f = cc

pub keeps_back :
    (way : Direction) (a : Automaton) (kind : MatchKind) → HasNoLook a → KeepsUtf8 way (engine_of a kind)
    → a.flags.utf8 ≡ true → ReadsUtf8 way a
keeps_back Forward a kind lookless keeps utf8 start q p [] i w m = IsUtf8-nil
keeps_back Backward a kind lookless keeps utf8 start q p [] i w m = IsUtf8-nil
keeps_back way a kind lookless keeps utf8 start q p (u ∷ us) i w m =
    let all : List ℕ = u ∷ us in
    let h : List ℕ = in_order way all in
    let mode = starts_mode a kind start i in
    let t : Tape = tape_of way h 0 (length all) in
    let k = reads_path a t lookless 0 start all q w start (order_tape_whole way all) ([], refl) in
    let long : 0 < length all = omega arith in
    let fits : length all ≤ length h = omega (arith, order_length way all) in
    let e : 0 + length all ≡ length all - 0 = omega arith in
    subst IsUtf8 (order_whole way all)
    (keeps h 0 (length all) p mode.0 start k.0 utf8 (haystack_of h (bytes_order way all (reads_bytes a start all q w)))
    long fits mode.1 mode.2
    (q, subst (λ v. IsPathFrom (nfa_of a) t 0 [] start k.0 v q) e k.1, m))
