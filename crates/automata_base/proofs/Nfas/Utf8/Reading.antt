-- A walk over pairs follows what an NFA reads.
use Rattle.std.proofs.Common.{ℕ, ◌≡◌, ◌+◌, ◌*◌, ◌/◌, ◌%◌, ◌<◌, ◌↔◌, true, List, [], ◌∷◌, Some, inl, inr, refl, sym, ap}
use Rattle.std.proofs.Common.{◌∙◌, subst, arith}
use Rattle.automata_base.specs.declared.nfa.thompson.utf8.Class.{Class}
use Rattle.automata_base.specs.Retraced.Decoders.{pair, pairs_of, classes_below, EndsAtBoundaries}
use Rattle.automata_base.proofs.Nfas.Utf8.Decoder.{step, decode}
use Rattle.automata_base.specs.Lists.{In}
use Rattle.automata_base.specs.Nfas.Nfa.{accepts}
use Rattle.automata_base.specs.Nfas.Nodes.{Automaton, nfa_of}
use Rattle.automata_base.specs.Retraced.Reach.{node_in, IsMatchAt, Route}
use Rattle.automata_base.specs.Nfas.Errors.{states_ordered}
use Rattle.automata_base.specs.Nfas.Utf8.{ReadsTo, ends, goes, reads}
use Rattle.automata_base.proofs.Nfas.Utf8.Decoding.{AreBytes, step_below, decode_below}
use Rattle.automata_base.proofs.Nfas.Utf8.Edges.{chained, Edge, edge_from, edge_free, edge_byte, of_pairs, in_pairs}

pub reads_bytes : (a : Automaton) (q : ℕ) (us : List ℕ) (z : ℕ) → ReadsTo (nfa_of a) q us z → AreBytes us
reads_bytes a q us z ends = tt
reads_bytes a q us z (goes {r = r} e h w) = reads_bytes a r us z w
reads_bytes a q us z (reads {r = r} {bytes = vs} b t w) = (b, reads_bytes a r vs z w)

module _ (a : Automaton) (cs : List Class) (chain : chained 0 cs ≡ true) (below : classes_below cs ≡ true) where
  reads_route :
      (q : ℕ) (us : List ℕ) (z : ℕ) → ReadsTo (nfa_of a) q us z → (s : ℕ) → s < 11
      → (way : List ℕ) × Route (pairs_of cs a.states) (pair q s) way (pair z (decode cs s us))
  reads_route q us z ends s l = ([], refl)
  reads_route q us z (goes {r = r} e h w) s l =
      let k = reads_route r us z w s l in
      (pair r s ∷ k.0, (edge_free a cs chain q s e r l h, k.1))
  reads_route q us z (reads {u = u} {r = r} {bytes = vs} b t w) s l =
      let k = reads_route r vs z w (step cs s u) (step_below cs s u below) in
      (pair r (step cs s u) ∷ k.0, (edge_byte a cs chain q s u r l b t, k.1))

  -- Some bytes lead from the pair `x` to the pair `z`.
  abbrev Read : (x z : ℕ) → Type 0
  Read x z = (us : List ℕ) × ReadsTo (nfa_of a) (x / 11) us (z / 11) × (z % 11 ≡ decode cs (x % 11) us)

  route_reads :
      states_ordered a.states ≡ true → (x : ℕ) (way : List ℕ) (z : ℕ) → Route (pairs_of cs a.states) x way z → Read x z
  route_reads ordered x [] z w =
      ([], subst (λ v. ReadsTo (nfa_of a) (x / 11) [] (v / 11)) w ends, ap (λ v. v % 11) (sym w))
  route_reads ordered x (y ∷ way) z w = go (edge_from a cs chain x y ordered w.0) (route_reads ordered y way z w.1)
    where
      go : Edge a cs (x / 11) (x % 11) y → Read y z → Read x z
      go (inl (e, r, h, f)) (us, k, d) =
          let f' : y ≡ r * 11 + x % 11 = f in
          let q : y / 11 ≡ r = omega arith in
          let s : y % 11 ≡ x % 11 = omega arith in
          (us, goes e h (subst (λ v. ReadsTo (nfa_of a) v us (z / 11)) q k), d ∙ ap (λ v. decode cs v us) s)
      go (inr (u, r, b, t, f)) (us, k, d) =
          let n : ℕ = step cs (x % 11) u in
          let l : n < 11 = step_below cs (x % 11) u below in
          let f' : y ≡ r * 11 + n = f in
          let q : y / 11 ≡ r = omega arith in
          let s : y % 11 ≡ n = omega arith in
          (u ∷ us, reads b t (subst (λ v. ReadsTo (nfa_of a) v us (z / 11)) q k), d ∙ ap (λ v. decode cs v us) s)

  -- The walk's test holds exactly if everything that is read up to a match satisfies `P`.
  pub ends_reads :
      (P : List ℕ → Type 0) (starts : List ℕ) → states_ordered a.states ≡ true
      → ((us : List ℕ) → AreBytes us → decode cs 0 us ≡ 0 ↔ P us)
      → EndsAtBoundaries cs a.states starts
      ↔ ((start q p : ℕ) (us : List ℕ) → In start starts → ReadsTo (nfa_of a) start us q → accepts (nfa_of a) q ≡ Some p
      → P us)
  ends_reads P starts ordered right = (there, back)
    where
      there :
          EndsAtBoundaries cs a.states starts → (start q p : ℕ) (us : List ℕ) → In start starts
          → ReadsTo (nfa_of a) start us q
          → accepts (nfa_of a) q ≡ Some p → P us
      there h start q p us i w m =
          let k = reads_route start us q w 0 (omega arith) in
          let s : ℕ = decode cs 0 us in
          let l : s < 11 = decode_below cs 0 us below (omega arith) in
          let d : pair q s / 11 ≡ q = omega arith in
          let n : pair q s % 11 ≡ s = omega arith in
          (right us (reads_bytes a start us q w)).0
          (sym n ∙ h (pair q s) (pair start 0, k.0, in_pairs 0 start starts i, k.1)
          (subst (λ v. IsMatchAt (node_in a.states v)) (sym d) (p, m)))

      back :
          ((start q p : ℕ) (us : List ℕ) → In start starts → ReadsTo (nfa_of a) start us q
          → accepts (nfa_of a) q ≡ Some p → P us)
          → EndsAtBoundaries cs a.states starts
      back h x (root, way, i, w) m = go (of_pairs 0 root starts i) (route_reads ordered root way x w)
        where
          go : (start : ℕ) × In start starts × (root ≡ pair start 0) → Read root x → x % 11 ≡ 0
          go (start, j, e) (us, k, d) =
              let f : root ≡ start * 11 + 0 = e in
              let q : root / 11 ≡ start = omega arith in
              let s : root % 11 ≡ 0 = omega arith in
              let v : ReadsTo (nfa_of a) start us (x / 11) = subst (λ v. ReadsTo (nfa_of a) v us (x / 11)) q k in
              d ∙ (ap (λ v. decode cs v us) s
              ∙ (right us (reads_bytes a start us (x / 11) v)).1 (h start (x / 11) m.0 us j v m.1))
