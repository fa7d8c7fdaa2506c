-- For a true pair, a reverse path from the chosen path's end reaches its start, and none goes beyond it.
use Rattle.std.proofs.Common.{ℕ, ◌≡◌, ◌≤◌, ◌+◌, ◌-◌, List, [], length, Some, refl, sym, subst}
use Rattle.std.proofs.Common.{arith}
use Rattle.automata_base.specs.Nfas.Nfa.{accepts}
use Rattle.automata_base.specs.Paths.Paths.{IsPathFrom}
use Rattle.automata_base.specs.Paths.Selections.{Accepts}
use Rattle.automata_base.proofs.Paths.Searches.{accepting_inside}
use Rattle.automata_base.specs.Haystacks.Tapes.{IsHaystack, forward_tape, reverse_tape}
use Rattle.automata_base.specs.declared.util.search.Direction.TheVariants.{Forward, Backward}
use Rattle.automata_base.specs.Nfas.Engines.{Engine}
use Rattle.automata_base.specs.Answers.TruePairs.{Joins, IsTruePair}
use Rattle.automata_base.proofs.Answers.Bytes.{tape_length}
use Rattle.automata_base.proofs.Answers.Alike.{path_alike, forward_alike, reverse_alike}
use Rattle.automata_base.proofs.Answers.Backs.{narrow}

-- An accepting path from the anchored start over part of the span is also one over the whole span.
pub widen :
    (d : Engine) (h : List ℕ) (b e s m pattern : ℕ) → b ≤ s → s + m ≤ e → e ≤ length h
    → Joins Forward d h s (s + m) pattern
    → (path : List ℕ) × (z : ℕ) × IsPathFrom d.nfa (forward_tape h b e) (s - b) [] d.anchored path ((s + m) - b) z
    × (accepts d.nfa z ≡ Some pattern)
widen d h b e s m pattern l k w j = (
  j.0,
  j.1.0,
  path_alike d.nfa (forward_tape h s (s + m)) (forward_tape h b e) s b m
      (forward_alike h s (s + m) b e m (omega arith) k (omega (arith, k, w)) w)
      0 (s - b) [] d.anchored j.0 ((s + m) - s) ((s + m) - b) j.1.0
      (omega (arith, l)) (omega (arith, l)) (omega arith) j.1.1,
  j.1.2,
)

-- Reverse paths from one end do not depend on where the span begins.
pub reverse_same :
    (d : Engine) (h : List ℕ) (s s' e m m' pattern : ℕ) (path : List ℕ) → s + m ≤ e → s' + m ≤ e → e ≤ length h → m ≡ m'
    → Accepts d.nfa (reverse_tape h s e) d.anchored m pattern path
    → Accepts d.nfa (reverse_tape h s' e) d.anchored m' pattern path
reverse_same d h s s' e m m' pattern path l k w c a = (
  a.0,
  path_alike d.nfa (reverse_tape h s e) (reverse_tape h s' e) 0 0 m (reverse_alike h s s' e m l k w)
      0 0 [] d.anchored path m m' a.0 refl (omega (arith, c)) (omega arith) a.1,
  a.2,
)

-- Some reverse path goes back to the start.
pub goes_back :
    (f r : Engine) (h : List ℕ) (b i k pattern z : ℕ) (rest : List ℕ) (e : ℕ)
    → IsTruePair f r → IsHaystack h → k ≤ i → b + i ≤ e → e ≤ length h
    → IsPathFrom f.nfa (forward_tape h b e) k [] f.anchored rest i z → accepts f.nfa z ≡ Some pattern
    → (path : List ℕ) × Accepts r.nfa (reverse_tape h b (b + i)) r.anchored (i - k) pattern path
goes_back f r h b i k pattern z rest e pair bytes l u w p m = (
  j.0,
  reverse_same r h (b + k) b (b + i) ((b + i) - (b + k)) (i - k) pattern j.0
      (omega (arith, l)) (omega (arith, l)) (omega (arith, u, w)) (omega (arith, l)) j.1,
)
  where
    j : Joins Backward r h (b + k) (b + i) pattern
    j =
        (pair.joins h (b + k) (b + i) pattern bytes (omega (arith, l)) (omega (arith, u, w))).0
        (narrow f h b e i k pattern z rest l u w p m)

-- A reverse path gives a forward path from the position at which it ends.
pub comes_forth :
    (f r : Engine) (h : List ℕ) (b i e m pattern : ℕ) (path : List ℕ)
    → IsTruePair f r → IsHaystack h → b + i ≤ e → e ≤ length h
    → Accepts r.nfa (reverse_tape h b (b + i)) r.anchored m pattern path
    → (m ≤ i)
    × ((other : List ℕ) × (z : ℕ) × IsPathFrom f.nfa (forward_tape h b e) (i - m) [] f.anchored other i z
    × (accepts f.nfa z ≡ Some pattern))
comes_forth f r h b i e m pattern path pair bytes u w a = (short, (o.0, o.1, o.2, o.3))
  where
    short : m ≤ i
    short =
        let g = accepting_inside r.nfa (reverse_tape h b (b + i)) r.anchored m pattern path a in
        let n = tape_length h b (b + i) (omega arith) (omega (arith, u, w)) in
        omega (arith, g, n)

    s : ℕ
    s = b + (i - m)

    same : s + m ≡ b + i
    same = omega (arith, short)

    j : Joins Backward r h s (s + m) pattern
    j = (
      path,
      subst (λ v. Accepts r.nfa (reverse_tape h s v) r.anchored (v - s) pattern path) (sym same)
          (reverse_same r h b s (b + i) m ((b + i) - s) pattern path (omega (arith, short)) (omega (arith, short))
          (omega (arith, u, w)) (omega (arith, short)) a),
    )

    o :
        (other : List ℕ) × (z : ℕ) × IsPathFrom f.nfa (forward_tape h b e) (i - m) [] f.anchored other i z
        × (accepts f.nfa z ≡ Some pattern)
    o =
        let wide =
        widen f h b e s m pattern (omega arith) (omega (arith, short, u)) w
        ((pair.joins h s (s + m) pattern bytes (omega arith) (omega (arith, short, u, w))).1 j) in (
          wide.0,
          wide.1,
          subst (λ v. IsPathFrom f.nfa (forward_tape h b e) v [] f.anchored wide.0 i wide.1) (omega arith)
              (subst (λ v. IsPathFrom f.nfa (forward_tape h b e) (s - b) [] f.anchored wide.0 v wide.1)
              (omega (arith, short)) wide.2),
          wide.3,
        )
