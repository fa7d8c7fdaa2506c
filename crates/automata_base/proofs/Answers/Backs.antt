-- The part of a span that an accepting path reads.
use Rattle.std.proofs.Common.{ℕ, ◌≡◌, ◌<◌, ◌≤◌, ◌+◌, ◌-◌, List, [], length, Some, sym, ◌∙◌}
use Rattle.std.proofs.Common.{arith, ⊎_elim}
use Rattle.std.proofs.lemmas.Bool.{cases_lt}
use Rattle.automata_base.specs.Nfas.Nfa.{accepts}
use Rattle.automata_base.specs.Paths.Paths.{IsPathFrom}
use Rattle.automata_base.specs.Paths.Selections.{Accepts}
use Rattle.automata_base.proofs.Paths.Searches.{accepting_inside}
use Rattle.automata_base.specs.Haystacks.Tapes.{IsHaystack, Forward, forward_tape, between}
use Rattle.automata_base.specs.Nfas.Engines.{Engine}
use Rattle.automata_base.specs.Answers.TruePairs.{Joins}
use Rattle.automata_base.proofs.Answers.Bytes.{forward_length, nth_between}
use Rattle.automata_base.proofs.Answers.Alike.{path_alike, forward_alike}
use Rattle.automata_base.proofs.Answers.Loops.{HasBytes}
use Rattle.automata_base.proofs.Paths.Searches.{nth_inside}

-- The chosen end lies in the span.
pub end_inside :
    (d : Engine) (h : List ℕ) (b e : ℕ) (q i pattern : ℕ) (path : List ℕ) → b ≤ e → e ≤ length h
    → Accepts d.nfa (forward_tape h b e) q i pattern path → b + i ≤ e
end_inside d h b e q i pattern path l k a =
    let g = accepting_inside d.nfa (forward_tape h b e) q i pattern path a in
    let n = forward_length h b e l k in
    omega (arith, g, n, l)

pub forward_bytes : (h : List ℕ) (s e : ℕ) → IsHaystack h → s ≤ e → e ≤ length h → HasBytes (forward_tape h s e)
forward_bytes h s e bytes l k o v g = ⊎_elim
    (λ (c : s + o < e). bytes (s + o) v (sym (nth_between h s e o c) ∙ g))
    (λ (c : e ≤ s + o). absurd (omega (arith, nth_inside (between h s e) o v g, forward_length h s e l k, c)))
    (cases_lt (s + o) e)

-- Conversely, an accepting path over the span is also one over the part that it reads.
pub narrow :
    (d : Engine) (h : List ℕ) (b e i k pattern z : ℕ) (path : List ℕ) → k ≤ i → b + i ≤ e → e ≤ length h
    → IsPathFrom d.nfa (forward_tape h b e) k [] d.anchored path i z → accepts d.nfa z ≡ Some pattern
    → Joins Forward d h (b + k) (b + i) pattern
narrow d h b e i k pattern z path l u w p m = (
  path,
  (
    z,
    path_alike d.nfa (forward_tape h b e) (forward_tape h (b + k) (b + i)) b (b + k) i
        (forward_alike h b e (b + k) (b + i) i u (omega arith) w (omega (arith, u, w)))
        k 0 [] d.anchored path i ((b + i) - (b + k)) z
        (omega arith) (omega (arith, l)) (omega arith) p,
    m,
  ),
)
