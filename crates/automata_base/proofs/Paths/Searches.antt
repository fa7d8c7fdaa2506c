-- Accepting paths end inside their tape.
use Rattle.std.proofs.Common.{ℕ, zero, suc, ◌≡◌, ◌<◌, ◌≤◌, List, [], ◌∷◌, length, Some}
use Rattle.std.proofs.Common.{arith}
use Rattle.std.specs.Prelude.{slice_get}
use Rattle.automata_base.specs.Nfas.Nfa.{Nfa}
use Rattle.automata_base.specs.Paths.Paths.{Tape, IsPathFrom}
use Rattle.automata_base.specs.Paths.Paths.{StaysHere, ReadsByte}
use Rattle.automata_base.specs.Paths.Selections.{Accepts}
use Rattle.automata_base.proofs.Paths.Orders.{none_some}

pub nth_inside : (xs : List ℕ) (i u : ℕ) → slice_get xs i ≡ Some u → i < length xs
nth_inside [] i u e = absurd (none_some e)
nth_inside (x ∷ xs) zero u e = omega arith
nth_inside (x ∷ xs) (suc i) u e = let k = nth_inside xs i u e in omega (arith, k)

pub path_inside :
    (n : Nfa) (t : Tape) (i : ℕ) (seen : List ℕ) (q : ℕ) (p : List ℕ) (j z : ℕ)
    → i ≤ length t.bytes → IsPathFrom n t i seen q p j z → j ≤ length t.bytes
path_inside n t i seen q [] j z l h = omega (arith, l, h.0)
path_inside n t i seen q (e ∷ p) j z l (StaysHere r hops new on) = path_inside n t i (q ∷ seen) r p j z l on
path_inside n t i seen q (e ∷ p) j z l (ReadsByte r edge moves on) =
    path_inside n t (suc i) [] r p j z (nth_inside t.bytes i moves.0 moves.1) on

pub accepting_inside :
    (n : Nfa) (t : Tape) (start i pattern : ℕ) (path : List ℕ) → Accepts n t start i pattern path → i ≤ length t.bytes
accepting_inside n t start i pattern path a = path_inside n t 0 [] start path i a.0 (omega arith) a.1
