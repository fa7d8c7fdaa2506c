-- What paths accept does not depend on whether powerset states keep unions.
use Rattle.std.proofs.Common.{ℕ, suc, ◌≡◌, ◌-◌, ◌∙◌, Bool, List, [], ◌∷◌, refl}
use Rattle.automata_base.specs.declared.util.search.MatchKind.{MatchKind}
use Rattle.automata_base.specs.Answers.TruePairs.{IsTruePair, Joins, KeepsUtf8}
use Rattle.automata_base.specs.Haystacks.Tapes.{Direction, Forward, tape_of}
use Rattle.automata_base.specs.Nfas.Engines.{Anchored, BeginsLazily, Engine, HasEmptyMatch, MatchesEmpty, No, Pattern}
use Rattle.automata_base.specs.Nfas.Engines.{Reaches, Road, Yes}
use Rattle.automata_base.specs.Nfas.Engines.{ByteEdge, FreeEdge, LazyLoop, SharedStart, engine_of, first_state}
use Rattle.automata_base.specs.Nfas.Nfa.{Nfa, Node}
use Rattle.automata_base.specs.Nfas.Nodes.{Automaton, nfa_of, nodes_of}
use Rattle.automata_base.specs.Paths.Paths.{Tape, IsPathFrom, Run}
use Rattle.automata_base.specs.Paths.Paths.{StaysHere, ReadsByte}
use Rattle.automata_base.specs.Paths.Selections.{Accepts}

module _ (nodes : List Node) (terminator : ℕ) (reverse : Bool) where
  abbrev n : Bool → Nfa
  n keeps_unions = record { nodes = nodes; terminator = terminator; reverse = reverse; keeps_unions = keeps_unions }

  path_with :
      (v w : Bool) (t : Tape) (i : ℕ) (seen : List ℕ) (q : ℕ) (path : List ℕ) (j z : ℕ)
      → IsPathFrom (n v) t i seen q path j z → IsPathFrom (n w) t i seen q path j z
  path_with v w t i seen q [] j z p = p
  path_with v w t i seen q (e ∷ path) j z (StaysHere r hops new on) =
      StaysHere r hops new (path_with v w t i (q ∷ seen) r path j z on)
  path_with v w t i seen q (e ∷ path) j z (ReadsByte r edge moves on) =
      ReadsByte r edge moves (path_with v w t (suc i) [] r path j z on)

  pub accepts_with :
      (v w : Bool) (t : Tape) (start i pattern : ℕ) (path : List ℕ)
      → Accepts (n v) t start i pattern path → Accepts (n w) t start i pattern path
  accepts_with v w t start i pattern path a = (a.0, path_with v w t 0 [] start path i a.0 a.1, a.2)

  run_with : (v w : Bool) (q : ℕ) (path : List ℕ) (z : ℕ) → Run (n v) q path z → Run (n w) q path z
  run_with v w q [] z u = u
  run_with v w q (e ∷ path) z u = (u.0, u.1, run_with v w u.0 path z u.2)

  pub empty_with : (v w : Bool) (starts : List ℕ) → MatchesEmpty (n v) starts → MatchesEmpty (n w) starts
  empty_with v w starts m = (m.0, m.1, m.2, m.3, (m.4.0, run_with v w m.0 m.4.0 m.1 m.4.1), m.5)

  road_with : (v w : Bool) (q : ℕ) (rs : List ℕ) (z : ℕ) → Road (n v) q rs z → Road (n w) q rs z
  road_with v w q [] z u = u
  road_with v w q (r ∷ rs) z (FreeEdge e h, u) = (FreeEdge e h, road_with v w r rs z u)
  road_with v w q (r ∷ rs) z (ByteEdge b h, u) = (ByteEdge b h, road_with v w r rs z u)

  pub reaches_with : (v w : Bool) (q z : ℕ) → Reaches (n v) q z → Reaches (n w) q z
  reaches_with v w q z r = (r.0, road_with v w q r.0 z r.1)

  pub lazily_with :
      (v w : Bool) (anchored unanchored : ℕ) → BeginsLazily (n v) anchored unanchored
      → BeginsLazily (n w) anchored unanchored
  lazily_with v w anchored unanchored (SharedStart same) = SharedStart same
  lazily_with v w anchored unanchored (LazyLoop skip l) =
      LazyLoop skip (l.0, l.1, λ r. l.2 (reaches_with w v anchored unanchored r))

module _ (a : Automaton) (kind : MatchKind) where
  abbrev with_unions : Bool → Automaton
  with_unions v = record a { keeps_unions = v }

  accepted :
      (v w : Bool) (t : Tape) (start i pattern : ℕ) (path : List ℕ)
      → Accepts (nfa_of (with_unions v)) t start i pattern path
      → Accepts (nfa_of (with_unions w)) t start i pattern path
  accepted = accepts_with (nodes_of a.states) a.flags.line_terminator a.flags.reverse

  empty : (v w : Bool) → HasEmptyMatch (engine_of (with_unions v) kind) → HasEmptyMatch (engine_of (with_unions w) kind)
  empty v w = empty_with (nodes_of a.states) a.flags.line_terminator a.flags.reverse v w a.start_pattern

  joined :
      (v w : Bool) (h : List ℕ) (i j pattern : ℕ)
      → Joins Forward (engine_of (with_unions v) kind) h i j pattern
      → Joins Forward (engine_of (with_unions w) kind) h i j pattern
  joined v w h i j pattern f = (f.0, accepted v w (tape_of Forward h i j) a.start_anchored (j - i) pattern f.0 f.1)

  pub pair_with :
      (v w : Bool) (r : Engine)
      → IsTruePair (engine_of (with_unions v) kind) r → IsTruePair (engine_of (with_unions w) kind) r
  pair_with v w r p = record {
    all = p.all;
    utf8 = p.utf8;
    empty = (λ e. p.empty.0 (empty w v e), λ e. empty v w (p.empty.1 e));
    joins = λ h i j pattern hay le few.
        let joins = p.joins h i j pattern hay le few in
        (λ f. joins.0 (joined w v h i j pattern f), λ b. joined v w h i j pattern (joins.1 b));
    begins =
        lazily_with (nodes_of a.states) a.flags.line_terminator a.flags.reverse v w a.start_anchored a.start_unanchored
        p.begins;
  }

  first_with :
      (v w : Bool) (mode : Anchored)
      → first_state (engine_of (with_unions v) kind) mode ≡ first_state (engine_of (with_unions w) kind) mode
  first_with v w No = refl
  first_with v w Yes = refl
  first_with v w (Pattern k) = refl

  pub utf8_with :
      (v w : Bool) (way : Direction)
      → KeepsUtf8 way (engine_of (with_unions v) kind) → KeepsUtf8 way (engine_of (with_unions w) kind)
  utf8_with v w way keeps h i j pattern mode start path on hay lt few not_no first accepts =
      keeps h i j pattern mode start path on hay lt few not_no (first_with v w mode ∙ first)
      (accepted w v (tape_of way h i j) start (j - i) pattern path accepts)
