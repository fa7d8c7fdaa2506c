-- An NFA that reads like the reversed one can take its place in a true pair.
use Rattle.std.proofs.Common.{ℕ, ◌≡◌, ◌-◌, ◌↔◌, List, [], Some, refl, sym, ap, ◌∙◌, subst}
use Rattle.std.specs.Prelude.{slice_get}
use Rattle.automata_base.specs.declared.nfa.thompson.state.Flags.{Flags}
use Rattle.automata_base.specs.declared.nfa.thompson.state.State.{State}
use Rattle.automata_base.specs.Lists.{In}
use Rattle.automata_base.specs.Nfas.Automata.{automaton}
use Rattle.automata_base.specs.Nfas.Engines.{MatchesEmpty, engine_of}
use Rattle.automata_transform.specs.Nfas.Mirrors.{ReadsAlike, AcceptsFrom, BeginsAt, BeginsHere, BeginsAnywhere}
use Rattle.automata_transform.specs.Nfas.Mirrors.{BeginsByPattern}
use Rattle.automata_transform.specs.Nfas.Mirrors.{PatternsAreReversed, ReversedIsTrue}
use Rattle.automata_base.specs.Nfas.Nfa.{Node}
use Rattle.automata_base.specs.Nfas.Nodes.{Automaton, nfa_of}
use Rattle.automata_base.specs.Paths.Paths.{Tape, truth}
use Rattle.automata_base.specs.declared.util.search.MatchKind.TheVariants.{All}
use Rattle.automata_transform.specs.Retraced.Folds.{IsFolded, IsNotFree}
use Rattle.automata_base.specs.declared.util.search.Direction.TheVariants.{Backward}
use Rattle.automata_base.specs.Haystacks.Tapes.{forward_tape, reverse_tape}
use Rattle.automata_base.specs.Answers.TruePairs.{IsTruePair, Joins}
use Rattle.automata_transform.proofs.Nfas.Folds.Ways.{forth_there, back_there}
use Rattle.automata_transform.proofs.Nfas.Mirrors.Pairs.{mirror_patterns, mirror_true}
use Rattle.automata_transform.proofs.Nfas.Mirrors.Ways.{path_way, way_path, run_way, way_run, always, no_bytes}
use Rattle.automata_base.proofs.Paths.Sets.{nth_in}

pub reversed_true : ReversedIsTrue
reversed_true a b kind checked r alike lazy = record {
  all = refl;
  utf8 = pair.utf8 ∙ sym (ap (λ (f : Flags). f.utf8) r.alike.flags);
  empty = ((λ e. r.alike.empty.0 (pair.empty.0 e)), λ e. pair.empty.1 (r.alike.empty.1 e));
  joins = λ h i j p bytes l w. (
    (λ s. forth h i j p ((pair.joins h i j p bytes l w).0 s)),
    λ s. (pair.joins h i j p bytes l w).1 (back h i j p s),
  );
  begins = lazy;
}
  where
    pair : IsTruePair (engine_of a kind) (engine_of r.mirror All)
    pair = mirror_true a r.mirror kind checked r.reversed alike lazy

    forth :
        (h : List ℕ) (i j p : ℕ) → Joins Backward (engine_of r.mirror All) h i j p
        → Joins Backward (engine_of b All) h i j p
    forth h i j p s =
        subst (λ v. AcceptsFrom b (reverse_tape h i j) v (j - i) p) (sym r.alike.anchored)
        ((r.alike.accepts r.mirror.start_anchored (BeginsHere refl) (reverse_tape h i j) (j - i) p).0 s)

    back :
        (h : List ℕ) (i j p : ℕ) → Joins Backward (engine_of b All) h i j p
        → Joins Backward (engine_of r.mirror All) h i j p
    back h i j p s =
        (r.alike.accepts r.mirror.start_anchored (BeginsHere refl) (reverse_tape h i j) (j - i) p).1
        (subst (λ v. AcceptsFrom b (reverse_tape h i j) v (j - i) p) r.alike.anchored s)

pub patterns_turned : PatternsAreReversed
patterns_turned a b checked r k entry at h i j pattern l w = (
  (λ s. turned.0 (reads.1 s)),
  λ s. reads.0 (turned.1 s),
)
  where
    mirrored : slice_get r.mirror.start_pattern k ≡ Some entry
    mirrored = ap (λ (z : List ℕ). slice_get z k) (sym r.alike.patterns) ∙ at

    turned :
        AcceptsFrom r.mirror (reverse_tape h i j) entry (j - i) pattern
        ↔ ((pattern ≡ k) × AcceptsFrom a (forward_tape h i j) a.start_anchored (j - i) pattern)
    turned = mirror_patterns a r.mirror checked r.reversed k entry mirrored h i j pattern l w

    reads :
        AcceptsFrom r.mirror (reverse_tape h i j) entry (j - i) pattern
        ↔ AcceptsFrom b (reverse_tape h i j) entry (j - i) pattern
    reads =
        r.alike.accepts entry (BeginsByPattern (nth_in r.mirror.start_pattern k entry mirrored))
        (reverse_tape h i j) (j - i)
        pattern

-- An NFA reads like itself.
pub itself_alike : (a : Automaton) → ReadsAlike a a
itself_alike a = record {
  flags = refl;
  anchored = refl;
  unanchored = refl;
  patterns = refl;
  accepts = λ start is t i p. ((λ s. s), λ s. s);
  empty = ((λ s. s), λ s. s);
}

-- An NFA and its folded form read alike.
module _ (states folded : List State) (root : ℕ) (entries : List ℕ) (flags : Flags) (free : List ℕ) (made : List Node)
    (f : IsFolded (nfa_of (automaton states root root entries flags))
    (nfa_of (automaton folded root root entries flags))
    free made)
    (low : IsNotFree free root) (entered : (e : ℕ) → In e entries → IsNotFree free e) where
  abbrev Plain : Automaton
  Plain = automaton states root root entries flags

  abbrev Folded : Automaton
  Folded = automaton folded root root entries flags

  below : (start : ℕ) → BeginsAt Plain start → IsNotFree free start
  below start (BeginsHere e) = subst (λ v. IsNotFree free v) (sym e) low
  below start (BeginsAnywhere e) = subst (λ v. IsNotFree free v) (sym e) low
  below start (BeginsByPattern k) = entered start k

  reach :
      (start : ℕ) → IsNotFree free start → (t : Tape) (i p : ℕ) → AcceptsFrom Plain t start i p
      → AcceptsFrom Folded t start i p
  reach start l t i p s =
      let there =
      forth_there (nfa_of Plain) (nfa_of Folded) free made f (truth (nfa_of Plain) t) (slice_get t.bytes) 0 start i p l
      (s.1.0, (s.0, path_way (nfa_of Plain) t 0 [] start s.0 i s.1.0 s.1.1), s.1.2) in
      let path = way_path (nfa_of Folded) t 0 start there.1.0 i there.0 there.1.1 in
      (path.0, (there.0, path.1, there.2))

  reach_back :
      (start : ℕ) → IsNotFree free start → (t : Tape) (i p : ℕ) → AcceptsFrom Folded t start i p
      → AcceptsFrom Plain t start i p
  reach_back start l t i p s =
      let there =
      back_there (nfa_of Plain) (nfa_of Folded) free made f (truth (nfa_of Plain) t) (slice_get t.bytes) 0 start i p l
      (s.1.0, (s.0, path_way (nfa_of Folded) t 0 [] start s.0 i s.1.0 s.1.1), s.1.2) in
      let path = way_path (nfa_of Plain) t 0 start there.1.0 i there.0 there.1.1 in
      (path.0, (there.0, path.1, there.2))

  empty : MatchesEmpty (nfa_of Plain) entries → MatchesEmpty (nfa_of Folded) entries
  empty e =
      let there =
      forth_there (nfa_of Plain) (nfa_of Folded) free made f always no_bytes 0 e.0 0 e.2 (entered e.0 e.3)
      (e.1, (e.4.0, run_way (nfa_of Plain) e.0 e.4.0 e.1 e.4.1), e.5) in
      (e.0, there.0, e.2, e.3, (there.1.0, way_run (nfa_of Folded) 0 e.0 there.1.0 0 there.0 there.1.1), there.2)

  empty_back : MatchesEmpty (nfa_of Folded) entries → MatchesEmpty (nfa_of Plain) entries
  empty_back e =
      let there =
      back_there (nfa_of Plain) (nfa_of Folded) free made f always no_bytes 0 e.0 0 e.2 (entered e.0 e.3)
      (e.1, (e.4.0, run_way (nfa_of Folded) e.0 e.4.0 e.1 e.4.1), e.5) in
      (e.0, there.0, e.2, e.3, (there.1.0, way_run (nfa_of Plain) 0 e.0 there.1.0 0 there.0 there.1.1), there.2)

  pub folded_alike : ReadsAlike Plain Folded
  folded_alike = record {
    flags = refl;
    anchored = refl;
    unanchored = refl;
    patterns = refl;
    accepts = λ start is t i p. (reach start (below start is) t i p, reach_back start (below start is) t i p);
    empty = (empty, empty_back);
  }
