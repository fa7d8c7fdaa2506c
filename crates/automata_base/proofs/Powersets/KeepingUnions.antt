-- What holds for an NFA's data does not depend on whether its powerset states keep unions.
use Rattle.std.proofs.Common.{ℕ, Bool, true, false, not, ◌≡◌, ◌↔◌, List, [], ◌∷◌, Some, refl, sym, subst}
use Rattle.std.proofs.Common.{true≢false}
use Rattle.std.specs.Prelude.{slice_get, IsTrue}
use Rattle.automata_base.specs.declared.nfa.thompson.Data.{Data}
use Rattle.automata_base.specs.Nfas.Automata.{automaton_of, IsConsistent}
use Rattle.automata_base.specs.Nfas.Engines.{BeginsLazily, MatchesEmpty}
use Rattle.automata_base.specs.Nfas.Nfa.{Nfa, Assert, node_or_fail, hop_at}
use Rattle.automata_base.specs.Nfas.Nodes.{nfa_of}
use Rattle.automata_base.specs.Paths.Paths.{all_true, Run, IsLookAcyclic, KeepsCycles}
use Rattle.automata_base.proofs.Answers.KeptUnions.{lazily_with}
use Rattle.automata_base.proofs.Paths.KeptUnions.{acyclic_keeps, unions_keep}

run_with : (n m : Nfa) → n.nodes ≡ m.nodes → (q : ℕ) (path : List ℕ) (z : ℕ) → Run n q path z → Run m q path z
run_with n m s q [] z u = u
run_with n m s q (e ∷ path) z u = (
  u.0,
  subst (λ ns. hop_at (node_or_fail (slice_get ns q)) all_true e ≡ Some u.0) s u.1,
  run_with n m s u.0 path z
      u.2,
)

acyclic_with : (n m : Nfa) → n.nodes ≡ m.nodes → IsLookAcyclic n → IsLookAcyclic m
acyclic_with n m s free q look next e on =
    free q look next (subst (λ ns. node_or_fail (slice_get ns q) ≡ Assert look next) (sym s) e) (
      on.0,
      on.1,
      subst (λ ns. hop_at (node_or_fail (slice_get ns q)) all_true on.0 ≡ Some on.1) (sym s) on.2,
      (on.3.0, run_with m n (sym s) on.1 on.3.0 q on.3.1),
    )

pub consistent_with : (d : Data) (v w : Bool) → IsConsistent d v → IsConsistent d w
consistent_with d v w c = record {
  checked = record {
    small = c.checked.small;
    few = c.checked.few;
    range = c.checked.range;
    anchored = c.checked.anchored;
    unanchored = c.checked.unanchored;
    starts = c.checked.starts;
    ordered = c.checked.ordered;
    room = c.checked.room;
    patterns = c.checked.patterns;
  };
  looks = c.looks;
  room = c.room;
  empty = (λ t. matches v w (c.empty.0 t), λ m. c.empty.1 (matches w v m));
  skips = (λ t. lazily v w (c.skips.0 t), λ h. c.skips.1 (lazily w v h));
  acyclic = (λ t. acyclic_with (n v) (n w) refl (c.acyclic.0 t), λ f. c.acyclic.1 (acyclic_with (n w) (n v) refl f));
}
  where
    n : Bool → Nfa
    n b = nfa_of (automaton_of d b)

    lazily :
        (a b : Bool) → BeginsLazily (n a) d.start_anchored d.start_unanchored
        → BeginsLazily (n b) d.start_anchored d.start_unanchored
    lazily a b h = lazily_with (n a).nodes (n a).terminator (n a).reverse a b d.start_anchored d.start_unanchored h

    matches : (a b : Bool) → MatchesEmpty (n a) d.start_pattern.items → MatchesEmpty (n b) d.start_pattern.items
    matches a b m = (m.0, m.1, m.2, m.3, (m.4.0, run_with (n a) (n b) refl m.0 m.4.0 m.1 m.4.1), m.5)

-- An NFA that keeps unions if it has a look cycle keeps its cycles.
pub kept_with :
    (d : Data) (v r : Bool) → IsTrue r ↔ IsLookAcyclic (nfa_of (automaton_of d v))
    → KeepsCycles (nfa_of (automaton_of d (not r)))
kept_with d v true h =
    acyclic_keeps (nfa_of (automaton_of d false))
    (acyclic_with (nfa_of (automaton_of d v)) (nfa_of (automaton_of d false)) refl (h.0 refl))
kept_with d v false h = unions_keep (nfa_of (automaton_of d true)) refl

-- The negation of a test decides the negation.
pub asked : (r : Bool) (P : Type 0) → IsTrue r ↔ P → IsTrue (not r) ↔ (P → ⊥)
asked true P h = ((λ e. absurd (true≢false (sym e))), λ no. absurd (no (h.0 refl)))
asked false P h = ((λ e p. absurd (true≢false (sym (h.1 p)))), λ no. refl)
