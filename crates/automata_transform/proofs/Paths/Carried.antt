-- If the accepting paths of two NFAs correspond and keep their order, both NFAs select and report the same.
use Rattle.std.proofs.Common.{ℕ, zero, suc, ◌≡◌, Bool, true, false, List, [], ◌∷◌, length, Option, Some, None}
use Rattle.std.proofs.Common.{inl, inr}
use Rattle.automata_base.specs.Lists.{Sorted}
use Rattle.automata_base.specs.Nfas.Nfa.{Nfa}
use Rattle.automata_base.specs.Paths.Order.{Before, Upto}
use Rattle.automata_base.specs.Paths.Paths.{Tape}
use Rattle.automata_base.specs.Paths.Selections.{Accepts, IsAllAt, IsFirstAt, ArePatternsAt, Pair, Pairs}
use Rattle.automata_base.specs.Paths.Selections.{IsOverlappingOn}
use Rattle.automata_base.specs.Paths.Selections.{ByEdges, ByPlace, IsChosen, ReportsLeast, ReportsNoneAt, Selects}
use Rattle.automata_base.specs.declared.util.search.MatchKind.{MatchKind}
use Rattle.automata_base.specs.declared.util.search.MatchKind.TheVariants.{All, LeftmostFirst}

module _ (n m : Nfa) (t : Tape) (q z : ℕ) (R : List ℕ → List ℕ → Type 0)
    (there : (i p : ℕ) (a : List ℕ) → Accepts n t q i p a → (b : List ℕ) × R a b × Accepts m t z i p b)
    (back : (i p : ℕ) (b : List ℕ) → Accepts m t z i p b → (a : List ℕ) × R a b × Accepts n t q i p a)
    (same : (a b c d : List ℕ) → R a b → R c d → a ≡ c → b ≡ d)
    (order : (a b c d : List ℕ) → R a b → R c d → Before a c → Before b d) where
  upto_carried : (a b c d : List ℕ) → R a b → R c d → Upto a c → Upto b d
  upto_carried a b c d r s (inl e) = inl (same a b c d r s e)
  upto_carried a b c d r s (inr h) = inr (order a b c d r s h)

  pub chosen_carried :
      (kind : MatchKind) (earliest : Bool) (i j : ℕ) (a b c d : List ℕ) → R a b → R c d
      → IsChosen kind earliest i a j c → IsChosen kind earliest i b j d
  chosen_carried All true i j a b c d r s (ByPlace h) = ByPlace h
  chosen_carried All true i j a b c d r s (ByEdges e h) = ByEdges e (upto_carried a b c d r s h)
  chosen_carried LeftmostFirst true i j a b c d r s (ByPlace h) = ByPlace h
  chosen_carried LeftmostFirst true i j a b c d r s (ByEdges e h) = ByEdges e (upto_carried a b c d r s h)
  chosen_carried LeftmostFirst false i j a b c d r s h = upto_carried a b c d r s h
  chosen_carried All false i j a b c d r s (ByPlace h) = ByPlace h
  chosen_carried All false i j a b c d r s (ByEdges e h) = ByEdges e (upto_carried a b c d r s h)

  pub selects_carried :
      (kind : MatchKind) (earliest : Bool) (answer : Option Pair) → Selects kind earliest n t q answer
      → Selects kind earliest m t z answer
  selects_carried kind earliest None h = λ i p b acc. let c = back i p b acc in h i p c.0 c.2
  selects_carried kind earliest (Some pair) h =
      let c = there pair.place pair.pattern h.0 h.1 in (
        c.0,
        c.2,
        λ j p other acc.
            let d = back j p other acc in
            chosen_carried kind earliest pair.place j h.0 c.0 d.0 other c.1 d.1 (h.2 j p d.0 d.2),
      )

  sorted_carried :
      (i : ℕ) (ps : List ℕ) → Sorted (λ p path. Accepts n t q i p path) ps
      → Sorted (λ p path. Accepts m t z i p path) ps
  sorted_carried i [] h = tt
  sorted_carried i (p ∷ ps) h =
      let c = there i p h.0.key h.0.has in (
        record {
          key = c.0;
          has = c.2;
          least =
              λ other acc. (let d = back i p other acc in
              upto_carried h.0.key c.0 d.0 other c.1 d.1 (h.0.least d.0 d.2));
          before = λ later other is acc. (
              let d = back i later other acc in order h.0.key c.0 d.0 other c.1 d.1 (h.0.before later d.0 is d.2));
        },
        sorted_carried i ps h.1,
      )

  all_carried : (i : ℕ) (ps : List ℕ) → IsAllAt n t q i ps → IsAllAt m t z i ps
  all_carried i ps h = ((λ p path acc. let c = back i p path acc in h.0 p c.0 c.2), sorted_carried i ps h.1)

  first_carried : (i : ℕ) (ps : List ℕ) → IsFirstAt n t q i ps → IsFirstAt m t z i ps
  first_carried i ps (ReportsNoneAt none h) = ReportsNoneAt none (λ p path acc.
      let c = back i p path acc in
      let less = h p c.0 c.2 in
      let d = there less.place less.pattern less.less less.accepted in record {
        place = less.place;
        pattern = less.pattern;
        less = d.0;
        earlier = less.earlier;
        accepted = d.2;
        before = order less.less d.0 c.0 path d.1 c.1 less.before;
      })
  first_carried i ps (ReportsLeast p path one h) =
      let c = there i p path h.accepted in
      ReportsLeast p c.0 one (record {
        accepted = c.2;
        least = λ other more acc.
            let d = back i other more acc in upto_carried path c.0 d.0 more c.1 d.1 (h.least other d.0 d.2);
        first = λ j other more l acc.
            let d = back j other more acc in order path c.0 d.0 more c.1 d.1 (h.first j other d.0 l d.2);
      })

  patterns_carried :
      (kind : MatchKind) (i : ℕ) (ps : List ℕ) → ArePatternsAt kind n t q i ps → ArePatternsAt kind m t z i ps
  patterns_carried All i ps h = all_carried i ps h
  patterns_carried LeftmostFirst i ps h = first_carried i ps h

  pairs_carried :
      (kind : MatchKind) (k : ℕ) (pairs : List Pair) → Pairs (ArePatternsAt kind n t q) k pairs
      → Pairs (ArePatternsAt kind m t z) k pairs
  pairs_carried kind zero pairs h = h
  pairs_carried kind (suc k) pairs h = record {
    earlier = h.earlier;
    patterns = h.patterns;
    before = pairs_carried kind k h.earlier h.before;
    here = patterns_carried kind k h.patterns h.here;
    joined = h.joined;
  }

  pub overlapping_carried :
      (kind : MatchKind) (pairs : List Pair) → IsOverlappingOn kind n t q pairs → IsOverlappingOn kind m t z pairs
  overlapping_carried kind pairs h = pairs_carried kind (suc (length t.bytes)) pairs h
