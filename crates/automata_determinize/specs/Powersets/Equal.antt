-- The test whether two powerset states are equal, and the bytes that are hashed for one.
use Rattle.std.specs.Prelude.{◌≡◌, [], ◌∷◌, Bool, ◌==◌, ◌&&◌, nat_eq}
use Rattle.std.specs.Bool.{Decides}
use Rattle.std.specs.Cmp.{unsigned_Decides, booleans_Decides}
use Rattle.std.proofs.Common.{ap, refl}
use Rattle.std.proofs.lemmas.Bool.Decides.{Decides-and}
use Rattle.std.proofs.lemmas.Slice.Eq.{slice_eq-Decides}
use Rattle.std.specs.Hash as fed
use lib.Pointwise.{pointwise}
use mathlib.Core.Bool.{beq}
use Rattle.automata_base.specs.Powersets.Powerset.{Powerset}
use Rattle.automata_determinize.specs.Powersets.Code.{code}

-- whether two powerset states are equal in all six parts
abbrev pub powerset_eq : Powerset → Powerset → Bool
powerset_eq a b =
    pointwise nat_eq a.nfa b.nfa
    && (pointwise nat_eq a.patterns b.patterns
    && ((a.known == b.known) && ((a.needed == b.needed) && (beq a.word b.word && beq a.half b.half))))

-- the test says correctly whether two powerset states are equal
pub powerset_eq-Decides : (a b : Powerset) → Decides (powerset_eq a b) (a ≡ b)
powerset_eq-Decides a b =
    let marks = Decides-and _ _ (booleans_Decides a.word b.word) (booleans_Decides a.half b.half) in
    let needed = Decides-and _ _ (unsigned_Decides a.needed b.needed) marks in
    let known = Decides-and _ _ (unsigned_Decides a.known b.known) needed in
    let patterns = Decides-and _ _ (slice_eq-Decides unsigned_Decides a.patterns b.patterns _ refl) known in
    let d = Decides-and _ _ (slice_eq-Decides unsigned_Decides a.nfa b.nfa _ refl) patterns in (
      λ e. let p = d.0 e in (λ i. record {
        nfa = p.0 i;
        patterns = p.1.0 i;
        known = p.1.1.0 i;
        needed = p.1.1.1.0 i;
        word = p.1.1.1.1.0 i;
        half = p.1.1.1.1.1 i;
      }),
      λ e. d.1 (
        ap (λ (s : Powerset). s.nfa) e,
        (
          ap (λ (s : Powerset). s.patterns) e,
          (
            ap (λ (s : Powerset). s.known) e,
            (
              ap (λ (s : Powerset). s.needed) e,
              (ap (λ (s : Powerset). s.word) e, ap (λ (s : Powerset). s.half) e),
            ),
          ),
        ),
      ),
    )

-- a state is hashed as its encoding
abbrev pub powerset_hash : Powerset → fed.HashWrites
powerset_hash a = code a ∷ []
