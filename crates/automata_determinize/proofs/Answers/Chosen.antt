-- The chosen path starts no later than any other accepting path to the same end.
use Rattle.std.proofs.Common.{ℕ, ◌≡◌, ◌<◌, ◌≤◌, Bool, true, false, List, [], ◌∷◌, length, Option, Some, None}
use Rattle.std.proofs.Common.{refl, subst, arith, ⊎_elim}
use Rattle.std.proofs.lemmas.Bool.{cases_lt}
use Rattle.automata_base.specs.Paths.Order.{Upto, Begins}
use Rattle.automata_base.specs.Nfas.Nfa.{Nfa, accepts}
use Rattle.automata_base.specs.Paths.Paths.{Tape, IsPathFrom, IsPath}
use Rattle.automata_base.specs.declared.util.search.MatchKind.{MatchKind}
use Rattle.automata_base.specs.declared.util.search.MatchKind.TheVariants.{All, LeftmostFirst}
use Rattle.automata_base.specs.Paths.Selections.{Accepts, ByEdges, ByPlace, IsChosen, IsPreferred, Pair, Selects}
use Rattle.automata_base.specs.Paths.Selections.{IsFarthest}
use Rattle.automata_determinize.proofs.Paths.Orders.{before_upto}
use Rattle.automata_base.proofs.Paths.Orders.{before_irrefl, nil_cons}
use Rattle.automata_base.proofs.Paths.Searches.{accepting_inside}
use Rattle.automata_base.proofs.Paths.Places.{path_grows}
use Rattle.automata_base.specs.Nfas.Engines.{Engine, BeginsAnchored, LoopsLazily}
use Rattle.automata_base.specs.declared.util.search.Anchored.TheVariants.{No}
use Rattle.automata_base.specs.Answers.Spans.{IsPathStart, Chooses}
use Rattle.automata_base.proofs.Answers.Loops.{skips, skipping, sooner_less}
use Rattle.automata_base.proofs.Answers.Loops.{HasBytes}
use Rattle.automata_base.proofs.Answers.Chosen.{StartsAt}

pub chosen_upto :
    (kind : MatchKind) (earliest : Bool) (i : ℕ) (path other : List ℕ) → IsChosen kind earliest i path i other
    → Upto path other
chosen_upto All true i path other (ByPlace l) = absurd (omega (arith, l))
chosen_upto All true i path other (ByEdges e h) = h
chosen_upto LeftmostFirst true i path other (ByPlace l) = absurd (omega (arith, l))
chosen_upto LeftmostFirst true i path other (ByEdges e h) = h
chosen_upto LeftmostFirst false i path other h = h
chosen_upto All false i path other (ByPlace l) = absurd (omega (arith, l))
chosen_upto All false i path other (ByEdges e h) = h

-- If both starts are the same state, the match starts at position 0.
pub same_start : (d : Engine) (t : Tape) (path : List ℕ) → BeginsAnchored d → IsPathStart d No t path 0
same_start d t path same = ([], path, refl, (refl, same), none)
  where
    none :
        (shorter : List ℕ) (sooner : ℕ) → Begins shorter [] → IsPath d.nfa t d.unanchored sooner d.anchored shorter → ⊥
    none [] sooner b h = nil_cons b.2
    none (y ∷ ys) sooner b h = nil_cons b.2

-- No accepting path from the anchored start to the chosen path's end starts before position `k`.
pub least_start :
    (d : Engine) (x : ℕ) (earliest : Bool) (t : Tape) (k i pattern : ℕ) (path rest : List ℕ)
    → LoopsLazily d.nfa d.anchored d.unanchored x → HasBytes t → Chooses d earliest t d.unanchored i pattern path
    → StartsAt d t k i pattern path rest
    → (k' p z : ℕ) (other : List ℕ) → IsPathFrom d.nfa t k' [] d.anchored other i z → accepts d.nfa z ≡ Some p → k ≤ k'
least_start d x earliest t k i pattern path rest loop bytes c s k' p z other h m = ⊎_elim
    (λ (l : k' < k). absurd (clash l)) (λ (l : k ≤ k'). l) (cases_lt k' k)
  where
    inside : i ≤ length t.bytes
    inside = accepting_inside d.nfa t d.unanchored i pattern path c.0

    accepting : Accepts d.nfa t d.unanchored i p (skips k' (0 ∷ other))
    accepting = (
      z,
      skipping d.nfa t d.unanchored d.anchored x loop.0 loop.1 loop.2 bytes k' 0 other i z
          (let g = path_grows d.nfa t k' [] d.anchored other i z h in omega (arith, g, inside))
          (subst (λ v. IsPathFrom d.nfa t v [] d.anchored other i z) (omega arith) h),
      m,
    )

    upto : Upto (skips k (0 ∷ rest)) (skips k' (0 ∷ other))
    upto =
        subst (λ v. Upto v (skips k' (0 ∷ other))) s.0
        (chosen_upto d.kind earliest i path (skips k' (0 ∷ other)) (c.1 i p (skips k' (0 ∷ other)) accepting))

    clash : k' < k → ⊥
    clash l =
        before_irrefl (skips k' (0 ∷ other))
        (before_upto (skips k' (0 ∷ other)) (skips k (0 ∷ rest)) (skips k' (0 ∷ other)) (sooner_less k' k other rest l)
        upto)

-- A search under `MatchKind::All` that is not earliest selects the farthest end.
pub all_farthest :
    (n : Nfa) (t : Tape) (start : ℕ) (answer : Option Pair) → Selects All false n t start answer
    → IsFarthest n t start answer
all_farthest n t start None s = s
all_farthest n t start (Some pair) s = ((s.0, s.1), farthest)
  where
    farthest : (j pattern : ℕ) (path : List ℕ) → pair.place < j → Accepts n t start j pattern path → ⊥
    farthest j pattern path l a = past (s.2 j pattern path a)
      where
        past : IsPreferred (j < pair.place) pair.place s.0 j path → ⊥
        past (ByPlace h) = omega (arith, l, h)
        past (ByEdges e h) = omega (arith, l, e)
