-- Where a path of an NFA that skips lazily starts.
use Rattle.std.proofs.Common.{ℕ, ◌≡◌, ◌≤◌, List, [], ◌∷◌, length, Some}
use Rattle.std.proofs.Common.{refl, ◌∙◌, subst, arith}
use Rattle.automata_base.specs.Nfas.Nfa.{accepts}
use Rattle.automata_base.specs.Paths.Paths.{Tape, IsPathFrom}
use Rattle.automata_base.specs.Paths.Selections.{Accepts}
use Rattle.automata_base.proofs.Paths.Places.{path_grows}
use Rattle.automata_base.specs.Nfas.Engines.{Engine, No, LoopsLazily}
use Rattle.automata_base.specs.Answers.Spans.{IsPathStart}
use Rattle.automata_base.proofs.Answers.Loops.{skips, lazily, Lazily, skipping, not_sooner, skips_join}
use Rattle.automata_base.proofs.Answers.Loops.{HasBytes}

-- A path through a lazy loop: it skips `k` bytes and continues as `rest` from the anchored start to a match.
abbrev pub StartsAt : Engine → Tape → (k i pattern : ℕ) → List ℕ → List ℕ → Type 0
StartsAt d t k i pattern path rest =
    (path ≡ skips k (0 ∷ rest))
    × ((z : ℕ) × IsPathFrom d.nfa t k [] d.anchored rest i z × (accepts d.nfa z ≡ Some pattern))

pub starts_at :
    (d : Engine) (x : ℕ) (t : Tape) (i pattern : ℕ) (path : List ℕ) → LoopsLazily d.nfa d.anchored d.unanchored x
    → Accepts d.nfa t d.unanchored i pattern path → (k : ℕ) × (rest : List ℕ) × StartsAt d t k i pattern path rest
starts_at d x t i pattern path loop a =
    (w.0, w.1, (w.2, (a.0, subst (λ v. IsPathFrom d.nfa t v [] d.anchored w.1 i a.0) (omega arith) w.3, a.2)))
  where
    w : Lazily d.nfa t 0 d.anchored path i a.0
    w = lazily d.nfa t d.unanchored d.anchored x loop.0 loop.1 0 path i a.0 pattern a.2 a.1

-- The match of such a path starts at position `k`, where the path first reaches the anchored start.
pub lazy_start :
    (d : Engine) (x : ℕ) (t : Tape) (k i pattern : ℕ) (path rest : List ℕ) → LoopsLazily d.nfa d.anchored d.unanchored x
    → HasBytes t → i ≤ length t.bytes
    → StartsAt d t k i pattern path rest → IsPathStart d No t path k
lazy_start d x t k i pattern path rest loop bytes l s = (
  skips k (0 ∷ []),
  rest,
  s.0 ∙ skips_join k rest,
  skipping d.nfa t d.unanchored d.anchored x loop.0 loop.1 loop.2 bytes k 0 [] k d.anchored
      (let g = path_grows d.nfa t k [] d.anchored rest i s.1.0 s.1.1 in omega (arith, g, l)) (omega arith, refl),
  λ shorter sooner b h. not_sooner d.nfa t d.unanchored d.anchored x loop.0 loop.1 loop.2 k 0 shorter sooner b h,
)
