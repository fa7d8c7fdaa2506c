-- Paths that begin later are paths over the whole span, after some skipped bytes.
use Rattle.std.proofs.Common.{ℕ, zero, suc, ◌≡◌, ◌<◌, ◌≤◌, ◌+◌, ◌-◌, Bool, true, false, List, [], ◌∷◌, length, Option}
use Rattle.std.proofs.Common.{Some, None, inl, inr, refl, sym, ap, ◌∙◌, subst, arith, ⊎_elim}
use Rattle.std.proofs.lemmas.Bool.{cases_lt}
use Rattle.automata_base.specs.Paths.Order.{Before, Upto, TakesSame}
use Rattle.automata_base.specs.Paths.Paths.{IsPathFrom}
use Rattle.automata_base.specs.declared.util.search.MatchKind.{MatchKind}
use Rattle.automata_base.specs.declared.util.search.MatchKind.TheVariants.{All, LeftmostFirst}
use Rattle.automata_base.specs.Paths.Selections.{Accepts, ByEdges, ByPlace, IsChosen, Pair, Selects}
use Rattle.automata_base.specs.Haystacks.Tapes.{IsHaystack, forward_tape}
use Rattle.automata_base.specs.Nfas.Engines.{Engine, LoopsLazily}
use Rattle.automata_base.specs.Answers.Spans.{Chooses}
use Rattle.automata_base.proofs.Paths.Places.{path_grows}
use Rattle.automata_base.proofs.Answers.Alike.{path_alike, forward_alike}
use Rattle.automata_base.proofs.Answers.Backs.{forward_bytes, end_inside}
use Rattle.automata_base.proofs.Answers.Bytes.{forward_length}
use Rattle.automata_base.proofs.Answers.Chosen.{StartsAt, starts_at}
use Rattle.automata_base.proofs.Answers.Loops.{skips, skipping}
use Rattle.prefilters.specs.Skipping.{NoneBegins, shifted_pair}

pub skips_add : (g k : ℕ) (path : List ℕ) → skips (g + k) path ≡ skips g (skips k path)
skips_add zero k path = ap (λ v. skips v path) e
  where
    e : 0 + k ≡ k
    e = omega arith
skips_add (suc g) k path = ap (λ v. skips v path) e ∙ ap (λ v. 1 ∷ 0 ∷ v) (skips_add g k path)
  where
    e : suc g + k ≡ suc (g + k)
    e = omega arith

before_skips : (g : ℕ) (a b : List ℕ) → Before a b → Before (skips g a) (skips g b)
before_skips zero a b l = l
before_skips (suc g) a b l = TakesSame refl (TakesSame refl (before_skips g a b l))

upto_skips : (g : ℕ) (a b : List ℕ) → Upto a b → Upto (skips g a) (skips g b)
upto_skips g a b (inl e) = inl (ap (λ v. skips g v) e)
upto_skips g a b (inr l) = inr (before_skips g a b l)

chosen_skips :
    (kind : MatchKind) (earliest : Bool) (g i j : ℕ) (path other : List ℕ) → IsChosen kind earliest i path j other
    → IsChosen kind earliest (g + i) (skips g path) (g + j) (skips g other)
chosen_skips All true g i j path other (ByPlace l) = ByPlace (omega (arith, l))
chosen_skips All true g i j path other (ByEdges e u) = ByEdges (omega (arith, e)) (upto_skips g path other u)
chosen_skips LeftmostFirst true g i j path other (ByPlace l) = ByPlace (omega (arith, l))
chosen_skips LeftmostFirst true g i j path other (ByEdges e u) =
    ByEdges (omega (arith, e)) (upto_skips g path other u)
chosen_skips LeftmostFirst false g i j path other u = upto_skips g path other u
chosen_skips All false g i j path other (ByPlace l) = ByPlace (omega (arith, l))
chosen_skips All false g i j path other (ByEdges e u) = ByEdges (omega (arith, e)) (upto_skips g path other u)

-- a path over one span of a haystack is one over another that ends where it does
pub path_over :
    (d : Engine) (h : List ℕ) (a b e i j i' j' q z : ℕ) (path : List ℕ) → e ≤ length h
    → a + i ≡ b + i' → a + j ≡ b + j' → a + j ≤ e
    → IsPathFrom d.nfa (forward_tape h a e) i [] q path j z → IsPathFrom d.nfa (forward_tape h b e) i' [] q path j' z
path_over d h a b e i j i' j' q z path w c c' l p =
    path_alike d.nfa (forward_tape h a e) (forward_tape h b e) a b j
    (forward_alike h a e b e j l l w w)
    i i' [] q path j j' z c c' (omega arith) p

-- the offset `b` is `g` places after `a`, and no accepting path begins from `a` to before `b`
module _ (d : Engine) (x : ℕ) (h : List ℕ) (a b e g : ℕ) (loop : LoopsLazily d.nfa d.anchored d.unanchored x)
    (bytes : IsHaystack h) (same : a + g ≡ b) (l : b ≤ e) (w : e ≤ length h) (none : NoneBegins d h e a b) where
  ends_in :
      (o i pattern : ℕ) (path : List ℕ) → o ≤ e → Accepts d.nfa (forward_tape h o e) d.unanchored i pattern path
      → o + i ≤ e
  ends_in o i pattern path k c = end_inside d h o e d.unanchored i pattern path k w c

  pub move_start :
      (k i pattern : ℕ) (path rest : List ℕ) → b + i ≤ e
      → StartsAt d (forward_tape h b e) k i pattern path rest
      → StartsAt d (forward_tape h a e) (g + k) (g + i) pattern (skips g path) rest
  move_start k i pattern path rest m s = (
    ap (λ v. skips g v) s.0 ∙ sym (skips_add g k (0 ∷ rest)),
    (
      s.1.0,
      path_over d h b a e k i (g + k) (g + i) d.anchored s.1.0 rest w (omega (arith, same)) (omega (arith, same)) m
          s.1.1,
      s.1.2,
    ),
  )

  -- a path taken apart is an accepting path
  pub accepts_from :
      (o k i pattern : ℕ) (path rest : List ℕ) → o + i ≤ e → StartsAt d (forward_tape h o e) k i pattern path rest
      → Accepts d.nfa (forward_tape h o e) d.unanchored i pattern path
  accepts_from o k i pattern path rest m s = (
    s.1.0,
    subst (λ v. IsPathFrom d.nfa (forward_tape h o e) 0 [] d.unanchored v i s.1.0) (sym s.0)
        (skipping d.nfa (forward_tape h o e) d.unanchored d.anchored x loop.0 loop.1 loop.2
        (forward_bytes h o e bytes (omega (arith, m)) w) k 0 rest i s.1.0
        (let g = path_grows d.nfa (forward_tape h o e) k [] d.anchored rest i s.1.0 s.1.1 in
        let n = forward_length h o e (omega (arith, m)) w in omega (arith, g, n, m))
        (subst (λ v. IsPathFrom d.nfa (forward_tape h o e) v [] d.anchored rest i s.1.0) (omega arith) s.1.1)),
    s.1.2,
  )

  pub move_accepts :
      (i pattern : ℕ) (path : List ℕ) → Accepts d.nfa (forward_tape h b e) d.unanchored i pattern path
      → Accepts d.nfa (forward_tape h a e) d.unanchored (g + i) pattern (skips g path)
  move_accepts i pattern path c =
      let m = ends_in b i pattern path l c in
      let s = starts_at d x (forward_tape h b e) i pattern path loop c in
      accepts_from a (g + s.0) (g + i) pattern (skips g path) s.1 (omega (arith, m, same))
      (move_start s.0 i pattern path s.1 m s.2)

  -- each accepting path over the whole span is one of these
  abbrev IsMoved : (i pattern : ℕ) → List ℕ → Type 0
  IsMoved i pattern path =
      (j : ℕ) × (rest : List ℕ) × (g + j ≡ i) × (skips g rest ≡ path)
      × Accepts d.nfa (forward_tape h b e) d.unanchored j pattern rest

  pub is_moved :
      (i pattern : ℕ) (path : List ℕ) → Accepts d.nfa (forward_tape h a e) d.unanchored i pattern path
      → IsMoved i pattern path
  is_moved i pattern path c = ⊎_elim
      (λ (less : k < g). absurd (none (a + k) (omega arith) (omega (arith, less, same)) (i - k) pattern rest (
        z,
        path_over d h a (a + k) e k i 0 (i - k) d.anchored z rest w (omega arith) (omega (arith, grows)) m s.2.1.1,
        s.2.1.2,
      )))
      (λ (more : g ≤ k). (
        i - g,
        skips (k - g) (0 ∷ rest),
        omega (arith, more, grows),
        sym (skips_add g (k - g) (0 ∷ rest)) ∙ (ap (λ v. skips v (0 ∷ rest)) (omega (arith, more)) ∙ sym s.2.0),
        accepts_from b (k - g) (i - g) pattern (skips (k - g) (0 ∷ rest)) rest (omega (arith, m, same, more, grows)) (
          refl,
          (
            z,
            path_over d h a b e k i (k - g) (i - g) d.anchored z rest w (omega (arith, more, same))
                (omega (arith, more, same, grows)) m s.2.1.1,
            s.2.1.2,
          ),
        ),
      ))
      (cases_lt k g)
    where
      m : a + i ≤ e
      m = ends_in a i pattern path (omega (arith, same, l)) c

      s : (k : ℕ) × (rest : List ℕ) × StartsAt d (forward_tape h a e) k i pattern path rest
      s = starts_at d x (forward_tape h a e) i pattern path loop c

      k : ℕ
      k = s.0

      rest : List ℕ
      rest = s.1

      z : ℕ
      z = s.2.1.0

      grows : k ≤ i
      grows = path_grows d.nfa (forward_tape h a e) k [] d.anchored rest i z s.2.1.1

  pub move_chosen :
      (earliest : Bool) (i pattern : ℕ) (path : List ℕ)
      → Chooses d earliest (forward_tape h b e) d.unanchored i pattern path
      → Chooses d earliest (forward_tape h a e) d.unanchored (g + i) pattern (skips g path)
  move_chosen earliest i pattern path c = (
    move_accepts i pattern path c.0,
    λ j p other f.
        let s = is_moved j p other f in
        subst (λ v. IsChosen d.kind earliest (g + i) (skips g path) v other) s.2
        (subst (λ v. IsChosen d.kind earliest (g + i) (skips g path) (g + s.0) v) s.3
        (chosen_skips d.kind earliest g i s.0 path s.1 (c.1 s.0 p s.1 s.4))),
  )

  pub move_selected :
      (earliest : Bool) (answer : Option Pair) → Selects d.kind earliest d.nfa (forward_tape h b e) d.unanchored answer
      → Selects d.kind earliest d.nfa (forward_tape h a e) d.unanchored (shifted_pair g answer)
  move_selected earliest None s = λ i pattern path f. let v = is_moved i pattern path f in s v.0 pattern v.1 v.4
  move_selected earliest (Some pair) s =
      let v = move_chosen earliest pair.place pair.pattern s.0 (s.1, s.2) in (skips g s.0, v.0, v.1)
