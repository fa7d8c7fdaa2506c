-- The least accepting path from a state, by the least ones from the targets of its edges.
use Rattle.std.proofs.Common.{ℕ, suc, ◌≡◌, ◌+◌, ◌<◌, ◌≤◌, List, [], ◌∷◌, ◌⊎◌, Option, Some, None, option_map, refl, sym}
use Rattle.std.proofs.Common.{ap, ◌∙◌, subst, ⊎_elim, inl, inr, arith}
use Rattle.std.proofs.lemmas.Bool.{cases_lt}
use Rattle.std.specs.Prelude.{slice_get, option_and_then}
use Rattle.std.specs.Option.{option_or}
use Rattle.automata_base.specs.Haystacks.Matches.{HalfMatch}
use Rattle.automata_base.specs.Lists.{In}
use Rattle.automata_base.specs.Nfas.Nfa.{Nfa, hop, takes, accepts}
use Rattle.automata_base.specs.Paths.Order.{Before, Upto, EndsFirst, TakesLess, TakesSame}
use Rattle.automata_base.specs.Paths.Paths.{Tape, IsPathFrom, Moves, truth}
use Rattle.automata_base.specs.Paths.Paths.{StaysHere, ReadsByte}
use Rattle.automata_base.proofs.Paths.Orders.{some_inj, none_some}
use Rattle.meaning.specs.Agreeing.{IsLeastEnd}

pub upto_cons : (x : ℕ) (a b path : List ℕ) → path ≡ x ∷ b → Upto a b → Upto (x ∷ a) path
upto_cons x a b path e (inl h) = inl (ap (λ v. x ∷ v) h ∙ sym e)
upto_cons x a b path e (inr h) = inr (subst (λ v. Before (x ∷ a) v) (sym e) (TakesSame refl h))

upto_less : (x y : ℕ) (a b path : List ℕ) → path ≡ y ∷ b → x < y → Upto (x ∷ a) path
upto_less x y a b path e l = inr (subst (λ v. Before (x ∷ a) v) (sym e) (TakesLess l))

upto_nil : (path : List ℕ) → Upto [] path
upto_nil [] = inl refl
upto_nil (x ∷ path) = inr EndsFirst

module _ (n : Nfa) (t : Tape) (s p : ℕ) (seen : List ℕ) (q : ℕ) where
  -- a path that continues by this edge to this state
  abbrev pub Follows : ℕ → ℕ → List ℕ → ℕ → ℕ → Type 0
  Follows e r path j z = (rest : List ℕ) × (path ≡ e ∷ rest) × IsPathFrom n t p (q ∷ seen) r rest j z

  -- a path whose first edge stays at its place and has at least this number
  abbrev pub IsPast : ℕ → List ℕ → ℕ → ℕ → Type 0
  IsPast e path j z = (d r : ℕ) × (e ≤ d) × (hop n (truth n t p) q d ≡ Some r) × Follows d r path j z

  -- a path whose first edge reads a byte
  abbrev pub Reads : List ℕ → ℕ → ℕ → Type 0
  Reads path j z =
      (r : ℕ) × (rest : List ℕ) × (path ≡ 0 ∷ rest) × Moves n t p q r × IsPathFrom n t (suc p) [] r rest j z

  abbrev pub AcceptsNot : Type 0
  AcceptsNot = (pattern : ℕ) → accepts n q ≡ Some pattern → ⊥

  abbrev pub MovesNot : Type 0
  MovesNot = (r : ℕ) → Moves n t p q r → ⊥

  first_edge : (path : List ℕ) (j z pattern : ℕ) → AcceptsNot → IsPathFrom n t p seen q path j z →
      accepts n z ≡ Some pattern → IsPast 0 path j z ⊎ Reads path j z
  first_edge [] j z pattern not h acc = absurd (not pattern (ap (λ v. accepts n v) h.1 ∙ acc))
  first_edge (e ∷ rest) j z pattern not (StaysHere r hops new on) acc =
      inl (e, r, omega arith, hops, (rest, refl, on))
  first_edge (e ∷ rest) j z pattern not (ReadsByte r edge moves on) acc =
      inr (r, rest, ap (λ v. v ∷ rest) edge, moves, on)

  -- the least accepting path over the edges from this number on
  abbrev pub IsLeastPast : ℕ → Option HalfMatch → Type 0
  IsLeastPast e None = (path : List ℕ) (j z pattern : ℕ) → IsPast e path j z → accepts n z ≡ Some pattern → ⊥
  IsLeastPast e (Some half) =
      (path : List ℕ) × (j z : ℕ) × IsPathFrom n t p seen q path j z × (accepts n z ≡ Some half.pattern)
      × (s + j ≡ half.offset)
      × ((other : List ℕ) (j2 z2 pattern : ℕ) → IsPast e other j2 z2 → accepts n z2 ≡ Some pattern → Upto path other)

  -- no edges remain
  pub past_none : (e : ℕ) → ((d r : ℕ) → e ≤ d → hop n (truth n t p) q d ≡ Some r → ⊥) → IsLeastPast e None
  past_none e none path j z pattern w acc = none w.0 w.1 w.2 w.3

  -- one edge, and the edges after it
  pub past_edge : (e r : ℕ) (o o2 : Option HalfMatch) → hop n (truth n t p) q e ≡ Some r → (In r (q ∷ seen) → ⊥) →
      IsLeastEnd n t s p (q ∷ seen) r o → IsLeastPast (suc e) o2 → IsLeastPast e (option_or o o2)
  past_edge e r o o2 leads new = go o o2
    where
      inner : (path : List ℕ) (j z : ℕ) → IsPast e path j z → Follows e r path j z ⊎ IsPast (suc e) path j z
      inner path j z w =
          ⊎_elim
          (λ (l : e < w.0). inr (w.0, w.1, omega (arith, l), w.3, w.4))
          (λ (l : w.0 ≤ e).
          let same : w.0 ≡ e = omega (arith, l, w.2) in
          let target : w.1 ≡ r = some_inj (sym w.3 ∙ ap (λ v. hop n (truth n t p) q v) same ∙ leads) in
          inl (
            w.4.0,
            w.4.1
                ∙ ap (λ v. v ∷ w.4.0) same,
            subst (λ v. IsPathFrom n t p (q ∷ seen) v w.4.0 j z) target w.4.2,
          ))
          (cases_lt e w.0)

      go :
          (o o2 : Option HalfMatch) → IsLeastEnd n t s p (q ∷ seen) r o → IsLeastPast (suc e) o2
          → IsLeastPast e (option_or o o2)
      go None None b d = λ path j z pattern h acc.
          ⊎_elim (λ (w : Follows e r path j z). b w.0 j z pattern w.2 acc)
          (λ (w : IsPast (suc e) path j z). d path j z pattern w acc)
          (inner path j z h)
      go None (Some half) b d = (
        d.0,
        d.1,
        d.2,
        d.3,
        d.4,
        d.5,
        λ other j z pattern h acc. ⊎_elim
            (λ (w : Follows e r other j z). absurd (b w.0 j z pattern w.2 acc))
            (λ (w : IsPast (suc e) other j z). d.6 other j z pattern w acc)
            (inner other j z h),
      )
      go (Some half) o2 b d = (
        e ∷ b.path,
        b.place,
        b.state,
        StaysHere r leads new b.is_path,
        b.accepted,
        b.ends,
        λ other j z pattern h acc. ⊎_elim
            (λ (w : Follows e r other j z). upto_cons e b.path w.0 other w.1 (b.least w.0 j z pattern w.2 acc))
            (λ (w : IsPast (suc e) other j z). upto_less e w.0 b.path w.4.0 other w.4.1 (omega (arith, w.2)))
            (inner other j z h),
      )

  -- all edges
  pub all_edges : (o : Option HalfMatch) → AcceptsNot → MovesNot → IsLeastPast 0 o → IsLeastEnd n t s p seen q o
  all_edges o not moves = go o
    where
      inner :
          (path : List ℕ) (j z pattern : ℕ) → IsPathFrom n t p seen q path j z → accepts n z ≡ Some pattern
          → IsPast 0 path j z
      inner path j z pattern h acc =
          ⊎_elim (λ (w : IsPast 0 path j z). w) (λ (w : Reads path j z). absurd (moves w.0 w.3))
          (first_edge path j z pattern not h acc)

      go : (o : Option HalfMatch) → IsLeastPast 0 o → IsLeastEnd n t s p seen q o
      go None b = λ path j z pattern h acc. b path j z pattern (inner path j z pattern h acc) acc
      go (Some half) b = record {
        path = b.0;
        place = b.1;
        state = b.2;
        is_path = b.3;
        accepted = b.4;
        ends = b.5;
        least = λ other j z pattern h acc. b.6 other j z pattern (inner other j z pattern h acc) acc;
      }

  -- no edge
  pub none_best :
      AcceptsNot → ((e r : ℕ) → hop n (truth n t p) q e ≡ Some r → ⊥) → MovesNot → IsLeastEnd n t s p seen q None
  none_best not hops moves = all_edges None not moves (past_none 0 (λ d r l h. hops d r h))

  -- the edge of the byte here
  move_best : (u r : ℕ) (o : Option HalfMatch) → AcceptsNot → ((e r2 : ℕ) → hop n (truth n t p) q e ≡ Some r2 → ⊥) →
      slice_get t.bytes p ≡ Some u → takes n q u ≡ Some r →
      IsLeastEnd n t s (suc p) [] r o → IsLeastEnd n t s p seen q o
  move_best u r o not hops here leads = go o
    where
      inner : (path : List ℕ) (j z pattern : ℕ) → IsPathFrom n t p seen q path j z → accepts n z ≡ Some pattern →
          (rest : List ℕ) × (path ≡ 0 ∷ rest) × IsPathFrom n t (suc p) [] r rest j z
      inner path j z pattern h acc =
          ⊎_elim
          (λ (w : IsPast 0 path j z). absurd (hops w.0 w.1 w.3))
          (λ (w : Reads path j z).
          let e : w.3.0 ≡ u = some_inj (sym w.3.1 ∙ here) in
          let f : w.0 ≡ r = some_inj (sym w.3.2 ∙ ap (λ v. takes n q v) e ∙ leads) in
          (w.1, w.2, subst (λ v. IsPathFrom n t (suc p) [] v w.1 j z) f w.4))
          (first_edge path j z pattern not h acc)

      go : (o : Option HalfMatch) → IsLeastEnd n t s (suc p) [] r o → IsLeastEnd n t s p seen q o
      go None b = λ path j z pattern h acc. let w = inner path j z pattern h acc in b w.0 j z pattern w.2 acc
      go (Some half) b = record {
        path = 0 ∷ b.path;
        place = b.place;
        state = b.state;
        is_path = ReadsByte r refl (u, here, leads) b.is_path;
        accepted = b.accepted;
        ends = b.ends;
        least = λ other j z pattern h acc. (let w = inner other j z pattern h acc in
            upto_cons 0 b.path w.0 other w.1 (b.least w.0 j z pattern w.2 acc));
      }

  -- a byte state: `f` gives its target for a byte, to which `b` is added, and `go` the result from there
  pub read_best : (b : ℕ) (f : ℕ → Option ℕ) (go : ℕ → Option HalfMatch) (o : Option ℕ) → AcceptsNot →
      ((e r2 : ℕ) → hop n (truth n t p) q e ≡ Some r2 → ⊥) → ((u : ℕ) → takes n q u ≡ option_map (λ r. b + r) (f u)) →
      slice_get t.bytes p ≡ o → ((u r : ℕ) → o ≡ Some u → f u ≡ Some r → IsLeastEnd n t s (suc p) [] (b + r) (go r)) →
      IsLeastEnd n t s p seen q (option_and_then go (option_and_then f o))
  read_best b f go None not hops same here later =
      none_best not hops (λ r m. none_some (sym here ∙ m.1))
  read_best b f go (Some u) not hops same here later = more (f u) refl
    where
      more : (m : Option ℕ) → f u ≡ m → IsLeastEnd n t s p seen q (option_and_then go m)
      more None e =
          none_best not hops (λ r m.
          let at : m.0 ≡ u = some_inj (sym m.1 ∙ here) in
          none_some (sym (ap (option_map (λ v. b + v)) e) ∙ sym (same u) ∙ ap (λ v. takes n q v) (sym at) ∙ m.2))
      more (Some r) e =
          move_best u (b + r) (go r) not hops here (same u ∙ ap (option_map (λ v. b + v)) e) (later u r refl e)

  -- the path that ends here is the least of all
  pub here_best :
      (half : HalfMatch) → accepts n q ≡ Some half.pattern → s + p ≡ half.offset → IsLeastEnd n t s p seen q (Some half)
  here_best half acc e = record {
    path = [];
    place = p;
    state = q;
    is_path = (refl, refl);
    accepted = acc;
    ends = e;
    least = λ other j z pattern h a. upto_nil other;
  }
