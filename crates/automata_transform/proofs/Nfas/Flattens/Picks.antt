-- Which edges lead from a union through its chain to an alternate. They are ordered as the alternates are.
use Rattle.std.proofs.Common.{ℕ, suc, ◌≡◌, ◌<◌, ◌≤◌, ◌↔◌, List, [], ◌∷◌, inl, inr, refl, sym, ◌∙◌}
use Rattle.std.proofs.Common.{subst, arith}
use Rattle.automata_base.specs.Nfas.Nfa.{Nfa, Split, node}
use Rattle.automata_transform.specs.Nfas.FlattenedNfas.{IsNoLink}
use Rattle.automata_transform.proofs.Nfas.Merges.Comparing.{Compares, both_ways, other_way, same_head}
use Rattle.automata_transform.proofs.Nfas.Merges.Places.{split_inj}

-- Alternate `k` of the chain of these alternates is `y`; the edges that lead there, of which the first ones are counted
-- from `base`, and then those of `rest`, are `path`.
pub data Picks (n : Nfa) (links : List ℕ) : List ℕ → (base k y : ℕ) → (path rest : List ℕ) → Type 0 where
  PicksThis :
      {x base : ℕ} {xs path rest : List ℕ} → IsNoLink links x → path ≡ base ∷ rest
      → Picks n links (x ∷ xs) base 0 x path rest
  PicksLater :
      {x base k y : ℕ} {xs path rest : List ℕ} → IsNoLink links x → Picks n links xs (suc base) k y path rest
      → Picks n links (x ∷ xs) base (suc k) y path rest
  PicksInLink :
      {x base k y : ℕ} {alternates path more rest : List ℕ} → (IsNoLink links x → ⊥) → node n x ≡ Split alternates
      → path ≡ base ∷ more → Picks n links alternates 0 k y more rest
      → Picks n links (x ∷ []) base k y path rest

-- The edges that are picked begin with one that is counted from `base`.
pub picks_more :
    (n : Nfa) (links xs : List ℕ) (base k y : ℕ) (path rest : List ℕ) → Picks n links xs base k y path rest
    → (e : ℕ) × (more : List ℕ) × (path ≡ e ∷ more) × (base ≤ e)
picks_more n links xs base k y path rest (PicksThis out is) = (base, rest, is, omega arith)
picks_more n links xs base k y path rest (PicksLater {k = j} {xs = more} out p) =
    let c = picks_more n links more (suc base) j y path rest p in
    let far = c.3 in
    (c.0, c.1, c.2, omega (arith, far))
picks_more n links xs base k y path rest (PicksInLink {more = more} out is e p) = (base, more, e, omega arith)

module _ (n : Nfa) (links : List ℕ) (E B U : Type 0) where
  less_head :
      (x y : ℕ) (a b p q : List ℕ) → x < y → p ≡ x ∷ a → q ≡ y ∷ b → (j k : ℕ) (f g : List ℕ) → j < k
      → Compares E B U (j ∷ f) (k ∷ g) ↔ Compares E B U p q
  less_head x y a b p q l is eq j k f g m = (to, from)
    where
      to : Compares E B U (j ∷ f) (k ∷ g) → Compares E B U p q
      to (inl h) =
          subst (λ v. Compares E B U v q) (sym is) (subst (λ v. Compares E B U (x ∷ a) v) (sym eq) (inl (h.0, l)))
      to (inr h) = absurd (omega (arith, m, h.0))

      from : Compares E B U p q → Compares E B U (j ∷ f) (k ∷ g)
      from c = go (subst (λ v. Compares E B U v (y ∷ b)) is (subst (λ v. Compares E B U p v) eq c))
        where
          go : Compares E B U (x ∷ a) (y ∷ b) → Compares E B U (j ∷ f) (k ∷ g)
          go (inl h) = inl (h.0, m)
          go (inr h) = absurd (omega (arith, l, h.0))

  more_head :
      (x y : ℕ) (a b p q : List ℕ) → y < x → p ≡ x ∷ a → q ≡ y ∷ b → (j k : ℕ) (f g : List ℕ) → k < j
      → Compares E B U (j ∷ f) (k ∷ g) ↔ Compares E B U p q
  more_head x y a b p q l is eq j k f g m = (to, from)
    where
      to : Compares E B U (j ∷ f) (k ∷ g) → Compares E B U p q
      to (inl h) = absurd (omega (arith, m, h.1))
      to (inr h) = absurd (omega (arith, m, h.0))

      from : Compares E B U p q → Compares E B U (j ∷ f) (k ∷ g)
      from c = go (subst (λ v. Compares E B U v (y ∷ b)) is (subst (λ v. Compares E B U p v) eq c))
        where
          go : Compares E B U (x ∷ a) (y ∷ b) → Compares E B U (j ∷ f) (k ∷ g)
          go (inl h) = absurd (omega (arith, l, h.1))
          go (inr h) = absurd (omega (arith, l, h.0))

  equal_head :
      (x : ℕ) (a b p q : List ℕ) → p ≡ x ∷ a → q ≡ x ∷ b → Compares E B U a b ↔ Compares E B U p q
  equal_head x a b p q is eq =
      subst (λ v. Compares E B U a b ↔ Compares E B U v q) (sym is)
      (subst (λ v. Compares E B U a b ↔ Compares E B U (x ∷ a) v) (sym eq) (other_way (same_head E B U x x a b refl)))

  next_head :
      (j k : ℕ) (a b : List ℕ) → Compares E B U (suc j ∷ a) (suc k ∷ b) ↔ Compares E B U (j ∷ a) (k ∷ b)
  next_head j k a b = (to, from)
    where
      to : Compares E B U (suc j ∷ a) (suc k ∷ b) → Compares E B U (j ∷ a) (k ∷ b)
      to (inl h) = inl (h.0, omega (arith, h.1))
      to (inr h) = inr (omega (arith, h.0), h.1)

      from : Compares E B U (j ∷ a) (k ∷ b) → Compares E B U (suc j ∷ a) (suc k ∷ b)
      from (inl h) = inl (h.0, omega (arith, h.1))
      from (inr h) = inr (omega (arith, h.0), h.1)

  -- Paths through a chain are ordered as the numbers of the alternates, and then as the rests.
  pub picks_order :
      (xs : List ℕ) (base j k y z : ℕ) (p q f g : List ℕ) → Picks n links xs base j y p f
      → Picks n links xs base k z q g
      → (Compares E B U (j ∷ f) (k ∷ g) ↔ Compares E B U p q) × (j ≡ k → y ≡ z)
  picks_order [] base j k y z p q f g d c = elim d [ ]
  picks_order (x ∷ xs) base j k y z p q f g (PicksThis out is) (PicksThis also eq) =
      (both_ways (same_head E B U 0 0 f g refl) (equal_head base f g p q is eq), λ e. refl)
  picks_order (x ∷ xs) base j k y z p q f g (PicksThis out is) (PicksLater {k = i} also d) =
      let c = picks_more n links xs (suc base) i z q g d in
      let far = c.3 in (
        less_head base c.0 f c.1 p q (omega (arith, far)) is c.2 0 (suc i) f g (omega arith),
        λ e. absurd (omega (arith, e)),
      )
  picks_order (x ∷ xs) base j k y z p q f g (PicksLater {k = i} out d) (PicksThis also eq) =
      let c = picks_more n links xs (suc base) i y p f d in
      let far = c.3 in (
        more_head c.0 base c.1 g p q (omega (arith, far)) c.2 eq (suc i) 0 f g (omega arith),
        λ e. absurd (omega (arith, e)),
      )
  picks_order (x ∷ xs) base j k y z p q f g (PicksLater {k = i} out d) (PicksLater {k = h} also c) =
      let same = picks_order xs (suc base) i h y z p q f g d c in
      (both_ways (next_head i h f g) same.0, λ e. same.1 (omega (arith, e)))
  picks_order (x ∷ []) base j k y z p q f g (PicksInLink {alternates = xs} {more = a} out at is d)
      (PicksInLink {alternates = zs} {more = b} also on eq c) =
      let same = picks_order xs 0 j k y z a b f g d
      (subst (λ v. Picks n links v 0 k z b g) (split_inj zs xs (sym on ∙ at)) c) in
      (both_ways same.0 (equal_head base a b p q is eq), same.1)
  picks_order (x ∷ xs) base j k y z p q f g (PicksThis out is) (PicksInLink also on eq c) = absurd (also out)
  picks_order (x ∷ xs) base j k y z p q f g (PicksLater out d) (PicksInLink also on eq c) = absurd (also out)
  picks_order (x ∷ xs) base j k y z p q f g (PicksInLink out at is d) (PicksThis also eq) = absurd (out also)
  picks_order (x ∷ xs) base j k y z p q f g (PicksInLink out at is d) (PicksLater also c) = absurd (out also)
