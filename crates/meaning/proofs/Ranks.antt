-- A rank falls along each epsilon edge, so no state is visited twice at one place.
use Rattle.std.proofs.Common.{ℕ, ◌≡◌, ◌+◌, ◌<◌, List, ◌∷◌, sym, subst, inl, inr, arith, lt_irrefl, length}
use Rattle.std.specs.Prelude.{slice_index}
use Rattle.regex_nfa.specs.declared.nfa.Nfa as kit_nfa
use Rattle.automata_base.specs.Lists.{In}

abbrev pub rank : kit_nfa.Nfa → ℕ → ℕ
rank k q = slice_index k.ranks.items q

module _ (k : kit_nfa.Nfa) (b : ℕ) where
  -- The pattern's states that were already visited have a higher rank.
  abbrev pub IsAbove : List ℕ → ℕ → Type 0
  IsAbove seen q = (x : ℕ) → x < length k.states.items → In (b + x) seen → rank k q < rank k x

  same_state : (x q : ℕ) → b + x ≡ b + q → x ≡ q
  same_state x q e = omega (arith, e)

  pub above_new : (seen : List ℕ) (q r : ℕ) → r < length k.states.items → IsAbove seen q → rank k r < rank k q →
      In (b + r) ((b + q) ∷ seen) → ⊥
  above_new seen q r inside above falls (inl e) =
      lt_irrefl (rank k q) (subst (λ v. rank k v < rank k q) (same_state r q e) falls)
  above_new seen q r inside above falls (inr m) =
      let a = above r inside m in lt_irrefl (rank k q) (omega (arith, a, falls))

  pub above_next : (seen : List ℕ) (q r : ℕ) → IsAbove seen q → rank k r < rank k q → IsAbove ((b + q) ∷ seen) r
  above_next seen q r above falls x inside (inl e) =
      subst (λ v. rank k r < rank k v) (sym (same_state x q e)) falls
  above_next seen q r above falls x inside (inr m) = let a = above x inside m in omega (arith, a, falls)
