-- Bits of look sets: the loop over all looks.
use Rattle.std.proofs.Common.{ℕ, zero, suc, ltb, ◌+◌, ◌&&◌, not, true≢false, ◌≡◌, ◌<◌, ◌⊎◌, ◌||◌}
use Rattle.std.proofs.Common.{Bool, true, false, eqb, refl, sym, ap, ◌∙◌, inl, inr, subst, arith}
use Rattle.std.proofs.lemmas.Bool.Decides.{eqb_tells}
use Rattle.std.proofs.lemmas.Bool.{lt-ltb, le-ltb}
use Rattle.std.proofs.lemmas.Grind.{common_steps}
use Rattle.automata_base.specs.Haystacks.LookSets.{truth_of, nth_look}
use Rattle.automata_base.specs.declared.util.look.Look.{Look}
use Rattle.automata_base.specs.Nfas.Nfa.{Truth}
use Rattle.automata_base.specs.Haystacks.Looks.{look_index}
use Rattle.automata_base.proofs.Paths.Machines.{code_one}

pub code_nth : (k : ℕ) → k < 18 → look_index (nth_look k) ≡ k
code_nth zero h = refl
code_nth (suc zero) h = refl
code_nth (suc (suc zero)) h = refl
code_nth (suc (suc (suc zero))) h = refl
code_nth (suc (suc (suc (suc zero)))) h = refl
code_nth (suc (suc (suc (suc (suc zero))))) h = refl
code_nth (suc (suc (suc (suc (suc (suc zero)))))) h = refl
code_nth (suc (suc (suc (suc (suc (suc (suc zero))))))) h = refl
code_nth (suc (suc (suc (suc (suc (suc (suc (suc zero)))))))) h = refl
code_nth (suc (suc (suc (suc (suc (suc (suc (suc (suc zero))))))))) h = refl
code_nth (suc (suc (suc (suc (suc (suc (suc (suc (suc (suc zero)))))))))) h = refl
code_nth (suc (suc (suc (suc (suc (suc (suc (suc (suc (suc (suc zero))))))))))) h = refl
code_nth (suc (suc (suc (suc (suc (suc (suc (suc (suc (suc (suc (suc zero)))))))))))) h = refl
code_nth (suc (suc (suc (suc (suc (suc (suc (suc (suc (suc (suc (suc (suc zero))))))))))))) h = refl
code_nth (suc (suc (suc (suc (suc (suc (suc (suc (suc (suc (suc (suc (suc (suc zero)))))))))))))) h = refl
code_nth (suc (suc (suc (suc (suc (suc (suc (suc (suc (suc (suc (suc (suc (suc (suc zero))))))))))))))) h = refl
code_nth (suc (suc (suc (suc (suc (suc (suc (suc (suc (suc (suc (suc (suc (suc (suc (suc zero)))))))))))))))) h = refl
code_nth (suc (suc (suc (suc (suc (suc (suc (suc (suc (suc (suc (suc (suc (suc (suc (suc (suc zero))))))))))))))))) h =
    refl
code_nth (suc (suc (suc (suc (suc (suc (suc (suc (suc (suc (suc (suc (suc (suc (suc (suc (suc (suc k))))))))))))))))))
    h = absurd (omega (arith, h))

ltb_next : (a k : ℕ) → (a ≡ k → ⊥) → ltb a (k + 1) ≡ ltb a k
ltb_next a k ne = grind (arith, common_steps)

-- What a loop over the looks has collected: the looks of `base`, and the looks before `k` that pass.
abbrev pub Sofar : Truth → Truth → ℕ → ℕ → Type 0
Sofar base f set k = (other : Look) → truth_of set other ≡ (base other || (ltb (look_index other) k && f other))

pub sofar_next :
    (base f : Truth) (set set' k : ℕ) (look : Look) (b : Bool)
    → k < 18 → look ≡ nth_look k
    → ((other : Look) → truth_of set' other ≡ (eqb (look_index other) (look_index look) && b || truth_of set other))
    → b ≡ f look → Sofar base f set k → Sofar base f set' (k + 1)
sofar_next base f set set' k look b h is grown t so other = go (eqb_tells (look_index other) (look_index look))
  where
    number : look_index look ≡ k
    number = ap look_index is ∙ code_nth k h

    go :
        ((eqb (look_index other) (look_index look) ≡ true) × (look_index other ≡ look_index look))
        ⊎ ((eqb (look_index other) (look_index look) ≡ false) × (look_index other ≡ look_index look → ⊥))
        → truth_of set' other ≡ (base other || (ltb (look_index other) (k + 1) && f other))
    go (inl w) =
        let same : other ≡ look = code_one other look w.0 in
        let more : ltb (look_index other) (k + 1) ≡ true =
        lt-ltb (look_index other) (k + 1) (omega (arith, number, w.1)) in
        let less : ltb (look_index other) k ≡ false = le-ltb (look_index other) k (omega (arith, number, w.1)) in
        let passes : b ≡ f other = t ∙ ap f (sym same) in
        grown other ∙ (ap (λ z. z && b || truth_of set other) w.0
        ∙ (ap (λ z. b || z) (so other ∙ ap (λ z. base other || (z && f other)) less)
        ∙ (ap (λ z. z || (base other || false)) passes
        ∙ (swap (f other) (base other) ∙ sym (ap (λ z. base other || (z && f other)) more)))))
      where
        swap : (x y : Bool) → x || (y || false) ≡ y || x
        swap x y = first' x y
          where
            first' : (x y : Bool) → x || (y || false) ≡ y || x
            first' true true = refl
            first' true false = refl
            first' false true = refl
            first' false false = refl
    go (inr w) =
        grown other ∙ (ap (λ z. z && b || truth_of set other) w.0 ∙ (so other
        ∙ sym (ap (λ z. base other || (z && f other)) (ltb_next (look_index other) k (λ e. w.1 (e ∙ sym number))))))

or_and : (a b c : Bool) → a && b && not c ≡ false → a ≡ true → b ≡ true → c ≡ false → ⊥
or_and true true true e f g h = true≢false h
or_and true true false e f g h = true≢false e
or_and true false c e f g h = true≢false (sym g)
or_and false b c e f g h = true≢false (sym f)

-- No look before `k` is needed, true and not yet known.
abbrev pub Unnews : Truth → Truth → Truth → ℕ → Type 0
Unnews N T K k = (look : Look) → look_index look < k → N look ≡ true → T look ≡ true → K look ≡ false → ⊥

pub unnews_next :
    (N T K : Truth) (k : ℕ) (look : Look) → k < 18 → look ≡ nth_look k → N look && T look && not (K look) ≡ false
    → Unnews N T K k → Unnews N T K (k + 1)
unnews_next N T K k look h is at so other less = go (eqb_tells (look_index other) (look_index look))
  where
    number : look_index look ≡ k
    number = ap look_index is ∙ code_nth k h

    go :
        ((eqb (look_index other) (look_index look) ≡ true) × (look_index other ≡ look_index look))
        ⊎ ((eqb (look_index other) (look_index look) ≡ false) × (look_index other ≡ look_index look → ⊥))
        → N other ≡ true → T other ≡ true → K other ≡ false → ⊥
    go (inl w) =
        subst (λ z. N z ≡ true → T z ≡ true → K z ≡ false → ⊥) (sym (code_one other look w.0))
        (or_and (N look) (T look) (K look) at)
    go (inr w) = so other (let ne : look_index other ≡ k → ⊥ = λ e. w.1 (e ∙ sym number) in omega (arith, less, ne))
