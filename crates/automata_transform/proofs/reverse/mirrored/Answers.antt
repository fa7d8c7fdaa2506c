use Rattle.std.proofs.Common.{ℕ, List, ◌≡◌, ◌<◌, ◌≤◌, ◌+◌, ◌*◌, ◌^◌, Bool, true, false, None, Err, Result, length}
use Rattle.std.proofs.Common.{refl, sym, ◌∙◌, subst, arith}
use Rattle.std.specs.Prelude.{sum_by, IsOkUnless}
use Rattle.automata_base.specs.declared.nfa.thompson.state.NfaError.{NfaError}
use Rattle.automata_base.specs.declared.nfa.thompson.state.NfaError.TheVariants.{TooLarge, OutOfMemory}
use Rattle.automata_base.specs.declared.nfa.thompson.state.State.{State}
use Rattle.automata_base.specs.Nfas.Errors.{is_narrow, states_error}
use Rattle.automata_transform.specs.Nfas.ReversedSizes.{asking_edges, free_edges}
use Rattle.automata_transform.specs.Retraced.Copies.{IsFit}
use Rattle.automata_transform.proofs.Nfas.Mirrors.Fits.{fit_passes, fit_large}
use Rattle.automata_transform.proofs.reverse.mirrored.Goals as goal

-- states that are refused have too many alternates
narrow_passes :
    (states made : List State) (P : ℕ) (entries : List ℕ) (root : ℕ) → IsFit states P made entries root
    → length entries ≤ 2 ^ 27 → (states_error made root root entries ≡ None → ⊥)
    → 2 ^ 31 < (P + 1) * (length states + sum_by asking_edges states + sum_by free_edges states + 2)
narrow_passes states made P entries root fit few fails = go (is_narrow made) refl
  where
    go :
        (b : Bool) → is_narrow made ≡ b
        → 2 ^ 31 < (P + 1) * (length states + sum_by asking_edges states + sum_by free_edges states + 2)
    go true e = absurd (fails (fit_passes states made P entries root fit few e))
    go false e = fit_large states made P entries root fit e

is_memory :
    {T : Type 0} (r : Result T NfaError) (e : NfaError) → r ≡ Err e → IsOkUnless r OutOfMemory → e ≡ OutOfMemory
is_memory r e is memory = subst (λ z. IsOkUnless z OutOfMemory) is memory

not_memory : TooLarge ≡ OutOfMemory → ⊥
not_memory e = cc

pub returns-in-Err-clause-large : goal.returns-in-Err-clause-large
returns-in-Err-clause-large c = λ e.
    let few : length c.args.nfa.now.start_pattern ≤ 2 ^ 27 = c.states-states.ensures.checked.few in
    narrow_passes c.args.nfa.now.states c.args.mirror.states.items (length c.args.nfa.now.start_pattern)
    c.args.mirror.entries.items
    c.args.mirror.root c.requires.fit (omega (arith, few, c.requires.few))
    (λ none. not_memory
    (sym (c.build_error.ensures.large (one e))
    ∙ is_memory c.from_states.result c.in-Err.error c.in-Err.is (c.from_states.ensures.memory none)))
  where
    one : {A E : Type 0} {a b : E} → ◌≡◌ {A = Result A E} (Err a) (Err b) → a ≡ b
    one e = cc
