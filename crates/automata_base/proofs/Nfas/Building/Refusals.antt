-- `NFA::from_states` fails on built states with the error that their shapes determine.
use Rattle.std.proofs.Common.{ℕ, ◌≡◌, ◌⊎◌, List, [], ◌++◌, map, Some, None, Result, Ok, Err, inl, inr, refl, sym, ap}
use Rattle.std.proofs.Common.{◌∙◌, subst}
use Rattle.std.specs.Prelude.{IsOkUnless}
use Rattle.automata_base.specs.declared.nfa.thompson.state.NfaError.{NfaError}
use Rattle.automata_base.specs.declared.nfa.thompson.state.NfaError.TheVariants as nfa_error
use Rattle.automata_base.specs.declared.nfa.thompson.state.State.{State}
use Rattle.automata_base.specs.declared.nfa.thompson.building.Added.{Added}
use Rattle.automata_base.specs.declared.nfa.thompson.building.BuildError.{BuildError}
use Rattle.automata_base.specs.declared.nfa.thompson.building.BuildError.TheVariants.{NFA, OutOfMemory}
use Rattle.automata_base.specs.Nfas.Drafts.{build_error}
use Rattle.automata_base.specs.Nfas.Errors.{shapes_error, states_error}
use Rattle.automata_base.specs.Nfas.Shapes.{Shape, shape_of, shape_added, built_of}

apart : {A : Type 0} (x : A) (e : NfaError) → ◌≡◌ {A = Result A NfaError} (Ok x) (Err e) → ⊥
apart x e h = cc

same_error : {A : Type 0} (x y : NfaError) → ◌≡◌ {A = Result A NfaError} (Err x) (Err y) → x ≡ y
same_error x y h = cc

error_is : (x : NfaError) → (build_error x ≡ NFA x) ⊎ (build_error x ≡ OutOfMemory)
error_is nfa_error.StateRange = inl refl
error_is nfa_error.StartRange = inl refl
error_is nfa_error.PatternRange = inl refl
error_is nfa_error.Ranges = inl refl
error_is nfa_error.TooLarge = inl refl
error_is nfa_error.OutOfMemory = inr refl

pub states_built :
    (none new : List State) (added slice : List Added) (shapes : List Shape) → none ≡ []
    → map shape_of new ≡ map shape_of none ++ map built_of (map shape_added slice) → slice ≡ added
    → map shape_added added ≡ shapes
    → map shape_of new ≡ map built_of shapes
states_built none new added slice shapes e h s v =
    h ∙ (ap (λ z. map shape_of z ++ map built_of (map shape_added slice)) e
    ∙ ap (map built_of) (ap (map shape_added) s ∙ v))

module _
    (shapes : List Shape) (bs : List State) (a u : ℕ) (starts own : List ℕ)
    (built : map shape_of bs ≡ map built_of shapes)
    (same : starts ≡ own)
  where
    alike : states_error bs a u starts ≡ shapes_error (map built_of shapes) a u own
    alike = ap (λ z. shapes_error z a u starts) built ∙ ap (shapes_error (map built_of shapes) a u) same

    pub ok_unrefused :
        {A : Type 0} (r : Result A NfaError) (nfa : A) → r ≡ Ok nfa
        → ((e : NfaError) → states_error bs a u starts ≡ Some e → r ≡ Err e)
        → (e : NfaError) → shapes_error (map built_of shapes) a u own ≡ Some e → ⊥
    ok_unrefused r nfa is refused e f = apart nfa e (sym is ∙ refused e (alike ∙ f))

    pub err_refused :
        {A : Type 0} (r : Result A NfaError) (x : NfaError) (answer : BuildError) → answer ≡ build_error x → r ≡ Err x
        → ((e : NfaError) → states_error bs a u starts ≡ Some e → r ≡ Err e)
        → (e : NfaError) → shapes_error (map built_of shapes) a u own ≡ Some e → (answer ≡ NFA e)
        ⊎ (answer ≡ OutOfMemory)
    err_refused {A} r x answer t is refused e f =
        go (error_is x)
      where
        one : x ≡ e
        one = same_error {A = A} x e (sym is ∙ refused e (alike ∙ f))

        go : (build_error x ≡ NFA x) ⊎ (build_error x ≡ OutOfMemory) → (answer ≡ NFA e) ⊎ (answer ≡ OutOfMemory)
        go (inl k) = inl (t ∙ (k ∙ ap NFA one))
        go (inr k) = inr (t ∙ k)

    pub err_memory :
        {A : Type 0} (r : Result A NfaError) (x : NfaError) (answer : BuildError) → answer ≡ build_error x → r ≡ Err x
        → (states_error bs a u starts ≡ None → IsOkUnless r nfa_error.OutOfMemory)
        → shapes_error (map built_of shapes) a u own ≡ None → answer ≡ OutOfMemory
    err_memory r x answer t is memory f =
        t ∙ ap build_error (subst (λ z. IsOkUnless z nfa_error.OutOfMemory) is (memory (alike ∙ f)))

pub err_either :
    {A : Type 0} (answer : BuildError) (e : NfaError) → (answer ≡ NFA e) ⊎ (answer ≡ OutOfMemory)
    → ◌≡◌ {A = Result A BuildError} (Err answer) (Err (NFA e))
    ⊎ ◌≡◌ {A = Result A BuildError} (Err answer) (Err OutOfMemory)
err_either answer e (inl h) = inl (ap (λ z. Err z) h)
err_either answer e (inr h) = inr (ap (λ z. Err z) h)
