-- Why the NFAs of a draft are not joined.
use Rattle.std.proofs.Common.{ℕ, ◌≡◌, ◌∙◌, ◌+◌, List, [], ◌∷◌, ◌++◌, Option, Some, None, ap, ap₂, arith, length}
use Rattle.std.proofs.Common.{refl, sym}
use Rattle.std.specs.Prelude.{Result, Ok, Err, IsOkUnless, ◌≢◌}
use Rattle.regex_nfa.specs.declared.nfa.Nfa as kit_nfa
use Rattle.automata_base.specs.Nfas.Engines.{any_byte}
use Rattle.automata_base.specs.Nfas.Errors.{states_error}
use Rattle.automata_base.specs.Nfas.Nfa.{Split}
use Rattle.automata_base.specs.Nfas.Nodes as ours
use Rattle.automata_base.specs.declared.nfa.thompson.state.NfaError.{NfaError}
use Rattle.automata_base.specs.declared.nfa.thompson.state.NfaError.TheVariants as nfa_error
use Rattle.automata_base.specs.declared.nfa.thompson.state.State.{State}
use Rattle.regex_automata.proofs.Results.{same_err}
use Rattle.meaning.specs.Translated.{size_of}
use Rattle.patterns.specs.Drafts.{Has}
use Rattle.patterns.specs.Faults.{CannotJoin, IsJoinRejected, LacksID, LacksRoom, joining_fault}
use Rattle.patterns.specs.declared.compile.Draft.{Draft}
use Rattle.patterns.specs.declared.error.Fault.{Fault}
use Rattle.patterns.specs.declared.error.Fault.TheVariants.{Syntax, UnicodeWord, TooLarge, Malformed, Refused, Unbuilt}
use Rattle.patterns.specs.declared.error.Fault.TheVariants.{OutOfMemory}
use Rattle.patterns.proofs.Drafting.{all_nodes, states_count}
use Rattle.patterns.proofs.Faults.{lacks_room}

-- there are not enough IDs, or memory runs out
pub room_lacks :
    (draft : Draft) (fault : Fault) → LacksRoom (length draft.states.items + 2) fault → CannotJoin draft fault
room_lacks draft (Syntax error) lacks ks has = absurd lacks
room_lacks draft UnicodeWord lacks ks has = absurd lacks
room_lacks draft TooLarge lacks ks has = omega (arith, lacks, states_count draft ks has)
room_lacks draft Malformed lacks ks has = absurd lacks
room_lacks draft (Refused error) lacks ks has = absurd lacks
room_lacks draft (Unbuilt error) lacks ks has = absurd lacks
room_lacks draft OutOfMemory lacks ks has = tt

pub id_lacks : (draft : Draft) (number : ℕ) (fault : Fault) → number ≡ length draft.states.items
    → LacksID number fault → CannotJoin draft fault
id_lacks draft number fault is lacks =
    room_lacks draft fault (lacks_room number (length draft.states.items + 2) fault (omega (arith, is)) lacks)

-- the error of the first test that fails, if it is the error that is returned
found_error : {A : Type 0} (r : Result A NfaError) (found : Option NfaError) (error : NfaError) → r ≡ Err error
    → error ≢ nfa_error.OutOfMemory → ((e : NfaError) → found ≡ Some e → r ≡ Err e)
    → (found ≡ None → IsOkUnless r nfa_error.OutOfMemory) → found ≡ Some error
found_error (Ok a) found error is never refused memory = absurd (cc)
found_error (Err e) None error is never refused memory =
    let same : e ≡ error = same_err is in
    let out : e ≡ nfa_error.OutOfMemory = memory refl in
    absurd (never (sym same ∙ out))
found_error (Err e) (Some f) error is never refused memory =
    let same : e ≡ error = same_err is in
    let found : e ≡ f = same_err (refused f refl) in
    ap (λ (x : NfaError). Some x) (sym found ∙ same)

-- the states that join a draft are rejected, or memory runs out
pub rejected :
    {A : Type 0} (draft : Draft) (states : List State) (a u : ℕ) (starts : List ℕ) (r : Result A NfaError)
    → ours.nodes_of states
    ≡ ours.nodes_of draft.states.items
    ++ Split draft.starts.items
    ∷ Split (length draft.states.items ∷ (length draft.states.items + 2) ∷ [])
    ∷ any_byte (length draft.states.items + 1) ∷ []
    → a ≡ length draft.states.items → u ≡ length draft.states.items + 1 → starts ≡ draft.starts.items
    → ((e : NfaError) → states_error states a u starts ≡ Some e → r ≡ Err e)
    → (states_error states a u starts ≡ None → IsOkUnless r nfa_error.OutOfMemory)
    → (error : NfaError) → r ≡ Err error → CannotJoin draft (joining_fault error)
rejected draft states a u starts r nodes anchored unanchored begin refused memory = why
  where
    found : (error : NfaError) → r ≡ Err error → error ≢ nfa_error.OutOfMemory → (ks : List kit_nfa.Nfa)
        → Has draft ks → IsJoinRejected ks error
    found error is never ks has =
        let count = states_count draft ks has in (
          states,
          nodes ∙ all_nodes draft ks has,
          sym (ap₂ (λ v w. states_error states v w starts) (anchored ∙ count) (unanchored ∙ ap (λ v. v + 1) count)
              ∙ ap (λ v. states_error states (size_of ks) (size_of ks + 1) v) (begin ∙ has.starts))
              ∙ found_error r (states_error states a u starts) error is never refused memory,
        )

    why : (error : NfaError) → r ≡ Err error → CannotJoin draft (joining_fault error)
    why nfa_error.StateRange is = found nfa_error.StateRange is (λ e. absurd (cc))
    why nfa_error.StartRange is = found nfa_error.StartRange is (λ e. absurd (cc))
    why nfa_error.PatternRange is = found nfa_error.PatternRange is (λ e. absurd (cc))
    why nfa_error.Ranges is = found nfa_error.Ranges is (λ e. absurd (cc))
    why nfa_error.TooLarge is = found nfa_error.TooLarge is (λ e. absurd (cc))
    why nfa_error.OutOfMemory is = λ ks has. tt
