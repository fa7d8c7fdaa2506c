-- A powerset state made from a closure.
use Rattle.std.proofs.Common.{ℕ, ◌≡◌, ◌&&◌, Bool, true, false, eqb, List, refl, sym, ap, ◌∙◌, true≢false, subst, Option}
use Rattle.std.proofs.lemmas.Bool.{eq-eqb}
use Rattle.automata_base.specs.Haystacks.Looks as l
use Rattle.automata_base.specs.Lists.{pick}
use Rattle.automata_base.specs.Nfas.Nfa.{Nfa, keep, any_node}
use Rattle.automata_base.specs.Retraced.Computed.{any_state}
use Rattle.automata_determinize.specs.Retraced.Computed.{known_looks, is_full, make}
use Rattle.automata_base.specs.Haystacks.Looks.{look_index}
use Rattle.automata_base.specs.Powersets.Passes.{is_word_look, is_crlf_look}
use Rattle.automata_determinize.specs.Powersets.Passes.{IsMake}
use Rattle.automata_base.proofs.Paths.Machines.{any_node_true, any_node_from, code_one}
use Rattle.automata_determinize.proofs.Paths.Machines.{any_state_true, any_state_from}
use Rattle.automata_determinize.proofs.Paths.Machines.{make_right}
use Rattle.automata_determinize.proofs.Paths.Unique.{powerset_path}
use Rattle.automata_base.specs.Haystacks.LookSets.{truth_of}
use Rattle.automata_base.specs.declared.util.look.Look.{Look}
use Rattle.automata_base.specs.Haystacks.LookSets.{IsLookSet, set_of}
use Rattle.automata_determinize.proofs.Paths.LookSets.{set_of-truth_of}
use Rattle.automata_base.proofs.Paths.LookSets.{truth_of_none}
use Rattle.automata_base.proofs.Paths.Truths.{bool_iff}

-- A look of a mask occurs in the NFA.
pub masked :
    (n : Nfa) (any mask empty : ℕ) (f : Look → Bool) (b : Bool)
    → ((look : Look) → truth_of any look ≡ any_node (λ other. eqb (look_index other) (look_index look)) n.nodes)
    → ((look : Look) → truth_of mask look ≡ f look) → empty ≡ 0
    → (b ≡ true → (look : Look) × (truth_of any look ≡ true) × (truth_of mask look ≡ true)
    × (truth_of empty look ≡ false))
    → (b ≡ false → (look : Look) → truth_of any look ≡ true → truth_of mask look ≡ true → truth_of empty look ≡ false
    → ⊥)
    → b ≡ any_node f n.nodes
masked n any mask empty f b are is z yes' no' = bool_iff b (any_node f n.nodes) there (back b refl)
  where
    there : b ≡ true → any_node f n.nodes ≡ true
    there e =
        let w = yes' e in
        let v = any_node_true (λ other. eqb (look_index other) (look_index w.0)) n.nodes (sym (are w.0) ∙ w.1) in
        let same : v.1 ≡ w.0 = code_one v.1 w.0 v.4 in
        any_node_from f n.nodes v.0 v.1 v.2 v.3 (ap f same ∙ (sym (is w.0) ∙ w.2))

    back : (c : Bool) → b ≡ c → any_node f n.nodes ≡ true → b ≡ true
    back true e h = e
    back false e h =
        let v = any_node_true f n.nodes h in
        absurd (no' e v.1
        (are v.1
        ∙ any_node_from (λ other. eqb (look_index other) (look_index v.1)) n.nodes v.0 v.1 v.2 v.3
        (eq-eqb (look_index v.1) (look_index v.1) refl))
        (is v.1 ∙ v.4) (ap (λ k. truth_of k v.1) z ∙ truth_of_none v.1))

-- Whether a list has a look, by the set of its looks.
pub some_state :
    (n : Nfa) (list : List ℕ) (needed : ℕ) (b : Bool)
    → ((look : Look) → truth_of needed look ≡ any_state (λ other. eqb (look_index other) (look_index look)) n list)
    → (b ≡ true → (look : Look) × (truth_of needed look ≡ true))
    → (b ≡ false → (look : Look) → truth_of needed look ≡ false)
    → b ≡ any_state (λ other. true) n list
some_state n list needed b are yes' no' = bool_iff b (any_state (λ other. true) n list) there (back b refl)
  where
    there : b ≡ true → any_state (λ other. true) n list ≡ true
    there e =
        let w = yes' e in
        let v = any_state_true (λ other. eqb (look_index other) (look_index w.0)) n list (sym (are w.0) ∙ w.1) in
        any_state_from (λ other. true) n list v.0 v.1 v.2 v.3 v.4 refl

    back : (c : Bool) → b ≡ c → any_state (λ other. true) n list ≡ true → b ≡ true
    back true e h = e
    back false e h =
        let v = any_state_true (λ other. true) n list h in
        absurd (true≢false
        (sym (any_state_from (λ other. eqb (look_index other) (look_index v.1)) n list v.0 v.1 v.2 v.3 v.4
        (eq-eqb (look_index v.1) (look_index v.1) refl))
        ∙ (sym (are v.1) ∙ no' e v.1)))

pub made :
    (n : Nfa) (patterns C list : List ℕ) (prev : Option ℕ) (known needed : ℕ) (word half : Bool)
    → IsLookSet known → IsLookSet needed → list ≡ pick (keep n) C
    → ((look : Look) → truth_of known look ≡ (any_state (λ other. true) n list && known_looks n prev look))
    → ((look : Look) → truth_of needed look ≡ any_state (λ other. eqb (look_index other) (look_index look)) n list)
    → word ≡ (is_full list && any_node is_word_look n.nodes && l.is_word prev)
    → half ≡ (is_full list && any_node is_crlf_look n.nodes && l.is_byte (l.first_half n.reverse) prev)
    → IsMake n patterns C prev
    (record { nfa = list; patterns = patterns; known = known; needed = needed; word = word; half = half })
made n patterns C list prev known needed word half s z e k d w h =
    subst (λ Q. IsMake n patterns C prev Q)
    (sym (powerset_path
    (record { nfa = list; patterns = patterns; known = known; needed = needed; word = word; half = half })
    (make n patterns C prev) e refl
    (set_of-truth_of known s
    ∙ ap set_of (λ i look. (k look ∙ ap (λ xs. any_state (λ other. true) n xs && known_looks n prev look) e) i))
    (set_of-truth_of needed z
    ∙ ap set_of
    (λ i look. (d look ∙ ap (λ xs. any_state (λ other. eqb (look_index other) (look_index look)) n xs) e) i))
    (w ∙ ap (λ xs. is_full xs && any_node is_word_look n.nodes && l.is_word prev) e)
    (h ∙ ap (λ xs. is_full xs && any_node is_crlf_look n.nodes && l.is_byte (l.first_half n.reverse) prev) e)))
    (make_right n patterns C prev)
