-- Bytes that the ranges or the states of a list do not read.
use Rattle.std.proofs.Common.{ℕ, ◌≡◌, ◌<◌, ◌+◌, List, [], Some, None}
use Rattle.std.proofs.Common.{length, get_or, drop, sym, ap, ◌∙◌}
use Rattle.automata_base.specs.Lists.{cons_some}
use Rattle.automata_base.specs.Nfas.Nfa.{Nfa, Node, node, takes, takes_at, takes_in}
use Rattle.automata_base.specs.Nfas.Nodes.{ranges_of}
use Rattle.automata_base.specs.Powersets.Cuts.{targets}
use Rattle.automata_base.specs.declared.nfa.thompson.state.Transition.{Transition}
use Rattle.automata_base.proofs.Powersets.Keeping.{pick_next}

-- If the ranges from index `i` on do not take byte `u`, none of the ranges does.
abbrev pub Skips : List Transition → (i u : ℕ) → Type 0
Skips ts i u = takes_in (ranges_of (drop i ts)) u ≡ None → takes_in (ranges_of ts) u ≡ None

-- If the states from index `i` on lead nowhere on byte `u`, none of the list does.
abbrev pub Ends : Nfa → List ℕ → (i u : ℕ) → Type 0
Ends n xs i u = targets n (Some u) (drop i xs) ≡ [] → targets n (Some u) xs ≡ []

pub ends_next :
    (n : Nfa) (xs : List ℕ) (i u x : ℕ) (m : Node)
    → i < length xs → x ≡ get_or xs i x → node n x ≡ m → takes_at m u ≡ None → Ends n xs i u → Ends n xs (i + 1) u
ends_next n xs i u x m l e at none ends rest =
    ends
    (pick_next (λ b. takes n b u) xs i x l e
    ∙ (ap (λ o. cons_some o (targets n (Some u) (drop (i + 1) xs))) (ap (λ z. takes_at z u) at ∙ none) ∙ rest))

-- If `rest` holds the targets of the states from index `i` on, `expected` holds the targets of the whole list.
abbrev pub Expects : Nfa → (list expected : List ℕ) → (u i : ℕ) → (rest : List ℕ) → Type 0
Expects n list expected u i rest = rest ≡ targets n (Some u) (drop i list) → expected ≡ targets n (Some u) list

pub expects_next :
    (n : Nfa) (list expected : List ℕ) (u i x : ℕ) (m : Node) (rest next : List ℕ)
    → i < length list → x ≡ get_or list i x → node n x ≡ m → rest ≡ cons_some (takes_at m u) next
    → Expects n list expected u i rest → Expects n list expected u (i + 1) next
expects_next n list expected u i x m rest next l e at parts expects same =
    expects
    (parts
    ∙ (ap (λ z. cons_some (takes_at z u) next) (sym at)
    ∙ (ap (cons_some (takes n x u)) same ∙ sym (pick_next (λ b. takes n b u) list i x l e))))
