-- Closures, powerset states and steps as functions, which compute what the relations of Powersets define.
use Rattle.std.specs.Prelude.{ℕ, zero, suc, Bool, true, false, not, ◌&&◌, ◌||◌, eqb, List, [], ◌∷◌, ◌++◌}
use Rattle.std.specs.Prelude.{length, Option}
use Rattle.automata_base.specs.declared.util.look.Look.{Look}
use Rattle.automata_base.specs.declared.util.look.Look.TheVariants.{Start, End, StartLF, EndLF, StartCRLF, EndCRLF}
use Rattle.automata_base.specs.declared.util.look.Look.TheVariants.{WordAscii}
use Rattle.automata_base.specs.declared.util.look.Look.TheVariants.{WordAsciiNegate}
use Rattle.automata_base.specs.declared.util.look.Look.TheVariants.{WordUnicode, WordUnicodeNegate, WordStartAscii}
use Rattle.automata_base.specs.declared.util.look.Look.TheVariants.{WordEndAscii}
use Rattle.automata_base.specs.declared.util.look.Look.TheVariants.{WordStartUnicode}
use Rattle.automata_base.specs.declared.util.look.Look.TheVariants.{WordEndUnicode, WordStartHalfAscii}
use Rattle.automata_base.specs.declared.util.look.Look.TheVariants.{WordEndHalfAscii}
use Rattle.automata_base.specs.declared.util.look.Look.TheVariants.{WordStartHalfUnicode}
use Rattle.automata_base.specs.declared.util.look.Look.TheVariants.{WordEndHalfUnicode}
use Rattle.automata_base.specs.Haystacks.Looks.{is_absent, is_byte, is_word, first_half}
use Rattle.automata_base.specs.Haystacks.Looks.{second_half}
use Rattle.automata_base.specs.Haystacks.Looks.{look_index}
use Rattle.automata_base.specs.Lists.{pick}
use Rattle.automata_base.specs.Nfas.Nfa.{Nfa, Truth, accepts, keep, any_node}
use Rattle.automata_base.specs.declared.util.search.MatchKind.{MatchKind}
use Rattle.automata_base.specs.Powersets.Cuts.{cut_for, targets}
use Rattle.automata_base.specs.Powersets.Passes.{is_word_look, is_crlf_look}
use Rattle.automata_determinize.specs.Powersets.Passes.{true_looks}
use Rattle.automata_base.specs.Powersets.Powerset.{Powerset}
use Rattle.automata_base.specs.Powersets.Closure.{children}
use Rattle.automata_base.specs.Haystacks.LookSets.{truth_of, set_of, all_looks}
use Rattle.automata_base.specs.Retraced.Computed.{is_in, any_state}

-- The states visited from a stack, in order; `go` says which are visited after the next one.
abbrev pub visits_with : (List ℕ → List ℕ → List ℕ) → Nfa → Truth → List ℕ → List ℕ → List ℕ
visits_with go n A [] seen = []
visits_with go n A (x ∷ stack) seen =
    elim (is_in x seen) [ true ↦ visits_with go n A stack seen | false ↦ x ∷ go (children n A x ++ stack) (x ∷ seen) ]

-- The first visits from a stack, at most `fuel` of them.
abbrev pub first_visits : ℕ → Nfa → Truth → List ℕ → List ℕ → List ℕ
first_visits zero n A stack seen = []
first_visits (suc fuel) n A stack seen = visits_with (first_visits fuel n A) n A stack seen

-- The closure of the roots: the states visited from them, each once.
abbrev pub closure_of : Nfa → Truth → List ℕ → List ℕ
closure_of n A roots = first_visits (length n.nodes) n A roots []

-- The elements of a list that are not in `seen`, each once.
abbrev pub once_past : List ℕ → List ℕ → List ℕ
once_past seen [] = []
once_past seen (x ∷ xs) = elim (is_in x seen) [ true ↦ once_past seen xs | false ↦ x ∷ once_past (x ∷ seen) xs ]

-- Whether a look holds after `prev` whatever comes next.
abbrev pub always : (terminator : ℕ) (reverse : Bool) → Look → (prev : Option ℕ) → Bool
always t r Start prev = is_absent prev
always t r End prev = false
always t r StartLF prev = is_absent prev || is_byte t prev
always t r EndLF prev = false
always t r StartCRLF prev = is_absent prev || is_byte (second_half r) prev
always t r EndCRLF prev = false
always t r WordAscii prev = false
always t r WordAsciiNegate prev = false
always t r WordUnicode prev = false
always t r WordUnicodeNegate prev = false
always t r WordStartAscii prev = false
always t r WordEndAscii prev = false
always t r WordStartUnicode prev = false
always t r WordEndUnicode prev = false
always t r WordStartHalfAscii prev = not (is_word prev)
always t r WordEndHalfAscii prev = false
always t r WordStartHalfUnicode prev = not (is_word prev)
always t r WordEndHalfUnicode prev = false

-- The looks of the NFA that hold after `prev` whatever comes next.
abbrev pub known_looks : Nfa → Option ℕ → Truth
known_looks n prev look =
    any_node (λ other. eqb (look_index other) (look_index look)) n.nodes && always n.terminator n.reverse look prev

-- Whether the list has an element.
abbrev pub is_full : List ℕ → Bool
is_full [] = false
is_full (x ∷ xs) = true

-- The powerset state that is made of a closure after a unit, with these patterns.
abbrev pub make : Nfa → List ℕ → List ℕ → Option ℕ → Powerset
make n patterns C prev =
    let list : List ℕ = pick (keep n) C in
    record {
      nfa = list;
      patterns = patterns;
      known = set_of (λ look. any_state (λ other. true) n list && known_looks n prev look);
      needed = set_of (λ look. any_state (λ other. eqb (look_index other) (look_index look)) n list);
      word = is_full list && any_node is_word_look n.nodes && is_word prev;
      half = is_full list && any_node is_crlf_look n.nodes && is_byte (first_half n.reverse) prev;
    }

-- The powerset state of the closure of the roots after a unit, with these patterns.
abbrev pub arrive : Nfa → List ℕ → List ℕ → Option ℕ → Powerset
arrive n patterns roots prev = make n patterns (closure_of n (known_looks n prev) roots) prev

-- The powerset state where searches from a state start after a byte, or after none.
abbrev pub start_behind : Nfa → ℕ → Option ℕ → Powerset
start_behind n start prev = arrive n [] (start ∷ []) prev

-- Whether a look of the list passes the test.
abbrev pub any_look : (Look → Bool) → List Look → Bool
any_look f [] = false
any_look f (look ∷ looks) = f look || any_look f looks

-- Whether a needed look is true and was not known before.
abbrev pub has_news : Nfa → Powerset → Option ℕ → Bool
has_news n Q u =
    any_look (λ look. truth_of Q.needed look && (true_looks n Q u look && not (truth_of Q.known look))) all_looks

-- The NFA states of a powerset state once its looks are decided by the unit.
abbrev pub decide : Nfa → Powerset → Option ℕ → List ℕ
decide n Q u = elim (has_news n Q u) [ true ↦ closure_of n (true_looks n Q u) Q.nfa | false ↦ Q.nfa ]

-- The powerset state that another leads to on a unit.
abbrev pub successor_of : Nfa → MatchKind → Powerset → Option ℕ → Powerset
successor_of n kind Q u =
    let L : List ℕ = cut_for kind n (decide n Q u) in
    arrive n (once_past [] (pick (accepts n) L)) (targets n u L) u
