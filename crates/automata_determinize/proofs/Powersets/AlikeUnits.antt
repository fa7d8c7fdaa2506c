-- Units that are the same to an NFA's looks give the same powerset states.
use Rattle.std.proofs.Common.{ℕ, zero, suc, ◌≡◌, Bool, true, false, not, ◌&&◌, ◌||◌, cond, eqb, List, [], ◌∷◌, ◌++◌}
use Rattle.std.proofs.Common.{length, Option, refl, ap, ap₂, ◌∙◌}
use Rattle.automata_base.specs.Retraced.Computed.{is_in, any_state}
use Rattle.automata_determinize.specs.Retraced.Computed.{visits_with, first_visits, closure_of}
use Rattle.automata_determinize.specs.Retraced.Computed.{always, known_looks, is_full, arrive, any_look, decide}
use Rattle.automata_base.specs.Lists.{pick}
use Rattle.automata_base.specs.declared.util.look.Look.{Look}
use Rattle.automata_base.specs.declared.util.look.Look.TheVariants.{Start, End, StartLF, EndLF, StartCRLF, EndCRLF}
use Rattle.automata_base.specs.declared.util.look.Look.TheVariants.{WordAscii}
use Rattle.automata_base.specs.declared.util.look.Look.TheVariants.{WordAsciiNegate, WordUnicode, WordUnicodeNegate}
use Rattle.automata_base.specs.declared.util.look.Look.TheVariants.{WordStartAscii}
use Rattle.automata_base.specs.declared.util.look.Look.TheVariants.{WordEndAscii, WordStartUnicode, WordEndUnicode}
use Rattle.automata_base.specs.declared.util.look.Look.TheVariants.{WordStartHalfAscii}
use Rattle.automata_base.specs.declared.util.look.Look.TheVariants.{WordEndHalfAscii, WordStartHalfUnicode}
use Rattle.automata_base.specs.declared.util.look.Look.TheVariants.{WordEndHalfUnicode}
use Rattle.automata_base.specs.Haystacks.Looks.{is_absent}
use Rattle.automata_base.specs.Haystacks.Looks.{is_byte, is_word, differ, first_half, second_half, look_index}
use Rattle.automata_base.specs.Nfas.Nfa.{Nfa, Node, Split, Assert, Read, Accept, Truth, node, keep, any_node}
use Rattle.automata_base.specs.Powersets.Passes.{Occurs, is_word_look, is_crlf_look}
use Rattle.automata_determinize.specs.Powersets.Passes.{decided, true_looks}
use Rattle.automata_base.specs.Powersets.Powerset.{Powerset}
use Rattle.automata_base.specs.Haystacks.LookSets.{truth_of, set_of, all_looks}
use Rattle.automata_base.specs.Powersets.Closure.{children, children_at}
use Rattle.automata_base.proofs.Paths.Machines.{any_node_true, any_node_from, code_one}
use Rattle.automata_determinize.proofs.Paths.Unique.{powerset_path}
use Rattle.automata_determinize.proofs.Powersets.AlikeBytes.{is_line_look}

-- Truths that agree on the NFA's looks give the same closures.
same_children :
    (n : Nfa) (A B : Truth) → ((look : Look) → Occurs n look → A look ≡ B look) → (q : ℕ)
    → children n A q ≡ children n B q
same_children n A B e q = go (node n q) refl
  where
    go : (x : Node) → node n q ≡ x → children_at x A ≡ children_at x B
    go (Split alternates) h = refl
    go (Assert look next) h = ap (λ b. cond b (next ∷ []) []) (e look (q, next, h))
    go (Read ranges) h = refl
    go (Accept p) h = refl

same_inner :
    (f g : List ℕ → List ℕ → List ℕ) (n : Nfa) (A B : Truth)
    → ((stack seen : List ℕ) → f stack seen ≡ g stack seen) → ((q : ℕ) → children n A q ≡ children n B q)
    → (stack seen : List ℕ) → visits_with f n A stack seen ≡ visits_with g n B stack seen
same_inner f g n A B h e [] seen = refl
same_inner f g n A B h e (x ∷ stack) seen =
    go (is_in x seen) (same_inner f g n A B h e stack seen)
    (h (children n A x ++ stack) (x ∷ seen) ∙ ap (λ next. g (next ++ stack) (x ∷ seen)) (e x))
  where
    go :
        (b : Bool) → visits_with f n A stack seen ≡ visits_with g n B stack seen
        → f (children n A x ++ stack) (x ∷ seen) ≡ g (children n B x ++ stack) (x ∷ seen)
        → ◌≡◌ {A = List ℕ}
        (elim b [ true ↦ visits_with f n A stack seen | false ↦ x ∷ f (children n A x ++ stack) (x ∷ seen) ])
        (elim b [ true ↦ visits_with g n B stack seen | false ↦ x ∷ g (children n B x ++ stack) (x ∷ seen) ])
    go true again deeper = again
    go false again deeper = ap (λ out. x ∷ out) deeper

same_visits :
    (fuel : ℕ) (n : Nfa) (A B : Truth) → ((q : ℕ) → children n A q ≡ children n B q)
    → (stack seen : List ℕ) → first_visits fuel n A stack seen ≡ first_visits fuel n B stack seen
same_visits zero n A B e stack seen = refl
same_visits (suc fuel) n A B e stack seen =
    same_inner (first_visits fuel n A) (first_visits fuel n B) n A B (same_visits fuel n A B e) e stack seen

pub same_closure :
    (n : Nfa) (A B : Truth) (roots : List ℕ)
    → ((look : Look) → Occurs n look → A look ≡ B look) → closure_of n A roots ≡ closure_of n B roots
same_closure n A B roots e = same_visits (length n.nodes) n A B (same_children n A B e) roots []

-- The looks of the NFA see the same in the two units.
pub record SeesAlike (n : Nfa) (x y : Option ℕ) : Type 0 where
  pub absent : is_absent x ≡ is_absent y
  pub line : any_node is_line_look n.nodes ≡ true → is_byte n.terminator x ≡ is_byte n.terminator y
  pub carriage_return : any_node is_crlf_look n.nodes ≡ true → is_byte 13 x ≡ is_byte 13 y
  pub line_feed : any_node is_crlf_look n.nodes ≡ true → is_byte 10 x ≡ is_byte 10 y
  pub word : any_node is_word_look n.nodes ≡ true → is_word x ≡ is_word y

has_look :
    (f : Look → Bool) (n : Nfa) (look : Look) → Occurs n look → f look ≡ true → any_node f n.nodes ≡ true
has_look f n look o e = any_node_from f n.nodes o.0 look o.1 o.2 e

same_line :
    (n : Nfa) (x y : Option ℕ) (look : Look) → SeesAlike n x y → Occurs n look → is_line_look look ≡ true
    → is_byte n.terminator x ≡ is_byte n.terminator y
same_line n x y look s o e = s.line (has_look is_line_look n look o e)

same_word :
    (n : Nfa) (x y : Option ℕ) (look : Look) → SeesAlike n x y → Occurs n look → is_word_look look ≡ true
    → is_word x ≡ is_word y
same_word n x y look s o e = s.word (has_look is_word_look n look o e)

same_first :
    (r : Bool) (x y : Option ℕ) → is_byte 13 x ≡ is_byte 13 y → is_byte 10 x ≡ is_byte 10 y
    → is_byte (first_half r) x ≡ is_byte (first_half r) y
same_first true x y c l = l
same_first false x y c l = c

same_second :
    (r : Bool) (x y : Option ℕ) → is_byte 13 x ≡ is_byte 13 y → is_byte 10 x ≡ is_byte 10 y
    → is_byte (second_half r) x ≡ is_byte (second_half r) y
same_second true x y c l = c
same_second false x y c l = l

first_alike :
    (n : Nfa) (x y : Option ℕ) → SeesAlike n x y → any_node is_crlf_look n.nodes ≡ true
    → is_byte (first_half n.reverse) x ≡ is_byte (first_half n.reverse) y
first_alike n x y s h = same_first n.reverse x y (s.carriage_return h) (s.line_feed h)

second_alike :
    (n : Nfa) (x y : Option ℕ) → SeesAlike n x y → any_node is_crlf_look n.nodes ≡ true
    → is_byte (second_half n.reverse) x ≡ is_byte (second_half n.reverse) y
second_alike n x y s h = same_second n.reverse x y (s.carriage_return h) (s.line_feed h)

-- The same looks are known after both units.
same_always :
    (n : Nfa) (x y : Option ℕ) (look : Look)
    → SeesAlike n x y → Occurs n look → always n.terminator n.reverse look x ≡ always n.terminator n.reverse look y
same_always n x y Start s o = s.absent
same_always n x y End s o = refl
same_always n x y StartLF s o = ap₂ (λ a b. a || b) s.absent (same_line n x y StartLF s o refl)
same_always n x y EndLF s o = refl
same_always n x y StartCRLF s o =
    ap₂ (λ a b. a || b) s.absent (second_alike n x y s (has_look is_crlf_look n StartCRLF o refl))
same_always n x y EndCRLF s o = refl
same_always n x y WordAscii s o = refl
same_always n x y WordAsciiNegate s o = refl
same_always n x y WordUnicode s o = refl
same_always n x y WordUnicodeNegate s o = refl
same_always n x y WordStartAscii s o = refl
same_always n x y WordEndAscii s o = refl
same_always n x y WordStartUnicode s o = refl
same_always n x y WordEndUnicode s o = refl
same_always n x y WordStartHalfAscii s o = ap not (same_word n x y WordStartHalfAscii s o refl)
same_always n x y WordEndHalfAscii s o = refl
same_always n x y WordStartHalfUnicode s o = ap not (same_word n x y WordStartHalfUnicode s o refl)
same_always n x y WordEndHalfUnicode s o = refl

and_alike : (a b c : Bool) → (a ≡ true → b ≡ c) → a && b ≡ a && c
and_alike true b c e = e refl
and_alike false b c e = refl

pub same_known :
    (n : Nfa) (x y : Option ℕ) → SeesAlike n x y → (look : Look) → known_looks n x look ≡ known_looks n y look
same_known n x y s look =
    and_alike (any_node f n.nodes) (always n.terminator n.reverse look x) (always n.terminator n.reverse look y)
    (λ e. same_always n x y look s (found (any_node_true f n.nodes e)))
  where
    f : Look → Bool
    f other = eqb (look_index other) (look_index look)

    found : (q : ℕ) × (other : Look) × (next : ℕ) × (node n q ≡ Assert other next) × (f other ≡ true) → Occurs n look
    found w = (w.0, w.2, w.3 ∙ ap (λ l. Assert l w.2) (code_one w.1 look w.4))

third_alike : (a b c d : Bool) → (b ≡ true → c ≡ d) → a && b && c ≡ a && b && d
third_alike true b c d e = and_alike b c d e
third_alike false b c d e = refl

flag_alike : (a a' b c d : Bool) → a ≡ a' → (b ≡ true → c ≡ d) → a && b && c ≡ a' && b && d
flag_alike a a' b c d e f = ap (λ v. v && b && c) e ∙ third_alike a' b c d f

-- So a list of roots gives the same powerset state after both units.
pub arrive_alike :
    (n : Nfa) (patterns roots : List ℕ) (x y : Option ℕ)
    → SeesAlike n x y → arrive n patterns roots x ≡ arrive n patterns roots y
arrive_alike n patterns roots x y s =
    powerset_path (arrive n patterns roots x) (arrive n patterns roots y) (ap list k) refl
    (ap (λ K. set_of (λ look. any_state (λ other. true) n (list K) && K look)) k)
    (ap (λ K. set_of (λ look. any_state (λ other. eqb (look_index other) (look_index look)) n (list K))) k)
    (flag_alike (full x) (full y) (any_node is_word_look n.nodes) (is_word x) (is_word y) (ap (λ K. is_full (list K)) k)
    s.word)
    (flag_alike (full x) (full y) (any_node is_crlf_look n.nodes) (is_byte (first_half n.reverse) x)
    (is_byte (first_half n.reverse) y) (ap (λ K. is_full (list K)) k) (first_alike n x y s))
  where
    list : Truth → List ℕ
    list K = pick (keep n) (closure_of n K roots)

    full : Option ℕ → Bool
    full prev = is_full (list (known_looks n prev))

    k : ◌≡◌ {A = Truth} (known_looks n x) (known_looks n y)
    k = λ i look. same_known n x y s look i

-- Both units decide the same looks.
same_decided :
    (n : Nfa) (w h : Bool) (x y : Option ℕ) (look : Look)
    → SeesAlike n x y → Occurs n look
    → decided n.terminator n.reverse w h look x ≡ decided n.terminator n.reverse w h look y
same_decided n w h x y Start s o = refl
same_decided n w h x y End s o = s.absent
same_decided n w h x y StartLF s o = refl
same_decided n w h x y EndLF s o = ap₂ (λ a b. a || b) s.absent (same_line n x y EndLF s o refl)
same_decided n w h x y StartCRLF s o =
    ap (λ b. h && not b) (second_alike n x y s (has_look is_crlf_look n StartCRLF o refl))
same_decided n w h x y EndCRLF s o =
    ap₂ (λ a b. a || (b && not h))
    (ap₂ (λ a b. a || b) s.absent (first_alike n x y s (has_look is_crlf_look n EndCRLF o refl)))
    (second_alike n x y s (has_look is_crlf_look n EndCRLF o refl))
same_decided n w h x y WordAscii s o = ap (λ b. differ w b) (same_word n x y WordAscii s o refl)
same_decided n w h x y WordAsciiNegate s o = ap (λ b. not (differ w b)) (same_word n x y WordAsciiNegate s o refl)
same_decided n w h x y WordUnicode s o = ap (λ b. differ w b) (same_word n x y WordUnicode s o refl)
same_decided n w h x y WordUnicodeNegate s o = ap (λ b. not (differ w b)) (same_word n x y WordUnicodeNegate s o refl)
same_decided n w h x y WordStartAscii s o = ap (λ b. not w && b) (same_word n x y WordStartAscii s o refl)
same_decided n w h x y WordEndAscii s o = ap (λ b. w && not b) (same_word n x y WordEndAscii s o refl)
same_decided n w h x y WordStartUnicode s o = ap (λ b. not w && b) (same_word n x y WordStartUnicode s o refl)
same_decided n w h x y WordEndUnicode s o = ap (λ b. w && not b) (same_word n x y WordEndUnicode s o refl)
same_decided n w h x y WordStartHalfAscii s o = refl
same_decided n w h x y WordEndHalfAscii s o = ap not (same_word n x y WordEndHalfAscii s o refl)
same_decided n w h x y WordStartHalfUnicode s o = refl
same_decided n w h x y WordEndHalfUnicode s o = ap not (same_word n x y WordEndHalfUnicode s o refl)

same_truth :
    (n : Nfa) (Q : Powerset) (x y : Option ℕ) → SeesAlike n x y
    → (look : Look) → Occurs n look → true_looks n Q x look ≡ true_looks n Q y look
same_truth n Q x y s look o = ap (λ b. truth_of Q.known look || b) (same_decided n Q.word Q.half x y look s o)

same_any : (f g : Look → Bool) → ((look : Look) → f look ≡ g look) → any_look f all_looks ≡ any_look g all_looks
same_any f g e = ap (λ (t : Truth). any_look t all_looks) (λ i look. e look i)

pub decide_alike :
    (n : Nfa) (Q : Powerset) (x y : Option ℕ)
    → SeesAlike n x y → ((look : Look) → truth_of Q.needed look ≡ true → Occurs n look) → decide n Q x ≡ decide n Q y
decide_alike n Q x y s own =
    ap₂ (λ b L. elim b [ true ↦ L | false ↦ Q.nfa ])
    (same_any (news x) (news y) reported)
    (same_closure n (true_looks n Q x) (true_looks n Q y) Q.nfa (same_truth n Q x y s))
  where
    news : Option ℕ → Look → Bool
    news unit look = truth_of Q.needed look && (true_looks n Q unit look && not (truth_of Q.known look))

    reported : (look : Look) → news x look ≡ news y look
    reported look =
        and_alike (truth_of Q.needed look) (true_looks n Q x look && not (truth_of Q.known look))
        (true_looks n Q y look && not (truth_of Q.known look))
        (λ e. ap (λ b. b && not (truth_of Q.known look)) (same_truth n Q x y s look (own look e)))
