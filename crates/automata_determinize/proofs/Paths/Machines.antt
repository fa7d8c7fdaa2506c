-- The computed pass is the pass that the rules define.
use Rattle.std.proofs.Common.{ℕ, zero, suc, ◌≡◌, ◌<◌, Bool, true, false, not, ◌&&◌, ◌||◌, eqb, List, [], ◌∷◌, ◌⊎◌, ◌↔◌}
use Rattle.std.proofs.Common.{length, Option, Some, None, inl, inr, refl, sym, ap, ◌∙◌, subst, arith, ⊎_elim}
use Rattle.std.proofs.Common.{true≢false}
use Rattle.std.proofs.lemmas.Bool.{eqb-true, eq-eqb}
use Rattle.automata_base.specs.declared.util.look.Look.{Look}
use Rattle.automata_base.specs.declared.util.look.Look.TheVariants.{Start, End, StartLF, EndLF, StartCRLF, EndCRLF}
use Rattle.automata_base.specs.declared.util.look.Look.TheVariants.{WordAscii}
use Rattle.automata_base.specs.declared.util.look.Look.TheVariants.{WordAsciiNegate, WordUnicode, WordUnicodeNegate}
use Rattle.automata_base.specs.declared.util.look.Look.TheVariants.{WordStartAscii}
use Rattle.automata_base.specs.declared.util.look.Look.TheVariants.{WordEndAscii, WordStartUnicode, WordEndUnicode}
use Rattle.automata_base.specs.declared.util.look.Look.TheVariants.{WordStartHalfAscii}
use Rattle.automata_base.specs.declared.util.look.Look.TheVariants.{WordEndHalfAscii, WordStartHalfUnicode}
use Rattle.automata_base.specs.declared.util.look.Look.TheVariants.{WordEndHalfUnicode}
use Rattle.automata_base.specs.Haystacks.Looks.{holds}
use Rattle.automata_base.specs.Haystacks.Looks.{is_absent, is_byte, is_word, differ, first_half, second_half}
use Rattle.automata_base.specs.Lists.{In, From, pick}
use Rattle.std.specs.Prelude.{slice_get}
use Rattle.automata_base.specs.Nfas.Nfa.{Nfa, Assert, Truth, node, takes}
use Rattle.automata_base.specs.Nfas.Nfa.{accepts, keep, looks_at, any_node}
use Rattle.automata_base.specs.Paths.Paths.{IsPathAt, Tape, next, IsClosure}
use Rattle.automata_base.specs.declared.util.search.MatchKind.{MatchKind}
use Rattle.automata_base.specs.Powersets.Cuts.{cut_for, targets, IsOnce}
use Rattle.automata_determinize.specs.Powersets.Passes.{IsUnit, IsKnownLook, IsNeeded, IsMake}
use Rattle.automata_base.specs.Powersets.Passes.{Occurs, is_word_look}
use Rattle.automata_base.specs.Powersets.Passes.{is_crlf_look}
use Rattle.automata_determinize.specs.Powersets.Passes.{true_looks, IsNews, IsDecided, IsClosureOf, IsSuccessor}
use Rattle.automata_determinize.specs.Powersets.Passes.{HasNews, HasNoNews}
use Rattle.automata_determinize.specs.Powersets.Passes.{IsPass}
use Rattle.automata_base.specs.Powersets.Powerset.{Powerset}
use Rattle.automata_determinize.specs.Paths.Selections.{Reports}
use Rattle.automata_base.specs.Powersets.Closure.{children, Visits, done, skip, visit}
use Rattle.automata_base.specs.Retraced.Computed.{is_in, any_state}
use Rattle.automata_determinize.specs.Retraced.Computed.{closure_of, once_past}
use Rattle.automata_determinize.specs.Retraced.Computed.{always, known_looks, is_full, make, arrive, has_news, any_look}
use Rattle.automata_determinize.specs.Retraced.Computed.{decide, successor_of}
use Rattle.automata_determinize.specs.Retraced.Passes.{pass_of, reported_of}
use Rattle.automata_base.specs.Nfas.Accepted.{IsInRange}
use Rattle.automata_base.specs.Haystacks.Looks.{look_index}
use Rattle.automata_base.proofs.Paths.Orders.{none_some, nil_cons}
use Rattle.automata_base.proofs.Paths.Sift.{same, in_picked}
use Rattle.automata_base.proofs.Paths.Staying.{keep_sieve}
use Rattle.automata_base.proofs.Paths.Readings.{sorted_has}
use Rattle.automata_base.proofs.Paths.FirstVisits.{visits_closure, hop_children}
use Rattle.automata_base.proofs.Paths.Fuels.{is_in_true, is_in_false}
use Rattle.automata_determinize.proofs.Paths.Fuels.{AllBelow, closure_right}
use Rattle.automata_base.specs.Haystacks.LookSets.{truth_of, all_looks}
use Rattle.automata_determinize.proofs.Paths.LookSets.{truth_of-set_of, set_of-small, nth_index}
use Rattle.std.proofs.lemmas.Bool.{and_parts}
use Rattle.std.proofs.lemmas.Bool.{or_cases}
use Rattle.automata_base.proofs.Paths.Truths.{or_left}
use Rattle.automata_base.proofs.Paths.Truths.{or_right}
use Rattle.automata_base.proofs.Paths.Sets.{nth_in}
use Rattle.automata_base.proofs.Paths.Machines.{and_true, looks, code_one, looks_at_true, any_node_true, any_node_from}

-- Lists with each element once, as visits of an NFA without edges.
abbrev pub no_nodes : Nfa
no_nodes = record { nodes = []; terminator = 0; reverse = false; keeps_unions = false }

abbrev pub no_truth : Truth
no_truth look = false

once_visits : (xs seen : List ℕ) → Visits no_nodes no_truth xs seen (once_past seen xs)
once_visits [] seen = done
once_visits (x ∷ xs) seen = go (is_in x seen) refl (once_visits xs seen) (once_visits xs (x ∷ seen))
  where
    go :
        (t : Bool) → is_in x seen ≡ t → Visits no_nodes no_truth xs seen (once_past seen xs)
        → Visits no_nodes no_truth xs (x ∷ seen) (once_past (x ∷ seen) xs)
        → Visits no_nodes no_truth (x ∷ xs) seen
        (elim t [ true ↦ once_past seen xs | false ↦ x ∷ once_past (x ∷ seen) xs ])
    go true e a b = skip (is_in_true x seen e) a
    go false e a b = visit (is_in_false x seen e) b

pub once_right : (xs : List ℕ) → IsOnce xs (once_past [] xs)
once_right xs =
    same (From W xs) (From Root xs) (once_past [] xs) there back
    (visits_closure no_nodes no_truth xs (once_past [] xs) (once_visits xs []))
  where
    W : ℕ → List ℕ → ℕ → Type 0
    W root path q = IsPathAt no_nodes no_truth [] root path q

    Root : ℕ → List ℕ → ℕ → Type 0
    Root root path q = (root ≡ q) × (path ≡ [])

    there : (q : ℕ) (key : List ℕ) → From W xs q key → From Root xs q key
    there q [] h = h
    there q (k ∷ []) h = (h.0, h.1, (h.2, refl))
    there q (k ∷ (e ∷ p)) h = absurd (none_some h.2.1)

    back : (q : ℕ) (key : List ℕ) → From Root xs q key → From W xs q key
    back q [] h = h
    back q (k ∷ p) h = (h.0, h.1, subst (λ v. W h.0 v q) (sym h.2.1) h.2.0)

pub any_state_true :
    (f : Look → Bool) (n : Nfa) (qs : List ℕ) → any_state f n qs ≡ true
    → (q : ℕ) × (look : Look) × (next : ℕ) × In q qs × (node n q ≡ Assert look next) × (f look ≡ true)
any_state_true f n [] e = absurd (true≢false (sym e))
any_state_true f n (x ∷ xs) e = go (or_cases (looks_at f (node n x)) (any_state f n xs) e) (any_state_true f n xs)
  where
    go :
        (looks_at f (node n x) ≡ true) ⊎ (any_state f n xs ≡ true)
        → (any_state f n xs ≡ true
        → (q : ℕ) × (look : Look) × (next : ℕ) × In q xs × (node n q ≡ Assert look next) × (f look ≡ true))
        → (q : ℕ) × (look : Look) × (next : ℕ) × In q (x ∷ xs) × (node n q ≡ Assert look next) × (f look ≡ true)
    go (inl h) ih = let w = looks_at_true f (node n x) h in (x, w.0, w.1, inl refl, w.2, w.3)
    go (inr h) ih = let w = ih h in (w.0, w.1, w.2, inr w.3, w.4, w.5)

pub any_state_from :
    (f : Look → Bool) (n : Nfa) (qs : List ℕ) (q : ℕ) (look : Look) (next : ℕ)
    → In q qs → node n q ≡ Assert look next → f look ≡ true → any_state f n qs ≡ true
any_state_from f n [] q look next i e t = absurd i
any_state_from f n (x ∷ xs) q look next (inl i) e t =
    or_left (looks_at f (node n x)) (any_state f n xs)
    (ap (λ v. looks_at f (node n v)) (sym i) ∙ (ap (λ v. looks_at f v) e ∙ t))
any_state_from f n (x ∷ xs) q look next (inr i) e t =
    or_right (looks_at f (node n x)) (any_state f n xs) (any_state_from f n xs q look next i e t)

-- A truth cannot differ from both truths, nor agree with both.
differ_both : (p : Bool) → differ p true ≡ true → differ p false ≡ true → ⊥
differ_both true a b = true≢false (sym a)
differ_both false a b = true≢false (sym b)

agree_both : (p : Bool) → not (differ p true) ≡ true → not (differ p false) ≡ true → ⊥
agree_both true a b = true≢false (sym b)
agree_both false a b = true≢false (sym a)

abbrev pub Always : ℕ → Bool → Look → Option ℕ → Type 0
Always t r look prev = (next : Option ℕ) → IsUnit next → holds t r look prev next ≡ true

always_true : (t : ℕ) (r : Bool) (look : Look) (prev : Option ℕ) → always t r look prev ≡ true → Always t r look prev
always_true t r Start prev e = λ next i. e
always_true t r End prev e = absurd (true≢false (sym e))
always_true t r StartLF prev e = λ next i. e
always_true t r EndLF prev e = absurd (true≢false (sym e))
always_true t r StartCRLF prev e =
    λ next i. or_left (is_absent prev || is_byte (second_half r) prev)
    (is_byte (first_half r) prev && not (is_byte (second_half r) next)) e
always_true t r EndCRLF prev e = absurd (true≢false (sym e))
always_true t r WordAscii prev e = absurd (true≢false (sym e))
always_true t r WordAsciiNegate prev e = absurd (true≢false (sym e))
always_true t r WordUnicode prev e = absurd (true≢false (sym e))
always_true t r WordUnicodeNegate prev e = absurd (true≢false (sym e))
always_true t r WordStartAscii prev e = absurd (true≢false (sym e))
always_true t r WordEndAscii prev e = absurd (true≢false (sym e))
always_true t r WordStartUnicode prev e = absurd (true≢false (sym e))
always_true t r WordEndUnicode prev e = absurd (true≢false (sym e))
always_true t r WordStartHalfAscii prev e = λ next i. e
always_true t r WordEndHalfAscii prev e = absurd (true≢false (sym e))
always_true t r WordStartHalfUnicode prev e = λ next i. e
always_true t r WordEndHalfUnicode prev e = absurd (true≢false (sym e))

always_from : (t : ℕ) (r : Bool) (look : Look) (prev : Option ℕ) → Always t r look prev → always t r look prev ≡ true
always_from t r Start prev f = f None tt
always_from t r End prev f = f (Some 0) (omega arith)
always_from t r StartLF prev f = f None tt
always_from t r EndLF prev f =
    let a : 0 ≡ t = eqb-true 0 t (f (Some 0) (omega arith)) in
    let b : 1 ≡ t = eqb-true 1 t (f (Some 1) (omega arith)) in
    absurd (omega (arith, a, b))
always_from t true StartCRLF prev f = ⊎_elim
    (λ (h : is_absent prev || is_byte 13 prev ≡ true). h)
    (λ (h : is_byte 10 prev && false ≡ true). absurd (true≢false (sym (and_parts (is_byte 10 prev) false h).1)))
    (or_cases (is_absent prev || is_byte 13 prev) (is_byte 10 prev && false) (f (Some 13) (omega arith)))
always_from t false StartCRLF prev f = ⊎_elim
    (λ (h : is_absent prev || is_byte 10 prev ≡ true). h)
    (λ (h : is_byte 13 prev && false ≡ true). absurd (true≢false (sym (and_parts (is_byte 13 prev) false h).1)))
    (or_cases (is_absent prev || is_byte 10 prev) (is_byte 13 prev && false) (f (Some 10) (omega arith)))
always_from t true EndCRLF prev f = f (Some 0) (omega arith)
always_from t false EndCRLF prev f = f (Some 0) (omega arith)
always_from t r WordAscii prev f = absurd (differ_both (is_word prev) (f (Some 97) (omega arith)) (f None tt))
always_from t r WordAsciiNegate prev f = absurd (agree_both (is_word prev) (f (Some 97) (omega arith)) (f None tt))
always_from t r WordUnicode prev f = absurd (differ_both (is_word prev) (f (Some 97) (omega arith)) (f None tt))
always_from t r WordUnicodeNegate prev f = absurd (agree_both (is_word prev) (f (Some 97) (omega arith)) (f None tt))
always_from t r WordStartAscii prev f = (and_parts (not (is_word prev)) false (f None tt)).1
always_from t r WordEndAscii prev f = (and_parts (is_word prev) false (f (Some 97) (omega arith))).1
always_from t r WordStartUnicode prev f = (and_parts (not (is_word prev)) false (f None tt)).1
always_from t r WordEndUnicode prev f = (and_parts (is_word prev) false (f (Some 97) (omega arith))).1
always_from t r WordStartHalfAscii prev f = f None tt
always_from t r WordEndHalfAscii prev f = f (Some 97) (omega arith)
always_from t r WordStartHalfUnicode prev f = f None tt
always_from t r WordEndHalfUnicode prev f = f (Some 97) (omega arith)

pub known_right : (n : Nfa) (prev : Option ℕ) (look : Look) → (known_looks n prev look ≡ true) ↔ IsKnownLook n prev look
known_right n prev look = (there, back)
  where
    f : Look → Bool
    f other = eqb (look_index other) (look_index look)

    there : known_looks n prev look ≡ true → IsKnownLook n prev look
    there e =
        let w = and_parts (any_node f n.nodes) (always n.terminator n.reverse look prev) e in
        let v = any_node_true f n.nodes w.0 in (
          (v.0, v.2, v.3 ∙ ap (λ l. Assert l v.2) (code_one v.1 look v.4)),
          always_true n.terminator n.reverse look prev
              w.1,
        )

    back : IsKnownLook n prev look → known_looks n prev look ≡ true
    back k =
        and_true (any_node f n.nodes) (always n.terminator n.reverse look prev)
        (any_node_from f n.nodes k.0.0 look k.0.1 k.0.2 (eq-eqb (look_index look) (look_index look) refl))
        (always_from n.terminator n.reverse look prev k.1)

full_true : (xs : List ℕ) → is_full xs ≡ true → xs ≡ [] → ⊥
full_true [] e f = true≢false (sym e)
full_true (x ∷ xs) e f = nil_cons (sym f)

full_from : (xs : List ℕ) → (xs ≡ [] → ⊥) → is_full xs ≡ true
full_from [] f = absurd (f refl)
full_from (x ∷ xs) f = refl

three_true : (a b c : Bool) → a && b && c ≡ true → (a ≡ true) × (b ≡ true) × (c ≡ true)
three_true a b c e = let w = and_parts (a && b) c e in let v = and_parts a b w.0 in (v.0, v.1, w.1)

three_from : (a b c : Bool) → a ≡ true → b ≡ true → c ≡ true → a && b && c ≡ true
three_from a b c e f g = and_true (a && b) c (and_true a b e f) g

pub needed_right :
    (n : Nfa) (xs : List ℕ) (look : Look)
    → (any_state (λ other. eqb (look_index other) (look_index look)) n xs ≡ true) ↔ IsNeeded n xs look
needed_right n xs look =
    (there, λ k. any_state_from f n xs k.0 look k.1 k.2 k.3 (eq-eqb (look_index look) (look_index look) refl))
  where
    f : Look → Bool
    f other = eqb (look_index other) (look_index look)

    there : any_state f n xs ≡ true → IsNeeded n xs look
    there e =
        let v = any_state_true f n xs e in (v.0, v.2, v.3, v.4 ∙ ap (λ l. Assert l v.2) (code_one v.1 look v.5))

flag_right :
    (n : Nfa) (f : Look → Bool) (xs : List ℕ) (b : Bool)
    → (is_full xs && any_node f n.nodes && b ≡ true)
    ↔ ((xs ≡ [] → ⊥) × ((look : Look) × Occurs n look × (f look ≡ true)) × (b ≡ true))
flag_right n f xs b = (there, back)
  where
    there :
        is_full xs && any_node f n.nodes && b ≡ true → (xs ≡ [] → ⊥) × ((look : Look) × Occurs n look × (f look ≡ true))
        × (b ≡ true)
    there e =
        let w = three_true (is_full xs) (any_node f n.nodes) b e in
        let v = any_node_true f n.nodes w.1 in
        (full_true xs w.0, (v.1, (v.0, v.2, v.3), v.4), w.2)

    back :
        (xs ≡ [] → ⊥) × ((look : Look) × Occurs n look × (f look ≡ true)) × (b ≡ true)
        → is_full xs && any_node f n.nodes && b ≡ true
    back h =
        three_from (is_full xs) (any_node f n.nodes) b (full_from xs h.0)
        (any_node_from f n.nodes h.1.1.0 h.1.0 h.1.1.1 h.1.1.2 h.1.2) h.2

pub make_right : (n : Nfa) (patterns C : List ℕ) (prev : Option ℕ) → IsMake n patterns C prev (make n patterns C prev)
make_right n patterns C prev = record {
  nfa = refl;
  patterns = refl;
  needed = λ look.
      subst (λ b. (b ≡ true) ↔ IsNeeded n xs look) (sym (truth_of-set_of needs look)) (needed_right n xs look);
  known = λ look.
      subst (λ b. (b ≡ true) ↔ (((other : Look) × IsNeeded n xs other) × IsKnownLook n prev look))
      (sym (truth_of-set_of knows look)) (known look);
  word = flag_right n is_word_look xs (is_word prev);
  half = flag_right n is_crlf_look xs (is_byte (first_half n.reverse) prev);
  known_set = set_of-small knows;
  needed_set = set_of-small needs;
}
  where
    xs : List ℕ
    xs = pick (keep n) C

    knows : Truth
    knows look = any_state (λ other. true) n xs && known_looks n prev look

    needs : Truth
    needs look = any_state (λ other. eqb (look_index other) (look_index look)) n xs

    all : Look → Bool
    all other = true

    known :
        (look : Look)
        → (any_state all n xs && known_looks n prev look ≡ true)
        ↔ (((other : Look) × IsNeeded n xs other) × IsKnownLook n prev look)
    known look = (there, back)
      where
        there :
            any_state all n xs && known_looks n prev look ≡ true → ((other : Look) × IsNeeded n xs other)
            × IsKnownLook n prev look
        there e =
            let w = and_parts (any_state all n xs) (known_looks n prev look) e in
            let v = any_state_true all n xs w.0 in
            ((v.1, (v.0, v.2, v.3, v.4)), (known_right n prev look).0 w.1)

        back :
            ((other : Look) × IsNeeded n xs other) × IsKnownLook n prev look
            → any_state all n xs && known_looks n prev look ≡ true
        back h =
            and_true (any_state all n xs) (known_looks n prev look)
            (any_state_from all n xs h.0.1.0 h.0.0 h.0.1.1 h.0.1.2 h.0.1.3 refl) ((known_right n prev look).1 h.1)

walk_below :
    (n : Nfa) (A : Truth) (seen : List ℕ) (q : ℕ) (path : List ℕ) (z : ℕ)
    → IsInRange n → q < length n.nodes → IsPathAt n A seen q path z → z < length n.nodes
walk_below n A seen q [] z r l w = subst (λ v. v < length n.nodes) w l
walk_below n A seen q (e ∷ path) z r l w =
    walk_below n A (q ∷ seen) w.0 path z r
    (r.0 q w.0 A (nth_in (children n A q) e w.0 (sym (hop_children n A q e) ∙ w.1))) w.3

pub closure_below :
    (n : Nfa) (A : Truth) (roots xs : List ℕ)
    → IsInRange n → AllBelow (length n.nodes) roots → IsClosure n A roots xs → AllBelow (length n.nodes) xs
closure_below n A roots xs r b c y i = let w = sorted_has (From W roots) xs y c.1 i in go w.0 w.1
  where
    W : ℕ → List ℕ → ℕ → Type 0
    W root path q = IsPathAt n A [] root path q

    go : (key : List ℕ) → From W roots y key → y < length n.nodes
    go [] h = absurd h
    go (k ∷ p) h = walk_below n A [] h.0 p y r (b h.0 (nth_in roots k h.0 h.1)) h.2

abbrev pub IsIn : Nfa → Powerset → Type 0
IsIn n Q = AllBelow (length n.nodes) Q.nfa

pub arrive_right :
    (n : Nfa) (patterns roots : List ℕ) (prev : Option ℕ)
    → IsInRange n → AllBelow (length n.nodes) roots
    → IsClosureOf n patterns roots prev (arrive n patterns roots prev) × IsIn n (arrive n patterns roots prev)
arrive_right n patterns roots prev r b = (
  record {
    truth = known_looks n prev;
    known = known_right n prev;
    list = C;
    closure = c;
    made = make_right n patterns C prev;
  },
  inside,
)
  where
    C : List ℕ
    C = closure_of n (known_looks n prev) roots

    c : IsClosure n (known_looks n prev) roots C
    c = closure_right n (known_looks n prev) roots r b

    inside : AllBelow (length n.nodes) (pick (keep n) C)
    inside y i =
        let w = in_picked (keep n) C y i in
        subst (λ v. v < length n.nodes) (keep_sieve n w.0 y w.2)
        (closure_below n (known_looks n prev) roots C r b c w.0 w.1)

-- Deciding the looks of a list.
any_look_true : (f : Look → Bool) (looks : List Look) → any_look f looks ≡ true → (look : Look) × (f look ≡ true)
any_look_true f [] e = absurd (true≢false (sym e))
any_look_true f (x ∷ xs) e = go (f x) refl e (any_look_true f xs)
  where
    go :
        (b : Bool) → f x ≡ b → b || any_look f xs ≡ true → (any_look f xs ≡ true → (look : Look) × (f look ≡ true))
        → (look : Look) × (f look ≡ true)
    go true h k again = (x, h)
    go false h k again = again k

any_look_from :
    (f : Look → Bool) (looks : List Look) (k : ℕ) (look : Look) → slice_get looks k ≡ Some look → f look ≡ true
    → any_look f looks ≡ true
any_look_from f [] k look e h = cc
any_look_from f (x ∷ xs) zero look e h =
    let same : x ≡ look = cc in ap (λ b. b || any_look f xs) (ap f same ∙ h)
any_look_from f (x ∷ xs) (suc k) look e h = or_right (f x) (any_look f xs) (any_look_from f xs k look e h)
  where
    or_right : (a b : Bool) → b ≡ true → a || b ≡ true
    or_right true b g = refl
    or_right false b g = g

pub decide_right :
    (n : Nfa) (u : Option ℕ) (Q : Powerset)
    → IsInRange n → IsIn n Q → IsDecided n Q u (decide n Q u) × AllBelow (length n.nodes) (decide n Q u)
decide_right n u Q r b = go (has_news n Q u) refl
  where
    f : Look → Bool
    f look = truth_of Q.needed look && (true_looks n Q u look && not (truth_of Q.known look))

    L : List ℕ
    L = closure_of n (true_looks n Q u) Q.nfa

    c : IsClosure n (true_looks n Q u) Q.nfa L
    c = closure_right n (true_looks n Q u) Q.nfa r b

    not_true : (b : Bool) → not b ≡ true → b ≡ false
    not_true true e = absurd (true≢false (sym e))
    not_true false e = refl

    not_false : (b : Bool) → b ≡ false → not b ≡ true
    not_false true e = absurd (true≢false e)
    not_false false e = refl

    go :
        (t : Bool) → has_news n Q u ≡ t
        → IsDecided n Q u (elim t [ true ↦ L | false ↦ Q.nfa ])
        × AllBelow (length n.nodes) (elim t [ true ↦ L | false ↦ Q.nfa ])
    go true e =
        let w = any_look_true f all_looks e in
        let a = and_parts (truth_of Q.needed w.0) (true_looks n Q u w.0 && not (truth_of Q.known w.0)) w.1 in
        let v = and_parts (true_looks n Q u w.0) (not (truth_of Q.known w.0)) a.1 in (
          HasNews (w.0, a.0, v.0, not_true (truth_of Q.known w.0) v.1) c,
          closure_below n (true_looks n Q u) Q.nfa L r b c,
        )
    go false e = (HasNoNews quiet refl, b)
      where
        quiet : IsNews n Q u → ⊥
        quiet h =
            true≢false
            (sym (any_look_from f all_looks (look_index h.0) h.0 (nth_index h.0)
            (and_true (truth_of Q.needed h.0) (true_looks n Q u h.0 && not (truth_of Q.known h.0)) h.1
            (and_true (true_looks n Q u h.0) (not (truth_of Q.known h.0)) h.2 (not_false (truth_of Q.known h.0) h.3))))
            ∙ e)

pub targets_below : (n : Nfa) (u : Option ℕ) (xs : List ℕ) → IsInRange n → AllBelow (length n.nodes) (targets n u xs)
targets_below n None xs r = λ y i. absurd i
targets_below n (Some u) xs r = λ y i. let w = in_picked (λ b. takes n b u) xs y i in r.1 w.0 u y w.2

pub succ_right :
    (n : Nfa) (kind : MatchKind) (u : Option ℕ) (Q : Powerset)
    → IsInRange n → IsIn n Q
    → IsSuccessor n kind Q u (successor_of n kind Q u) × IsIn n (successor_of n kind Q u)
succ_right n kind u Q r b =
    ((decide n Q u, once_past [] reported, d.0, once_right reported, a.0), a.1)
  where
    reported : List ℕ
    reported = pick (accepts n) (cut_for kind n (decide n Q u))

    d : IsDecided n Q u (decide n Q u) × AllBelow (length n.nodes) (decide n Q u)
    d = decide_right n u Q r b

    a :
        IsClosureOf n (once_past [] reported) (targets n u (cut_for kind n (decide n Q u))) u (successor_of n kind Q u)
        × IsIn n (successor_of n kind Q u)
    a =
        arrive_right n (once_past [] reported) (targets n u (cut_for kind n (decide n Q u))) u r
        (targets_below n u (cut_for kind n (decide n Q u)) r)

abbrev pub Computed : Nfa → MatchKind → ℕ → Tape → ℕ → Powerset → Type 0
Computed n kind start t k Q =
    IsPass n kind start t k Q × IsIn n Q

pub pass_right :
    (n : Nfa) (kind : MatchKind) (start : ℕ) (t : Tape) (k : ℕ)
    → IsInRange n → start < length n.nodes → Computed n kind start t k (pass_of n kind start t k)
pass_right n kind start t zero r l =
    let a = arrive_right n [] (start ∷ []) t.before r one in
    (a.0, a.1)
  where
    one : AllBelow (length n.nodes) (start ∷ [])
    one y (inl e) = subst (λ v. v < length n.nodes) (sym e) l
    one y (inr i) = absurd i
pass_right n kind start t (suc k) r l =
    let w = pass_right n kind start t k r l in
    let s = succ_right n kind (next t k) (pass_of n kind start t k) r w.1 in
    ((pass_of n kind start t k, w.0, s.0), s.1)

pub reported_right :
    (n : Nfa) (kind : MatchKind) (start : ℕ) (t : Tape) (i : ℕ)
    → IsInRange n → start < length n.nodes → Reports kind n t start i (reported_of n kind start t i)
reported_right n kind start t i r l = (pass_of n kind start t (suc i), (pass_right n kind start t (suc i) r l).0, refl)
