-- Lists that contain the kept states of a closure: their bytes, and where they lead.
use Rattle.std.proofs.Common.{ℕ, Bool, true, false, true≢false, ◌≡◌, ◌<◌, ◌+◌, ◌-◌, zero, suc, List, [], ◌∷◌, ◌++◌}
use Rattle.std.proofs.Common.{length, get_or}
use Rattle.std.proofs.Common.{take, drop, drop-drop, Option, Some, None, is_some, ◌||◌, refl, sym, ap, ◌∙◌, subst}
use Rattle.std.proofs.Common.{arith}
use Rattle.std.proofs.Common.{append_assoc, append-nil, if◌then◌else◌, is_ok, Result, Ok, Err, OnOk}
use Rattle.std.specs.declared.alloc.AllocError.{AllocError}
use Rattle.std.specs.List.{All}
use Rattle.std.proofs.lemmas.List.{take-append-drop, take_rest, get_or-take, get_or-drop}
use Rattle.std.proofs.lemmas.List.Elements.{All-append}
use Rattle.automata_base.specs.Lists.{In, pick, cons_some}
use Rattle.automata_base.specs.Nfas.Accepted.{IsChecked}
use Rattle.automata_base.specs.declared.util.look.Look.{Look}
use Rattle.automata_base.specs.Nfas.Nfa.{Nfa, accepts, takes, keep, node, looks_at}
use Rattle.automata_base.specs.Nfas.KeptClosure.{AreTargets, IsPartAt, IsRestCode}
use Rattle.automata_base.specs.Retraced.Computed.{any_state}
use Rattle.automata_base.specs.Nfas.Nodes.{Automaton, nfa_of}
use Rattle.automata_base.specs.Powersets.Code.{varint, difference, ids_code}
use Rattle.automata_base.specs.declared.util.search.MatchKind.{MatchKind}
use Rattle.automata_base.specs.declared.util.search.MatchKind.TheVariants.{All as AllMatches, LeftmostFirst}
use Rattle.automata_base.specs.Powersets.Cuts.{cut, cut_after, cut_for}
use Rattle.automata_base.specs.Powersets.Cuts.{has_match, is_cut, targets, IsOnce}
use Rattle.automata_base.specs.Powersets.Powerset.{IsId}
use Rattle.automata_determinize.specs.Powersets.Results.{AreMatched}
use Rattle.automata_base.proofs.Paths.Sift.{in_picked}
use Rattle.automata_base.proofs.Powersets.Keeping.{any_kept, next_drop}
use Rattle.automata_base.proofs.Powersets.Walking.{nodes_length}

-- A list is what precedes a part, the part, and what follows it.
pub part_split :
    (list part : List ℕ) (start : ℕ) → IsPartAt list part start
    → list ≡ take start list ++ (part ++ take (length list - (start + length part)) (drop (start + length part) list))
part_split list part start at =
    sym (take-append-drop start list)
    ∙ ap (λ z. take start list ++ z)
    (sym (take-append-drop (length part) (drop start list))
    ∙ (ap (λ z. z ++ drop (length part) (drop start list)) at.same
    ∙ ap (λ z. part ++ z) (drop-drop (length part) start list ∙ sym (take_rest list (start + length part)))))

-- The last element of a list, or `before` if the list is empty.
abbrev last_of : ℕ → List ℕ → ℕ
last_of before [] = before
last_of before (x ∷ xs) = last_of x xs

-- The encoding of two joined lists.
code_of_both :
    (before : ℕ) (xs ys : List ℕ) → ids_code before (xs ++ ys) ≡ ids_code before xs ++ ids_code (last_of before xs) ys
unfolding ids_code
code_of_both before [] ys = refl
code_of_both before (id ∷ xs) ys =
    ap (λ z. varint (difference before id) ++ z) (code_of_both id xs ys)
    ∙ sym (append_assoc (varint (difference before id)) (ids_code id xs) (ids_code (last_of id xs) ys))

-- The last element of two joined lists, the second of which is not empty.
last_of_end :
    (before : ℕ) (xs ys : List ℕ) (d : ℕ) → 0 < length ys → last_of before (xs ++ ys) ≡ get_or ys (length ys - 1) d
last_of_end before [] [] d l = absurd (omega (arith, l))
last_of_end before [] (y ∷ ys) d l =
    let one : length (y ∷ ys) - 1 ≡ length ys = omega arith in
    last_is y ys d ∙ ap (λ z. get_or (y ∷ ys) z d) (sym one)
  where
    last_is : (y : ℕ) (ys : List ℕ) (d : ℕ) → last_of y ys ≡ get_or (y ∷ ys) (length ys) d
    last_is y [] d = refl
    last_is y (z ∷ ys) d = last_is z ys d
last_of_end before (x ∷ xs) ys d l = last_of_end x xs ys d l

-- The encoding of a front, the first state of a part, the rest of the part, and what follows it.
pub code_of_parts :
    (front part back code : List ℕ) (last : ℕ) → IsRestCode part code → 0 < length part
    → last ≡ get_or part (length part - 1) last
    → ids_code 0 (front ++ (part ++ back)) ≡ (ids_code 0 (front ++ take 1 part) ++ code) ++ ids_code last back
code_of_parts front part back code last is some at =
    ap (ids_code 0) (sym (append_assoc front part back))
    ∙ (code_of_both 0 (front ++ part) back
    ∙ (ap (λ z. z ++ ids_code (last_of 0 (front ++ part)) back) joined
    ∙ ap (λ z. (ids_code 0 (front ++ take 1 part) ++ code) ++ ids_code z back)
    (last_of_end 0 front part last some ∙ sym at)))
  where
    joined : ids_code 0 (front ++ part) ≡ ids_code 0 (front ++ take 1 part) ++ code
    joined =
        code_of_both 0 front part ∙ (ap (λ z. ids_code 0 front ++ z) (is.joined (last_of 0 front))
        ∙ (sym (append_assoc (ids_code 0 front) (ids_code (last_of 0 front) (take 1 part)) code)
        ∙ ap (λ z. z ++ code) (sym (code_of_both 0 front (take 1 part)))))

-- The states of the joined list are valid IDs if those of the front, of the first of the part and of the back are.
pub ids_of_parts :
    (front part back code : List ℕ) → IsRestCode part code → All IsId (front ++ take 1 part) → All IsId back
    → All IsId (front ++ (part ++ back))
ids_of_parts front part back code is begin end =
    subst (All IsId)
    (append_assoc (front ++ take 1 part) (drop 1 part) back
    ∙ (append_assoc front (take 1 part) (drop 1 part ++ back)
    ∙ ap (λ z. front ++ z)
    (sym (append_assoc (take 1 part) (drop 1 part) back) ∙ ap (λ z. z ++ back) (take-append-drop 1 part))))
    (All-append IsId ((front ++ take 1 part) ++ drop 1 part) back
    (All-append IsId (front ++ take 1 part) (drop 1 part) begin is.ids) end)

-- What precedes a part, and the first state of the part.
pub begin_of :
    (list part : List ℕ) (start : ℕ) → IsPartAt list part start → 0 < length part
    → take (start + 1) list ≡ take start list ++ take 1 part
begin_of list part start at some =
    one_more start list
    ∙ ap (λ z. take start list ++ z) (sym (first (length part) some (drop start list)) ∙ ap (take 1) at.same)
  where
    next : (n : ℕ) (xs : List ℕ) → take (suc n) xs ≡ take n xs ++ take 1 (drop n xs)
    next zero xs = refl
    next (suc n) [] = refl
    next (suc n) (x ∷ xs) = ap (λ z. x ∷ z) (next n xs)

    one_more : (n : ℕ) (xs : List ℕ) → take (n + 1) xs ≡ take n xs ++ take 1 (drop n xs)
    one_more n xs = let e : n + 1 ≡ suc n = omega arith in ap (λ z. take z xs) e ∙ next n xs

    first : (n : ℕ) → 0 < n → (xs : List ℕ) → take 1 (take n xs) ≡ take 1 xs
    first zero l xs = absurd (omega (arith, l))
    first (suc n) l [] = refl
    first (suc n) l (x ∷ xs) = refl

-- The last state of a part.
pub last_at :
    (list part : List ℕ) (start d : ℕ) → IsPartAt list part start → 0 < length part
    → get_or list (start + length part - 1) d ≡ get_or part (length part - 1) d
last_at list part start d at some =
    let n : ℕ = length part in
    let below : n - 1 < n = omega (arith, some) in
    let place : start + n - 1 ≡ start + (n - 1) = omega (arith, some) in
    ap (λ z. get_or list z d) place
    ∙ (sym (get_or-drop start list (n - 1) d)
    ∙ (sym (get_or-take n (drop start list) (n - 1) d below) ∙ ap (λ z. get_or z (n - 1) d) at.same))

-- The encoding of a list that contains a part, if it was appended in pieces: up to the first state of the part, the
-- rest of the part, and what follows it.
pub pushed_parts :
    (ids part code out more next new : List ℕ) (start last here : ℕ) {X : Type 0} (r : Result X AllocError)
    → IsRestCode part code → IsPartAt ids part start → 0 < length part
    → last ≡ get_or ids (start + length part - 1) last → here ≡ last
    → more ≡ out ++ ids_code 0 (take (start + 1) ids) → next ≡ more ++ code
    → OnOk r (new ≡ next ++ ids_code here (take (length ids - (start + length part)) (drop (start + length part) ids)))
    → OnOk r (new ≡ out ++ ids_code 0 ids)
pushed_parts ids part code out more next new start last here (Ok x) is at some is_last is_here first second third =
    third
    ∙ (ap (λ z. z ++ ids_code here back)
    (second ∙ ap (λ z. z ++ code) (first ∙ ap (λ z. out ++ ids_code 0 z) (begin_of ids part start at some)))
    ∙ (ap (λ z. z ++ ids_code here back) (append_assoc out begin code)
    ∙ (append_assoc out (begin ++ code) (ids_code here back)
    ∙ ap (λ z. out ++ z)
    (ap (λ z. (begin ++ code) ++ ids_code z back) is_here
    ∙ (sym (code_of_parts (take start ids) part back code last is some (is_last ∙ last_at ids part start last at some))
    ∙ ap (ids_code 0) (sym (part_split ids part start at)))))))
  where
    back : List ℕ
    back = take (length ids - (start + length part)) (drop (start + length part) ids)

    begin : List ℕ
    begin = ids_code 0 (take start ids ++ take 1 part)
pushed_parts ids part code out more next new start last here (Err x) is at some is_last is_here first second third = tt

pub ids_of_pushed :
    (ids part code : List ℕ) (start : ℕ) {X : Type 0} (r : Result X AllocError)
    → IsRestCode part code → IsPartAt ids part start → 0 < length part → All IsId (take (start + 1) ids)
    → OnOk r (All IsId (take (length ids - (start + length part)) (drop (start + length part) ids)))
    → OnOk r (All IsId ids)
ids_of_pushed ids part code start (Ok x) is at some first last =
    subst (All IsId) (sym (part_split ids part start at))
    (ids_of_parts (take start ids) part (take (length ids - (start + length part)) (drop (start + length part) ids))
    code is
    (subst (All IsId) (begin_of ids part start at some) first) last)
ids_of_pushed ids part code start (Err x) is at some first last = tt

pub cut_some : (n : Nfa) (xs ys : List ℕ) → has_match n xs ≡ true → cut n (xs ++ ys) ≡ cut n xs
cut_some n [] ys e = absurd (true≢false (sym e))
cut_some n (q ∷ xs) ys e = go (accepts n q) e (cut_some n xs ys)
  where
    go :
        (o : Option ℕ) → (is_some o || has_match n xs) ≡ true → (has_match n xs ≡ true → cut n (xs ++ ys) ≡ cut n xs)
        → cut_after o q (cut n (xs ++ ys)) ≡ cut_after o q (cut n xs)
    go None h more = ap (λ z. q ∷ z) (more h)
    go (Some p) h more = refl

pub cut_none : (n : Nfa) (xs : List ℕ) → has_match n xs ≡ false → cut n xs ≡ xs
cut_none n [] e = refl
cut_none n (q ∷ xs) e = go (accepts n q) e (cut_none n xs)
  where
    go :
        (o : Option ℕ) → (is_some o || has_match n xs) ≡ false → (has_match n xs ≡ false → cut n xs ≡ xs)
        → cut_after o q (cut n xs) ≡ q ∷ xs
    go None h more = ap (λ z. q ∷ z) (more h)
    go (Some p) h more = absurd (true≢false h)

picks_none : (n : Nfa) (xs : List ℕ) → has_match n xs ≡ false → pick (accepts n) xs ≡ []
picks_none n [] e = refl
picks_none n (q ∷ xs) e = go (accepts n q) e (picks_none n xs)
  where
    go :
        (o : Option ℕ) → (is_some o || has_match n xs) ≡ false → (has_match n xs ≡ false → pick (accepts n) xs ≡ [])
        → cons_some o (pick (accepts n) xs) ≡ []
    go None h more = more h
    go (Some p) h more = absurd (true≢false h)

match_of_both :
    (n : Nfa) (xs ys : List ℕ) → has_match n xs ≡ false → has_match n ys ≡ false → has_match n (xs ++ ys) ≡ false
match_of_both n [] ys e f = f
match_of_both n (q ∷ xs) ys e f = go (accepts n q) e (λ h. match_of_both n xs ys h f)
  where
    go :
        (o : Option ℕ) → (is_some o || has_match n xs) ≡ false
        → (has_match n xs ≡ false → has_match n (xs ++ ys) ≡ false) → (is_some o || has_match n (xs ++ ys)) ≡ false
    go None h more = more h
    go (Some p) h more = absurd (true≢false h)

pub cons_both : (o : Option ℕ) (xs ys : List ℕ) → cons_some o (xs ++ ys) ≡ cons_some o xs ++ ys
cons_both None xs ys = refl
cons_both (Some x) xs ys = refl

pick_of_both : (g : ℕ → Option ℕ) (xs ys : List ℕ) → pick g (xs ++ ys) ≡ pick g xs ++ pick g ys
pick_of_both g [] ys = refl
pick_of_both g (x ∷ xs) ys = ap (cons_some (g x)) (pick_of_both g xs ys) ∙ cons_both (g x) (pick g xs) (pick g ys)

-- The targets where the front of a list is cut, and where it is not.
pub targets_cut :
    (kind : MatchKind) (n : Nfa) (u : ℕ) (list front end : List ℕ)
    → list ≡ front ++ end → is_cut kind n front ≡ true
    → targets n (Some u) (cut_for kind n list) ≡ targets n (Some u) (cut_for kind n front)
targets_cut AllMatches n u list front end joined some = absurd (true≢false (sym some))
targets_cut LeftmostFirst n u list front end joined some =
    ap (λ z. targets n (Some u) (cut n z)) joined ∙ ap (targets n (Some u)) (cut_some n front end some)

pub targets_whole :
    (kind : MatchKind) (n : Nfa) (u : ℕ) (list front end row tail : List ℕ)
    → list ≡ front ++ end → is_cut kind n front ≡ false → AreTargets n end u row
    → targets n (Some u) (cut_for kind n list) ++ tail ≡ targets n (Some u) (cut_for kind n front) ++ (row ++ tail)
targets_whole kind n u list front end row tail joined none are =
    ap (λ z. z ++ tail) (whole kind none) ∙ append_assoc (targets n (Some u) (cut_for kind n front)) row tail
  where
    both : targets n (Some u) (front ++ end) ≡ targets n (Some u) front ++ row
    both = pick_of_both (λ b. takes n b u) front end ∙ ap (λ z. targets n (Some u) front ++ z) (sym are.same)

    whole :
        (kind : MatchKind) → is_cut kind n front ≡ false
        → targets n (Some u) (cut_for kind n list) ≡ targets n (Some u) (cut_for kind n front) ++ row
    whole AllMatches uncut = ap (targets n (Some u)) joined ∙ both
    whole LeftmostFirst uncut =
        ap (λ z. targets n (Some u) (cut n z)) joined
        ∙ ap (targets n (Some u)) (cut_none n (front ++ end) (match_of_both n front end uncut are.unmatched))
        ∙ both ∙ ap (λ z. targets n (Some u) z ++ row) (sym (cut_none n front uncut))

matched_with :
    (a : Automaton) (xs ys ps : List ℕ) → pick (accepts (nfa_of a)) ys ≡ pick (accepts (nfa_of a)) xs
    → AreMatched a ys ps → AreMatched a xs ps
matched_with a xs ys ps same m = record {
  once = subst (λ z. IsOnce z ps) same m.once;
  distinct = m.distinct;
  few = m.few;
}

-- The patterns of a list are those of its front if the end has no match.
pub matched_front :
    (kind : MatchKind) (a : Automaton) (list front end ps : List ℕ) (b : Bool)
    → list ≡ front ++ end → is_cut kind (nfa_of a) front ≡ b → has_match (nfa_of a) end ≡ false
    → AreMatched a (cut_for kind (nfa_of a) front) ps → AreMatched a (cut_for kind (nfa_of a) list) ps
matched_front AllMatches a list front end ps b joined some none m =
    let n = nfa_of a in
    matched_with a list front ps
    (sym (append-nil (pick (accepts n) front)) ∙ ap (λ z. pick (accepts n) front ++ z) (sym (picks_none n end none))
    ∙ sym (pick_of_both (accepts n) front end) ∙ ap (pick (accepts n)) (sym joined))
    m
matched_front LeftmostFirst a list front end ps true joined some none m =
    subst (λ z. AreMatched a z ps) (sym (ap (cut (nfa_of a)) joined ∙ cut_some (nfa_of a) front end some)) m
matched_front LeftmostFirst a list front end ps false joined first none m =
    let n = nfa_of a in
    matched_with a (cut n list) (cut n front) ps
    (ap (pick (accepts n)) (cut_none n front first) ∙ picks_none n front first
    ∙ sym (ap (λ z. pick (accepts n) (cut n z)) joined
    ∙ ap (pick (accepts n)) (cut_none n (front ++ end) (match_of_both n front end first none))
    ∙ picks_none n (front ++ end) (match_of_both n front end first none)))
    m

pub found_below :
    (a : Automaton) (list found : List ℕ) (u : ℕ) → IsChecked a → AreTargets (nfa_of a) list u found → (q : ℕ)
    → In q found → q < length a.states
found_below a list found u checked are q i =
    let p = in_picked (λ b. takes (nfa_of a) b u) list q (subst (λ z. In q z) are.same i) in
    subst (λ z. q < z) (nodes_length a.states) (checked.range.1 p.0 u q p.2)

pub match_here :
    (n : Nfa) (xs : List ℕ) (i x p : ℕ) (w : Bool) → i < length xs → x ≡ get_or xs i x → accepts n x ≡ Some p
    → w ≡ has_match n (drop i xs) → true ≡ w
match_here n xs i x p w l e some h =
    sym (h ∙ (ap (has_match n) (next_drop xs i x l e) ∙ ap (λ z. is_some z || has_match n (drop (i + 1) xs)) some))

pub kept_of_parts :
    (n : Nfa) (states front middle back first kept whole : List ℕ)
    → states ≡ front ++ (middle ++ back) → first ≡ pick (keep n) front → kept ≡ pick (keep n) middle
    → whole ≡ (first ++ kept) ++ pick (keep n) back → whole ≡ pick (keep n) states
kept_of_parts n states front middle back first kept whole joined a b put =
    put ∙ (append_assoc first kept (pick (keep n) back)
    ∙ (ap (λ z. z ++ (kept ++ pick (keep n) back)) a
    ∙ (ap (λ z. pick (keep n) front ++ (z ++ pick (keep n) back)) b
    ∙ (ap (λ z. pick (keep n) front ++ z) (sym (pick_of_both (keep n) middle back))
    ∙ (sym (pick_of_both (keep n) front (middle ++ back)) ∙ ap (pick (keep n)) (sym joined))))))

any_of_both :
    (f : Look → Bool) (n : Nfa) (xs ys : List ℕ) → any_state f n (xs ++ ys) ≡ (any_state f n xs || any_state f n ys)
any_of_both f n [] ys = refl
any_of_both f n (x ∷ xs) ys =
    ap (λ z. looks_at f (node n x) || z) (any_of_both f n xs ys)
    ∙ joined (looks_at f (node n x)) (any_state f n xs) (any_state f n ys)
  where
    joined : (a b c : Bool) → a || (b || c) ≡ (a || b) || c
    joined true b c = refl
    joined false b c = refl

pub looks_of_parts :
    (f : Look → Bool) (n : Nfa) (states front middle back first kept whole : List ℕ) (t r : Bool)
    → states ≡ front ++ (middle ++ back) → first ≡ pick (keep n) front → kept ≡ pick (keep n) middle
    → any_state f n kept ≡ false
    → t ≡ any_state f n first → r ≡ (t || any_state f n back) → whole ≡ pick (keep n) states → r ≡ any_state f n whole
looks_of_parts f n states front middle back first kept whole t r joined a b none is_t is_r all =
    is_r ∙ (ap (λ z. z || any_state f n back) (is_t ∙ (ap (any_state f n) a ∙ any_kept f n front))
    ∙ (ap (λ z. any_state f n front || (z || any_state f n back)) (sym plain)
    ∙ (ap (λ z. any_state f n front || z) (sym (any_of_both f n middle back))
    ∙ (sym (any_of_both f n front (middle ++ back))
    ∙ (ap (any_state f n) (sym joined) ∙ (sym (any_kept f n states) ∙ ap (any_state f n) (sym all)))))))
  where
    plain : any_state f n middle ≡ false
    plain = sym (any_kept f n middle) ∙ (ap (any_state f n) (sym b) ∙ none)

-- The list was appended if that did not fail.
pub appended :
    {X : Type 0} (r : Result X AllocError) (x : X) (new out tail : List ℕ)
    → r ≡ Ok x → new ≡ (if is_ok r then out ++ tail else out) → new ≡ out ++ tail
appended r x new out tail ok e = e ∙ ap (λ z. if is_ok z then out ++ tail else out) ok
