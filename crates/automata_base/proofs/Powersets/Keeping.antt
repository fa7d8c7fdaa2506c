-- Steps of the loop that keeps states of a list.
use Rattle.std.proofs.Common.{ℕ, ◌≡◌, ◌<◌, ◌≤◌, ◌+◌, ◌||◌, ◌&&◌, ltb, Bool, true, false, cond, List, [], ◌∷◌, ◌++◌}
use Rattle.std.proofs.Common.{length, get_or, drop, Option, Some, None, refl, sym, ap, ◌∙◌, subst, arith}
use Rattle.std.proofs.Common.{append_assoc, append-nil, length-append}
use Rattle.std.proofs.lemmas.List.{at_drop_more, drop_all}
use Rattle.automata_base.specs.Lists.{In, pick, cons_some}
use Rattle.automata_base.specs.Haystacks.Looks.{Look}
use Rattle.automata_base.specs.Nfas.Nfa.{Nfa, Node, Split, Assert, Read, Accept, node, keep, keeps, splits_at, stays_at}
use Rattle.automata_base.specs.Nfas.Nfa.{looks_at}
use Rattle.automata_base.specs.Retraced.Computed.{any_state}
use Rattle.automata_base.proofs.Powersets.Distinct.{In-get_or}
use Rattle.std.proofs.Common.{inl, inr}
use Rattle.std.proofs.Math.Bool.{or-false}
use Rattle.automata_base.proofs.Powersets.ListTests.{or_move}

pub below_at : (xs : List ℕ) (N i x : ℕ) → ((q : ℕ) → In q xs → q < N) → i < length xs → x ≡ get_or xs i x → x < N
below_at xs N i x b l e = b x (subst (λ z. In z xs) (sym e) (In-get_or xs i x l))

pub next_drop : (xs : List ℕ) (i x : ℕ) → i < length xs → x ≡ get_or xs i x → drop i xs ≡ x ∷ drop (i + 1) xs
next_drop xs i x l e = at_drop_more (λ z. z) xs i x l ∙ ap (λ z. z ∷ drop (i + 1) xs) (sym e)

put_cond : (b : Bool) (x : ℕ) (rest : List ℕ) → cons_some (cond b (Some x) None) rest ≡ cond b (x ∷ []) [] ++ rest
put_cond true x rest = refl
put_cond false x rest = refl

pub keep_next :
    (n : Nfa) (xs kept more whole : List ℕ) (i x : ℕ) (b : Bool)
    → i < length xs → x ≡ get_or xs i x → b ≡ keeps n x → more ≡ kept ++ cond b (x ∷ []) []
    → kept ++ pick (keep n) (drop i xs) ≡ whole → more ++ pick (keep n) (drop (i + 1) xs) ≡ whole
keep_next n xs kept more whole i x b l e s m h =
    ap (λ z. z ++ pick (keep n) (drop (i + 1) xs)) m
    ∙ (append_assoc kept (cond b (x ∷ []) []) (pick (keep n) (drop (i + 1) xs))
    ∙ (ap (λ z. kept ++ z) (sym (put_cond b x (pick (keep n) (drop (i + 1) xs)))
    ∙ ap (λ z. cons_some (cond z (Some x) None) (pick (keep n) (drop (i + 1) xs))) s)
    ∙ (ap (λ z. kept ++ pick (keep n) z) (sym (next_drop xs i x l e)) ∙ h)))

pub room_next :
    (kept more : List ℕ) (k i x : ℕ) (b : Bool) → more ≡ kept ++ cond b (x ∷ []) [] → length kept ≤ k + i
    → length more ≤ k + (i + 1)
room_next kept more k i x true m l =
    let a = ap length m in let c = length-append kept (x ∷ []) in omega (arith, a, c, l)
room_next kept more k i x false m l = let a = ap length m in let c = length-append kept [] in omega (arith, a, c, l)

pub looks_next :
    (n : Nfa) (f : Look → Bool) (xs : List ℕ) (i x : ℕ) (t more w : Bool)
    → i < length xs → x ≡ get_or xs i x → more ≡ (looks_at f (node n x) || t)
    → (t || any_state f n (drop i xs)) ≡ w → (more || any_state f n (drop (i + 1) xs)) ≡ w
looks_next n f xs i x t more w l e m h =
    ap (λ z. z || any_state f n (drop (i + 1) xs)) m
    ∙ (or_move (looks_at f (node n x)) t (any_state f n (drop (i + 1) xs))
    ∙ (ap (λ z. t || any_state f n z) (sym (next_drop xs i x l e)) ∙ h))

pub any_kept : (f : Look → Bool) (n : Nfa) (xs : List ℕ) → any_state f n (pick (keep n) xs) ≡ any_state f n xs
any_kept f n [] = refl
any_kept f n (x ∷ xs) = go (node n x) refl (any_kept f n xs)
  where
    go :
        (m : Node) → node n x ≡ m → any_state f n (pick (keep n) xs) ≡ any_state f n xs
        → any_state f n
        (cons_some (cond (stays_at m || (splits_at m && n.keeps_unions)) (Some x) None) (pick (keep n) xs))
        ≡ (looks_at f (node n x) || any_state f n xs)
    go (Split alternates) e h = union (ltb 1 (length alternates) && n.keeps_unions)
      where
        union :
            (b : Bool)
            → any_state f n (cons_some (cond b (Some x) None) (pick (keep n) xs))
            ≡ (looks_at f (node n x) || any_state f n xs)
        union true = ap (λ z. looks_at f (node n x) || z) h
        union false = h ∙ sym (ap (λ z. looks_at f z || any_state f n xs) e)
    go (Assert look next) e h = ap (λ z. looks_at f (node n x) || z) h
    go (Read ranges) e h = ap (λ z. looks_at f (node n x) || z) h
    go (Accept p) e h = ap (λ z. looks_at f (node n x) || z) h

pub looks_done :
    (n : Nfa) (f : Look → Bool) (xs : List ℕ) (i : ℕ) (t w : Bool)
    → length xs ≤ i → (t || any_state f n (drop i xs)) ≡ w → t ≡ w
looks_done n f xs i t w l h = sym (ap (λ z. t || any_state f n z) (drop_all i xs l) ∙ or-false t) ∙ h

pub kept_done :
    (n : Nfa) (xs kept whole : List ℕ) (i : ℕ) → length xs ≤ i → kept ++ pick (keep n) (drop i xs) ≡ whole
    → kept ≡ whole
kept_done n xs kept whole i l h = sym (ap (λ z. kept ++ pick (keep n) z) (drop_all i xs l) ∙ append-nil kept) ∙ h

-- There are at most as many kept states as states.
pub kept_few : (n : Nfa) (xs : List ℕ) → length (pick (keep n) xs) ≤ length xs
kept_few n [] = omega arith
kept_few n (x ∷ xs) = go (keeps n x) (kept_few n xs)
  where
    go :
        (b : Bool) → length (pick (keep n) xs) ≤ length xs
        → length (cons_some (cond b (Some x) None) (pick (keep n) xs)) ≤ length (x ∷ xs)
    go true l = omega (arith, l)
    go false l = omega (arith, l)

pub pick_next :
    (g : ℕ → Option ℕ) (xs : List ℕ) (i x : ℕ) → i < length xs → x ≡ get_or xs i x
    → pick g (drop i xs) ≡ cons_some (g x) (pick g (drop (i + 1) xs))
pick_next g xs i x l e = ap (pick g) (next_drop xs i x l e)

pub kept_in : (n : Nfa) (xs : List ℕ) (q : ℕ) → In q (pick (keep n) xs) → In q xs
kept_in n [] q i = i
kept_in n (x ∷ xs) q i = go (keeps n x) (kept_in n xs q) i
  where
    go :
        (b : Bool) → (In q (pick (keep n) xs) → In q xs) → In q (cons_some (cond b (Some x) None) (pick (keep n) xs))
        → In q (x ∷ xs)
    go true ih (inl e) = inl e
    go true ih (inr j) = inr (ih j)
    go false ih j = inr (ih j)
