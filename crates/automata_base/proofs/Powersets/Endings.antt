-- What is kept of a closure, and the loops that read it.
use Rattle.std.proofs.Common.{ℕ, Bool, false, true≢false, ◌≡◌, ◌<◌, ◌≤◌, ◌+◌, ◌-◌, List, [], ◌∷◌, ◌++◌}
use Rattle.std.proofs.Common.{length, get_or}
use Rattle.std.proofs.Common.{drop, Option, Some, None, is_some, ◌||◌, refl, sym, ap, ◌∙◌, subst}
use Rattle.std.proofs.Common.{append_assoc, append-nil, option_to_list}
use Rattle.std.specs.List.{All}
use Rattle.std.proofs.lemmas.List.{drop_all}
use Rattle.automata_base.specs.Lists.{pick, cons_some}
use Rattle.automata_base.specs.Nfas.Nfa.{Nfa, Truth, accepts}
use Rattle.automata_base.specs.Nfas.KeptClosure.{IsRestCode}
use Rattle.automata_base.specs.Paths.Paths.{IsClosure}
use Rattle.automata_base.specs.Powersets.Closure.{IsUnderWay}
use Rattle.automata_base.specs.Powersets.Code.{varint, difference, ids_code}
use Rattle.automata_base.specs.Powersets.Cuts.{has_match}
use Rattle.automata_base.specs.Powersets.Powerset.{IsId}
use Rattle.automata_base.proofs.Paths.Loops.{under_way_done, under_way_start}
use Rattle.automata_base.proofs.Powersets.Keeping.{next_drop}

-- The encoding of NFA states after the first.
pub rest_code :
    (kept rest code : List ℕ) (first : ℕ) → kept ≡ first ∷ rest → code ≡ ids_code first rest → All IsId rest
    → IsRestCode kept code
unfolding ids_code
rest_code kept rest code first whole is ids =
    subst (λ z. IsRestCode z code) (sym whole)
    (record {
      joined = λ before.
          ap (λ z. varint (difference before first) ++ z) (sym is)
          ∙ ap (λ z. z ++ code) (sym (append-nil (varint (difference before first))));
      ids = ids;
    })

-- If nothing was visited before, the states that were added are the closure.
pub way_closure :
    (n : Nfa) (A : Truth) (roots old new : List ℕ) → old ≡ []
    → ((all tail : List ℕ) → IsUnderWay n A all (roots ++ tail) old → IsUnderWay n A all tail new)
    → IsClosure n A roots new
way_closure n A roots old new fresh way =
    under_way_done n A roots new
    (way roots [] (subst (IsUnderWay n A roots (roots ++ [])) (sym fresh)
    (subst (λ z. IsUnderWay n A roots z []) (sym (append-nil roots)) (under_way_start n A roots))))

pub match_next : (n : Nfa) (xs : List ℕ) (i x : ℕ) (w : Bool) → i < length xs → x ≡ get_or xs i x → accepts n x ≡ None
    → w ≡ has_match n (drop i xs) → w ≡ has_match n (drop (i + 1) xs)
match_next n xs i x w l e none h =
    h ∙ (ap (has_match n) (next_drop xs i x l e) ∙ ap (λ z. is_some z || has_match n (drop (i + 1) xs)) none)

pub match_done : (n : Nfa) (xs : List ℕ) (i : ℕ) (w : Bool) → length xs ≤ i → w ≡ has_match n (drop i xs) → false ≡ w
match_done n xs i w l h = sym (h ∙ ap (has_match n) (drop_all i xs l))

-- The two previous cases in one, by a test of what is read.
pub match_next_test :
    (n : Nfa) (xs : List ℕ) (i x : ℕ) (o : Option ℕ) (w : Bool) → i < length xs → x ≡ get_or xs i x → accepts n x ≡ o
    → is_some o ≡ false → w ≡ has_match n (drop i xs) → w ≡ has_match n (drop (i + 1) xs)
match_next_test n xs i x None w l e same f h = match_next n xs i x w l e same h
match_next_test n xs i x (Some p) w l e same f h = absurd (true≢false f)

some_put : (o : Option ℕ) (rest : List ℕ) → cons_some o rest ≡ option_to_list o ++ rest
some_put None rest = refl
some_put (Some x) rest = refl

pub picks_next :
    (g : ℕ → Option ℕ) (xs out more front : List ℕ) (i x : ℕ) (o : Option ℕ)
    → i < length xs → x ≡ get_or xs i x → g x ≡ o → more ≡ out ++ option_to_list o
    → out ++ pick g (drop i xs) ≡ front → more ++ pick g (drop (i + 1) xs) ≡ front
picks_next g xs out more front i x o l e s m h =
    ap (λ z. z ++ pick g (drop (i + 1) xs)) m ∙ append_assoc out (option_to_list o) (pick g (drop (i + 1) xs))
    ∙ ap (λ z. out ++ z) (sym (some_put o (pick g (drop (i + 1) xs))))
    ∙ ap (λ z. out ++ cons_some z (pick g (drop (i + 1) xs))) (sym s)
    ∙ ap (λ z. out ++ pick g z) (sym (next_drop xs i x l e)) ∙ h

pub picks_done :
    (g : ℕ → Option ℕ) (xs out front : List ℕ) (i : ℕ) → length xs ≤ i → out ++ pick g (drop i xs) ≡ front → out ≡ front
picks_done g xs out front i l h = sym (ap (λ z. out ++ pick g z) (drop_all i xs l) ∙ append-nil out) ∙ h
