-- Lists of lists, and what is added after one of them.
use Rattle.std.proofs.Common.{ℕ, zero, suc, ◌≡◌, ◌<◌, ◌+◌, ◌-◌, Bool, true, false, cond, eqb, leb, Option, Some, None}
use Rattle.std.proofs.Common.{Result, Ok, length-append, append-nil, ◌≤◌, ◌⊎◌, inl, inr}
use Rattle.std.specs.Prelude.{slice_get}
use Rattle.std.proofs.Common.{Err, List, [], ◌∷◌, ◌++◌, length, get_or, drop, Vec, refl, sym, ap, ◌∙◌, subst, arith}
use Rattle.std.proofs.Math.ListN.{set}
use Rattle.std.specs.Result.{IsErrAnd}
use Rattle.std.proofs.lemmas.Bool.{eqb-true, leb-false}
use Rattle.std.proofs.lemmas.Bool.Decides.{eqb_tells, nat_tests}
use Rattle.automata_base.proofs.Paths.Sets.{nth_in}
use Rattle.std.proofs.lemmas.List.{drop_more, get_or_default}
use Rattle.std.specs.declared.alloc.Global.{Global}
use Rattle.automata_base.specs.declared.nfa.thompson.state.State.{State}
use Rattle.automata_base.specs.declared.nfa.thompson.state.State.TheVariants.{Fail}
use Rattle.automata_base.specs.Lists.{In}
use Rattle.automata_transform.specs.declared.alternates.Alternates.{Alternates}
use Rattle.automata_transform.specs.Retraced.ReversedEdges.{Turns, alternates_in, alternate_lists, list_match}
use Rattle.automata_transform.specs.Retraced.ReversedEdges.{put, put_at}
use Rattle.automata_base.specs.Retraced.ReversedEdges.{lists_of, list_at, push_at}
use Rattle.automata_transform.specs.Retraced.ReversedEdges.{ends_in, is_of}
use Rattle.automata_transform.specs.Retraced.ReversedEdges.{turn_state, turn_states}
use Rattle.automata_transform.specs.Retraced.ReversedEdges.{IsHead, AreHeads, AreMade}
use Rattle.automata_base.proofs.Paths.Orders.{some_inj, none_some}
use Rattle.automata_base.proofs.Nfas.Mirrors.Lists.{push_same, push_other}

pub push_length : (xs : List (List ℕ)) (k x : ℕ) → length (push_at xs k x) ≡ length xs
push_length [] k x = refl
push_length (y ∷ ys) zero x = refl
push_length (y ∷ ys) (suc k) x = ap suc (push_length ys k x)

pub alternates_length : (vs : List Alternates) → length (alternate_lists vs) ≡ length vs
alternates_length [] = refl
alternates_length (v ∷ vs) = ap suc (alternates_length vs)

pub alternates_append :
    (vs : List Alternates) (v : Alternates)
    → alternate_lists (vs ++ v ∷ []) ≡ alternate_lists vs ++ alternates_in v ∷ []
alternates_append [] v = refl
alternates_append (w ∷ vs) v = ap (λ z. alternates_in w ∷ z) (alternates_append vs v)

-- Adding an ID to one of the lists is `push_at` on the lists.
pub alternates_push :
    (vs : List Alternates) (k : ℕ) (old new d : Alternates) (x : ℕ) → k < length vs → old ≡ get_or vs k d
    → alternates_in new ≡ alternates_in old ++ x ∷ []
    → alternate_lists (set vs k new) ≡ push_at (alternate_lists vs) k x
alternates_push [] k old new d x l e f = absurd (omega (arith, l))
alternates_push (v ∷ vs) zero old new d x l e f =
    ap (λ z. z ∷ alternate_lists vs) (f ∙ ap (λ v. alternates_in v ++ x ∷ []) e)
alternates_push (v ∷ vs) (suc k) old new d x l e f =
    ap (λ z. alternates_in v ∷ z) (alternates_push vs k old new d x (omega (arith, l)) e f)

-- Adding an ID to one of the lists, unless it is the last one there, is `put_at` on the lists.
pub alternates_put :
    (vs : List Alternates) (k : ℕ) (old new d : Alternates) (x : ℕ) → k < length vs → old ≡ get_or vs k d
    → alternates_in new ≡ put (alternates_in old) x → alternate_lists (set vs k new) ≡ put_at (alternate_lists vs) k x
alternates_put [] k old new d x l e f = absurd (omega (arith, l))
alternates_put (v ∷ vs) zero old new d x l e f =
    ap (λ z. z ∷ alternate_lists vs) (f ∙ ap (λ v. put (alternates_in v) x) e)
alternates_put (v ∷ vs) (suc k) old new d x l e f =
    ap (λ z. alternates_in v ∷ z) (alternates_put vs k old new d x (omega (arith, l)) e f)

pub put_length : (xs : List (List ℕ)) (k x : ℕ) → length (put_at xs k x) ≡ length xs
put_length [] k x = refl
put_length (y ∷ ys) zero x = refl
put_length (y ∷ ys) (suc k) x = ap suc (put_length ys k x)

pub ends_last : (xs : List ℕ) (x : ℕ) → ends_in (xs ++ x ∷ []) x ≡ true
ends_last xs x =
    ap (λ k. is_of (slice_get (xs ++ x ∷ []) k) x) (short (length-append xs (x ∷ [])))
    ∙ (ap (λ o. is_of o x) (at xs) ∙ same x)
  where
    short : length (xs ++ x ∷ []) ≡ length xs + 1 → length (xs ++ x ∷ []) - 1 ≡ length xs
    short e = omega (arith, e)

    at : (xs : List ℕ) → slice_get (xs ++ x ∷ []) (length xs) ≡ Some x
    at [] = refl
    at (y ∷ ys) = at ys

    same : (x : ℕ) → eqb x x ≡ true
    same x = grind (arith, nat_tests)

pub ends_member : (xs : List ℕ) (x : ℕ) → ends_in xs x ≡ true → In x xs
ends_member xs x e = go (slice_get xs (length xs - 1)) refl e
  where
    go : (o : Option ℕ) → slice_get xs (length xs - 1) ≡ o → is_of o x ≡ true → In x xs
    go None f e = let k : false ≡ true = e in absurd cc
    go (Some y) f e = nth_in xs (length xs - 1) x (f ∙ ap Some (eqb-true y x e))

-- Adding after the last list changes nothing.
pub push_past : (xs : List (List ℕ)) (k x : ℕ) → length xs ≤ k → push_at xs k x ≡ xs
push_past [] k x l = refl
push_past (y ∷ ys) zero x l = absurd (omega (arith, l))
push_past (y ∷ ys) (suc k) x l = ap (λ z. y ∷ z) (push_past ys k x (omega (arith, l)))

-- The list of a pattern after one more state.
pub listed_at :
    (xs : List (List ℕ)) (found : Option ℕ) (x p : ℕ) → p < length xs
    → list_at (list_match xs found x) p ≡ list_at xs p ++ cond (is_of found p) (x ∷ []) []
listed_at xs None x p l = sym (append-nil (list_at xs p))
listed_at xs (Some q) x p l = go (eqb_tells q p)
  where
    go :
        ((eqb q p ≡ true) × (q ≡ p)) ⊎ ((eqb q p ≡ false) × (q ≡ p → ⊥))
        → list_at (push_at xs q x) p ≡ list_at xs p ++ cond (eqb q p) (x ∷ []) []
    go (inl e) =
        ap (λ z. list_at (push_at xs z x) p) e.1
        ∙ (push_same xs p x l ∙ ap (λ b. list_at xs p ++ cond b (x ∷ []) []) (sym e.0))
    go (inr e) =
        push_other xs q p x e.1
        ∙ (sym (append-nil (list_at xs p)) ∙ ap (λ b. list_at xs p ++ cond b (x ∷ []) []) (sym e.0))

pub some_id : (b : Bool) (n id : ℕ) → cond b (Some n) None ≡ Some id → id ≡ n
some_id true n id e = sym (some_inj e)
some_id false n id e = absurd (none_some e)

pub nothing : {A : Type 0} (o : Option A) → ((x : A) → o ≡ Some x → ⊥) → o ≡ None
nothing None f = refl
nothing (Some x) f = absurd (f x refl)

-- A checked number is missing only if it is greater than the limit.
pub none_large : (n m : ℕ) → cond (leb n m) (Some n) None ≡ None → m < n
none_large n m e = go (leb n m) refl e
  where
    go : (b : Bool) → leb n m ≡ b → cond b (Some n) None ≡ None → m < n
    go true h k = absurd (none_some (sym k))
    go false h k = leb-false n m h

-- The reversed edges of one more state.
pub states_next :
    (t new : Turns) (states : List State) (ids : List ℕ) (i id at : ℕ) (s : State) (w : Turns)
    → i < length ids → id ≡ get_or ids i id → at < length states → at ≡ id → s ≡ get_or states at s
    → new ≡ turn_state t id s → turn_states t states (drop i ids) ≡ w → turn_states new states (drop (i + 1) ids) ≡ w
states_next t new states ids i id at s w l e k a f g h =
    ap (λ z. turn_states z states (drop (i + 1) ids)) (g ∙ ap (λ z. turn_state t id z) same)
    ∙ (sym (ap (turn_states t states) (drop_more ids i id l ∙ ap (λ z. z ∷ drop (i + 1) ids) (sym e))) ∙ h)
  where
    same : s ≡ get_or states id Fail
    same = f ∙ (get_or_default states at s Fail k ∙ ap (λ z. get_or states z Fail) a)

-- An error that is passed on stays the same.
pub err_is :
    {A B E : Type 0} → (r : Result A E) (x z : E) → IsErrAnd r (λ y. y ≡ x) → r ≡ Err z
    → ◌≡◌ {A = Result B E} (Err x) (Err z)
err_is (Ok a) x z h e = absurd h
err_is (Err y) x z h e = ap (λ v. Err v) (sym h ∙ one e)
  where
    one : {A E : Type 0} {a b : E} → ◌≡◌ {A = Result A E} (Err a) (Err b) → a ≡ b
    one e = cc

-- One more state is made.
pub heads_more :
    (n : ℕ) (hs : List State) (lists : List (List ℕ)) (heads : List State) (xs : List ℕ) (s : State)
    → AreHeads n hs lists heads → IsHead n hs xs s → AreHeads n hs (lists ++ xs ∷ []) (heads ++ s ∷ [])
heads_more n hs [] [] xs s a h = (h, tt)
heads_more n hs [] (x ∷ ss) xs s a h = absurd a
heads_more n hs (ys ∷ rest) [] xs s a h = absurd a
heads_more n hs (ys ∷ rest) (x ∷ ss) xs s a h = (a.0, heads_more n hs rest ss xs s a.1 h)

pub heads_step :
    (n : ℕ) (hs hs' : List State) (yielded : List Alternates) (v : Alternates) (states new : List State) (s : State)
    → AreHeads n hs (alternate_lists yielded) states → IsHead n hs' (alternates_in v) s → hs' ≡ hs
    → new ≡ states ++ s ∷ [] → AreHeads n hs (alternate_lists (yielded ++ v ∷ [])) new
heads_step n hs hs' yielded v states new s a h e f =
    subst (λ z. AreHeads n hs (alternate_lists (yielded ++ v ∷ [])) z) (sym f)
    (subst (λ z. AreHeads n hs z (states ++ s ∷ [])) (sym (alternates_append yielded v))
    (heads_more n hs (alternate_lists yielded) states (alternates_in v) s a
    (subst (λ z. IsHead n z (alternates_in v) s) e h)))

pub made_is :
    (n len : ℕ) (hs : List State) (lists yielded : List Alternates) (heads states : List State)
    → AreHeads n hs (alternate_lists yielded) heads → yielded ≡ lists → n ≡ len → len ≡ length lists
    → states ≡ heads ++ hs → AreMade (record { lists = alternate_lists lists; helpers = hs }) states
made_is n len hs lists yielded heads states a e l m f = (
  heads,
  f,
  subst (λ z. AreHeads z hs (alternate_lists lists) heads) (l ∙ (m ∙ sym (alternates_length lists)))
      (subst (λ z. AreHeads n hs (alternate_lists z) heads) e a),
)

-- Replacing a list by one with the same items changes nothing.
pub lists_same :
    (vs : List (Vec ℕ Global)) (k : ℕ) (old new : Vec ℕ Global) → k < length vs → old ≡ get_or vs k old
    → new.items ≡ old.items
    → lists_of (set vs k new) ≡ lists_of vs
lists_same [] k old new l e f = absurd (omega (arith, l))
lists_same (v ∷ vs) zero old new l e f = ap (λ z. z ∷ lists_of vs) (f ∙ ap (λ (z : Vec ℕ Global). z.items) e)
lists_same (v ∷ vs) (suc k) old new l e f = ap (λ z. v.items ∷ z) (lists_same vs k old new (omega (arith, l)) e f)
