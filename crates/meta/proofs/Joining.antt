-- A set that is joined with the patterns that programs find, one program after another.
use Rattle.std.proofs.Common.{ℕ, zero, suc, ◌≡◌, ◌+◌, ◌<◌, ◌≤◌, ◌∙◌, List, [], ◌∷◌, ◌++◌, All, Bool, true, false}
use Rattle.std.proofs.Common.{Option, Some, None, ap, arith, get_or, is_some, length, map, option_map, refl}
use Rattle.std.proofs.Common.{sym, take, add-one}
use Rattle.std.specs.Prelude.{◌||◌, replicate, slice_set}
use Rattle.std.proofs.lemmas.List.{length-take-le}
use Rattle.std.proofs.lemmas.List.Elements.{All-nil}
use Rattle.std.proofs.Math.Seq.{take-suc}
use Rattle.regex_hir.specs.Re.{Re}
use Rattle.meaning.specs.Patterns.{find_any, numbered_match}
use Rattle.meta.specs.Groups.{FindAllGroups, FindsGroups}
use Rattle.meta.specs.Sets.{is_found_from, joined_with}
use Rattle.meta.specs.Simulations.{BeginsNowhere, IsSimulatedSpan}
use Rattle.meta.specs.declared.program.Program.{Program}
use Rattle.meta.proofs.Leftmost.{IsLeftmostOf, found_next, leftmost_is, leftmost_next}

-- a set with a pattern, if it is found
abbrev pub inserted : (found : Bool) → List Bool → ℕ → List Bool
inserted true set k = slice_set set k true
inserted false set k = set

or_true : (b : Bool) → (b || true) ≡ true
or_true true = refl
or_true false = refl

or_false : (b : Bool) → (b || false) ≡ b
or_false true = refl
or_false false = refl

insert_nil : (t : Bool) (k : ℕ) → [] ≡ inserted t [] k
insert_nil true zero = refl
insert_nil true (suc k) = refl
insert_nil false k = refl

insert_head : (t b : Bool) (set : List Bool) → (b || t) ∷ set ≡ inserted t (b ∷ set) 0
insert_head true b set = ap (λ v. v ∷ set) (or_true b)
insert_head false b set = ap (λ v. v ∷ set) (or_false b)

insert_tail : (t b : Bool) (set : List Bool) (k : ℕ) → b ∷ inserted t set k ≡ inserted t (b ∷ set) (suc k)
insert_tail true b set k = refl
insert_tail false b set k = refl

-- one more pattern
joined_last :
    (test : Re → Bool) (res : List Re) (re : Re) (set : List Bool)
    → joined_with test (res ++ re ∷ []) set ≡ inserted (test re) (joined_with test res set) (length res)
joined_last test [] re [] = insert_nil (test re) 0
joined_last test [] re (b ∷ set) = insert_head (test re) b set
joined_last test (x ∷ res) re [] = insert_nil (test re) (suc (length res))
joined_last test (x ∷ res) re (b ∷ set) =
    ap (λ v. (b || test x) ∷ v) (joined_last test res re set)
    ∙ insert_tail (test re) (b || test x) (joined_with test res set) (length res)

-- one more pattern of a list
pub joined_next :
    (test : Re → Bool) (res : List Re) (i : ℕ) (d : Re) (set now : List Bool) → i < length res
    → now ≡ joined_with test (take i res) set
    → inserted (test (get_or res i d)) now i ≡ joined_with test (take (i + 1) res) set
joined_next test res i d set now inside e =
    let t = test (get_or res i d) in
    ap (λ v. inserted t v i) e
    ∙ ap (inserted t (joined_with test (take i res) set)) (sym (length-take-le i res (omega (arith, inside))))
    ∙ sym (joined_last test (take i res) (get_or res i d) set)
    ∙ ap (λ v. joined_with test v set) (sym (take-suc res i d inside) ∙ ap (λ n. take n res) (sym (add-one i)))

pub length-joined_with : (test : Re → Bool) (res : List Re) (set : List Bool)
    → length (joined_with test res set) ≡ length set
length-joined_with test [] set = refl
length-joined_with test (re ∷ res) [] = refl
length-joined_with test (re ∷ res) (b ∷ set) = ap suc (length-joined_with test res set)

-- the patterns past the capacity make no difference
pub joined_short :
    (test : Re → Bool) (res : List Re) (n : ℕ) (set : List Bool) → length set ≤ n
    → joined_with test (take n res) set ≡ joined_with test res set
joined_short test [] zero set le = refl
joined_short test [] (suc n) set le = refl
joined_short test (re ∷ res) zero [] le = refl
joined_short test (re ∷ res) zero (b ∷ set) le = absurd (omega arith)
joined_short test (re ∷ res) (suc n) [] le = refl
joined_short test (re ∷ res) (suc n) (b ∷ set) le =
    ap (λ v. (b || test re) ∷ v) (joined_short test res n set (omega (arith, le)))

-- a set that was empty has the patterns that are found
pub joined_empty :
    (test : Re → Bool) (res : List Re) → joined_with test res (replicate (length res) false) ≡ map test res
joined_empty test [] = refl
joined_empty test (re ∷ res) = ap (λ v. test re ∷ v) (joined_empty test res)

-- there is a program of each pattern
pub count_all : (ps : List Program) (res : List Re) → FindAllGroups ps res → length ps ≡ length res
count_all [] [] all = refl
count_all [] (re ∷ res) all = absurd all
count_all (p ∷ ps) [] all = absurd all
count_all (p ∷ ps) (re ∷ res) all = ap suc (count_all ps res all.1)

pub finds_at :
    (ps : List Program) (res : List Re) (i : ℕ) (p : Program) (re : Re) → FindAllGroups ps res → i < length ps
    → FindsGroups (get_or ps i p).nfa (get_or res i re)
finds_at [] [] i p re all inside = absurd (omega arith)
finds_at [] (x ∷ res) i p re all inside = absurd all
finds_at (q ∷ ps) [] i p re all inside = absurd all
finds_at (q ∷ ps) (x ∷ res) zero p re all inside = all.0
finds_at (q ∷ ps) (x ∷ res) (suc i) p re all inside =
    finds_at ps res i p re all.1 (omega (arith, inside))

some_of_map : {A B : Type 0} (f : A → B) (o : Option A) → is_some (option_map f o) ≡ is_some o
some_of_map f None = refl
some_of_map f (Some x) = refl

some_of_next : (n : ℕ) (r : Option (ℕ × ℕ)) → is_some (found_next n None r) ≡ is_some r
some_of_next n None = refl
some_of_next n (Some s) = refl

nothing_yet :
    (utf8 : Bool) (hay : List ℕ) (start : ℕ) → IsLeftmostOf utf8 [] hay start None
nothing_yet utf8 hay start = record {
  nowhere = All-nil (λ (p : Program). BeginsNowhere utf8 p hay start (length hay + 1));
  some = tt;
}

-- a simulation of one program finds a match if the pattern does
pub simulated_found :
    (utf8 : Bool) (p : Program) (re : Re) (hay : List ℕ) (start : ℕ) (r : Option (ℕ × ℕ)) → All (λ b. b < 256) hay
    → FindsGroups p.nfa re → IsSimulatedSpan utf8 p hay start (length hay + 1) r
    → is_some r ≡ is_found_from utf8 hay start re
simulated_found utf8 p re hay start r bytes finds at =
    sym (some_of_next 0 r)
    ∙ ap is_some (leftmost_is utf8 (p ∷ []) (re ∷ []) hay start (found_next 0 None r) bytes (finds, tt)
    (leftmost_next utf8 hay start [] p None r (nothing_yet utf8 hay start) at))
    ∙ some_of_map (numbered_match (re ∷ []) hay) (find_any utf8 (re ∷ []) hay start)
