-- The leftmost match of several programs is what their texts find.
use Rattle.std.proofs.Common.{ℕ, zero, suc, ◌≡◌, ◌+◌, ◌<◌, ◌≤◌, ◌∙◌, List, [], ◌∷◌, ◌++◌, All, Bool, true, false}
use Rattle.std.proofs.Common.{Option, Some, None, ap, ap₂, arith, length, option_map, refl, slice_get, subst, sym, take}
use Rattle.std.proofs.Common.{⊎_elim, add-one, get_or, is_some, true≢false}
use Rattle.std.specs.Option.{option_or}
use Rattle.std.specs.Prelude.{IfSome}
use Rattle.std.proofs.lemmas.Bool.{cases_Bool, cond-false, cond-true}
use Rattle.std.proofs.lemmas.List.{get_or_default, length-take-le}
use Rattle.std.proofs.lemmas.List.Elements.{All-append, All-cons, All-head, All-nil, All-tail, All-weaker}
use Rattle.std.proofs.lemmas.Option.{none-some, same_Some}
use Rattle.std.proofs.Math.Seq.{take-suc}
use Rattle.regex_hir.specs.Find as kit
use Rattle.regex_hir.specs.Re.{Re, Trace, accept, attempt}
use Rattle.regex_hir.specs.Text.{is_boundary}
use Rattle.regex_hir.proofs.FindLemmas.{first_between_none, first_between_of_IsFirst}
use Rattle.regex_syntax.specs.Captures.{outcome}
use Rattle.automata_base.specs.Haystacks.Matches.{Match}
use Rattle.meaning.specs.Patterns.{any_of, find_any, first_at, numbered_match}
use Rattle.meta.specs.Groups.{FindAllGroups, FindsGroups}
use Rattle.meta.specs.Sets.{attempt_at}
use Rattle.meta.specs.Simulations.{BeginsNowhere, IsSimulatedSpan, MayBeginAt, run_at}
use Rattle.meta.specs.declared.program.Program.{Program}
use Rattle.meta.proofs.Simulating.{no_match, seen_same}

-- the bytes of a slice are bytes
pub are_bytes : (hay : List ℕ) → ((i : ℕ) → get_or hay i 0 < 256) → All (λ b. b < 256) hay
are_bytes hay fit i d l = subst (λ v. v < 256) (get_or_default hay i 0 d l) (fit i)

-- where a match has to begin to be better than the one that was found
abbrev pub end_in : List ℕ → Option Match → ℕ
end_in hay None = length hay + 1
end_in hay (Some m) = m.start

-- no program of the list matches at the offset
abbrev pub NoneRuns : List ℕ → (i : ℕ) → List Program → Type 0
NoneRuns hay i ps = All (λ (p : Program). run_at p hay i ≡ None) ps

-- a match of a program, and of no earlier one there
pub record IsOfFirst (utf8 : Bool) (ps : List Program) (hay : List ℕ) (start : ℕ) (m : Match) : Type 0 where
  pub after : start ≤ m.start
  pub inside : m.start ≤ length hay
  pub boundary : MayBeginAt utf8 hay m.start
  pub program : Program
  pub is : slice_get ps m.pattern ≡ Some program
  pub trace : Trace
  pub runs : run_at program hay m.start ≡ Some trace
  pub ends : trace.end ≡ m.end
  pub lower : NoneRuns hay m.start (take m.pattern ps)

-- the leftmost match of these programs, of the first program that matches there
pub record IsLeftmostOf (utf8 : Bool) (ps : List Program) (hay : List ℕ) (start : ℕ) (found : Option Match) : Type 0
  where
    pub nowhere : All (λ (p : Program). BeginsNowhere utf8 p hay start (end_in hay found)) ps
    pub some : IfSome found (IsOfFirst utf8 ps hay start)

-- what is found once one more program was searched for, before what was found
abbrev pub found_next : (number : ℕ) → Option Match → Option (ℕ × ℕ) → Option Match
found_next number found None = found
found_next number found (Some s) = Some (record { pattern = number; start = s.0; end = s.1 })

slice_get_before : {A : Type 0} (xs : List A) (y : A) (k : ℕ) (x : A) → slice_get xs k ≡ Some x
    → slice_get (xs ++ y ∷ []) k ≡ Some x
slice_get_before [] y k x e = absurd (none-some x e)
slice_get_before (z ∷ xs) y zero x e = e
slice_get_before (z ∷ xs) y (suc k) x e = slice_get_before xs y k x e

slice_get_last : {A : Type 0} (xs : List A) (y : A) → slice_get (xs ++ y ∷ []) (length xs) ≡ Some y
slice_get_last [] y = refl
slice_get_last (x ∷ xs) y = slice_get_last xs y

take_before : {A : Type 0} (xs : List A) (y : A) (k : ℕ) (x : A) → slice_get xs k ≡ Some x
    → take k (xs ++ y ∷ []) ≡ take k xs
take_before [] y k x e = absurd (none-some x e)
take_before (z ∷ xs) y zero x e = refl
take_before (z ∷ xs) y (suc k) x e = ap (λ zs. z ∷ zs) (take_before xs y k x e)

take_last : {A : Type 0} (xs : List A) (y : A) → take (length xs) (xs ++ y ∷ []) ≡ xs
take_last [] y = refl
take_last (x ∷ xs) y = ap (λ zs. x ∷ zs) (take_last xs y)

module _ (utf8 : Bool) (hay : List ℕ) (start : ℕ) where
  pub none_before : (end : ℕ) (p : Program) → end ≤ start → BeginsNowhere utf8 p hay start end
  none_before end p h i low high may = absurd (omega (arith, h, low, high))

  narrower :
      (end end' : ℕ) (p : Program) → end' ≤ end → BeginsNowhere utf8 p hay start end
      → BeginsNowhere utf8 p hay start end'
  narrower end end' p h none i low high may = none i low (omega (arith, h, high)) may

  kept :
      (ps : List Program) (p : Program) (m : Match) → IsOfFirst utf8 ps hay start m
      → IsOfFirst utf8 (ps ++ p ∷ []) hay start m
  kept ps p m h = record {
    after = h.after;
    inside = h.inside;
    boundary = h.boundary;
    program = h.program;
    is = slice_get_before ps p m.pattern h.program h.is;
    trace = h.trace;
    runs = h.runs;
    ends = h.ends;
    lower = subst (NoneRuns hay m.start) (sym (take_before ps p m.pattern h.program h.is)) h.lower;
  }

  kept_some :
      (ps : List Program) (p : Program) (found : Option Match) → IfSome found (IsOfFirst utf8 ps hay start)
      → IfSome found (IsOfFirst utf8 (ps ++ p ∷ []) hay start)
  kept_some ps p None h = tt
  kept_some ps p (Some m) h = kept ps p m h

  end_low :
      (ps : List Program) (found : Option Match) → IfSome found (IsOfFirst utf8 ps hay start)
      → end_in hay found ≤ length hay + 1
  end_low ps None h = omega arith
  end_low ps (Some m) h = omega (arith, h.inside)

  -- one more program
  pub leftmost_next :
      (ps : List Program) (p : Program) (found : Option Match) (r : Option (ℕ × ℕ))
      → IsLeftmostOf utf8 ps hay start found → IsSimulatedSpan utf8 p hay start (end_in hay found) r
      → IsLeftmostOf utf8 (ps ++ p ∷ []) hay start (found_next (length ps) found r)
  leftmost_next ps p found None h none = record {
    nowhere =
        All-append (λ (q : Program). BeginsNowhere utf8 q hay start (end_in hay found)) ps (p ∷ []) h.nowhere
        (All-cons (λ (q : Program). BeginsNowhere utf8 q hay start (end_in hay found)) p [] none
        (All-nil (λ (q : Program). BeginsNowhere utf8 q hay start (end_in hay found))));
    some = kept_some ps p found h.some;
  }
  leftmost_next ps p found (Some s) h at = record {
    nowhere =
        All-append (λ (q : Program). BeginsNowhere utf8 q hay start s.0) ps (p ∷ [])
        (All-weaker (λ (q : Program). BeginsNowhere utf8 q hay start (end_in hay found))
        (λ (q : Program). BeginsNowhere utf8 q hay start s.0)
        (λ q none. narrower (end_in hay found) s.0 q (omega (arith, at.before)) none) ps h.nowhere)
        (All-cons (λ (q : Program). BeginsNowhere utf8 q hay start s.0) p [] at.first
        (All-nil (λ (q : Program). BeginsNowhere utf8 q hay start s.0)));
    some = record {
      after = at.after;
      inside = let low = end_low ps found h.some in omega (arith, at.before, low);
      boundary = at.boundary;
      program = p;
      is = slice_get_last ps p;
      trace = at.trace;
      runs = at.runs;
      ends = at.ends;
      lower =
          subst (NoneRuns hay s.0) (sym (take_last ps p))
          (All-weaker (λ (q : Program). BeginsNowhere utf8 q hay start (end_in hay found))
          (λ (q : Program). run_at q hay s.0 ≡ None) (λ q none. none s.0 at.after at.before at.boundary) ps h.nowhere);
    };
  }

  -- one more program of a list
  pub searched_next :
      (ps : List Program) (i : ℕ) (d : Program) (found : Option Match) (r : Option (ℕ × ℕ)) → i < length ps
      → IsLeftmostOf utf8 (take i ps) hay start found
      → IsSimulatedSpan utf8 (get_or ps i d) hay start (end_in hay found) r
      → IsLeftmostOf utf8 (take (i + 1) ps) hay start (found_next i found r)
  searched_next ps i d found r inside h at =
      subst (λ qs. IsLeftmostOf utf8 qs hay start (found_next i found r))
      (sym (take-suc ps i d inside) ∙ ap (λ n. take n ps) (sym (add-one i)))
      (subst (λ n. IsLeftmostOf utf8 (take i ps ++ get_or ps i d ∷ []) hay start (found_next n found r))
      (length-take-le i ps (omega (arith, inside))) (leftmost_next (take i ps) (get_or ps i d) found r h at))

  -- what was found lies in the haystack
  pub found_lies :
      (ps : List Program) (found : Option Match) → IsLeftmostOf utf8 ps hay start found
      → IfSome found (λ m. m.end ≤ length hay) → IfSome found (λ m. (start ≤ m.start) × (m.end ≤ length hay))
  found_lies ps None h ends = tt
  found_lies ps (Some m) h ends = (h.some.after, ends)

option_empty : (o : Option Trace) → outcome None ≡ outcome o → o ≡ None
unfolding outcome
option_empty None e = refl
option_empty (Some t) e = absurd (none-some _ e)

module _ (hay : List ℕ) (bytes : All (λ b. b < 256) hay) (i : ℕ) where
  none_seen : (p : Program) (re : Re) → FindsGroups p.nfa re → run_at p hay i ≡ None → attempt hay re accept i ≡ None
  none_seen p re finds none = option_empty (attempt hay re accept i) (ap outcome (sym none) ∙ finds hay bytes i)

  -- if no program matches at an offset, no text does
  pub none_any :
      (ps : List Program) (res : List Re) → FindAllGroups ps res → NoneRuns hay i ps
      → attempt hay (any_of res) accept i ≡ None
  unfolding attempt
  none_any [] [] all none = no_match hay bytes i
  none_any [] (re ∷ res) all none = absurd all
  none_any (p ∷ ps) [] all none = absurd all
  none_any (p ∷ ps) (re ∷ []) all none =
      none_seen p re all.0 (All-head (λ (q : Program). run_at q hay i ≡ None) p ps none)
  none_any (p ∷ ps) (re ∷ next ∷ res) all none =
      let here = none_seen p re all.0 (All-head (λ (q : Program). run_at q hay i ≡ None) p ps none) in
      let later = none_any ps (next ∷ res) all.1 (All-tail (λ (q : Program). run_at q hay i ≡ None) p ps none) in
      rw here later

  -- the match of a program, if no earlier one matches there, is that of the alternation
  pub some_any :
      (ps : List Program) (res : List Re) (k : ℕ) (p : Program) (t : Trace) → FindAllGroups ps res
      → slice_get ps k ≡ Some p → NoneRuns hay i (take k ps) → run_at p hay i ≡ Some t
      → (u : Trace) × (attempt hay (any_of res) accept i ≡ Some u) × (u.end ≡ t.end) × (first_at res hay i ≡ k)
  unfolding attempt
  some_any [] res k p t all is none runs = absurd (none-some p is)
  some_any (q ∷ ps) [] k p t all is none runs = absurd all
  some_any (q ∷ ps) (re ∷ []) zero p t all is none runs =
      let same = same_Some q p is in
      let seen = seen_same (attempt hay re accept i) t
      (sym (all.0 hay bytes i) ∙ ap outcome (ap (λ (v : Program). run_at v hay i) same ∙ runs)) in
      (seen.0, seen.1, seen.2.end, cond-true (is_some (attempt hay re accept i)) _ _ (ap is_some seen.1))
  some_any (q ∷ ps) (re ∷ next ∷ res) zero p t all is none runs =
      let same = same_Some q p is in
      let seen = seen_same (attempt hay re accept i) t
      (sym (all.0 hay bytes i) ∙ ap outcome (ap (λ (v : Program). run_at v hay i) same ∙ runs)) in (
        seen.0,
        ap (λ o. option_or o (attempt hay (any_of (next ∷ res)) accept i)) seen.1,
        seen.2.end,
        cond-true (is_some (attempt hay re accept i)) _ _ (ap is_some seen.1),
      )
  some_any (q ∷ []) (re ∷ []) (suc k) p t all is none runs = absurd (none-some p is)
  some_any (q ∷ x ∷ ps) (re ∷ []) (suc k) p t all is none runs = absurd all.1
  some_any (q ∷ ps) (re ∷ next ∷ res) (suc k) p t all is none runs =
      let here = none_seen q re all.0 (All-head (λ (v : Program). run_at v hay i ≡ None) q (take k ps) none) in
      let later =
      some_any ps (next ∷ res) k p t all.1 is
      (All-tail (λ (v : Program). run_at v hay i ≡ None) q (take k ps) none) runs in (
        later.0,
        rw here later.1,
        later.2,
        cond-false (is_some (attempt hay re accept i)) _ _ (ap is_some here) ∙ ap suc later.3,
      )

find_tries :
    (utf8 : Bool) (res : List Re) (hay : List ℕ) (start : ℕ)
    → find_any utf8 res hay start ≡ kit.first_between (attempt_at utf8 res hay) start (length hay)
unfolding kit.find kit.find_str
find_tries true res hay start = refl
find_tries false res hay start = refl

pub tried : (utf8 : Bool) (res : List Re) (hay : List ℕ) (i : ℕ) → MayBeginAt utf8 hay i
    → attempt_at utf8 res hay i ≡ attempt hay (any_of res) accept i
tried true res hay i may = cond-true (is_boundary hay i) _ _ (may refl)
tried false res hay i may = refl

pub tried_none : (utf8 : Bool) (res : List Re) (hay : List ℕ) (i : ℕ)
    → (MayBeginAt utf8 hay i → attempt hay (any_of res) accept i ≡ None) → attempt_at utf8 res hay i ≡ None
tried_none true res hay i h =
    ⊎_elim (λ yes. cond-true (is_boundary hay i) _ _ yes ∙ h (λ _. yes)) (λ no. cond-false (is_boundary hay i) _ _ no)
    (cases_Bool (is_boundary hay i))
tried_none false res hay i h = h (λ e. absurd (true≢false (sym e)))

-- the leftmost match of the programs is what the texts find
pub leftmost_is :
    (utf8 : Bool) (ps : List Program) (res : List Re) (hay : List ℕ) (start : ℕ) (found : Option Match)
    → All (λ b. b < 256) hay → FindAllGroups ps res → IsLeftmostOf utf8 ps hay start found
    → found ≡ option_map (numbered_match res hay) (find_any utf8 res hay start)
leftmost_is utf8 ps res hay start None bytes all h =
    sym (ap (option_map (numbered_match res hay)) (find_tries utf8 res hay start
    ∙ first_between_none (attempt_at utf8 res hay) start (length hay) (λ i low high. tried_none utf8 res hay i
    (λ may. none_any hay bytes i ps res all
    (All-weaker (λ (q : Program). BeginsNowhere utf8 q hay start (length hay + 1))
    (λ (q : Program). run_at q hay i ≡ None) (λ q none. none i low (omega (arith, high)) may) ps h.nowhere)))))
leftmost_is utf8 ps res hay start (Some m) bytes all h =
    let s = h.some in
    let w = some_any hay bytes m.start ps res m.pattern s.program s.trace all s.is s.lower s.runs in
    let x : kit.Match = record { start = m.start; trace = w.0 } in
    let is : find_any utf8 res hay start ≡ Some x =
    find_tries utf8 res hay start
    ∙ first_between_of_IsFirst (attempt_at utf8 res hay) start (length hay) x (record {
      from = s.after;
      to = s.inside;
      here = tried utf8 res hay m.start s.boundary ∙ w.1;
      before = λ i low high. tried_none utf8 res hay i
          (λ may. none_any hay bytes i ps res all
          (All-weaker (λ (q : Program). BeginsNowhere utf8 q hay start m.start)
          (λ (q : Program). run_at q hay i ≡ None) (λ q none. none i low high may) ps h.nowhere));
    }) in
    ap₂ (λ (n e : ℕ). Some (record { pattern = n; start = m.start; end = e })) (sym w.3) (sym s.ends ∙ sym w.2)
    ∙ sym (ap (option_map (numbered_match res hay)) is)
