-- The run of a walk over a tree.
use Rattle.std.proofs.Common.{ℕ, zero, suc, ◌≡◌, ◌+◌, ◌-◌, ◌<◌, ◌≤◌, true, Bool, List, [], ◌∷◌, ◌++◌, All, length}
use Rattle.std.proofs.Common.{map, take, drop, get_or, Option, Some, None, sym, ap, ◌∙◌, subst, ⊎_elim, arith}
use Rattle.std.proofs.Common.{le_refl, le_trans, length-append}
use Rattle.std.proofs.Common.{get_or-drop, get_or-append-add}
use Rattle.std.proofs.lemmas.Bool.{cases_lt}
use Rattle.std.proofs.lemmas.List.{get_or_append_left}
use Rattle.std.proofs.lemmas.List.Elements.{All-nil, All-push}
use Rattle.regex_hir.specs.Re.{Re, literal, group, plus}
use Rattle.regex_hir.specs.Meaning.{meaning, cat_all, copies, repeat, up_to}
use Rattle.regex_hir.specs.Matches.{Matches, Rounds, one_round, next_round}
use Rattle.regex_hir.specs.Text.{has_bytes_at}
use Rattle.regex_hir.specs.declared.hir.Hir.{Hir}
use Rattle.regex_hir.proofs.MatchesLemmas.{Matches-IsSpan}
use Rattle.regex_hir.proofs.TextLemmas.{has_bytes_at_fits, has_bytes_at_parts}
use Rattle.regex_extract.specs.Needles.{AreFilled, needles_of}
use Rattle.regex_extract.proofs.LanguageLemmas.{meanings_more}
use Rattle.regex_extract.proofs.NeedlesLemmas.{Matches-cat_all-append}
use Rattle.match_facts.specs.Facts.{ContainsAll, StandsIn}
use Rattle.match_facts.specs.Runs.{EndsRun, ExtendsRun, HasLiterals, StandsBefore}
use Rattle.match_facts.specs.declared.literals.Run.{Run}

-- texts that occur in a span occur in a longer one
wider :
    (hay : List ℕ) (xs : List (List ℕ)) (i m j : ℕ) → m ≤ j → All (λ b. StandsIn hay b i m) xs
    → All (λ b. StandsIn hay b i j) xs
wider hay xs i m j le h k d lt =
    let s = h k d lt in
    (s.0, record { occurs = s.1.occurs; low = s.1.low; high = let a = s.1.high in omega (arith, a, le) })

-- the empty text occurs before any offset
no_bytes : (hay : List ℕ) (i j : ℕ) → i ≤ j → j ≤ length hay → StandsBefore hay [] i j
no_bytes hay i j le w =
    (j, record { fits = omega (arith, w); reads = λ n lt. absurd (omega (arith, lt)) }, le, omega arith)

-- the bytes that occur before an offset are in the span
in_span : (hay bytes : List ℕ) (i m j : ℕ) → m ≤ j → StandsBefore hay bytes i m → StandsIn hay bytes i j
in_span hay bytes i m j le s =
    (s.0, record { occurs = s.1; low = s.2; high = let e = s.3 in omega (arith, e, le) })

low_of : (run : Run) (hay : List ℕ) (i m : ℕ) → HasLiterals run hay i m → i ≤ m
low_of run hay i m h = let l = h.last in omega (arith, l.2, l.3)

pub ends_same : (old new : Run) → new.literals ≡ old.literals → new.last.items ≡ [] → EndsRun old new
ends_same old new same none = record {
  at = λ hay i m j le w h. record {
    literals = subst (λ v. All (λ b. StandsIn hay b i j) (needles_of v)) (sym same)
        (wider hay (needles_of old.literals) i m j le h.literals);
    last = subst (λ bs. StandsBefore hay bs i j) (sym none)
        (no_bytes hay i j (le_trans (low_of old hay i m h) le) w);
  };
  filled = λ h. subst (λ v. AreFilled (needles_of v)) (sym same) h;
}

pub ends_more :
    (old new : Run) → 0 < length old.last.items
    → needles_of new.literals ≡ needles_of old.literals ++ old.last.items ∷ [] → new.last.items ≡ [] → EndsRun old new
ends_more old new long more none = record {
  at = λ hay i m j le w h. record {
    literals = subst (All (λ b. StandsIn hay b i j)) (sym more)
        (All-push (λ b. StandsIn hay b i j) (needles_of old.literals) old.last.items
        (wider hay (needles_of old.literals) i m j le h.literals)
        (in_span hay old.last.items i m j le h.last));
    last = subst (λ bs. StandsBefore hay bs i j) (sym none)
        (no_bytes hay i j (le_trans (low_of old hay i m h) le) w);
  };
  filled = λ h.
      subst AreFilled (sym more)
      (All-push (λ n. 0 < length n) (needles_of old.literals) old.last.items h long);
}

pub extends_ends : (re : Re) (old new : Run) → EndsRun old new → ExtendsRun re old new
extends_ends re old new e = record {
  at = λ hay ok i m j w s h.
      let span = Matches-IsSpan hay re m j s in
      e.at hay i m j span.0 (omega (arith, span.1, w)) h;
  filled = e.filled;
}

-- if a text occurs before an offset, and bytes at it, both together occur before the end of these bytes
longer :
    (hay xs bs : List ℕ) (i m j : ℕ) → m ≤ length hay → StandsBefore hay xs i m → has_bytes_at hay m bs ≡ true
    → j ≡ m + length bs → StandsBefore hay (xs ++ bs) i j
longer hay xs bs i m j w l b e = (
  l.0,
  record {
    fits = omega (arith, has_bytes_at_fits hay m bs b, length-append xs bs, l.3, w);
    reads = λ n lt.
        ⊎_elim (λ (less : n < length xs). l.1.reads n less ∙ sym (get_or_append_left xs bs 0 n less))
        (λ (more : length xs ≤ n). later n lt more) (cases_lt n (length xs));
  },
  l.2,
  omega (arith, length-append xs bs, l.3, e),
)
  where
    later : (n : ℕ) → n < length (xs ++ bs) → length xs ≤ n → get_or hay (l.0 + n) 0 ≡ get_or (xs ++ bs) n 0
    later n lt more =
        let r : ℕ = n - length xs in
        let split : length xs + r ≡ n = omega (arith, more) in
        let at : l.0 + n ≡ m + r = omega (arith, more, l.3) in
        let short : r < length bs = omega (arith, lt, more, length-append xs bs) in
        ap (λ k. get_or hay k 0) at ∙ sym (get_or-drop m hay r 0)
        ∙ ap (λ v. get_or v r 0) (has_bytes_at_parts hay m bs b)
        ∙ get_or_append_left bs (drop (m + length bs) hay) 0 r short
        ∙ sym (get_or-append-add xs bs r 0) ∙ ap (λ k. get_or (xs ++ bs) k 0) split

pub extends_literal :
    (bs : List ℕ) (old new : Run) → new.literals ≡ old.literals → new.last.items ≡ old.last.items ++ bs
    → ExtendsRun (literal bs) old new
extends_literal bs old new same more = record {
  at = λ hay ok i m j w s h.
      let span = Matches-IsSpan hay (literal bs) m j s in
      record {
        literals = subst (λ v. All (λ b. StandsIn hay b i j) (needles_of v)) (sym same)
            (wider hay (needles_of old.literals) i m j span.0 h.literals);
        last = subst (λ v. StandsBefore hay v i j) (sym more)
            (longer hay old.last.items bs i m j w h.last s.0 s.1);
      };
  filled = λ h. subst (λ v. AreFilled (needles_of v)) (sym same) h;
}

pub extends_group : (n : ℕ) (a : Re) (old new : Run) → ExtendsRun a old new → ExtendsRun (group n a) old new
extends_group n a old new e = record { at = e.at; filled = e.filled }

first_round :
    (hay : List ℕ) (a : Re) (i j : ℕ) → Rounds (Matches hay a) i j → (l : ℕ) × Matches hay a i l × (l ≤ j)
first_round hay a i _ (one_round j r) = (j, r, le_refl j)
first_round hay a i _ (next_round l j rs r) =
    let first = first_round hay a i l rs in (first.0, first.1, le_trans first.2 (Matches-IsSpan hay a l j r).0)

first_copy :
    (hay : List ℕ) (n : ℕ) (g : Bool) (a : Re) (m j : ℕ) → Matches hay (copies n a (plus g a)) m j
    → (l : ℕ) × Matches hay a m l × (l ≤ j)
first_copy hay zero g a m j s = first_round hay a m j s
first_copy hay (suc n) g a m j s = (s.0, s.1, (Matches-IsSpan hay (copies n a (plus g a)) s.0 j s.2).0)

-- a repetition that is not optional begins with a match of its part
first_match :
    (hay : List ℕ) (least : ℕ) (most : Option ℕ) (g : Bool) (a : Re) (m j : ℕ) → 0 < least
    → Matches hay (repeat least most g a) m j → (l : ℕ) × Matches hay a m l × (l ≤ j)
unfolding repeat
first_match hay zero most g a m j lt s = absurd (omega arith)
first_match hay (suc n) None g a m j lt s = first_copy hay n g a m j s
first_match hay (suc n) (Some most) g a m j lt s =
    (s.0, s.1, (Matches-IsSpan hay (copies n a (up_to g (most - suc n) a)) s.0 j s.2).0)

pub extends_repeat :
    (least : ℕ) (most : Option ℕ) (g : Bool) (a : Re) (old mid new : Run) → 0 < least → ExtendsRun a old mid
    → EndsRun mid new → ExtendsRun (repeat least most g a) old new
extends_repeat least most g a old mid new lt x e = record {
  at = λ hay ok i m j w s h.
      let f = first_match hay least most g a m j lt s in
      let span = Matches-IsSpan hay (repeat least most g a) m j s in
      e.at hay i f.0 j f.2 (omega (arith, span.1, w)) (x.at hay ok i m f.0 w f.1 h);
  filled = λ h. e.filled (x.filled h);
}

pub extends_none : (run : Run) → ExtendsRun (cat_all []) run run
extends_none run = record { at = λ hay ok i m j w s h. subst (HasLiterals run hay i) (sym s) h; filled = λ h. h }

extends_push :
    (xs : List Re) (a : Re) (old mid new : Run) → ExtendsRun (cat_all xs) old mid → ExtendsRun a mid new
    → ExtendsRun (cat_all (xs ++ a ∷ [])) old new
extends_push xs a old mid new p q = record {
  at = λ hay ok i m j w s h.
      let c = Matches-cat_all-append hay xs (a ∷ []) m j s in
      let span = Matches-IsSpan hay (cat_all xs) m c.0 c.1 in
      subst (HasLiterals new hay i) (sym c.2.2)
      (q.at hay ok i c.0 c.2.0 (omega (arith, span.1, w)) c.2.1 (p.at hay ok i m c.0 w c.1 h));
  filled = λ h. q.filled (p.filled h);
}

pub extends_more :
    (hs : List Hir) (i : ℕ) (h : Hir) (old mid new : Run) → i < length hs → h ≡ get_or hs i h
    → ExtendsRun (cat_all (map meaning (take i hs))) old mid → ExtendsRun (meaning h) mid new
    → ExtendsRun (cat_all (map meaning (take (i + 1) hs))) old new
extends_more hs i h old mid new lt e p q =
    subst (λ rs. ExtendsRun (cat_all rs) old new) (sym (meanings_more hs i h lt e))
    (extends_push (map meaning (take i hs)) (meaning h) old mid new p q)

-- a run that is still empty
begin :
    (run : Run) (hay : List ℕ) (i : ℕ) → run.literals.items ≡ [] → run.last.items ≡ [] → i ≤ length hay
    → HasLiterals run hay i i
begin run hay i none bare w = record {
  literals = subst (λ v. All (λ b. StandsIn hay b i i) (map (λ n. n.items) v)) (sym none)
      (All-nil (λ b. StandsIn hay b i i));
  last = subst (λ bs. StandsBefore hay bs i i) (sym bare) (no_bytes hay i i (le_refl i) w);
}

-- what a walk from an empty run finds is in every match
pub contains_all :
    (re : Re) (run mid new : Run) → run.literals.items ≡ [] → run.last.items ≡ [] → ExtendsRun re run mid
    → EndsRun mid new → ContainsAll re (needles_of new.literals)
contains_all re run mid new none bare x e hay ok i j w s =
    let span = Matches-IsSpan hay re i j s in
    let passed = x.at hay ok i i j w s (begin run hay i none bare w) in
    (e.at hay i j j (le_refl j) (omega (arith, span.1, w)) passed).literals

pub are_filled :
    (re : Re) (run mid new : Run) → run.literals.items ≡ [] → ExtendsRun re run mid → EndsRun mid new
    → AreFilled (needles_of new.literals)
are_filled re run mid new none x e =
    e.filled (x.filled (subst (λ v. AreFilled (map (λ n. n.items) v)) (sym none) (All-nil (λ n. 0 < length n))))
