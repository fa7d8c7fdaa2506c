-- What a walk reports, unit by unit.
use Rattle.std.proofs.Common.{ℕ, zero, suc, ◌≡◌, ◌<◌, ◌≤◌, ◌+◌, ◌⊎◌, inl, inr, Bool, true, false, cond, List, [], ◌∷◌}
use Rattle.std.proofs.Common.{◌++◌, length, Some, None, refl, sym, ap, ap₂, ◌∙◌, subst, arith, length-append}
use Rattle.std.proofs.Common.{eq-or-lt_of_le, get_or, append_assoc, append-nil}
use Rattle.automata_hybrid.proofs.Words.{AreUnsplit, dead, Direction, HasReadNoQuit, Input, is_quit, is_split}
use Rattle.automata_hybrid.proofs.Words.{KeepsSplit, Machine, next, offset_in, Pair, Powerset, Skips, SkipsSplit}
use Rattle.automata_hybrid.proofs.Words.{state_in, tape_in}
use Rattle.automata_base.specs.Answers.Answers.{WalksNoSpan, WalksSpan}
use Rattle.automata_base.specs.Answers.Answers.{with_offsets, without_split}
use Rattle.automata_base.specs.Paths.Selections.{at_place}
use Rattle.automata_hybrid.specs.Walks.Answers.{AreWalked, HasReportedBy, IsSilent, WalkMeetsNoQuit, half_nth}
use Rattle.automata_hybrid.specs.Walks.Answers.{pairs_along, pairs_reported_in}
use Rattle.automata_hybrid.specs.Private.Walks.Answers.{Finishes}
use Rattle.automata_hybrid.proofs.Searches.PassState.{dead_more}
use Rattle.std.proofs.lemmas.Bool.{cases_lt}

-- the pairs of joined lists
offsets_join :
    (way : Direction) (input : Input) (xs ys : List Pair)
    → with_offsets way input (xs ++ ys) ≡ with_offsets way input xs ++ with_offsets way input ys
offsets_join way input [] ys = refl
offsets_join way input (x ∷ xs) ys =
    ap (λ (zs : List Pair). record x { place = offset_in way input x.place } ∷ zs) (offsets_join way input xs ys)

unsplit_join : (h : List ℕ) (xs ys : List Pair) → without_split h (xs ++ ys) ≡ without_split h xs ++ without_split h ys
unsplit_join h [] ys = refl
unsplit_join h (x ∷ xs) ys = go (is_split h x.place) (unsplit_join h xs ys) where
  go :
      (b : Bool) → without_split h (xs ++ ys) ≡ without_split h xs ++ without_split h ys
      → cond b (without_split h (xs ++ ys)) (x ∷ without_split h (xs ++ ys))
      ≡ cond b (without_split h xs) (x ∷ without_split h xs) ++ without_split h ys
  go true again = again
  go false again = ap (λ (zs : List Pair). x ∷ zs) again

-- the pairs of one place
place_offsets :
    (way : Direction) (input : Input) (i : ℕ) (ps : List ℕ)
    → with_offsets way input (at_place i ps) ≡ at_place (offset_in way input i) ps
place_offsets way input i [] = refl
place_offsets way input i (p ∷ ps) =
    ap (λ (zs : List Pair). record { pattern = p; place = offset_in way input i } ∷ zs) (place_offsets way input i ps)

place_split : (h : List ℕ) (o : ℕ) (ps : List ℕ) → is_split h o ≡ true → without_split h (at_place o ps) ≡ []
place_split h o [] e = refl
place_split h o (p ∷ ps) e =
    ap (λ b. cond b (without_split h (at_place o ps))
    (record { pattern = p; place = o } ∷ without_split h (at_place o ps))) e ∙ place_split h o ps e

place_unsplit :
    (h : List ℕ) (o : ℕ) (ps : List ℕ) → is_split h o ≡ false → without_split h (at_place o ps) ≡ at_place o ps
place_unsplit h o [] e = refl
place_unsplit h o (p ∷ ps) e =
    ap (λ b. cond b (without_split h (at_place o ps))
    (record { pattern = p; place = o } ∷ without_split h (at_place o ps))) e
    ∙ ap (λ (zs : List Pair). record { pattern = p; place = o } ∷ zs) (place_unsplit h o ps e)

pub place_length : (o : ℕ) (ps : List ℕ) → length (at_place o ps) ≡ length ps
place_length o [] = refl
place_length o (p ∷ ps) = ap suc (place_length o ps)

module _ (way : Direction) (m : Machine) (input : Input) where
  -- the patterns of the state after the unit at a place
  abbrev pub at : ℕ → List ℕ
  at i = (state_in way m input (suc i)).patterns

  pairs_more : (i : ℕ) → pairs_reported_in way m input (suc i) ≡ pairs_reported_in way m input i ++ at_place i (at i)
  unfolding pairs_along
  pairs_more i = refl

  -- one more unit, at a place that is not skipped
  pub reported_more :
      (i : ℕ) (pairs : List Pair)
      → (Skips m → is_split input.haystack (offset_in way input i) ≡ false)
      → AreUnsplit (Skips m) way input (pairs_reported_in way m input i) pairs
      → AreUnsplit (Skips m) way input (pairs_reported_in way m input (suc i))
      (pairs ++ at_place (offset_in way input i) (at i))
  reported_more i pairs free (SkipsSplit s e) = SkipsSplit s
      (sym (ap (λ (zs : List Pair). without_split input.haystack (with_offsets way input zs)) (pairs_more i)
      ∙ (ap (without_split input.haystack)
      (offsets_join way input (pairs_reported_in way m input i) (at_place i (at i)))
      ∙ (unsplit_join input.haystack (with_offsets way input (pairs_reported_in way m input i))
      (with_offsets way input (at_place i (at i)))
      ∙ ap₂ (λ (xs ys : List Pair). xs ++ ys) (sym e)
      (ap (without_split input.haystack) (place_offsets way input i (at i))
      ∙ place_unsplit input.haystack (offset_in way input i) (at i) (free s))))))
  reported_more i pairs free (KeepsSplit n e) = KeepsSplit n
      (sym (ap (with_offsets way input) (pairs_more i)
      ∙ (offsets_join way input (pairs_reported_in way m input i) (at_place i (at i))
      ∙ ap₂ (λ (xs ys : List Pair). xs ++ ys) (sym e) (place_offsets way input i (at i)))))

  -- one more unit, at a place that is skipped
  reported_skipped :
      (i : ℕ) (pairs : List Pair)
      → Skips m → is_split input.haystack (offset_in way input i) ≡ true
      → AreUnsplit (Skips m) way input (pairs_reported_in way m input i) pairs
      → AreUnsplit (Skips m) way input (pairs_reported_in way m input (suc i)) pairs
  reported_skipped i pairs skips split (KeepsSplit n e) = absurd (n skips)
  reported_skipped i pairs skips split (SkipsSplit s e) = SkipsSplit s
      (sym (ap (λ (zs : List Pair). without_split input.haystack (with_offsets way input zs)) (pairs_more i)
      ∙ (ap (without_split input.haystack)
      (offsets_join way input (pairs_reported_in way m input i) (at_place i (at i)))
      ∙ (unsplit_join input.haystack (with_offsets way input (pairs_reported_in way m input i))
      (with_offsets way input (at_place i (at i)))
      ∙ (ap₂ (λ (xs ys : List Pair). xs ++ ys) (sym e)
      (ap (without_split input.haystack) (place_offsets way input i (at i))
      ∙ place_split input.haystack (offset_in way input i) (at i) split)
      ∙ append-nil pairs)))))

  -- a state without patterns adds no pairs
  pairs_none : (i : ℕ) → at i ≡ [] → pairs_reported_in way m input (suc i) ≡ pairs_reported_in way m input i
  pairs_none i e =
      pairs_more i
      ∙ (ap (λ ps. pairs_reported_in way m input i ++ at_place i ps) e ∙ append-nil (pairs_reported_in way m input i))

  pub silent_none : (i : ℕ) → at i ≡ [] → IsSilent way m input i (suc i)
  silent_none i e k t =
      record {
        pairs = t.pairs;
        unsplit =
            subst (λ (ps : List Pair). AreUnsplit (Skips m) way input ps t.pairs) (sym (pairs_none i e)) t.unsplit;
        count = t.count;
      }

  silent_skipped :
      (i : ℕ) → Skips m → is_split input.haystack (offset_in way input i) ≡ true → IsSilent way m input i (suc i)
  silent_skipped i s split k t =
      record { pairs = t.pairs; unsplit = reported_skipped i t.pairs s split t.unsplit; count = t.count }

  pub silent_same : (i : ℕ) → IsSilent way m input i i
  silent_same i k t = t

  pub silent_trans : (a b c : ℕ) → IsSilent way m input a b → IsSilent way m input b c → IsSilent way m input a c
  silent_trans a b c f g k t = g k (f k t)

  -- the dead state and all states after it report nothing
  silent_dead : (k n : ℕ) → k ≤ n → state_in way m input k ≡ dead → IsSilent way m input k n
  silent_dead k zero l e = let z : k ≡ 0 = omega (arith, l) in subst (λ i. IsSilent way m input k i) z (silent_same k)
  silent_dead k (suc n) l e = go (λ more. silent_dead k n more e) (eq-or-lt_of_le l) where
    go : (k ≤ n → IsSilent way m input k n) → (k ≡ suc n) ⊎ (k < suc n) → IsSilent way m input k (suc n)
    go again (inl same) = subst (λ i. IsSilent way m input k i) same (silent_same k)
    go again (inr less) =
        silent_trans k n (suc n) (again (omega (arith, less)))
        (silent_none n (ap (λ (q : Powerset). q.patterns) (dead_more way m input k (suc n) l e)))

  -- no quit byte up to one more unit
  pub clean_more :
      (k : ℕ) → HasReadNoQuit way m input k
      → ((byte : ℕ) → next (tape_in way input) k ≡ Some byte → is_quit m.quits byte ≡ false)
      → HasReadNoQuit way m input (suc k)
  clean_more k before here j byte l e = go (cases_lt j k) where
    go : (j < k) ⊎ (k ≤ j) → is_quit m.quits byte ≡ false
    go (inl less) = before j byte less e
    go (inr more) =
        let same : j ≡ k = omega (arith, l, more) in
        here byte (ap (next (tape_in way input)) (sym same) ∙ e)

  -- a walk that dies meets no quit byte, if it met none before
  dead_clean : (n : ℕ) → HasReadNoQuit way m input n → state_in way m input n ≡ dead → WalkMeetsNoQuit way m input
  dead_clean n clean e j byte r h = go (cases_lt j n) where
    go : (j < n) ⊎ (n ≤ j) → is_quit m.quits byte ≡ false
    go (inl less) = clean j byte less h
    go (inr more) = absurd (r.1 (dead_more way m input n j more e))

  -- a walk that dies, or has read all its units, has ended
  pub finish_dead :
      (from k units : ℕ)
      → from ≤ k → k ≤ length (tape_in way input).bytes → units ≡ suc k → HasReadNoQuit way m input (suc k)
      → state_in way m input (suc k) ≡ dead → IsSilent way m input from k → Finishes way m input from units
  finish_dead from k units f l u clean e silent =
      record {
        more = omega (arith, f, u);
        clean = dead_clean (suc k) clean e;
        silent =
            silent_trans from k (suc (length (tape_in way input).bytes)) silent
            (silent_trans k (suc k) (suc (length (tape_in way input).bytes))
            (silent_none k (ap (λ (q : Powerset). q.patterns) e))
            (silent_dead (suc k) (suc (length (tape_in way input).bytes)) (omega (arith, l)) e));
        stops = λ j l r. r.1 (dead_more way m input (suc k) j (omega (arith, l, u)) e);
      }

  pub finish_start :
      (k : ℕ) → k ≤ suc (length (tape_in way input).bytes) → HasReadNoQuit way m input k → state_in way m input k ≡ dead
      → Finishes way m input k k
  finish_start k l clean e =
      record {
        more = omega arith;
        clean = dead_clean k clean e;
        silent = silent_dead k (suc (length (tape_in way input).bytes)) l e;
        stops = λ j l r. r.1 (dead_more way m input k j l e);
      }

  pub finish_all :
      (k : ℕ) → k ≡ suc (length (tape_in way input).bytes) → HasReadNoQuit way m input k → WalkMeetsNoQuit way m input
  finish_all k e clean j byte r h =
      let l : j ≤ length (tape_in way input).bytes = r.0 in clean j byte (omega (arith, l, e)) h

  pub finish_read :
      (from k : ℕ)
      → k ≡ suc (length (tape_in way input).bytes) → from ≤ k → HasReadNoQuit way m input k
      → IsSilent way m input from k
      → Finishes way m input from k
  finish_read from k e l clean silent =
      record {
        more = l;
        clean = finish_all k e clean;
        silent = subst (IsSilent way m input from) e silent;
        stops =
            λ j more r. absurd (let few : j ≤ length (tape_in way input).bytes = r.0 in omega (arith, few, more, e));
      }

  -- one more unit of a walk that reports nothing
  pub silent_step :
      (from k : ℕ)
      → IsSilent way m input from k
      → (Skips m × (is_split input.haystack (offset_in way input k) ≡ true)) ⊎ (at k ≡ [])
      → IsSilent way m input from (suc k)
  silent_step from k silent (inl (s, split)) = silent_trans from k (suc k) silent (silent_skipped k s split)
  silent_step from k silent (inr none) = silent_trans from k (suc k) silent (silent_none k none)

  -- the second list begins with the first
  pub record Begins (xs ys : List Pair) : Type 0 where
    pub rest : List Pair
    pub joined : ys ≡ xs ++ rest

  pairs_begin : (i n : ℕ) → i ≤ n → Begins (pairs_reported_in way m input i) (pairs_reported_in way m input n)
  pairs_begin i zero l =
      let z : i ≡ 0 = omega (arith, l) in
      record {
        rest = [];
        joined = ap (pairs_reported_in way m input) (sym z)
            ∙ sym (append-nil (pairs_reported_in way m input i));
      }
  pairs_begin i (suc n) l = go (λ more. pairs_begin i n more) (eq-or-lt_of_le l) where
    go :
        (i ≤ n → Begins (pairs_reported_in way m input i) (pairs_reported_in way m input n)) → (i ≡ suc n) ⊎ (i < suc n)
        → Begins (pairs_reported_in way m input i) (pairs_reported_in way m input (suc n))
    go again (inl same) =
        record {
          rest = [];
          joined = ap (pairs_reported_in way m input) (sym same)
              ∙ sym (append-nil (pairs_reported_in way m input i));
        }
    go again (inr less) =
        let b : Begins (pairs_reported_in way m input i) (pairs_reported_in way m input n) =
        again (omega (arith, less)) in
        record {
          rest = b.rest ++ at_place n (at n);
          joined =
              pairs_more n
              ∙ (ap (λ (zs : List Pair). zs ++ at_place n (at n)) b.joined
              ∙ append_assoc (pairs_reported_in way m input i) b.rest (at_place n (at n)));
        }

  unsplit_begin :
      (xs ys a b : List Pair) → Begins xs ys → AreUnsplit (Skips m) way input xs a → AreUnsplit (Skips m) way input ys b
      → Begins a b
  unsplit_begin xs ys a b j (SkipsSplit s e) (SkipsSplit s' f) =
      record {
        rest = without_split input.haystack (with_offsets way input j.rest);
        joined =
            f ∙ (ap (λ (zs : List Pair). without_split input.haystack (with_offsets way input zs)) j.joined
            ∙ (ap (without_split input.haystack) (offsets_join way input xs j.rest)
            ∙ (unsplit_join input.haystack (with_offsets way input xs) (with_offsets way input j.rest)
            ∙ ap (λ (zs : List Pair). zs ++ without_split input.haystack (with_offsets way input j.rest)) (sym e))));
      }
  unsplit_begin xs ys a b j (SkipsSplit s e) (KeepsSplit n f) = absurd (n s)
  unsplit_begin xs ys a b j (KeepsSplit n e) (SkipsSplit s f) = absurd (n s)
  unsplit_begin xs ys a b j (KeepsSplit n e) (KeepsSplit n' f) =
      record {
        rest = with_offsets way input j.rest;
        joined =
            f ∙ (ap (with_offsets way input) j.joined
            ∙ (offsets_join way input xs j.rest
            ∙ ap (λ (zs : List Pair). zs ++ with_offsets way input j.rest) (sym e)));
      }

  -- the whole list begins with what its first units report
  pub walked_begin :
      (i : ℕ) (a b : List Pair)
      → input.start ≤ input.end → i ≤ suc (length (tape_in way input).bytes)
      → AreUnsplit (Skips m) way input (pairs_reported_in way m input i) a → AreWalked way m input b → Begins a b
  walked_begin i a b s l u (WalksNoSpan done e) = absurd (omega (arith, s, done))
  walked_begin i a b s l u (WalksSpan undone pairs reported v) =
      unsplit_begin (pairs_reported_in way m input i) pairs a b
      (subst (λ (zs : List Pair). Begins (pairs_reported_in way m input i) zs) (sym reported)
      (pairs_begin i (suc (length (tape_in way input).bytes)) l)) u v

  -- what all units report is the whole list
  pub walked_all :
      (a : List Pair) → input.start ≤ input.end
      → AreUnsplit (Skips m) way input (pairs_reported_in way m input (suc (length (tape_in way input).bytes))) a
      → AreWalked way m input a
  walked_all a s u = WalksSpan s (pairs_reported_in way m input (suc (length (tape_in way input).bytes))) refl u

  -- more units report at least as many pairs
  pub reported_rises : (i n a b : ℕ) → i ≤ n → HasReportedBy way m input i a → HasReportedBy way m input n b → a ≤ b
  reported_rises i n a b l t u =
      let more : Begins t.pairs u.pairs =
      unsplit_begin (pairs_reported_in way m input i) (pairs_reported_in way m input n) t.pairs u.pairs
      (pairs_begin i n l) t.unsplit u.unsplit in
      let long : length u.pairs ≡ length t.pairs + length more.rest =
      ap (λ (zs : List Pair). length zs) more.joined ∙ length-append t.pairs more.rest in
      omega (arith, long, t.count, u.count)

-- the pair at an index of a list
pub half_past : (xs : List Pair) (k : ℕ) → length xs ≤ k → half_nth xs k ≡ None
half_past [] k l = refl
half_past (x ∷ xs) zero l = absurd (omega (arith, l))
half_past (x ∷ xs) (suc k) l = half_past xs k (omega (arith, l))

pub half_after : (xs ys : List Pair) (k : ℕ) → half_nth (xs ++ ys) (length xs + k) ≡ half_nth ys k
half_after [] ys k = let z : 0 + k ≡ k = omega arith in ap (half_nth ys) z
half_after (x ∷ xs) ys k =
    let s : suc (length xs) + k ≡ suc (length xs + k) = omega arith in
    ap (half_nth (x ∷ (xs ++ ys))) s ∙ half_after xs ys k

pub half_at_place :
    (o : ℕ) (ps : List ℕ) (rest : List Pair) (k : ℕ)
    → k < length ps → half_nth (at_place o ps ++ rest) k ≡ Some (record { pattern = get_or ps k 0; offset = o })
half_at_place o [] rest k l = absurd (omega (arith, l))
half_at_place o (p ∷ ps) rest zero l = refl
half_at_place o (p ∷ ps) rest (suc k) l = half_at_place o ps rest k (omega (arith, l))
