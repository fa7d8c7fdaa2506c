-- Walks whose pieces make up the whole haystack.
use Rattle.std.proofs.Common.{ℕ, zero, suc, ◌≡◌, ◌+◌, ◌-◌, inr, Bool, List, [], ◌∷◌, ◌++◌, length, Option}
use Rattle.std.proofs.Common.{Some, None, refl, sym, ap, ◌∙◌, subst, arith, append-nil}
use Rattle.std.proofs.lemmas.List.{append_assoc, length-append}
use Rattle.std.proofs.lemmas.Option.{slice_get_past}
use Rattle.automata_base.proofs.Paths.Orders.{none_some, some_inj}
use Rattle.automata_base.specs.Paths.Selections.{at_place}
use Rattle.automata_hybrid.proofs.Words.{Anchored, AreUnsplit, Forward, half_at, HalfMatch, Input, Machine, Pair}
use Rattle.automata_hybrid.proofs.Words.{Skips, state_in, tape_in}
use Rattle.automata_hybrid.specs.Pieces.Answers.{from_first}
use Rattle.automata_hybrid.specs.Pieces.State.{PiecesView}
use Rattle.automata_hybrid.specs.Pieces.Walks.{AtMatch, AtPieceEnd, HasNoMatch, HasWalked, StopsAt, patterns_here}
use Rattle.automata_hybrid.specs.Pieces.Whole.{HasWalkedPieces, NextPiece, WalkedNone, WalkedOnce, WalksAreWhole}
use Rattle.automata_hybrid.specs.Pieces.Whole.{stop_pairs, whole_input}
use Rattle.automata_hybrid.specs.Walks.Answers.{HasReportedBy, pairs_reported_in}
use Rattle.automata_hybrid.proofs.Pieces.Whole.{piece_at}
use Rattle.automata_hybrid.proofs.Searches.Units.{forward_units}
use Rattle.automata_hybrid.proofs.Walks.Calls.{reported_none}
use Rattle.automata_hybrid.proofs.Walks.Reports.{reported_more, walked_all}

-- these are the pairs that a pass reports by its first `k` units
abbrev AreReportedBy : Machine → Input → ℕ → List Pair → Type 0
AreReportedBy m input k pairs = AreUnsplit (Skips m) Forward input (pairs_reported_in Forward m input k) pairs

-- the pairs of a stop are those of its offset
match_pairs :
    (ps : List ℕ) (found : Option HalfMatch) (at : ℕ) → (ps ≡ [] → ⊥) → from_first 0 found ≡ half_at ps at None
    → stop_pairs ps found ≡ at_place at ps
match_pairs [] found at some is = absurd (some refl)
match_pairs (p ∷ ps) None at some is = absurd (none_some is)
match_pairs (p ∷ ps) (Some half) at some is =
    let same : 0 + half.offset ≡ at = ap (λ (h : HalfMatch). h.offset) (some_inj is) in
    let here : half.offset ≡ at = omega (arith, same) in
    ap (λ o. at_place o (p ∷ ps)) here

no_pairs : (xs : List Pair) → 0 ≡ length xs → xs ≡ []
no_pairs [] is = refl
no_pairs (x ∷ xs) is = absurd (omega (arith, is))

-- a walk over a whole haystack
module _ (m : Machine) (mode : Anchored) (earliest : Bool) (h : List ℕ) (plain : Skips m → ⊥) where
  abbrev input : Input
  input = whole_input h mode earliest

  none_reported : AreReportedBy m input 0 []
  none_reported =
      let t : HasReportedBy Forward m input 0 0 = reported_none Forward m input (inr plain) in
      subst (AreReportedBy m input 0) (no_pairs t.pairs t.count) t.unsplit

  more_reported :
      (k : ℕ) (pairs : List Pair) → AreReportedBy m input k pairs
      → AreReportedBy m input (suc k) (pairs ++ at_place (0 + k) (state_in Forward m input (suc k)).patterns)
  more_reported k pairs r = reported_more Forward m input k pairs (λ skips. absurd (plain skips)) r

  -- units after which nothing matches leave the list of pairs unchanged
  silent_reported :
      (k n : ℕ) (pairs : List Pair) → HasNoMatch m input k (k + n) → AreReportedBy m input k pairs
      → AreReportedBy m input (k + n) pairs
  silent_reported k zero pairs none r =
      let same : k ≡ k + 0 = omega arith in subst (λ i. AreReportedBy m input i pairs) same r
  silent_reported k (suc n) pairs none r =
      let more : suc (k + n) ≡ k + suc n = omega arith in
      subst (λ i. AreReportedBy m input i pairs) more
      (subst (AreReportedBy m input (suc (k + n)))
      (ap (λ qs. pairs ++ at_place (0 + (k + n)) qs) (none (k + n) (omega arith) (omega arith)) ∙ append-nil pairs)
      (more_reported (k + n) pairs (silent_reported k n pairs (λ j from to. none j from (omega (arith, to))) r)))

  -- a call adds the pairs at which it stops
  stop_reported :
      (k n : ℕ) (piece : List ℕ) (w : PiecesView) (pairs : List Pair) → AreReportedBy m input k pairs
      → StopsAt m input k piece n w → AreReportedBy m input (k + n) (pairs ++ stop_pairs (patterns_here w) w.found)
  stop_reported k n piece w pairs r (AtPieceEnd same none found) =
      subst (AreReportedBy m input (k + n))
      (sym (ap (λ f. pairs ++ stop_pairs (patterns_here w) f) found ∙ append-nil pairs))
      (silent_reported k n pairs none r)
  stop_reported k n piece w pairs r (AtMatch i same none at) =
      let more : suc (k + i) ≡ k + n = omega (arith, same) in
      let here : stop_pairs (patterns_here w) w.found
      ≡ at_place (0 + (k + i)) (state_in Forward m input (suc (k + i))).patterns =
      match_pairs (patterns_here w) w.found (0 + (k + i)) at.some
      (at.found ∙ ap (λ ps. half_at ps (0 + (k + i)) None) (sym at.patterns))
      ∙ ap (at_place (0 + (k + i))) at.patterns in
      subst (λ j. AreReportedBy m input j (pairs ++ stop_pairs (patterns_here w) w.found)) more
      (subst (λ ps. AreReportedBy m input (suc (k + i)) (pairs ++ ps)) (sym here)
      (more_reported (k + i) pairs (silent_reported k i pairs none r)))

  -- so does the end
  end_reported :
      (pairs : List Pair) (patterns : List ℕ) → AreReportedBy m input (length h) pairs
      → patterns ≡ (state_in Forward m input (suc (length h))).patterns
      → AreReportedBy m input (suc (length h)) (pairs ++ at_place (length h) patterns)
  end_reported pairs patterns r is =
      let same : 0 + length h ≡ length h = omega arith in
      subst (λ o. AreReportedBy m input (suc (length h)) (pairs ++ at_place o patterns)) same
      (subst (λ ps. AreReportedBy m input (suc (length h)) (pairs ++ at_place (0 + length h) ps)) (sym is)
      (more_reported (length h) pairs r))

-- what a walk has reported of a haystack of which it has read the first `n` bytes
record HasCome (m : Machine) (input : Input) (n : ℕ) (pairs : List Pair) (w : PiecesView) : Type 0 where
  pub walked : HasWalked m input n w
  pub reported : AreReportedBy m input n pairs

-- after some calls it has reported what the bytes report that they have read, whatever follows them
calls_report :
    (m : Machine) (mode : Anchored) (earliest : Bool) (bytes left : List ℕ) (pairs : List Pair) (w : PiecesView)
    → HasWalkedPieces m mode bytes left pairs w → (more : List ℕ)
    → HasCome m (whole_input (bytes ++ (left ++ more)) mode earliest) (length bytes) pairs w
calls_report m mode earliest bytes left pairs w (WalkedNone v begun) more =
    let walked : HasWalked m (whole_input more mode earliest) 0 w =
    begun.given (whole_input more mode earliest)
    (record { undone = omega arith; inside = omega arith; moded = refl; follows = refl; early = refl }) in
    record { walked = walked; reported = none_reported m mode earliest more walked.plain }
calls_report m mode earliest bytes left pairs w (NextPiece b piece p v before) more =
    calls_report m mode earliest bytes [] pairs w before (left ++ more)
calls_report m mode earliest bytes left pairs w (WalkedOnce b read l p before v calls walked) more =
    let first = calls_report m mode earliest b (read ++ l) p before calls more in
    let on = walked.walks (whole_input (b ++ ((read ++ l) ++ more)) mode earliest) (length b) first.walked
    (piece_at mode earliest b (read ++ l) more) in
    let whole : b ++ ((read ++ l) ++ more) ≡ (b ++ read) ++ (l ++ more) =
    ap (λ (xs : List ℕ). b ++ xs) (append_assoc read l more) ∙ sym (append_assoc b read (l ++ more)) in
    subst
    (λ (h : List ℕ). HasCome m (whole_input h mode earliest) (length (b ++ read))
    (p ++ stop_pairs (patterns_here w) w.found) w)
    whole
    (subst
    (λ n. HasCome m (whole_input (b ++ ((read ++ l) ++ more)) mode earliest) n
    (p ++ stop_pairs (patterns_here w) w.found) w)
    (sym (length-append b read))
    (record {
      walked = on.0;
      reported =
          stop_reported m mode earliest (b ++ ((read ++ l) ++ more)) first.walked.plain (length b) (length read)
          (read ++ l) w p first.reported on.1;
    }))

pub walks_are_whole : WalksAreWhole
walks_are_whole m mode earliest h pairs w patterns calls ends =
    walked_all Forward m (whole_input h mode earliest) (pairs ++ at_place (length h) patterns) (omega arith)
    (subst (λ n. AreReportedBy m (whole_input h mode earliest) (suc n) (pairs ++ at_place (length h) patterns)) units
    (end_reported m mode earliest h come.walked.plain pairs patterns come.reported
    (here ∙ ap (λ n. (state_in Forward m (whole_input h mode earliest) (suc n)).patterns) (sym all))))
  where
    all : length h ≡ length h - 0
    all = omega arith

    come : HasCome m (whole_input h mode earliest) (length h) pairs w
    come =
        subst (λ (ys : List ℕ). HasCome m (whole_input ys mode earliest) (length h) pairs w) (append-nil h)
        (calls_report m mode earliest h [] pairs w calls [])

    units : length h ≡ length (tape_in Forward (whole_input h mode earliest)).bytes
    units = all ∙ forward_units (whole_input h mode earliest) (omega arith) (omega arith)

    here : patterns ≡ (state_in Forward m (whole_input h mode earliest) (suc (length h - 0))).patterns
    here =
        ends (whole_input h mode earliest) (record {
          given = subst (λ n. HasWalked m (whole_input h mode earliest) n w) all come.walked;
          followed = slice_get_past h (length h) (omega arith);
        })
