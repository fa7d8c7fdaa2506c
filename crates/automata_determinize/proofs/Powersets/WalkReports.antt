-- What the pass of an overlapping walk reports is the list of the ordered paths.
use Rattle.std.proofs.Common.{ℕ, zero, suc, ◌≡◌, ◌<◌, ◌≤◌, ◌⊎◌, ◌↔◌, inl, inr, Bool, true, false, List, [], ◌++◌}
use Rattle.std.proofs.Common.{length, Option, Some, None, refl, sym, ap, ap₂, ◌∙◌, subst, arith}
use Rattle.std.specs.Prelude.{IsTrue}
use Rattle.automata_base.specs.Answers.Answers.{AreUnsplit, IsInput, IsOverlappingFrom, KeepsSplit, OverlapsOver}
use Rattle.automata_base.specs.Answers.Answers.{SkipsSplit, Walks}
use Rattle.automata_base.specs.Answers.Answers.{WalksNoSpan, WalksSpan, with_offsets, without_split}
use Rattle.automata_base.specs.declared.util.search.MatchKind.{MatchKind}
use Rattle.automata_base.specs.Nfas.Accepted.{IsChecked}
use Rattle.automata_base.specs.declared.util.search.Anchored.{Anchored}
use Rattle.automata_base.specs.Nfas.Engines.{IsSkipping, engine_of, first_state}
use Rattle.automata_base.specs.Nfas.Getters.{HasEmpty}
use Rattle.automata_base.specs.Haystacks.Input.{Input}
use Rattle.automata_base.specs.Nfas.Nodes.{Automaton, nfa_of}
use Rattle.automata_base.specs.Paths.Paths.{Tape, KeepsCycles}
use Rattle.automata_determinize.specs.Powersets.Passes.{IsTape}
use Rattle.automata_base.specs.Paths.Selections.{Pair, IsOverlappingOn, at_place}
use Rattle.automata_base.specs.Paths.Starts.{mode_start}
use Rattle.automata_base.specs.declared.util.search.Direction.{Direction}
use Rattle.automata_base.specs.Haystacks.Tapes.{tape_of}
use Rattle.automata_determinize.specs.Retraced.Passes.{pairs_reported}
use Rattle.automata_determinize.specs.Laws.Walks.{AreReported, OverlappingIsReported, SpanReports, WalkIsRight}
use Rattle.automata_determinize.specs.Laws.Walks.{WalksAreOne}
use Rattle.automata_determinize.specs.Laws.Walks.{WalksAreReported}
use Rattle.automata_determinize.proofs.Powersets.PassReports.{pairs_is}
use Rattle.automata_determinize.proofs.Powersets.ReportsAreRight.{first_is, none_at}
use Rattle.automata_base.proofs.Powersets.ReportsAreRight.{start_below}
use Rattle.automata_determinize.proofs.Paths.Finals.{walked_right}
use Rattle.automata_determinize.proofs.Paths.Unique.{walk_one}
use Rattle.automata_determinize.proofs.Answers.Total.{tape_units}

-- A mode without a start reports nothing.
none_pairs :
    (a : Automaton) (kind : MatchKind) (mode : Anchored) (t : Tape) (k : ℕ)
    → mode_start a mode ≡ None → pairs_reported a kind mode t k ≡ []
unfolding pairs_reported
none_pairs a kind mode t zero e = refl
none_pairs a kind mode t (suc k) e =
    ap₂ (λ ps xs. ps ++ at_place k xs) (none_pairs a kind mode t k e) (none_at a kind mode t k e)

overlaps_from :
    (a : Automaton) (kind : MatchKind) (mode : Anchored) (t : Tape) (o : Option ℕ)
    → IsChecked a → KeepsCycles (nfa_of a) → IsTape t → mode_start a mode ≡ o
    → IsOverlappingFrom (engine_of a kind) t o (pairs_reported a kind mode t (suc (length t.bytes)))
overlaps_from a kind mode t None d free tape e = none_pairs a kind mode t (suc (length t.bytes)) e
overlaps_from a kind mode t (Some q) d free tape e =
    subst (IsOverlappingOn kind (nfa_of a) t q) (sym (pairs_is a kind mode t q (suc (length t.bytes)) e))
    (walked_right kind (nfa_of a) t q d.range (start_below a mode q d e) free tape)

overlaps_over :
    (a : Automaton) (kind : MatchKind) (way : Direction) (input : Input) (pairs : List Pair)
    → IsChecked a → KeepsCycles (nfa_of a) → IsInput input → input.start ≤ input.end
    → SpanReports way a kind input pairs → OverlapsOver way (engine_of a kind) input pairs
overlaps_over a kind way input pairs d free i l e =
    let t : Tape = tape_of way input.haystack input.start input.end in
    let tape : IsTape t = tape_units way input.haystack input.start input.end i.0 l i.1 in
    subst (OverlapsOver way (engine_of a kind) input) (sym e)
    (subst (λ (q : Option ℕ). IsOverlappingFrom (engine_of a kind) t q
    (pairs_reported a kind input.anchored t (suc (length t.bytes))))
    (sym (first_is a kind input.anchored))
    (overlaps_from a kind input.anchored t (mode_start a input.anchored) d free tape refl))

overlaps_once :
    (a : Automaton) (kind : MatchKind) (t : Tape) (o : Option ℕ) (x y : List Pair)
    → IsOverlappingFrom (engine_of a kind) t o x → IsOverlappingFrom (engine_of a kind) t o y → x ≡ y
overlaps_once a kind t None x y h k = h ∙ sym k
overlaps_once a kind t (Some q) x y h k = walk_one kind (nfa_of a) t q x y h k

-- What is reported over the span may be replaced by anything that follows from it.
turn_walks :
    (T U : Input → List Pair → Type 0) (S : Type 0) (way : Direction) (input : Input) (found : List Pair)
    → ((pairs : List Pair) → input.start ≤ input.end → T input pairs → U input pairs)
    → Walks T S way input found → Walks U S way input found
turn_walks T U S way input found turn (WalksNoSpan l e) = WalksNoSpan l e
turn_walks T U S way input found turn (WalksSpan l pairs reported unsplit) =
    WalksSpan l pairs (turn pairs l reported) unsplit

unsplit_once :
    (S : Type 0) (way : Direction) (input : Input) (x y a b : List Pair)
    → x ≡ y → AreUnsplit S way input x a → AreUnsplit S way input y b → a ≡ b
unsplit_once S way input x y a b e (SkipsSplit s h) (SkipsSplit s' k) =
    h ∙ (ap (λ (ps : List Pair). without_split input.haystack (with_offsets way input ps)) e ∙ sym k)
unsplit_once S way input x y a b e (SkipsSplit s h) (KeepsSplit n k) = absurd (n s)
unsplit_once S way input x y a b e (KeepsSplit n h) (SkipsSplit s k) = absurd (n s)
unsplit_once S way input x y a b e (KeepsSplit n h) (KeepsSplit n' k) = h ∙ (ap (with_offsets way input) e ∙ sym k)

pub walks_once :
    (T : Input → List Pair → Type 0) (S : Type 0) (way : Direction) (input : Input) (a b : List Pair)
    → ((x y : List Pair) → T input x → T input y → x ≡ y)
    → Walks T S way input a → Walks T S way input b → a ≡ b
walks_once T S way input a b once (WalksNoSpan l e) (WalksNoSpan l' e') = e ∙ sym e'
walks_once T S way input a b once (WalksNoSpan l e) (WalksSpan l' y t u) = absurd (omega (arith, l, l'))
walks_once T S way input a b once (WalksSpan l x t u) (WalksNoSpan l' e) = absurd (omega (arith, l, l'))
walks_once T S way input a b once (WalksSpan l x t u) (WalksSpan l' y t' u') =
    unsplit_once S way input x y a b (once x y t t') u u'

pub walks_one : WalksAreOne
walks_one way a kind input first second h k =
    walks_once (SpanReports way a kind) (IsSkipping (engine_of a kind)) way input first second (λ x y e f. e ∙ sym f) h
    k

pub walk_right : (a : Automaton) → IsChecked a → WalkIsRight a
walk_right a d way kind input found free i h =
    turn_walks (SpanReports way a kind) (OverlapsOver way (engine_of a kind)) (IsSkipping (engine_of a kind)) way input
    found
    (λ pairs l e. overlaps_over a kind way input pairs d free i l e) h

pub overlapping_reported : (a : Automaton) → IsChecked a → OverlappingIsReported a
overlapping_reported a d way kind input found free i h =
    turn_walks (OverlapsOver way (engine_of a kind)) (SpanReports way a kind) (IsSkipping (engine_of a kind)) way input
    found
    (λ pairs l o.
    overlaps_once a kind (tape_of way input.haystack input.start input.end)
    (first_state (engine_of a kind) input.anchored) pairs
    (pairs_reported a kind input.anchored (tape_of way input.haystack input.start input.end)
    (suc (length (tape_of way input.haystack input.start input.end).bytes))) o
    (overlaps_over a kind way input _ d free i l refl)) h

-- Two flags decide whether offsets inside a character are skipped.
pub skips_or_not :
    (a : Automaton) (kind : MatchKind) (utf8 empty : Bool)
    → utf8 ≡ a.flags.utf8 → (IsTrue empty ↔ HasEmpty a) → IsSkipping (engine_of a kind)
    ⊎ (IsSkipping (engine_of a kind) → ⊥)
skips_or_not a kind false empty u e = inr (λ (s : IsSkipping (engine_of a kind)). absurd (cc))
skips_or_not a kind true false u e =
    inr (λ (s : IsSkipping (engine_of a kind)). let f : IsTrue false = e.1 s.1 in absurd (cc))
skips_or_not a kind true true u e = inl (sym u, e.0 refl)

unsplit_all :
    (S : Type 0) (way : Direction) (input : Input) (pairs : List Pair)
    → S ⊎ (S → ⊥) → (found : List Pair) × AreUnsplit S way input pairs found
unsplit_all S way input pairs (inl s) = (without_split input.haystack (with_offsets way input pairs), SkipsSplit s refl)
unsplit_all S way input pairs (inr n) = (with_offsets way input pairs, KeepsSplit n refl)

pub walks_reported :
    (a : Automaton) (utf8 empty : Bool) → utf8 ≡ a.flags.utf8 → (IsTrue empty ↔ HasEmpty a) → WalksAreReported a
walks_reported a utf8 empty u e way kind input = go (done_or_open input.start input.end)
  where
    done_or_open : (s t : ℕ) → (t < s) ⊎ (s ≤ t)
    done_or_open s t = grind arith

    go :
        (input.end < input.start) ⊎ (input.start ≤ input.end) → (found : List Pair) × AreReported way a kind input found
    go (inl l) = ([], WalksNoSpan l refl)
    go (inr l) =
        let t : Tape = tape_of way input.haystack input.start input.end in
        let all : List Pair = pairs_reported a kind input.anchored t (suc (length t.bytes)) in
        let f = unsplit_all (IsSkipping (engine_of a kind)) way input all (skips_or_not a kind utf8 empty u e) in
        (f.0, WalksSpan l all refl f.1)
