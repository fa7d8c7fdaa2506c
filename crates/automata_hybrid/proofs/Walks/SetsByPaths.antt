-- A walk of `MatchKind::All` reports the patterns of the accepting paths.
use Rattle.std.proofs.Common.{ℕ, ◌≡◌, ◌<◌, ◌≤◌, ◌⊎◌, inl, inr, Bool, true, false, List, [], ◌∷◌, length, Some, refl}
use Rattle.std.proofs.Common.{sym, ap, subst}
use Rattle.automata_hybrid.proofs.Words.{Forward, HasPattern, In, Input, IsInput, Machine, match_kind_of, MatchKind}
use Rattle.automata_hybrid.proofs.Words.{members, Pair, WalkLiesWithin, WalksAreReported, ◌↔◌}
use Rattle.automata_base.specs.Answers.Answers.{IsGivenPattern, IsInSet, IsReportedPattern, first_alone}
use Rattle.automata_base.specs.Paths.Starts.{mode_start}
use Rattle.automata_determinize.specs.Laws.Walks.{AllPairsAreReported, AreReported, InPairs}
use Rattle.automata_base.specs.declared.util.search.MatchKind.TheVariants.{All as KindAll}
use Rattle.automata_hybrid.specs.Walks.SetsByPaths.{MatchesIn, SetsHaveMatching}
use Rattle.automata_hybrid.specs.Walks.Contracts.{JoinsReported}
use Rattle.automata_hybrid.proofs.Machines.Powersets.{walked_reported}

pair_with :
    (p : ℕ) (pairs : List Pair) → HasPattern p pairs → (at : ℕ) × InPairs (record { pattern = p; place = at }) pairs
pair_with p [] h = elim h [ ]
pair_with p (pair ∷ pairs) (inl e) = (pair.place, inl (ap (λ v. record { pattern = v; place = pair.place }) e))
pair_with p (pair ∷ pairs) (inr h) = let rest = pair_with p pairs h in (rest.0, inr rest.1)

has_pair : (p at : ℕ) (pairs : List Pair) → InPairs (record { pattern = p; place = at }) pairs → HasPattern p pairs
has_pair p at [] h = elim h [ ]
has_pair p at (pair ∷ pairs) (inl e) = inl (ap (λ (v : Pair). v.pattern) e)
has_pair p at (pair ∷ pairs) (inr h) = inr (has_pair p at pairs h)

all_pairs : (earliest : Bool) (pairs : List Pair) → earliest ≡ false → first_alone earliest pairs ≡ pairs
all_pairs earliest [] e = refl
all_pairs false (pair ∷ pairs) e = refl
all_pairs true (pair ∷ pairs) e = absurd (cc)

module _ (m : Machine) (all : AllPairsAreReported m.nfa) (reported : WalksAreReported m.nfa)
    (within : WalkLiesWithin m.nfa) (input : Input)
    (start : ℕ) (starts : mode_start m.nfa input.anchored ≡ Some start) (bytes : IsInput input)
    (undone : input.start ≤ input.end) where
  own : (p : ℕ) → MatchesIn m input start p → p < length m.nfa.start_pattern
  own p matching =
      let at = matching.at in
      let walk = reported Forward KindAll input in
      let inside : InPairs (record { pattern = p; place = at }) walk.0 =
      (all Forward input walk.0 start bytes undone starts walk.1 (record { pattern = p; place = at })).1
      matching.accepted in
      (within Forward KindAll input walk.0 (record { pattern = p; place = at }) bytes.1 walk.1 inside).0

  module _ (pairs : List Pair) (walked : AreReported Forward m.nfa KindAll input pairs) where
    matches : (p : ℕ) → HasPattern p pairs → MatchesIn m input start p
    matches p h =
        let inside = pair_with p pairs h in
        record {
          at = inside.0;
          accepted =
              (all Forward input pairs start bytes undone starts walked (record { pattern = p; place = inside.0 })).0
              inside.1;
        }

    has_all : (p : ℕ) → MatchesIn m input start p → HasPattern p pairs
    has_all p matching =
        has_pair p matching.at pairs
        ((all Forward input pairs start bytes undone starts walked (record { pattern = p; place = matching.at })).1
        matching.accepted)

  sets :
      (old new : List Bool) → match_kind_of m.config ≡ KindAll → input.earliest ≡ false → JoinsReported m input old new
      → (p : ℕ) → In p (members new) ↔ (In p (members old) ⊎ ((p < length old) × MatchesIn m input start p))
  sets old new kind full found p =
      let walked : AreReported Forward m.nfa KindAll input found.pairs =
      subst (λ (k : MatchKind). AreReported Forward m.nfa k input found.pairs) kind
      (walked_reported Forward m input found.pairs found.reports) in
      let same : first_alone input.earliest found.pairs ≡ found.pairs = all_pairs input.earliest found.pairs full in (
        λ h. forth found.pairs walked same ((found.members p).0 h),
        λ h. (found.members p).1 (back found.pairs walked same h),
      ) where
        forth :
            (pairs : List Pair) → AreReported Forward m.nfa KindAll input pairs
            → first_alone input.earliest pairs ≡ pairs
            → IsInSet (length old) (members old) (first_alone input.earliest pairs) p
            → In p (members old) ⊎ ((p < length old) × MatchesIn m input start p)
        forth pairs walked same (IsGivenPattern h) = inl h
        forth pairs walked same (IsReportedPattern l h) = inr (l, matches pairs walked p (subst (HasPattern p) same h))

        back :
            (pairs : List Pair) → AreReported Forward m.nfa KindAll input pairs
            → first_alone input.earliest pairs ≡ pairs
            → (In p (members old) ⊎ ((p < length old) × MatchesIn m input start p))
            → IsInSet (length old) (members old) (first_alone input.earliest pairs) p
        back pairs walked same (inl h) = IsGivenPattern h
        back pairs walked same (inr (l, h)) =
            IsReportedPattern l (subst (HasPattern p) (sym same) (has_all pairs walked p h))

pub sets_have_matching :
    (m : Machine) → AllPairsAreReported m.nfa → WalksAreReported m.nfa → WalkLiesWithin m.nfa → SetsHaveMatching m
sets_have_matching m all reported within = record {
  sets =
      λ input start old new kind starts full bytes undone which. sets m all reported within input start starts bytes
      undone old new kind full which;
  own =
      λ input start p starts bytes undone matching. own m all reported within input start starts bytes undone p
      matching;
}
