-- The groups of a match, as captures hold them, are written as C reads them; and names of groups.
use Rattle.std.proofs.Common.{ℕ, ◌≡◌, ◌+◌, ◌<◌, ◌≤◌, List, [], ◌∷◌, ◌++◌, ap, arith, length, map, refl, subst, sym}
use Rattle.std.proofs.Common.{◌∙◌}
use Rattle.std.specs.Prelude.{Option, IfSome, Ok, Err, Result, if◌then◌else◌, false, nat_le}
use Rattle.std.specs.Prelude.{slice_index_or, true}
use Rattle.std.specs.List.{range_with_len}
use Rattle.std.proofs.Math.ListN.{set}
use Rattle.std.proofs.lemmas.List.Elements.{All-map}
use Rattle.std.proofs.lemmas.List.FromFn.{length-map-range_with_len, map-range_with_len_more}
use Rattle.std.proofs.lemmas.Simd.{map-map}
use Rattle.regex_hir.specs.Find as kit
use Rattle.regex_hir.specs.Re.{Re}
use Rattle.automata_base.specs.declared.util.search.Span.{Span}
use Rattle.meaning.specs.Patterns.{numbered_match}
use Rattle.regex_automata.specs.Promises.{Match}
use Rattle.meta.specs.Captures.{HoldGroups, LieInMatch, span_in}
use Rattle.meta.specs.Groups.{FindAllGroups, IsPreferredMatch, group_span}
use Rattle.meta.specs.Names.{group_names}
use Rattle.meta.specs.Slots.{LiesInMatch}
use Rattle.meta.specs.declared.captures.Captures.{Captures}
use Rattle.meta.specs.declared.program.Programs.{Programs}
use Rattle.lazydfa_c.specs.Caches.{written_over}
use Rattle.lazydfa_c.specs.Groups.{AreGroupsOf, IsIndexTold, LooksUp, groups_at, names_or_status, span_as_read}
use Rattle.lazydfa_c.specs.declared.groups.GroupSpan.{GroupSpan}
use Rattle.lazydfa_c.specs.declared.status.Status.{Status}
use Rattle.lazydfa_c.proofs.Written.{puts, skips}

-- the spans of the first n groups, as captures hold them
abbrev pub spans_in : Captures → (n : ℕ) → List (Option Span)
spans_in captures n = map (span_in captures) (range_with_len 0 n)

-- they are the groups of a match
pub are_groups :
    (programs : Programs) (haystack : List ℕ) (m : Match) (captures : Captures) (n : ℕ)
    → n ≡ length (group_names programs m.pattern) → 0 < length (group_names programs m.pattern)
    → ((res : List Re) (k : kit.Match) → FindAllGroups programs.list.items res → IsPreferredMatch res haystack k
    → m ≡ numbered_match res haystack k → HoldGroups k captures)
    → LieInMatch m captures → AreGroupsOf programs haystack m (spans_in captures n)
are_groups programs haystack m captures n counted exists groups within = record {
  exists = exists;
  count = length-map-range_with_len (span_in captures) 0 n ∙ counted;
  groups = λ res k find preferred is.
      let held = groups res k find preferred is in
      subst (λ (j : ℕ). spans_in captures n ≡ map (group_span k) (range_with_len 0 j)) counted
      (λ i. map (λ g. held g i) (range_with_len 0 n));
  within = All-map (λ span. IfSome span (LiesInMatch m)) (span_in captures) (range_with_len 0 n)
      (λ i d inside. within (slice_index_or (range_with_len 0 n) i d));
}

-- writing one more span, if there is room
abbrev read_in : Captures → ℕ → GroupSpan
read_in captures group = span_as_read (span_in captures group)

abbrev pub reads_in : Captures → (n : ℕ) → List GroupSpan
reads_in captures n = map (read_in captures) (range_with_len 0 n)

one_more : (captures : Captures) (n : ℕ) → reads_in captures (n + 1) ≡ reads_in captures n ++ read_in captures n ∷ []
one_more captures n =
    let same : 0 + n ≡ n = omega arith in map-range_with_len_more (read_in captures) 0 n n same

pub writes_next :
    (captures : Captures) (n : ℕ) (was old new : List GroupSpan) → old ≡ written_over (reads_in captures n) was
    → n < length old → new ≡ set old n (read_in captures n)
    → new ≡ written_over (reads_in captures (n + 1)) was
writes_next captures n was old new written room is =
    subst (λ (xs : List GroupSpan). new ≡ written_over xs was) (sym (one_more captures n))
    (puts (reads_in captures n) was old new n (read_in captures n)
    (sym (length-map-range_with_len (read_in captures) 0 n)) written room is)

pub passes_next :
    (captures : Captures) (n : ℕ) (was old new : List GroupSpan) → old ≡ written_over (reads_in captures n) was
    → length old ≤ n → new ≡ old → new ≡ written_over (reads_in captures (n + 1)) was
passes_next captures n was old new written full is =
    subst (λ (xs : List GroupSpan). new ≡ written_over xs was) (sym (one_more captures n))
    (skips (reads_in captures n) was old new n (read_in captures n)
    (sym (length-map-range_with_len (read_in captures) 0 n)) written full is)

-- the spans as C reads them
pub as_read :
    (captures : Captures) (n : ℕ) → map span_as_read (spans_in captures n) ≡ reads_in captures n
as_read captures n = map-map span_as_read (span_in captures) (range_with_len 0 n)

-- names that are there
pub has_names :
    (names : List (Option (List ℕ))) → 0 < length names → names_or_status names ≡ Ok names
has_names [] some = absurd (omega arith)
has_names (name ∷ names) some = refl

pub no_names : (names : List (Option (List ℕ))) → length names ≡ 0 → names ≡ []
no_names [] none = refl
no_names (name ∷ names) none = absurd (omega arith)

-- the names of the groups of a number that is an ID, and of one that is not
pub names_at :
    (programs : Programs) (number : ℕ) → nat_le number 2147483646 ≡ true
    → groups_at programs number ≡ group_names programs number
names_at programs number is = ap (λ b. if b then group_names programs number else []) is

pub none_at :
    (programs : Programs) (number : ℕ) → nat_le number 2147483646 ≡ false → groups_at programs number ≡ []
none_at programs number is = ap (λ b. if b then group_names programs number else []) is

-- the number of a name that is looked up is written
pub index_told :
    (name : List ℕ) (written : ℕ) (all : Result (List (Option (List ℕ))) Status) (names : List (Option (List ℕ)))
    (status : Status) → all ≡ Ok names → LooksUp name written names status → IsIndexTold name written all status
index_told name written all names status is looked =
    subst (λ (r : Result (List (Option (List ℕ))) Status). IsIndexTold name written r status) (sym is) looked

-- the second value of a pair, if there is a pair
abbrev pub second_of : {A B E : Type 0} → B → Result (A × B) E → B
second_of b (Ok pair) = pair.1
second_of b (Err e) = b
