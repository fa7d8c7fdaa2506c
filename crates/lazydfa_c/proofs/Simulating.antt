-- What simulations find, as it is reported.
use Rattle.std.proofs.Common.{List, ℕ, ◌≡◌, ◌<◌, ◌∙◌, ap, inl, inr, Bool, false, true, Option, None, Some, length}
use Rattle.std.proofs.Common.{option_map, refl, sym}
use Rattle.regex_hir.specs.Find as kit
use Rattle.regex_hir.specs.Find.{find, find_str}
use Rattle.regex_hir.proofs.FindLemmas.{first_between_past}
use Rattle.regex_hir.specs.Re.{Re}
use Rattle.automata_base.specs.Haystacks.Matches.{HalfMatch, Match}
use Rattle.meaning.specs.Patterns.{end_of, find_any, numbered_match}
use Rattle.regex_automata.specs.Promises.{Input}
use Rattle.lazydfa_c.specs.Calls.{FindsEnd, FindsNoStart, Narrowed, NarrowedNext, ReportsMatch, SearchesNarrowed, Tests}
use Rattle.lazydfa_c.specs.Words.{IsMarked, MarksAscii, MarksOther, StaysMarked, ascii_mark, other_mark}
use Rattle.lazydfa_c.specs.declared.input.Found.{Found}
use Rattle.lazydfa_c.specs.declared.input.FoundHalf.{FoundHalf}
use Rattle.lazydfa_c.specs.declared.iterate.Iteration.{Iteration}
use Rattle.lazydfa_c.specs.declared.object.Searcher.{Searcher}
use Rattle.lazydfa_c.specs.declared.status.Status.{Status}

-- the end of a match, with its pattern
abbrev pub half_of : Match → HalfMatch
half_of m = record { pattern = m.pattern; offset = m.end }

-- the end of the match that is meant is the end that is meant
pub ends :
    (res : List Re) (hay : List ℕ) (o : Option kit.Match)
    → option_map half_of (option_map (numbered_match res hay) o) ≡ option_map (end_of res hay) o
ends res hay None = refl
ends res hay (Some m) = refl

-- no match begins after the end of the haystack
nothing_past :
    (utf8 : Bool) (res : List Re) (hay : List ℕ) (start : ℕ) → length hay < start → find_any utf8 res hay start ≡ None
unfolding find find_str
nothing_past true res hay start past = first_between_past _ start (length hay) past
nothing_past false res hay start past = first_between_past _ start (length hay) past

pub none_past :
    (utf8 : Bool) (res : List Re) (hay : List ℕ) (start : ℕ) → length hay < start
    → None ≡ option_map (numbered_match res hay) (find_any utf8 res hay start)
none_past utf8 res hay start past =
    sym (ap (option_map (numbered_match res hay)) (nothing_past utf8 res hay start past))

-- a search by the DFAs keeps the regex
pub match_keeps :
    (input : Input) (s t : Searcher) (status : Status) (found : Found) → Narrowed (ReportsMatch found) input s t status
    → t.shared ≡ s.shared
match_keeps input s t status found (SearchesNarrowed narrowed n r) = r.same
match_keeps input s t status found (FindsNoStart n same none ends) = ap (λ (v : Searcher). v.shared) same

pub end_keeps :
    (input : Input) (s t : Searcher) (status : Status) (found : FoundHalf) → Narrowed (FindsEnd found) input s t status
    → t.shared ≡ s.shared
end_keeps input s t status found (SearchesNarrowed narrowed n r) = r.same
end_keeps input s t status found (FindsNoStart n same none ends) = ap (λ (v : Searcher). v.shared) same

pub test_keeps :
    (input : Input) (s t : Searcher) (status : Status) → Narrowed Tests input s t status → t.shared ≡ s.shared
test_keeps input s t status (SearchesNarrowed narrowed n r) = r.same
test_keeps input s t status (FindsNoStart n same none ends) = ap (λ (v : Searcher). v.shared) same

pub next_keeps :
    (input : Input) (s t : Searcher) (status : Status) (found : Found) (old new : Iteration)
    → NarrowedNext found old new input s t status → t.shared ≡ s.shared
next_keeps input s t status found old new (SearchesNarrowed narrowed n (inl r)) = r.same
next_keeps input s t status found old new (SearchesNarrowed narrowed n (inr r)) = r.same
next_keeps input s t status found old new (FindsNoStart n same none ends) = ap (λ (v : Searcher). v.shared) same

-- an iteration that is not marked as that of an ASCII haystack is marked as that of another
pub marks_other :
    (hay : List ℕ) (old new : ℕ) → IsMarked hay old new → (new ≡ ascii_mark → ⊥) → new ≡ other_mark
marks_other hay old new (StaysMarked (inl is) same) not = absurd (not (same ∙ is))
marks_other hay old new (StaysMarked (inr is) same) not = same ∙ is
marks_other hay old new (MarksAscii ascii is) not = absurd (not is)
marks_other hay old new (MarksOther other is) not = is
