use Rattle.std.proofs.Common.{ℕ, ◌≡◌, ◌≤◌, Bool, true, false, cond, List, [], ◌∷◌, None, Some, length, ap, sym, ◌∙◌}
use Rattle.std.proofs.Common.{subst}
use Rattle.std.proofs.lemmas.Option.{same_Some}
use Rattle.regex_hir.specs.Find as kit
use Rattle.regex_hir.specs.Find.{find, find_str}
use Rattle.regex_hir.specs.Matches.{Matches}
use Rattle.regex_hir.specs.Re.{Re, Trace, accept, attempt}
use Rattle.regex_hir.specs.Text.{is_boundary}
use Rattle.regex_hir.proofs.AttemptLemmas.{attempt_sound, cond_some}
use Rattle.regex_hir.proofs.FindLemmas.{IsFirst-of_first_between}
use Rattle.meaning.specs.Patterns.{find_any}
use Rattle.patterns.proofs.laws.found_is_match.Goals as goal

-- the end of an attempt is the end of a match
ends_match :
    (re : Re) (hay : List ℕ) (i : ℕ) (t : Trace) → attempt hay re accept i ≡ Some t → Matches hay re i t.end
ends_match re hay i t e =
    let c = attempt_sound hay re accept i t e in
    let same : c.at ≡ t.end = ap (λ (u : Trace). u.end) (same_Some _ _ c.gave) ∙ sym c.same_end in
    subst (Matches hay re i) same c.leads

found :
    (utf8 : Bool) (re : Re) (hay : List ℕ) (start : ℕ) (m : kit.Match) → find_any utf8 (re ∷ []) hay start ≡ Some m
    → (m.start ≤ length hay) × Matches hay re m.start m.trace.end
unfolding find find_str
found true re hay start m e =
    let at = λ (i : ℕ). cond (is_boundary hay i) (attempt hay re accept i) None in
    let first = IsFirst-of_first_between at start (length hay) m e in
    let here = cond_some (is_boundary hay m.start) (attempt hay re accept m.start) m.trace first.here in
    (first.to, ends_match re hay m.start m.trace here.1)
found false re hay start m e =
    let first = IsFirst-of_first_between (attempt hay re accept) start (length hay) m e in
    (first.to, ends_match re hay m.start m.trace first.here)

pub returns : goal.returns
returns c = found
