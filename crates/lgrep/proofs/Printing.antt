-- What is printed, one match and one line after another.
use Rattle.std.proofs.Common.{◌≡◌, ◌∙◌, ◌+◌, ◌<◌, ℕ, Bool, false, List, [], ◌∷◌, ◌++◌, Option, Some, None, refl, sym}
use Rattle.std.proofs.Common.{ap, subst, map, take, get_or, length, add-one, arith}
use Rattle.std.specs.Prelude.{OnOk, Result, Ok, Err, slice_range}
use Rattle.std.proofs.lemmas.List.{append_assoc, append-nil, map-append}
use Rattle.std.proofs.Math.Seq.{take-suc}
use Rattle.regex_hir.specs.Re.{Re}
use Rattle.automata_base.specs.Nfas.Nodes.{Automaton}
use Rattle.regex_automata.specs.Promises.{LeftmostFirst, Machine, Match, match_kind_of}
use Rattle.regex_automata.specs.declared.hybrid.regex.Regex.{Regex}
use Rattle.meaning.specs.Patterns.{is_found, left_any}
use Rattle.meta.specs.Groups.{FindAllGroups}
use Rattle.meta.specs.declared.program.Programs.{Programs}
use Rattle.patterns.specs.Iteration.{IsNextMeant}
use Rattle.patterns.specs.Patterns.{IsFor, IsJoinedNfa, IsRegexOf}
use Rattle.patterns.specs.Sets.{IsDfaOf}
use Rattle.patterns.specs.declared.pattern.Pattern.{Pattern}
use Rattle.patterns.specs.declared.set.RegexSet.{RegexSet}
use Rattle.lgrep.specs.Lines.{IsSearcherFor, bytewise, count_after, found_line, one_more}
use Rattle.lgrep.specs.Greps.{IsGrepFor, IsReplacerFor, IsViewFor, KeepsReplacer, KeepsView}
use Rattle.lgrep.specs.Replaced.{expansion, replaced_line}
use Rattle.lgrep.specs.Shown.{found_shown, line_shown, lines_shown, part_shown, parts_shown, shown_after}
use Rattle.lgrep.specs.Shown.{replacements_shown, which_shown}
use Rattle.lgrep.specs.declared.position.Position.{Position}
use Rattle.lgrep.specs.declared.replace.Replacer.{Replacer}
use Rattle.lgrep.specs.declared.search.Grep.{Grep}
use Rattle.lgrep.specs.declared.lines.Line.{Line}
use Rattle.lgrep.specs.declared.lines.LineSearcher.{LineSearcher}
use Rattle.lgrep.specs.declared.sets.SetSearcher.{SetSearcher}
use Rattle.lgrep.specs.declared.show.Frame.{Frame}
use Rattle.lgrep.specs.declared.show.How.{How}
use Rattle.lgrep.specs.declared.show.How.TheVariants as how
use Rattle.lgrep.specs.declared.show.Show.{Show}
use Rattle.lgrep.specs.declared.spans.SpanSearcher.{SpanSearcher}
use Rattle.lgrep.specs.declared.template.Replacement.{Replacement}
use Rattle.lgrep.specs.declared.view.View.{View}
use Rattle.lgrep.specs.declared.view.View.TheVariants as view
use Rattle.lgrep.proofs.Numbers.{counted_push}

-- any bytes can be searched
pub any_bytes : (case_insensitive : Bool) (hay : List ℕ) → IsFor (bytewise case_insensitive) hay
any_bytes case_insensitive hay = (λ e. absurd (cc), λ e. absurd (cc))

module _ (regex : Regex) (prefix : List ℕ) (frame : Frame) (line old : List ℕ) where
  -- what is printed so far, with what the remaining matches will add, is what all matches add
  abbrev pub Prints : (was : List ℕ) → (last : Option ℕ) → Type 0
  Prints was last =
      (case_insensitive : Bool) (res : List Re) → IsRegexOf (bytewise case_insensitive) res regex
      → was ++ parts_shown prefix frame line (left_any false res line last) ≡ old
      ++ parts_shown prefix frame line (left_any false res line None)

  module _ (own : Regex) (hay : List ℕ) (same : own ≡ regex) (same_line : hay ≡ line) (was : List ℕ) (last : Option ℕ)
      (so : Prints was last) where
    next : (o : Option Match) → IsNextMeant own hay last o → IsNextMeant regex line last o
    next o h = subst (λ (r : Regex). IsNextMeant r line last o) same (subst (λ v. IsNextMeant own v last o) same_line h)

    pub match_turn :
        (is : List ℕ) (m : Match) (last' : Option ℕ) → IsNextMeant own hay last (Some m) → last' ≡ Some m.end →
        is ≡ was ++ part_shown prefix frame m.start (slice_range line m.start m.end) → Prints is last'
    match_turn is m last' h end more = λ case_insensitive res of.
        ap (λ v. is ++ parts_shown prefix frame line (left_any false res line v)) end
        ∙ ap (λ v. v ++ parts_shown prefix frame line (left_any false res line (Some m.end))) more
        ∙ append_assoc was (part_shown prefix frame m.start (slice_range line m.start m.end))
        (parts_shown prefix frame line (left_any false res line (Some m.end)))
        ∙ ap (λ ms. was ++ parts_shown prefix frame line ms)
        (sym (next (Some m) h (bytewise case_insensitive) res of (any_bytes case_insensitive line)))
        ∙ so case_insensitive res of

    pub match_end : IsNextMeant own hay last None → (case_insensitive : Bool) (res : List Re) →
        IsRegexOf (bytewise case_insensitive) res regex
        → was ≡ old ++ parts_shown prefix frame line (left_any false res line None)
    match_end h case_insensitive res of =
        sym (ap (λ ms. was ++ parts_shown prefix frame line ms)
        (next None h (bytewise case_insensitive) res of (any_bytes case_insensitive line))
        ∙ append-nil was)
        ∙ so case_insensitive res of

-- one more line
lines_push : (show : Show) (res : List Re) (found : List (Position × List ℕ)) (line : Position × List ℕ) →
    lines_shown show res (found ++ line ∷ []) ≡ lines_shown show res found ++ found_shown show res line
lines_push show res [] line = append-nil (found_shown show res line)
lines_push show res (x ∷ found) line =
    ap (λ v. found_shown show res x ++ v) (lines_push show res found line)
    ∙ sym (append_assoc (found_shown show res x) (lines_shown show res found) (found_shown show res line))

module _ (lines : List Line) (i : ℕ) (d : Line) (inside : i < length lines) where
  grown : map found_line (take (i + 1) lines) ≡ map found_line (take i lines) ++ found_line (get_or lines i d) ∷ []
  grown =
      ap (λ v. map found_line (take v lines)) (add-one i) ∙ ap (map found_line) (take-suc lines i d inside)
      ∙ map-append found_line (take i lines) (get_or lines i d ∷ [])

  pub line_next : (now show : Show) (res : List Re) (old was is : List ℕ) → now ≡ show →
      was ≡ old ++ lines_shown show res (map found_line (take i lines)) →
      is ≡ was ++ found_shown now res (found_line (get_or lines i d)) →
      is ≡ old ++ lines_shown show res (map found_line (take (i + 1) lines))
  line_next now show res old was is same so more =
      more ∙ ap (λ v. was ++ found_shown v res (found_line (get_or lines i d))) same
      ∙ ap (λ v. v ++ found_shown show res (found_line (get_or lines i d))) so
      ∙ append_assoc old (lines_shown show res (map found_line (take i lines)))
      (found_shown show res (found_line (get_or lines i d)))
      ∙ ap (λ v. old ++ v)
      (sym (ap (lines_shown show res) grown
      ∙ lines_push show res (map found_line (take i lines)) (found_line (get_or lines i d))))

  count_more : (n was is : ℕ) → was ≡ count_after n (map found_line (take i lines)) → is ≡ one_more was →
      is ≡ count_after n (map found_line (take (i + 1) lines))
  count_more n was is so more =
      more ∙ ap one_more so
      ∙ sym (ap (count_after n) grown ∙ counted_push n (map found_line (take i lines)) (found_line (get_or lines i d)))

pub count_next : (lines : List Line) (i : ℕ) → i < length lines → (n was is : ℕ) →
    was ≡ count_after n (map found_line (take i lines)) → is ≡ one_more was
    → is ≡ count_after n (map found_line (take (i + 1) lines))
count_next [] i inside n was is so more = absurd (omega (arith, inside))
count_next (line ∷ lines) i inside n was is so more = count_more (line ∷ lines) i line inside n was is so more

-- a replacer that keeps its patterns
replacer_kept : (case_insensitive : Bool) (res : List Re) (old new : Replacer) → KeepsReplacer old new →
    IsReplacerFor case_insensitive res old → IsReplacerFor case_insensitive res new
replacer_kept case_insensitive res old new same is = (
  subst (λ (p : Pattern). IsRegexOf (bytewise case_insensitive) res p.regex) (sym same.0) is.0,
  subst (λ (p : Programs). FindAllGroups p.list.items res) (sym same.1) is.1,
)

-- a replacer keeps its patterns over one search after another
replacer_next : (a b c : Replacer) → KeepsReplacer a b → KeepsReplacer b c → KeepsReplacer a c
replacer_next a b c first second = (second.0 ∙ first.0, second.1 ∙ first.1)

-- a searcher that keeps its patterns
pub view_kept : (case_insensitive : Bool) (asked : How) (res : List Re) (old new : View) → KeepsView old new →
    IsViewFor case_insensitive asked res old → IsViewFor case_insensitive asked res new
view_kept case_insensitive how.Whole res view.Whole view.Whole same is = tt
view_kept case_insensitive how.Matches res (view.Matches old) (view.Matches new) same is =
    subst (λ (p : Pattern). IsRegexOf (bytewise case_insensitive) res p.regex) (sym same) is
view_kept case_insensitive how.Which res (view.Which old) (view.Which new) same is =
    subst (λ (s : RegexSet). IsDfaOf (bytewise case_insensitive) res s.dfa) (sym same) is
view_kept case_insensitive how.Replaced res (view.Replaced old) (view.Replaced new) same is =
    replacer_kept case_insensitive res old new same is
view_kept case_insensitive how.Replacements res (view.Replacements old) (view.Replacements new) same is =
    replacer_kept case_insensitive res old new same is
view_kept case_insensitive how.Whole res view.Whole new same is = absurd same
view_kept case_insensitive how.Matches res (view.Matches old) new same is = absurd same
view_kept case_insensitive how.Which res (view.Which old) new same is = absurd same
view_kept case_insensitive how.Replaced res (view.Replaced old) new same is = absurd same
view_kept case_insensitive how.Replacements res (view.Replacements old) new same is = absurd same
view_kept case_insensitive asked res old new same is = absurd is

-- a searcher that has not changed
pub view_same : (old new : View) → new ≡ old → KeepsView old new
view_same view.Whole new same = subst (λ v. KeepsView view.Whole v) (sym same) tt
view_same (view.Matches s) new same = subst (λ v. KeepsView (view.Matches s) v) (sym same) refl
view_same (view.Which s) new same = subst (λ v. KeepsView (view.Which s) v) (sym same) refl
view_same (view.Replaced r) new same = subst (λ v. KeepsView (view.Replaced r) v) (sym same) (refl, refl)
view_same (view.Replacements r) new same = subst (λ v. KeepsView (view.Replacements r) v) (sym same) (refl, refl)

-- a searcher keeps its patterns over one search after another
pub view_next : (a b c : View) → KeepsView a b → KeepsView b c → KeepsView a c
view_next view.Whole view.Whole c first second = second
view_next (view.Matches a) (view.Matches b) (view.Matches c) first second = second ∙ first
view_next (view.Which a) (view.Which b) (view.Which c) first second = second ∙ first
view_next (view.Replaced a) (view.Replaced b) (view.Replaced c) first second = replacer_next a b c first second
view_next (view.Replacements a) (view.Replacements b) (view.Replacements c) first second =
    replacer_next a b c first second
view_next (view.Matches a) (view.Matches b) c first second = absurd second
view_next (view.Which a) (view.Which b) c first second = absurd second
view_next (view.Replaced a) (view.Replaced b) c first second = absurd second
view_next (view.Replacements a) (view.Replacements b) c first second = absurd second
view_next a b c first second = absurd first

-- a grep whose parts are the same
pub grep_kept :
    (case_insensitive : Bool) (res : List Re) (old new : Grep) → new.lines.dfa ≡ old.lines.dfa → new.show ≡ old.show →
    KeepsView old.view new.view → IsGrepFor case_insensitive res old → IsGrepFor case_insensitive res new
grep_kept case_insensitive res old new dfa show kept is = (
  subst (λ (m : Machine). IsSearcherFor case_insensitive res m) (sym dfa) is.0,
  subst (λ (v : Show). IsViewFor case_insensitive v.flags.how res new.view) (sym show)
      (view_kept case_insensitive old.show.flags.how res old.view new.view kept is.1),
)

-- a grep that is built from its parts
pub grep_made :
    (case_insensitive : Bool) (res : List Re) (nfa : Automaton) (show : Show) (lines : LineSearcher) (own : View)
    (grep : Grep) →
    grep.show ≡ show → grep.lines ≡ lines → grep.view ≡ own → lines.dfa.nfa ≡ nfa
    → match_kind_of lines.dfa.config ≡ LeftmostFirst →
    IsViewFor case_insensitive show.flags.how res own → IsJoinedNfa (bytewise case_insensitive) res nfa
    → IsGrepFor case_insensitive res grep
grep_made case_insensitive res nfa show lines own grep same_show same_lines same_view same_nfa kind for is = (
  subst (λ (s : LineSearcher). IsSearcherFor case_insensitive res s.dfa) (sym same_lines)
      (subst (λ (a : Automaton). IsJoinedNfa (bytewise case_insensitive) res a) (sym same_nfa) is, kind),
  subst (λ (v : Show). IsViewFor case_insensitive v.flags.how res grep.view) (sym same_show)
      (subst (λ (v : View). IsViewFor case_insensitive show.flags.how res v) (sym same_view) for),
)

-- what follows for a call that returns Ok
pub on_ok : {U E A B : Type 0} (r : Result U E) → (A → B) → OnOk r A → OnOk r B
on_ok (Ok u) f h = f h
on_ok (Err e) f h = tt

module _ (case_insensitive : Bool) (replacements : List Replacement) (res : List Re) (prefix : List ℕ) (frame : Frame)
    (line was is : List ℕ) where
  -- what is shown of a line, added to what was shown before
  abbrev Shows : How → Type 0
  Shows asked = is ≡ was ++ line_shown asked replacements res prefix frame line

  -- a line that is shown whole
  pub line_as_whole :
      (asked : How) → IsViewFor case_insensitive asked res view.Whole → is ≡ was ++ shown_after prefix frame 0 line →
      Shows asked
  line_as_whole how.Whole for said = said
  line_as_whole asked for said = absurd for

  -- the matches of a line
  pub line_as_matches : (asked : How) (own : SpanSearcher) → IsViewFor case_insensitive asked res (view.Matches own) →
      (IsRegexOf (bytewise case_insensitive) res own.pattern.regex
      → is ≡ was ++ parts_shown prefix frame line (left_any false res line None)) →
      Shows asked
  line_as_matches how.Matches own for said = said for
  line_as_matches asked own for said = absurd for

  -- a line after the numbers of the patterns that match it
  pub line_as_which : (asked : How) (own : SetSearcher) → IsViewFor case_insensitive asked res (view.Which own) →
      (IsDfaOf (bytewise case_insensitive) res own.set.dfa
      → is ≡ was ++ which_shown prefix frame line (map (is_found false line) res)) →
      Shows asked
  line_as_which how.Which own for said = said for
  line_as_which asked own for said = absurd for

  -- a line with each match replaced
  pub line_as_replaced : (asked : How) (own : Replacer) → IsViewFor case_insensitive asked res (view.Replaced own) →
      (IsRegexOf (bytewise case_insensitive) res own.pattern.regex → FindAllGroups own.groups.programs.list.items res
      → is ≡ was ++ shown_after prefix frame 0 (replaced_line replacements res line)) →
      Shows asked
  line_as_replaced how.Replaced own for said = said for.0 for.1
  line_as_replaced asked own for said = absurd for

  -- what the matches of a line are replaced by
  pub line_as_replacements : (asked : How) (own : Replacer) →
      IsViewFor case_insensitive asked res (view.Replacements own) →
      (IsRegexOf (bytewise case_insensitive) res own.pattern.regex → FindAllGroups own.groups.programs.list.items res
      → is ≡ was ++ replacements_shown (expansion replacements res line) prefix frame (left_any false res line None)) →
      Shows asked
  line_as_replacements how.Replacements own for said = said for.0 for.1
  line_as_replacements asked own for said = absurd for
