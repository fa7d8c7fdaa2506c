use Rattle.std.proofs.Common.{◌≡◌, ◌∙◌, ℕ, ◌-◌, List, Option, None, Some, ap, map, refl, subst, sym}
use Rattle.std.proofs.lemmas.List.{take-map}
use Rattle.meaning.specs.Patterns.{HasPart}
use Rattle.lgrep.specs.Lines.{AreMatching, IsWanted, first_lines, found_line, lines, positioned}
use Rattle.lgrep.specs.declared.lines.Line.{Line}
use Rattle.lgrep.specs.declared.lines.LineSearcher.{LineSearcher}
use Rattle.lgrep.proofs.Printing.{grep_kept, view_same}
use Rattle.lgrep.proofs.search.Grep.search_alone.Goals as goal

-- the first lines, with their numbers
firsts :
    (max : Option ℕ) (count : ℕ) (found : List Line)
    → map found_line (first_lines max count found) ≡ first_lines max count (map found_line found)
firsts None count found = refl
firsts (Some max) count found = sym (take-map found_line (max - count) found)

pub returns : goal.returns
returns c = λ case_insensitive res is.
    let p = c.in_ok-push_lines.ensures in
    let dfa = c.in_ok-found.ensures.same in (
      grep_kept case_insensitive res c.args.self.now c.push_lines.new.self
          (ap (λ (s : LineSearcher). s.dfa) p.same.1 ∙ dfa) p.same.0 p.view is,
      record {
        wanted = map found_line c.as_slice.result.now;
        matching =
            subst (λ (v : List Line). AreMatching
            (λ line. IsWanted c.args.self.now.show.flags.invert (HasPart res line.1))
            (positioned c.args.self.now.lines.next (lines c.args.self.now.show.flags.end c.args.text.now))
            (map found_line v))
            (sym c.as_slice.ensures.value) (c.in_ok-found.ensures.meant case_insensitive res is.0);
        found = map found_line c.first_lines-first.result.now;
        first =
            ap (map found_line) c.first_lines-first.ensures
            ∙ firsts c.args.self.now.show.flags.max c.args.self.now.count c.as_slice.result.now;
        shown = p.shown case_insensitive res
            (grep_kept case_insensitive res c.args.self.now (record c.args.self.now { lines = c.matching.new.self }) dfa
            refl (view_same c.args.self.now.view c.args.self.now.view refl) is);
        count = p.count;
      },
    )
