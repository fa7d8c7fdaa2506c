use Rattle.std.proofs.Common.{◌∙◌, ◌++◌, ◌-◌, Some, ap, ap₂, arith, drop, length, length-drop, refl, subst, sym}
use Rattle.std.proofs.lemmas.List.{take_all}
use Rattle.std.specs.Prelude.{slice_range}
use Rattle.patterns.specs.declared.pattern.Pattern.{Pattern}
use Rattle.meta.specs.Groups.{FindAllGroups}
use Rattle.meta.specs.declared.program.Programs.{Programs}
use Rattle.lgrep.proofs.Replacing.{replace_end, replace_turn}
use Rattle.lgrep.proofs.replace.Replacer.replace.Goals as goal

pub matches-preserved : goal.matches-preserved
matches-preserved c =
    let i = c.matches.invariant in let line = c.args.line.now in let m = c.in-Some.found in
    let was = c.matches.self.bytes.items in
    let past = rw c.in-Some.is at c.in_ok-found.ensures.past in
    record {
      replaced =
          replace_turn c.args.self.now.pattern.regex c.args.self.now.groups.programs.list.items
          c.args.replacements.now line c.matches.self.pattern.regex line (ap (λ (p : Pattern). p.regex) i.pattern) refl
          c.matches_are_preferred.ensures.next c.matches.last m (Some c.end.result)
          (rw c.in-Some.is at c.in_ok-found.ensures.found) (ap (λ e. Some e) c.end.ensures.end) was
          c.extend_from_slice.new.self.items c.push_expansion.new.bytes.items i.replaced
          (c.in_ok-extend_from_slice.ensures.items
          ∙ ap₂ (λ a b. was ++ slice_range line a b) c.unwrap_or.ensures c.start.ensures.start)
          (λ res groups of. c.in_ok-push_expansion.ensures.expanded res
          (subst (λ (p : Programs). FindAllGroups p.list.items res) (sym i.programs) groups) of);
      inside = omega (arith, past.0.2, c.end.ensures.end);
      pattern = i.pattern;
      programs = c.in_ok-push_expansion.ensures.same ∙ i.programs;
    }

pub returns-clause-replaced : goal.returns-clause-replaced
returns-clause-replaced c =
    let i = c.matches.invariant in let line = c.args.line.now in
    replace_end c.args.self.now.pattern.regex c.args.self.now.groups.programs.list.items
    c.args.replacements.now line c.matches.self.pattern.regex line (ap (λ (p : Pattern). p.regex) i.pattern) refl
    c.matches_are_preferred.ensures.next c.matches.last
    (rw c.in_default.is at c.in_ok-found.ensures.found) c.matches.self.bytes.items
    c.extend_from_slice-2.new.self.items i.replaced
    (c.in_ok-extend_from_slice-2.ensures.items
    ∙ ap (λ v. c.matches.self.bytes.items ++ v)
    (take_all (length line - c.unwrap_or-2.result) (drop c.unwrap_or-2.result line)
    (omega (arith, length-drop c.unwrap_or-2.result line))
    ∙ ap (λ n. drop n line) c.unwrap_or-2.ensures))
