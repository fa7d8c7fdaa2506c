use Rattle.std.proofs.Common.{◌∙◌, ◌++◌, Some, ap, ap₂, arith, refl, subst, sym}
use Rattle.lgrep.specs.Replaced.{expansion}
use Rattle.lgrep.specs.Shown.{shown_after}
use Rattle.patterns.specs.declared.pattern.Pattern.{Pattern}
use Rattle.meta.specs.Groups.{FindAllGroups}
use Rattle.meta.specs.declared.program.Programs.{Programs}
use Rattle.lgrep.proofs.Replacing.{list_end, list_turn}
use Rattle.lgrep.proofs.replace.Replacer.push_replacements.Goals as goal

pub matches-preserved : goal.matches-preserved
matches-preserved c =
    let i = c.matches.invariant in let line = c.args.line.now in let m = c.in-Some.found in
    let was = c.matches.shown.items in let prefix = c.args.prefix.now in let frame = c.args.frame.now in
    let past = rw c.in-Some.is at c.in_ok-found.ensures.past in
    record {
      listed =
          list_turn c.args.self.now.pattern.regex c.args.self.now.groups.programs.list.items
          c.args.replacements.now line c.matches.self.pattern.regex line (ap (λ (p : Pattern). p.regex) i.pattern) refl
          c.matches_are_preferred.ensures.next c.matches.last m (Some c.end.result)
          (rw c.in-Some.is at c.in_ok-found.ensures.found) (ap (λ e. Some e) c.end.ensures.end) prefix frame
          c.args.shown.now.items was c.push_expansion.new.bytes.items c.push_after.new.shown.items i.listed
          (λ res groups of. c.in_ok-push_expansion.ensures.expanded res
          (subst (λ (p : Programs). FindAllGroups p.list.items res) (sym i.programs) groups) of
          ∙ ap (λ v. v ++ expansion c.args.replacements.now res line m) c.clear.ensures.items)
          (c.in_ok-push_after.ensures
          ∙ ap₂ (λ a b. was ++ shown_after prefix frame a b) c.start.ensures.start c.deref.ensures.value);
      inside = omega (arith, past.0.2, c.end.ensures.end);
      pattern = i.pattern;
      programs = c.in_ok-push_expansion.ensures.same ∙ i.programs;
    }

pub returns-clause-shown : goal.returns-clause-shown
returns-clause-shown c =
    let i = c.matches.invariant in let line = c.args.line.now in
    list_end c.args.self.now.pattern.regex c.args.self.now.groups.programs.list.items
    c.args.replacements.now line c.matches.self.pattern.regex line (ap (λ (p : Pattern). p.regex) i.pattern) refl
    c.matches_are_preferred.ensures.next c.matches.last
    (rw c.in_default.is at c.in_ok-found.ensures.found) c.args.prefix.now c.args.frame.now c.args.shown.now.items
    c.matches.shown.items i.listed
