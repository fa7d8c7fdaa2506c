use Rattle.std.proofs.Common.{◌≡◌, List, subst, ℕ}
use Rattle.regex_hir.specs.Find as kit
use Rattle.regex_hir.specs.Re.{Re}
use Rattle.automata_base.specs.Haystacks.Matches.{Match}
use Rattle.meaning.specs.Patterns.{numbered_match}
use Rattle.patterns.specs.declared.compile.Options.{Options}
use Rattle.meta.specs.Captures.{HoldGroups}
use Rattle.meta.specs.Groups.{IsPreferredMatch}
use Rattle.meta.specs.Regexes.{IsMetaRegexOf}
use Rattle.meta.specs.declared.captures.Captures.{Captures}
use Rattle.meta.specs.declared.regexes.Regex.{Regex}
use Rattle.meta.proofs.Nexts.{holds_next, holds_none}
use Rattle.meta.proofs.matches.Matches.next_captures.Goals as goal

-- captures hold the groups of a match of the regex
abbrev HoldsGroupsOf : Match → Captures → Regex → List ℕ → Type 0
HoldsGroupsOf found c regex hay =
    (o : Options) (res : List Re) (m : kit.Match) → IsMetaRegexOf o res regex → IsPreferredMatch res hay m
    → found ≡ numbered_match res hay m → HoldGroups m c

pub returns-in_default-clause-groups : goal.returns-in_default-clause-groups
returns-in_default-clause-groups c =
    let s = c.args.self.now in
    holds_none s.regex.now s.haystack.now s.last c.next.new.self.last s.ended c.next.new.self.ended c.clear.new.self
    c.in_default.ensures.steps.0 c.clear.ensures.empty

pub returns-clause-groups : goal.returns-clause-groups
returns-clause-groups c =
    let s = c.args.self.now in
    let steps = c.in-Some.ensures.steps in
    holds_next s.regex.now s.haystack.now s.last c.next.new.self.last c.in-Some.found s.ended c.next.new.self.ended
    c.groups_of.new.captures steps.0
    (subst (λ r. HoldsGroupsOf c.in-Some.found c.groups_of.new.captures r s.haystack.now) steps.1
    (subst (λ h. HoldsGroupsOf c.in-Some.found c.groups_of.new.captures c.next.new.self.regex.now h) steps.2
    c.groups_of.ensures.groups))
