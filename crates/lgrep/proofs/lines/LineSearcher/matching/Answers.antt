use Rattle.std.proofs.Common.{◌≡◌, ◌∙◌, ℕ, Bool, List, refl, ap, subst, map, rules, tests}
use Rattle.std.specs.Prelude.{◌↔◌, ◌==◌, IsTrue}
use Rattle.std.proofs.lemmas.Iterator.Splits.{YieldsList-from_slice_split}
use Rattle.regex_hir.specs.Re.{Re}
use Rattle.regex_automata.specs.Promises.{Machine}
use Rattle.meaning.specs.Patterns.{HasPart}
use Rattle.lgrep.specs.Lines.{AreMatching, HasMatch, IsSearcherFor, IsWanted, begins, found_line}
use Rattle.lgrep.specs.Lines.{position_after_all, positioned}
use Rattle.lgrep.proofs.Numbers.{gone, left, position_turn, taken}
use Rattle.lgrep.proofs.lines.LineSearcher.matching.Goals as goal

-- whether the current line is taken
decides :
    (invert : Bool) (m now : Machine) (line : List ℕ) (has : Bool) → now ≡ m
    → (IsTrue has ↔ IsWanted invert (HasMatch now line)) → IsTrue has ↔ IsWanted invert (HasMatch m line)
decides invert m now line has same h = subst (λ d. IsTrue has ↔ IsWanted invert (HasMatch d line)) same h

-- and by the meaning of the patterns' texts
means :
    (invert : Bool) (m now : Machine) (line : List ℕ) (has : Bool) → now ≡ m
    → ((insensitive : Bool) (res : List Re) → IsSearcherFor insensitive res now
    → IsTrue has ↔ IsWanted invert (HasPart res line))
    → (insensitive : Bool) (res : List Re) → IsSearcherFor insensitive res m
    → IsTrue has ↔ IsWanted invert (HasPart res line)
means invert m now line has same h =
    subst (λ d. (insensitive : Bool) (res : List Re) → IsSearcherFor insensitive res d
    → IsTrue has ↔ IsWanted invert (HasPart res line))
    same h

pub loop-bytes-preserved : goal.loop-bytes-preserved
loop-bytes-preserved c =
    let i = c.loop-bytes.invariant in
    let line = c.in-Some.bytes in
    let n = c.args.self.now.next in
    let has =
    decides c.args.invert c.args.self.now.dfa c.loop-bytes.self.dfa line.now c.in_ok-is_wanted.field-0 i.same
    c.in_ok-is_wanted.ensures.found in
    let told =
    means c.args.invert c.args.self.now.dfa c.loop-bytes.self.dfa line.now c.in_ok-is_wanted.field-0 i.same
    c.in_ok-is_wanted.ensures.meant in
    record {
      same = c.in_ok-is_wanted.ensures.same ∙ i.same;
      next =
          position_turn n c.loop-bytes.yielded line c.loop-bytes.self.next _ i.next
          (c.in_ok-is_wanted.ensures.next ∙ c.after-self.ensures);
      found =
          left n c.loop-bytes.yielded line (λ l. IsWanted c.args.invert (HasMatch c.args.self.now.dfa l))
          c.loop-bytes.found.items _ i.found has c.if-branch.false;
      meant =
          λ insensitive res is. left n c.loop-bytes.yielded line (λ l. IsWanted c.args.invert (HasPart res l))
          c.loop-bytes.found.items _
          (i.meant insensitive res is) (told insensitive res is) c.if-branch.false;
    }

pub loop-bytes-preserved-in-Continue-branch-2 : goal.loop-bytes-preserved-in-Continue-branch-2
loop-bytes-preserved-in-Continue-branch-2 c =
    let i = c.loop-bytes.invariant in
    let line = c.in-Some.bytes in
    let n = c.args.self.now.next in
    let has =
    decides c.args.invert c.args.self.now.dfa c.loop-bytes.self.dfa line.now c.in_ok-is_wanted.field-0 i.same
    c.in_ok-is_wanted.ensures.found in
    let told =
    means c.args.invert c.args.self.now.dfa c.loop-bytes.self.dfa line.now c.in_ok-is_wanted.field-0 i.same
    c.in_ok-is_wanted.ensures.meant in
    record {
      same = c.in_ok-is_wanted.ensures.same ∙ i.same;
      next =
          position_turn n c.loop-bytes.yielded line c.loop-bytes.self.next _ i.next
          (c.in_ok-is_wanted.ensures.next ∙ c.after-self.ensures);
      found =
          taken n c.loop-bytes.yielded line (λ l. IsWanted c.args.invert (HasMatch c.args.self.now.dfa l))
          c.loop-bytes.found.items _ i.found has _ _ c.if-branch.true
          c.in_ok-push.ensures.items refl i.next;
      meant =
          λ insensitive res is. taken n c.loop-bytes.yielded line (λ l. IsWanted c.args.invert (HasPart res l))
          c.loop-bytes.found.items _
          (i.meant insensitive res is) (told insensitive res is) _ _ c.if-branch.true c.in_ok-push.ensures.items refl
          i.next;
    }

pub loop-bytes-init : goal.loop-bytes-init
loop-bytes-init c = record {
  same = refl;
  next = refl;
  found = rw c.new-found.ensures.items begins;
  meant = λ insensitive res is. rw c.new-found.ensures.items begins;
}

pub returns-clause-next : goal.returns-clause-next
returns-clause-next c =
    let made : c.into_iter-bytes-iterator.result ≡ c.split-bytes-items.result = cc in
    let all = gone _ _ _ c.loop-bytes.yielded (rw made at c.loop-bytes.yielded_by) c.in-None.is c.next.ensures.steps
    (YieldsList-from_slice_split _ (λ byte. byte == c.args.end) c.args.text.now c.split-bytes-items.ensures.rest
    c.split-bytes-items.ensures.done c.split-bytes-items.ensures.closure (λ x r q k. search (rules, tests))) in
    c.loop-bytes.invariant.next ∙ ap (position_after_all c.args.self.now.next) all

pub returns-clause-lines : goal.returns-clause-lines
returns-clause-lines c =
    let made : c.into_iter-bytes-iterator.result ≡ c.split-bytes-items.result = cc in
    let all = gone _ _ _ c.loop-bytes.yielded (rw made at c.loop-bytes.yielded_by) c.in-None.is c.next.ensures.steps
    (YieldsList-from_slice_split _ (λ byte. byte == c.args.end) c.args.text.now c.split-bytes-items.ensures.rest
    c.split-bytes-items.ensures.done c.split-bytes-items.ensures.closure (λ x r q k. search (rules, tests))) in
    subst (λ v. AreMatching (λ line. IsWanted c.args.invert (HasMatch c.args.self.now.dfa line.1))
    (positioned c.args.self.now.next v) (map found_line c.loop-bytes.found.items)) all
    c.loop-bytes.invariant.found

pub returns-clause-meant : goal.returns-clause-meant
returns-clause-meant c = λ insensitive res is.
    let made : c.into_iter-bytes-iterator.result ≡ c.split-bytes-items.result = cc in
    let all = gone _ _ _ c.loop-bytes.yielded (rw made at c.loop-bytes.yielded_by) c.in-None.is c.next.ensures.steps
    (YieldsList-from_slice_split _ (λ byte. byte == c.args.end) c.args.text.now c.split-bytes-items.ensures.rest
    c.split-bytes-items.ensures.done c.split-bytes-items.ensures.closure (λ x r q k. search (rules, tests))) in
    subst (λ v. AreMatching (λ line. IsWanted c.args.invert (HasPart res line.1)) (positioned c.args.self.now.next v)
    (map found_line c.loop-bytes.found.items)) all
    (c.loop-bytes.invariant.meant insensitive res is)
