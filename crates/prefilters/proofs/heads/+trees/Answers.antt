use Rattle.std.proofs.Common.{◌≡◌, ◌∙◌, ◌<◌, ◌≤◌, All, Bool, List, ap, arith, get_or, map, subst, sym, true, ⊎_elim}
use Rattle.std.proofs.lemmas.Bool.{cases_lt}
use Rattle.std.proofs.lemmas.List.{get_or_default}
use Rattle.std.proofs.lemmas.List.Elements.{All-map}
use Rattle.regex_hir.specs.Re.{Re}
use Rattle.regex_hir.specs.Meaning.{meaning}
use Rattle.regex_hir.specs.declared.hir.Hir.{Hir}
use Rattle.regex_hir.proofs.MeaningLemmas.{meaning-Alternation, meaning-Bytes, meaning-Chars}
use Rattle.regex_hir.proofs.MeaningLemmas.{meaning-Concat, meaning-Literal, meaning-Repetition}
use Rattle.prefilters.specs.Bytes.{KeepsBytes, in_table}
use Rattle.prefilters.specs.Heads.{ConsistsOf, HasCharacters, HasBytesInRange}
use Rattle.prefilters.proofs.Consisting.{of_alt_all, of_bytes, of_cat_all, of_chars, of_literal, of_repeat}
use Rattle.prefilters.proofs.heads.+trees.Goals as goal

-- the matches of a tree, by what the tree means
of_tree : (h : Hir) (re : Re) (table : List Bool) → meaning h ≡ re → ConsistsOf re table → ConsistsOf (meaning h) table
of_tree h re table e s = subst (λ r. ConsistsOf r table) (sym e) s

pub add_tree-returns-in-Literal-clause-added : goal.add_tree-returns-in-Literal-clause-added
add_tree-returns-in-Literal-clause-added t c =
    let table = c.add_literal.new.table in
    of_tree _ _ table (ap meaning c.in-Literal.is ∙ meaning-Literal c.in-Literal.bytes)
    (of_literal table c.in-Literal.bytes.items
    (subst (All (λ b. in_table table b ≡ true)) c.deref.ensures.value c.add_literal.ensures.added))

pub add_tree-returns-in-Bytes-clause-added : goal.add_tree-returns-in-Bytes-clause-added
add_tree-returns-in-Bytes-clause-added t c =
    let table = c.add_byte_class.new.table in
    of_tree _ _ table (ap meaning c.in-Bytes.is ∙ meaning-Bytes c.in-Bytes.class)
    (of_bytes table c.in-Bytes.class.ranges.items
    (subst (All (HasBytesInRange table)) c.deref-in-Bytes.ensures.value c.add_byte_class.ensures.added))

pub add_tree-returns-in-Chars-clause-added : goal.add_tree-returns-in-Chars-clause-added
add_tree-returns-in-Chars-clause-added t c =
    let table = c.add_character_class.new.table in
    of_tree _ _ table (ap meaning c.in-Chars.is ∙ meaning-Chars c.in-Chars.class)
    (of_chars table c.in-Chars.class.ranges.items
    (subst (All (HasCharacters table)) c.deref-in-Chars.ensures.value c.add_character_class.ensures.added))

pub add_tree-returns-in-Repetition-clause-added : goal.add_tree-returns-in-Repetition-clause-added
add_tree-returns-in-Repetition-clause-added t c =
    let table = c.add_tree.new.table in let r = c.in-Repetition in
    of_tree _ _ table (ap meaning r.is ∙ meaning-Repetition r.min r.max r.greedy r.sub)
    (of_repeat table r.min r.max r.greedy (meaning r.sub.value)
    (subst (λ h. ConsistsOf (meaning h) table) c.deref-in-Repetition.ensures c.add_tree.ensures.added))

pub add_tree-returns-in-Concat-clause-added : goal.add_tree-returns-in-Concat-clause-added
add_tree-returns-in-Concat-clause-added t c =
    let table = c.add_trees.new.table in
    of_tree _ _ table (ap meaning c.in-Concat.is ∙ meaning-Concat c.in-Concat.subs)
    (of_cat_all table (map meaning c.in-Concat.subs.items)
    (All-map (λ re. ConsistsOf re table) meaning c.in-Concat.subs.items
    (subst (All (λ h. ConsistsOf (meaning h) table)) c.deref-in-Concat.ensures.value c.add_trees.ensures.added)))

pub add_tree-returns-in-Alternation-clause-added : goal.add_tree-returns-in-Alternation-clause-added
add_tree-returns-in-Alternation-clause-added t c =
    let table = c.add_trees-in-Alternation.new.table in
    of_tree _ _ table (ap meaning c.in-Alternation.is ∙ meaning-Alternation c.in-Alternation.subs)
    (of_alt_all table (map meaning c.in-Alternation.subs.items)
    (All-map (λ re. ConsistsOf re table) meaning c.in-Alternation.subs.items
    (subst (All (λ h. ConsistsOf (meaning h) table)) c.deref-in-Alternation.ensures.value
    c.add_trees-in-Alternation.ensures.added)))

more_bytes : (re : Re) (old new : List Bool) → KeepsBytes old new → ConsistsOf re old → ConsistsOf re new
more_bytes re old new kept s hay bytes i j m k low high = kept _ (s hay bytes i j m k low high)

pub add_trees-loop-i-preserved : goal.add_trees-loop-i-preserved
add_trees-loop-i-preserved t c =
    let l = c.loop-i in let new = c.add_tree.new.table in let subs = c.args.subs.now in (
      λ byte had. c.add_tree.ensures.kept byte (l.invariant.0 byte had),
      λ n d lt. ⊎_elim
          (λ (less : n < l.i). more_bytes (meaning (get_or subs n d)) l.table new c.add_tree.ensures.kept
          (l.invariant.1 n d less))
          (λ (more : l.i ≤ n).
          let same : l.i ≡ n = omega (arith, lt, more) in
          subst (λ v. ConsistsOf (meaning v) new)
          (c.index-subs-i.is ∙ get_or_default subs l.i _ d c.loop-i-test.true ∙ ap (λ v. get_or subs v d) same)
          c.add_tree.ensures.added) (cases_lt n l.i),
    )
