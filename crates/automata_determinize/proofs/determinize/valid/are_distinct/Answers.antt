use Rattle.std.proofs.Common.{sym, ◌∙◌, refl}
use Rattle.std.proofs.lemmas.Bool.{false≢true}
use Rattle.automata_base.proofs.Powersets.Code.Groups.{split_at_item}
use Rattle.automata_determinize.proofs.Powersets.Code.Distinct.{distinct_up, distinct_down, distinct_short}
use Rattle.automata_determinize.proofs.determinize.valid.are_distinct.Goals as goal

pub returns-then-not-is_apart : goal.returns-then-not-is_apart
returns-then-not-is_apart c = (
  λ h. absurd (false≢true h),
  λ d. sym c.if-not-is_apart.true
      ∙ c.is_apart.ensures.1
      (distinct_down c.loop-rest.rest.now _ _
      (split_at_item c.loop-rest.rest.now c.first-item.result c.in-len1-up.len_at_least c.first-item.is)
      (c.loop-rest.invariant.down d)).0,
)

pub loop-rest-preserved : goal.loop-rest-preserved
loop-rest-preserved c = record {
  up =
      λ d. c.loop-rest.invariant.up
      (distinct_up c.loop-rest.rest.now _ _
      (split_at_item c.loop-rest.rest.now c.first-item.result c.in-len1-up.len_at_least c.first-item.is)
      (c.is_apart.ensures.0 c.if-not-is_apart.false) d);
  down =
      λ d. (distinct_down c.loop-rest.rest.now _ _
      (split_at_item c.loop-rest.rest.now c.first-item.result c.in-len1-up.len_at_least c.first-item.is)
      (c.loop-rest.invariant.down d)).1;
}

pub returns : goal.returns
returns c = (λ h. c.loop-rest.invariant.up (distinct_short _ c.in_default.len_below), λ d. refl)
