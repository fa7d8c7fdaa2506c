use Rattle.std.proofs.Common.{◌∙◌, ap, length, subst, sym}
use Rattle.meta.specs.Names.{group_names}
use Rattle.lazydfa_c.specs.Caches.{written_over}
use Rattle.lazydfa_c.specs.Groups.{AreReported}
use Rattle.lazydfa_c.specs.declared.groups.GroupSpan.{GroupSpan}
use Rattle.std.specs.Prelude.{◌<◌, List}
use Rattle.std.proofs.lemmas.List.FromFn.{length-map-range_with_len}
use Rattle.meta.specs.Captures.{span_in}
use Rattle.lazydfa_c.proofs.Grouping.{are_groups, as_read, spans_in}
use Rattle.lazydfa_c.proofs.Sharing.{rooms_from, sizes_from}
use Rattle.lazydfa_c.proofs.groups.report_groups.Goals as goal

pub find-requires-clause-rooms : goal.find-requires-clause-rooms
find-requires-clause-rooms c =
    rooms_from c.args.memory.now.simulations.items c.args.programs.now.list.items c.requires.room.0

pub returns-clause-room : goal.returns-clause-room
returns-clause-room c = (
  sizes_from c.find.new.self.simulations.items c.args.programs.now.list.items c.find.ensures.rooms,
  c.find.ensures.room,
)

pub returns-clause-reports : goal.returns-clause-reports
returns-clause-reports c =
    let programs = c.args.programs.now in let hay = c.args.haystack.now in let it = c.in-Some.it in
    let captures = c.find.new.self.captures in let n = c.group_len.result in
    let there = c.in-Some-pattern_at.ensures in
    let same = there.0 ∙ sym c.in-Some.ensures.pattern in
    let names = ap (λ p. length (group_names programs p)) same in
    AreReported it (spans_in captures n) (sym c.match_in.ensures.is ∙ c.in-Some.is)
    (are_groups programs hay it captures n (c.group_len.ensures ∙ names) (subst (λ k. 0 < k) names there.2)
    c.find.ensures.groups c.find.ensures.within)
    (c.write_spans.ensures
    ∙ ap (λ (xs : List GroupSpan). written_over xs c.args.out.now) (sym (as_read captures n)))
    (sym (length-map-range_with_len (span_in captures) 0 n)) c.from-2.ensures
