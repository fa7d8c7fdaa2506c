use Rattle.std.proofs.Common.{◌≡◌, ◌∙◌, ◌∷◌, ◌++◌, [], sym, ap, ◌+◌, ◌*◌, ◌<◌, ◌≤◌, length, take, arith, subst, refl}
use Rattle.std.proofs.Common.{Some, slice_get}
use Rattle.std.specs.Prelude.{map}
use Rattle.std.proofs.lemmas.Option.{slice_get_read}
use Rattle.std.proofs.lemmas.List.{take_all}
use Rattle.std.proofs.Math.Nat.{mul-le-mul_right}
use Rattle.automata_hybrid.proofs.Words.{IsSlot, Machine, row_cost, Rows, rows_of_starts, start_named, sum_by}
use Rattle.automata_hybrid.specs.Known.Known.{keep_start}
use Rattle.automata_hybrid.specs.Private.Cache.Clears.{IsUnwritten}
use Rattle.automata_hybrid.proofs.Known.Starts.{names_more, rows_more, unwritten_fresh}
use Rattle.automata_hybrid.proofs.Storage.Clears.{AllStarts-none}
use Rattle.automata_hybrid.proofs.cache.clears.keep_starts.Goals as goal

pub loop-id-init : goal.loop-id-init
loop-id-init c =
    let e = c.in_ok-table.ensures.empty in
    record {
      rows = ap (λ (t : Rows). t.rows) e;
      slots = ap (map (start_named c.in_ok-table.table)) c.in_ok-slots.ensures.items;
      unwritten = subst IsUnwritten (sym e) (unwritten_fresh c.args.old.now.of);
      few = rw e (omega arith);
      length = rw c.in_ok-slots.ensures.items refl;
      named = AllStarts-none c.in_ok-table.table c.in_ok-slots.slots.items c.in_ok-slots.ensures.items;
      absent = λ q h. rw e refl;
      of = ap (λ (r : Rows). r.of) e;
      sound = c.in_ok-table.ensures.sound;
    }

pub keep_slot-requires-clause-leads : goal.keep_slot-requires-clause-leads
keep_slot-requires-clause-leads c =
    let at : slice_get c.args.starts.now c.loop-id.id-index ≡ Some c.id-item.result =
    slice_get_read c.args.starts.now (length c.args.starts.now) c.loop-id.id-index c.id-item.result refl (omega arith)
    c.id-item.is in
    subst (λ n. IsSlot c.args.old.now n c.id-item.result) (sym c.loop-id.invariant.length)
    (c.requires.named c.loop-id.id-index c.id-item.result at)

pub loop-id-preserved : goal.loop-id-preserved
loop-id-preserved c =
    let i = c.loop-id.invariant in
    let n = c.in_ok-keep_slot.ensures.kept in
    let old : Rows = c.args.old.now in
    let within : c.loop-id.id-index < length c.args.starts.now = omega arith in
    let names : map (start_named old) (take (c.loop-id.id-index + 1) c.args.starts.now)
    ≡ map (start_named old) (take c.loop-id.id-index c.args.starts.now) ++ start_named old c.id-item.result ∷ [] =
    names_more old c.args.starts.now c.loop-id.id-index c.id-item.result within c.id-item.is in
    record {
      rows =
          n.rows ∙ ap (λ rows. keep_start old.rows rows (start_named old c.id-item.result)) i.rows
          ∙ sym (rows_more old.rows _ _ (start_named old c.id-item.result) names);
      slots = n.names ∙ ap (λ ss. ss ++ start_named old c.id-item.result ∷ []) i.slots ∙ sym names;
      unwritten = n.unwritten i.unwritten;
      few = omega (arith, n.few, i.few);
      length = n.slots ∙ ap (λ m. m + 1) i.length;
      named = n.named;
      absent = λ q h. n.absent q h (i.absent q h);
      of = n.of ∙ i.of;
      sound = c.in_ok-keep_slot.ensures.sound;
    }

pub returns-clause-kept : goal.returns-clause-kept
returns-clause-kept c =
    let i = c.loop-id.invariant in
    let all : c.loop-id.id-index ≡ length c.args.starts.now = omega arith in
    let whole : take c.loop-id.id-index c.args.starts.now ≡ c.args.starts.now =
    take_all c.loop-id.id-index c.args.starts.now (omega (arith, all)) in
    record {
      rows = i.rows ∙ ap (λ ids. rows_of_starts c.args.old.now.rows (map (start_named c.args.old.now) ids)) whole;
      names = i.slots ∙ ap (map (start_named c.args.old.now)) whole;
      unwritten = i.unwritten;
      named = i.named;
      few = omega (arith, i.few, all);
      slots = i.length ∙ all;
      absent = i.absent;
      of = i.of;
    }

pub keep_slot-requires-clause-fits : goal.keep_slot-requires-clause-fits
keep_slot-requires-clause-fits c =
    let few : length c.loop-id.table.rows + 3 ≤ length c.args.starts.now + 3 =
    omega (arith, c.loop-id.invariant.few, c.loop-id-test.true) in
    let most = mul-le-mul_right c.args.old.now.of.stride few in
    let whole =
    subst (λ (m : Machine). length c.loop-id.table.cells ≡ (length c.loop-id.table.rows + 3) * m.stride)
    c.loop-id.invariant.of c.loop-id.invariant.sound.rows.whole in
    omega (arith, whole, most, c.requires.offsets)

pub keep_slot-requires-clause-costs : goal.keep_slot-requires-clause-costs
keep_slot-requires-clause-costs c =
    let few : length c.loop-id.table.rows + 1 ≤ length c.args.starts.now + 1 =
    omega (arith, c.loop-id.invariant.few, c.loop-id-test.true) in
    let most = mul-le-mul_right c.args.old.now.of.greatest few in
    let costs =
    subst (λ (m : Machine). sum_by row_cost c.loop-id.table.rows ≤ length c.loop-id.table.rows * m.greatest)
    c.loop-id.invariant.of c.loop-id.invariant.sound.costs in
    omega (arith, costs, most, c.requires.costs)
