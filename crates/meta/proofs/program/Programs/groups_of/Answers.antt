use Rattle.std.proofs.Common.{ℕ, ◌≡◌, ◌-◌, ◌*◌, ◌<◌, ◌≤◌, ◌∙◌, List, Bor, Option, Some, None, ap, arith, get_or}
use Rattle.std.proofs.Common.{length}
use Rattle.std.proofs.Common.{refl, subst, sym, vec_len}
use Rattle.std.specs.Slice.{IsItemAt}
use Rattle.std.proofs.lemmas.List.Elements.{All-get_or}
use Rattle.std.proofs.lemmas.Option.{get_or_from_slice_get, slice_get_within}
use Rattle.regex_nfa.specs.Run.{run}
use Rattle.regex_vm.specs.Found.{group_cells}
use Rattle.automata_base.specs.Haystacks.Matches.{Match}
use Rattle.meta.specs.Caches.{HasRoomOf}
use Rattle.meta.specs.declared.program.Program.{Program}
use Rattle.meta.proofs.Held.{first, held, simulated_match}
use Rattle.meta.proofs.Leftmost.{are_bytes}
use Rattle.meta.proofs.Rooms.{room_at, rooms_set}
use Rattle.meta.proofs.program.Programs.groups_of.Goals as goal

-- `get` returns none past the list
past : {A : Type 0} (xs : List A) (i : ℕ) (r : Option (Bor A)) → ((x : Bor A) → r ≡ Some x → ⊥) → IsItemAt xs i r
    → length xs ≤ i
past xs i None never h = h.3
past xs i (Some x) never h = absurd (never x refl)

pub returns-in_default-clause-groups : goal.returns-in_default-clause-groups
returns-in_default-clause-groups c = λ res m is preferred same.
    let ps = c.args.self.now.list.items in
    let f =
    first ps res c.args.hay.now
    (are_bytes c.args.hay.now (λ i. let fits = c.type_inv.hay i in omega (arith, fits))) m is preferred in
    let at = slice_get_within ps _ f.program f.is in
    let beyond = past c.deref.result.now _ c.get.result c.in_default.not-Some c.get.ensures.lookup in
    let number = ap (λ (v : Match). v.pattern) same in
    let count = ap length c.deref.ensures.value in
    absurd (omega (arith, at, beyond, number, c.as_usize-number.ensures.value, c.pattern.ensures, count))

pub run-requires-clause-of : goal.run-requires-clause-of
run-requires-clause-of c =
    let ps = c.args.self.now.list.items in
    let i = c.as_usize-number.result in
    let inside : i < length ps = omega (arith, c.in-Some.ensures.lookup.3.0, ap length c.deref.ensures.value) in
    let same =
    c.in-Some.ensures.lookup.1 ∙ ap (λ (xs : List Program). get_or xs i c.in-Some.program.now) c.deref.ensures.value in
    subst (λ (p : Program). HasRoomOf p (get_or c.args.simulations.now i c.index-simulations-number.result)) (sym same)
    (room_at c.args.simulations.now ps i c.index-simulations-number.result c.in-Some.program.now c.requires.rooms
    inside)

pub returns-clause-rooms : goal.returns-clause-rooms
returns-clause-rooms c =
    let ps = c.args.self.now.list.items in
    let i = c.as_usize-number.result in
    let inside : i < length ps = omega (arith, c.in-Some.ensures.lookup.3.0, ap length c.deref.ensures.value) in
    let same =
    c.in-Some.ensures.lookup.1 ∙ ap (λ (xs : List Program). get_or xs i c.in-Some.program.now) c.deref.ensures.value in
    rooms_set c.args.simulations.now ps i c.run.new.self c.index-simulations-number.result c.in-Some.program.now
    c.requires.rooms inside (subst (λ (p : Program). HasRoomOf p c.run.new.self) same c.run.ensures.of)

pub returns-clause-groups : goal.returns-clause-groups
returns-clause-groups c = λ res m is preferred same.
    let ps = c.args.self.now.list.items in
    let hay = c.args.hay.now in
    let bytes = are_bytes hay (λ i. let fits = c.type_inv.hay i in omega (arith, fits)) in
    let i = c.as_usize-number.result in
    let own = c.in-Some.program.now in
    let f = first ps res hay bytes m is preferred in
    let inside : i < length ps = omega (arith, c.in-Some.ensures.lookup.3.0, ap length c.deref.ensures.value) in
    let number : i ≡ _ = c.as_usize-number.ensures.value ∙ c.pattern.ensures ∙ ap (λ (v : Match). v.pattern) same in
    let read : own ≡ get_or ps i own =
    c.in-Some.ensures.lookup.1 ∙ ap (λ (xs : List Program). get_or xs i own) c.deref.ensures.value in
    let program : own ≡ f.program =
    read ∙ ap (λ n. get_or ps n own) number ∙ get_or_from_slice_get ps _ f.program own f.is in
    let starts = ap (λ (v : Match). v.start) same in
    let runs : run own.nfa hay (length hay) own.nfa.start c.args.found.now.start ≡ Some f.trace =
    ap (λ s. run own.nfa hay (length hay) own.nfa.start s) starts
    ∙ ap (λ (p : Program). run p.nfa hay (length hay) p.nfa.start m.start) program ∙ f.runs in
    let written = c.run.ensures.slots f.trace (f.same.end ∙ sym (ap (λ (v : Match). v.end) same)) runs in
    let cells : c.deref-2.result.now ≡ group_cells (simulated_match ps res hay bytes m is preferred)
    (f.program.nfa.slot_count - 2) =
    c.deref-2.ensures.value ∙ written
    ∙ ap (λ s. group_cells (record { start = s; trace = f.trace }) (own.nfa.slot_count - 2)) starts
    ∙ ap (λ (p : Program). group_cells (record { start = m.start; trace = f.trace }) (p.nfa.slot_count - 2)) program in
    let room : own.nfa.slot_count ≤ 2 * vec_len c.args.captures.now.spans =
    subst (λ (p : Program). p.nfa.slot_count ≤ 2 * vec_len c.args.captures.now.spans) (sym read)
    (All-get_or (λ (p : Program). p.nfa.slot_count ≤ 2 * vec_len c.args.captures.now.spans) ps i own inside
    c.requires.room) in
    let wide = ap (λ (p : Program). p.nfa.slot_count) program in
    held ps res hay bytes m is preferred c.args.found.now same c.deref-2.result.now cells c.read-2.new.self
    (omega (arith, room, wide, c.read-2.ensures.room))
    (λ group l. c.read-2.ensures.spans group (omega (arith, l, c.read-2.ensures.room)))
