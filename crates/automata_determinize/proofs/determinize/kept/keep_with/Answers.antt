use Rattle.std.proofs.Common.{ℕ, List, Bool, ◌≡◌, ◌+◌, ◌-◌, ◌++◌, ◌≤◌, length, take, drop, eqb, ap, subst, sym, ◌∙◌}
use Rattle.automata_base.specs.declared.util.look.Look.{Look}
use Rattle.automata_base.specs.Haystacks.Looks.{look_index}
use Rattle.automata_base.specs.Lists.{In, pick}
use Rattle.automata_base.specs.Nfas.Nfa.{keep}
use Rattle.automata_base.specs.Nfas.Nodes.{nfa_of}
use Rattle.automata_base.specs.Retraced.Computed.{any_state}
use Rattle.automata_base.proofs.Paths.FirstVisits.{in_right}
use Rattle.automata_base.proofs.Paths.Walks.{in_left}
use Rattle.automata_base.proofs.Powersets.Keeping.{kept_few}
use Rattle.automata_determinize.proofs.Powersets.Endings.{appended, part_split, kept_of_parts, looks_of_parts}
use Rattle.automata_determinize.proofs.determinize.kept.keep_with.Goals as goal

-- What follows a part.
abbrev after : (list part : List ℕ) (start : ℕ) → List ℕ
after list part start = take (length list - (start + length part)) (drop (start + length part) list)

pub keep_states-looks-requires-clause-below : goal.keep_states-looks-requires-clause-below
keep_states-looks-requires-clause-below c = λ q i.
    let states = c.args.states.now in
    let part = c.as_slice-part.result.now in
    c.requires.below q
    (subst (λ z. In q z) (sym (part_split states part c.in-Some.start c.in-Some.ensures.0))
    (in_left q (take c.in-Some.start states) (part ++ after states part c.in-Some.start) i))

pub append_kept-requires-clause-below : goal.append_kept-requires-clause-below
append_kept-requires-clause-below c = λ q i.
    let states = c.args.states.now in
    let part = c.as_slice-part.result.now in
    c.requires.below q
    (subst (λ z. In q z) (sym (part_split states part c.in-Some.start c.in-Some.ensures.0))
    (in_right q (take c.in-Some.start states) (part ++ after states part c.in-Some.start)
    (in_right q part (after states part c.in-Some.start) i)))

kept :
    (c : goal.After-append_kept) → c.append_kept.new.kept.items ≡ pick (keep (nfa_of c.args.nfa.now)) c.args.states.now
kept c =
    let n = nfa_of c.args.nfa.now in
    let states = c.args.states.now in
    let part = c.as_slice-part.result.now in
    let back = after states part c.in-Some.start in
    let first = c.keep_states-looks.new.kept.items in
    kept_of_parts n states (take c.in-Some.start states) part back first c.as_slice.result.now
    c.append_kept.new.kept.items
    (part_split states part c.in-Some.start c.in-Some.ensures.0) c.keep_states-looks.ensures.kept
    (c.as_slice.ensures.value ∙ c.requires.closure.kept.same ∙ ap (pick (keep n)) (sym c.as_slice-part.ensures.items))
    (c.append_kept.ensures.kept
    ∙ ap (λ z. z ++ pick (keep n) back)
    (appended c.extend_from_slice.result c.unwrap.result c.extend_from_slice.new.self.items first c.as_slice.result.now
    c.unwrap.ensures c.extend_from_slice.ensures.items))

pub returns-in-Some-clause-kept : goal.returns-in-Some-clause-kept
returns-in-Some-clause-kept c = kept c

pub returns-in-Some-clause-few : goal.returns-in-Some-clause-few
returns-in-Some-clause-few c =
    subst (λ (z : List ℕ). length z ≤ length c.args.states.now) (sym (kept c))
    (kept_few (nfa_of c.args.nfa.now) c.args.states.now)

pub returns-in-Some-clause-looks : goal.returns-in-Some-clause-looks
returns-in-Some-clause-looks c = λ other.
    let n = nfa_of c.args.nfa.now in
    let f : Look → Bool = λ look. eqb (look_index look) (look_index other) in
    let states = c.args.states.now in
    let part = c.as_slice-part.result.now in
    looks_of_parts f n states (take c.in-Some.start states) part (after states part c.in-Some.start)
    c.keep_states-looks.new.kept.items
    c.as_slice.result.now c.append_kept.new.kept.items _ _
    (part_split states part c.in-Some.start c.in-Some.ensures.0) c.keep_states-looks.ensures.kept
    (c.as_slice.ensures.value ∙ c.requires.closure.kept.same ∙ ap (pick (keep n)) (sym c.as_slice-part.ensures.items))
    (ap (any_state f n) c.as_slice.ensures.value ∙ c.requires.closure.kept.looks other)
    (c.keep_states-looks.ensures.looks other) (c.append_kept.ensures.looks other) (kept c)
