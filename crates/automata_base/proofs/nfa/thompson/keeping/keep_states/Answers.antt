use Rattle.std.proofs.Common.{◌≡◌, ◌≤◌, ◌++◌, ◌||◌, eqb, sym, ◌∙◌, ap, subst, length, List, ℕ, Bool}
use Rattle.automata_base.specs.Lists.{pick}
use Rattle.automata_base.specs.Nfas.Nodes.{nfa_of}
use Rattle.automata_base.specs.Haystacks.LookSets.{truth_of}
use Rattle.automata_base.specs.Nfas.Nfa.{keep}
use Rattle.automata_base.specs.Retraced.Computed.{any_state}
use Rattle.automata_base.specs.Haystacks.Looks.{Look, look_index}
use Rattle.automata_base.proofs.Powersets.Keeping.{any_kept, kept_few}
use Rattle.automata_base.proofs.Paths.LookSets.{truth_of_none}
use Rattle.automata_base.proofs.nfa.thompson.keeping.keep_states.Goals as goal

kept :
    (c : goal.After-append_kept) → c.append_kept.new.kept.items ≡ pick (keep (nfa_of c.args.nfa.now)) c.args.states.now
kept c =
    c.append_kept.ensures.kept
    ∙ ap (λ z. z ++ pick (keep (nfa_of c.args.nfa.now)) c.args.states.now) c.clear.ensures.items

pub returns-clause-kept : goal.returns-clause-kept
returns-clause-kept c = kept c

pub returns-clause-few : goal.returns-clause-few
returns-clause-few c =
    subst (λ (z : List ℕ). length z ≤ length c.args.states.now) (sym (kept c))
    (kept_few (nfa_of c.args.nfa.now) c.args.states.now)

pub returns-clause-looks : goal.returns-clause-looks
returns-clause-looks c = λ other.
    let n = nfa_of c.args.nfa.now in
    let f : Look → Bool = λ look. eqb (look_index look) (look_index other) in
    c.append_kept.ensures.looks other
    ∙ (ap (λ z. z || any_state f n c.args.states.now) (ap (λ z. truth_of z other) c.empty.ensures ∙ truth_of_none other)
    ∙ (sym (any_kept f n c.args.states.now) ∙ ap (any_state f n) (sym (kept c))))
