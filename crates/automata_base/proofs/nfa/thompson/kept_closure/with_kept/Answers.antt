use Rattle.std.proofs.Common.{ℕ, List, ◌≡◌, ◌<◌, ◌≤◌, [], ◌∷◌, length, eqb, false, sym, ap, ◌∙◌, subst}
use Rattle.std.proofs.lemmas.Bool.{eqb-true}
use Rattle.automata_base.specs.Haystacks.LookSets.{truth_of}
use Rattle.automata_base.specs.Haystacks.Looks.{Look, look_index}
use Rattle.automata_base.specs.Lists.{In, pick}
use Rattle.automata_base.specs.Nfas.Nfa.{keep}
use Rattle.automata_base.specs.Retraced.Computed.{any_state}
use Rattle.automata_base.specs.Nfas.Nodes.{nfa_of}
use Rattle.automata_base.specs.Nfas.KeptClosure.{AreRows, IsRestCode, IsKeptClosure}
use Rattle.automata_base.proofs.Paths.LookSets.{truth_of_none}
use Rattle.automata_base.proofs.Paths.Loops.{visits_alike}
use Rattle.automata_base.proofs.Powersets.Keeping.{any_kept, kept_in}
use Rattle.automata_base.proofs.Powersets.KeptClosures.{plain}
use Rattle.automata_base.proofs.nfa.thompson.kept_closure.with_kept.Goals as goal

pub keep_states-looks-requires-clause-below : goal.keep_states-looks-requires-clause-below
keep_states-looks-requires-clause-below c = λ q i.
    subst (λ (z : ℕ). q < z) c.requires.whole
    (c.as_slice-2.ensures.below q (subst (λ z. In q z) c.as_slice-2.ensures.items i))

pub rows_if_plain-requires : goal.rows_if_plain-requires
rows_if_plain-requires c = record {
  below = λ q i.
      let kept = subst (λ (z : List ℕ). In q z) (c.as_slice-4.ensures.value ∙ c.keep_states-looks.ensures.kept) i in
      let state = kept_in (nfa_of c.args.nfa.now) c.as_slice-2.result.now q kept in
      subst (λ (z : ℕ). q < z) c.requires.whole
      (c.as_slice-2.ensures.below q (subst (λ z. In q z) c.as_slice-2.ensures.items state));
}

pub returns : goal.returns
returns c =
    let a = c.args.nfa.now in
    let n = nfa_of a in
    let kept = c.keep_states-looks.new.kept.items in
    let items = c.args.set.items in
    let same = c.as_slice-2.ensures.items in
    let none = eqb-true c.keep_states-looks.result 0 (sym c.is_empty.ensures ∙ c.if-not-is_empty.false) in
    let looks : (other : Look) → any_state (λ look. eqb (look_index look) (look_index other)) n kept ≡ false = λ other.
    sym (c.keep_states-looks.ensures.looks other) ∙ (ap (λ z. truth_of z other) none ∙ truth_of_none other) in
    subst (IsKeptClosure a) (sym c.in_ok-closure.ensures.ok)
    (record {
      closure = record {
        whole = c.requires.whole;
        visited = λ A.
            visits_alike n n (truth_of 0) A (c.args.root ∷ []) items
            (λ q i. plain n items
            (λ other.
            ap (any_state (λ look. eqb (look_index look) (look_index other)) n) (sym same)
            ∙ (sym (any_kept (λ look. eqb (look_index look) (look_index other)) n c.as_slice-2.result.now)
            ∙ (ap (any_state (λ look. eqb (look_index look) (look_index other)) n)
            (sym c.keep_states-looks.ensures.kept) ∙ looks other)))
            q i (truth_of 0) A)
            c.requires.visited;
      };
      kept = record {
        same = c.keep_states-looks.ensures.kept ∙ ap (pick (keep n)) same;
        few = subst (λ (z : List ℕ). length kept ≤ length z) same c.keep_states-looks.ensures.few;
        looks = looks;
      };
      code =
          subst (λ (z : List ℕ). IsRestCode z c.in_ok-code.code.items) c.as_slice-3.ensures.value c.in_ok-code.ensures;
      rows =
          subst (λ (z : List ℕ). AreRows n z c.in_ok-rows.rows.items) c.as_slice-4.ensures.value c.in_ok-rows.ensures;
    })
