use Rattle.std.proofs.Common.{ℕ, ◌≡◌, ◌+◌, ◌-◌, length, take, drop, ap, sym, ◌∙◌, arith}
use Rattle.std.specs.Bool.{Decides}
use Rattle.std.specs.Cmp.{unsigned_Decides}
use Rattle.std.proofs.lemmas.Slice.Eq.{slice_eq-Decides}
use Rattle.automata_base.specs.contracts.util.primitives.StateIDPartialEq.TheImpl.{ghosts}
use Rattle.automata_determinize.proofs.determinize.kept.stands_at.Goals as goal

same_id : (a b : ℕ) → Decides (ghosts.eq a b) (a ≡ b)
same_id a b = unsigned_Decides a b

pub returns : goal.returns
returns c = λ t.
    let start = c.args.start in
    let n : ℕ = length c.args.part.now in
    let whole = drop start c.args.list.now in
    let long : start + n - start ≡ n = omega arith in
    record {
      within = c.requires;
      same = ap (λ z. take z whole) (sym long)
          ∙ (slice_eq-Decides same_id (take (start + n - start) whole) c.args.part.now c.eq.result c.eq.ensures).0 t;
    }
