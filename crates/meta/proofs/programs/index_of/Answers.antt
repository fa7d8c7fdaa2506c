use Rattle.std.proofs.Common.{◌≡◌, ◌∙◌, None, ap, arith, inl, inr, map, option_map, slice_index_or, string_bytes, sym}
use Rattle.std.proofs.Common.{true≢false}
use Rattle.std.proofs.lemmas.Bool.{cases_lt}
use Rattle.std.proofs.lemmas.List.{get_or-map}
use Rattle.meta.proofs.programs.index_of.Goals as goal

pub names-preserved : goal.names-preserved
names-preserved c k below named =
    let names = map (option_map string_bytes) c.args.names.now in
    let i = c.names.index in
    let own = c.index-names-index.result in
    elim (cases_lt k i) [
      | inl lt ↦ c.names.invariant k lt named
      | inr ge ↦
          let same : i ≡ k = omega arith in
          let read : option_map string_bytes own ≡ slice_index_or names i None =
          ap (option_map string_bytes) c.index-names-index.is
          ∙ sym (get_or-map (option_map string_bytes) c.args.names.now i own None (omega arith)) in
          true≢false
          (sym (c.is_named.ensures.1 (read ∙ ap (λ n. slice_index_or names n None) same ∙ named))
          ∙ c.if-is_named.false)
    ]
