use Rattle.std.proofs.Common.{◌∙◌, length, ap}
use Rattle.lazydfa_c.specs.Caches.{written_over}
use Rattle.lazydfa_c.specs.Facts.{facts_of}
use Rattle.lazydfa_c.proofs.facts.write_facts.Goals as goal

pub returns-clause-ok : goal.returns-clause-ok
returns-clause-ok c =
    let known = c.in_ok-known.known in let all = c.in_ok-all.all in let sizes = c.in_ok-sizes.sizes in
    let long = c.len.ensures in
    record {
      within = c.in_ok-known.ensures.within;
      known = known;
      of = c.in_ok-known.ensures.ok;
      written = c.of.ensures ∙ ap (facts_of known) (long ∙ all.ok.0 ∙ ap length c.in_ok-all.ensures);
      bytes = c.write_over.ensures
          ∙ ap (λ bs. written_over bs c.args.bytes.now) (c.as_slice.ensures.value ∙ c.in_ok-all.ensures);
      lengths = c.write_over-2.ensures
          ∙ ap (λ ns. written_over ns c.args.lengths.now) (c.as_slice-2.ensures.value ∙ c.in_ok-sizes.ensures);
    }
