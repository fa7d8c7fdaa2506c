use Rattle.std.proofs.Common.{refl, subst}
use Rattle.lazydfa_c.specs.Texts.{WritesMessage}
use Rattle.lazydfa_c.proofs.text.lazydfa_raw_regex_any_of.Goals as goal

pub returns : goal.returns
returns c = record {
  from = c.none-report.result;
  none = c.none-report.ensures.refusal;
  empty = c.none-report.ensures.message;
  to = c.build_texts-done.new.report;
  done = c.build_texts-done.result;
  builds = c.build_texts-done.ensures;
  reported = (
    refl,
    subst (λ message. WritesMessage message c.args.message.now c.write_message.new.out) c.as_str.ensures.value
        c.write_message.ensures,
    c.of.ensures,
  );
}
