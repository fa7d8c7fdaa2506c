use Rattle.std.proofs.Common.{map, refl, subst, sym}
use Rattle.automata_config.specs.Options.{overwritten, unset}
use Rattle.lazydfa_c.specs.Builds.{RefusesRegex}
use Rattle.lazydfa_c.specs.Texts.{IsRegexFor}
use Rattle.lazydfa_c.proofs.Opening.{opens}
use Rattle.lazydfa_c.proofs.Texts.{searches_texts}
use Rattle.lazydfa_c.proofs.text.open_nfa.Goals as goal

pub pattern_for-pattern-requires : goal.pattern_for-pattern-requires
pattern_for-pattern-requires c =
    searches_texts (overwritten unset c.args.config) c.args.nfa c.args.forward_only c.args.options.now
    (map (λ text. text.now) c.args.texts.now) c.in-Ok.built c.requires.meant c.in-Ok.ensures.built

pub returns-in-Ok : goal.returns-in-Ok
returns-in-Ok c =
    opens _ _
    (record { pattern = c.pattern_for-pattern.result; programs = c.args.programs; words = c.args.words })
    c.args.regex.now c.open.new.handle c.open.result (
      (
        subst (IsRegexFor c.args.forward_only (overwritten unset c.args.config) c.args.nfa)
            (sym c.pattern_for-pattern.ensures.regex) c.in-Ok.ensures.built,
        c.pattern_for-pattern.ensures.waits,
      ),
      refl,
      refl,
    )
    c.open.ensures.opened c.open.ensures.same c.open.ensures.err

pub returns-in-Err : goal.returns-in-Err
returns-in-Err c = (refl, RefusesRegex c.in-Err.ensures.refused)
