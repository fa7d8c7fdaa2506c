use Rattle.std.proofs.Common.{◌∙◌, None, false, refl, subst, sym}
use Rattle.automata_config.specs.Options.{overwritten, unset}
use Rattle.lazydfa_c.specs.Builds.{IsBuiltRegex}
use Rattle.lazydfa_c.proofs.Opening.{opens}
use Rattle.lazydfa_c.proofs.regex.open_sound.Goals as goal

pub returns : goal.returns
returns c =
    let made =
    subst (IsBuiltRegex (overwritten unset c.args.config) c.args.nfa)
    (sym (c.try_first_bytes.ensures.regex ∙ c.from_regex-pattern.ensures.regex)) c.in_ok-regex.ensures.built in
    opens _ _ (record { pattern = c.try_first_bytes.new.self; programs = None; words = false }) c.args.handle.now
    c.open.new.handle c.open.result
    (made, c.try_first_bytes.ensures.prefilter ∙ c.from_regex-pattern.ensures.plain, refl, refl)
    c.open.ensures.opened c.open.ensures.same c.open.ensures.err
