use Rattle.std.proofs.Common.{map, refl, subst}
use Rattle.std.specs.Prelude.{option_map, string_bytes}
use Rattle.regex_hir.specs.Meaning.{meaning}
use Rattle.regex_syntax.specs.Verdict.{Reads}
use Rattle.regex_syntax.specs.declared.Config.{Config}
use Rattle.examples.proofs.fallback.finder.simulated_of.Goals as goal

pub returns : goal.returns
returns c =
    let hir = c.in-Ok.parsed.hir in
    let names = map (option_map string_bytes) c.in-Ok.parsed.names.items in
    let read =
    subst (λ (config : Config). Reads config c.args.text.now hir names) c.syntax.ensures c.in-Ok.ensures.ok in
    (meaning hir, (hir, names, read, refl), c.in-Ok-compile.ensures.matches)
