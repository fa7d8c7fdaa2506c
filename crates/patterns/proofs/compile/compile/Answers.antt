use Rattle.std.proofs.Common.{◌≡◌, ◌<◌, arith, length, map, option_map, refl, subst, sym}
use Rattle.std.specs.Prelude.{string_bytes, vec_len}
use Rattle.std.proofs.lemmas.List.{length-map}
use Rattle.regex_hir.specs.Meaning.{meaning}
use Rattle.patterns.specs.Faults.{IsFaultOf}
use Rattle.patterns.specs.Patterns.{IsPattern, config_of}
use Rattle.patterns.proofs.Compilable.{compilable}
use Rattle.patterns.proofs.Faults.{compiler_fault}
use Rattle.patterns.proofs.compile.compile.Goals as goal

pub returns-in-Ok-compile-clause-compiled : goal.returns-in-Ok-compile-clause-compiled
returns-in-Ok-compile-clause-compiled c = (
  meaning c.in_ok-parsed.parsed.hir,
  (c.in_ok-parsed.parsed.hir, _, c.in_ok-parsed.ensures.read, refl),
  (c.in-Ok-compile.ensures.matches, c.in-Ok-compile.ensures.paths),
)

pub returns-in_default-clause-refused : goal.returns-in_default-clause-refused
returns-in_default-clause-refused c =
    (meaning c.in_ok-parsed.parsed.hir, (c.in_ok-parsed.parsed.hir, _, c.in_ok-parsed.ensures.read, refl))

pub returns-clause-refused : goal.returns-clause-refused
returns-clause-refused c =
    let parsed = c.in_ok-parsed.parsed in
    let config = config_of c.args.options.now in
    let names = map (option_map string_bytes) parsed.names.items in
    let same : c.in-Ok.groups ≡ vec_len parsed.names = omega (arith, c.in-Ok.ensures, c.len.ensures) in
    let counted : c.in-Ok.groups ≡ length names =
    omega (arith, same, parsed.names.ok.0, length-map parsed.names.items (option_map string_bytes)) in
    let some : 0 < vec_len parsed.names = c.in_ok-parsed.ensures.groups in
    let is : IsPattern config c.args.text.now =
    (meaning parsed.hir, (parsed.hir, names, c.in_ok-parsed.ensures.read, refl)) in
    subst (IsFaultOf c.args.options.now c.args.text.now) (sym c.from.ensures)
    (compiler_fault c.args.options.now c.args.text.now c.in-Err.error is
    (c.in-Err.ensures.whole
    (compilable config c.args.text.now parsed.hir names c.in_ok-parsed.ensures.read c.in_ok-parsed.ensures.formed
    c.in-Ok.groups counted)
    (omega (arith, same, some))))
