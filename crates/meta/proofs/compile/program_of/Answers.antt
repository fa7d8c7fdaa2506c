use Rattle.std.proofs.Common.{refl, subst, sym, ⊎_elim}
use Rattle.regex_hir.specs.Meaning.{meaning}
use Rattle.patterns.specs.Faults.{IsFaultOf}
use Rattle.meta.proofs.compile.program_of.Goals as goal

pub returns-in-Err-clause-refused : goal.returns-in-Err-clause-refused
returns-in-Err-clause-refused c =
    let o = c.args.options.now in
    let text = c.args.text.now in
    let hir = c.in_ok-parsed.parsed.hir in
    ⊎_elim
    (λ e. subst (IsFaultOf o text) (sym e) (meaning hir, (hir, _, c.in_ok-parsed.ensures.read, refl)))
    (λ e. subst (IsFaultOf o text) (sym e) tt)
    c.in-Err.ensures.refused
