use Rattle.std.proofs.Common.{◌≡◌, ◌∙◌, refl, sym, ap, subst}
use Rattle.std.specs.Prelude.{Err}
use Rattle.std.proofs.lemmas.Bool.{false≢true}
use Rattle.automata_transform.specs.Nfas.Mirrors.{BeginsAlike}
use Rattle.automata_base.specs.Nfas.Nodes.{Automaton}
use Rattle.automata_transform.specs.Nfas.ReversedSizes.{MayBeTooLarge}
use Rattle.automata_transform.specs.declared.reverse.ReverseError.{ReverseError}
use Rattle.automata_transform.specs.declared.reverse.ReverseError.TheVariants.{OutOfMemory, Starts, TooLarge}
use Rattle.automata_config.specs.Options.{Options}
use Rattle.regex_automata.specs.Regexes.Builds.{IsBuildError, PassesTwo, reverse_build_error}
use Rattle.regex_automata.proofs.hybrid.regex.build.reverse_if.Goals as goal

-- an NFA that passes the tests made before the reversal cannot be reversed
unreversed :
    (o : Options) (a : Automaton) (e : ReverseError) → PassesTwo a → (e ≡ Starts → BeginsAlike a → ⊥)
    → (e ≡ TooLarge → BeginsAlike a) → (e ≡ TooLarge → MayBeTooLarge a) → IsBuildError o a (reverse_build_error e)
unreversed o a Starts passes starts alike large = (passes, starts refl)
unreversed o a TooLarge passes starts alike large = ((passes, alike refl), large refl)
unreversed o a OutOfMemory passes starts alike large = passes.0

pub returns-then-not-keeps-clause-refused : goal.returns-then-not-keeps-clause-refused
returns-then-not-keeps-clause-refused c = λ o. (
  c.requires.lazy,
  λ u. false≢true (sym c.if-not-keeps.true ∙ c.requires.keeps.1 u),
)

pub returns-in-Ok-clause-passes : goal.returns-in-Ok-clause-passes
returns-in-Ok-clause-passes c = (
  (c.requires.lazy, c.requires.keeps.0 c.if-not-keeps.false),
  c.in-Ok.ensures.alike,
)

pub returns-in-Err-clause-refused : goal.returns-in-Err-clause-refused
returns-in-Err-clause-refused c = λ o.
    subst (IsBuildError o c.args.forward.now) (sym c.from.ensures)
    (unreversed o c.args.forward.now c.in-Err.error (c.requires.lazy, c.requires.keeps.0 c.if-not-keeps.false)
    (λ is. c.in-Err.ensures.starts (ap Err is)) (λ is. c.in-Err.ensures.tested (ap Err is))
    (λ is. c.in-Err.ensures.large (ap Err is)))

pub returns-in-Ok-clause-pair : goal.returns-in-Ok-clause-pair
returns-in-Ok-clause-pair c = c.in-Ok.ensures.pair c.requires.lazy

pub returns-in-Ok-clause-utf8 : goal.returns-in-Ok-clause-utf8
returns-in-Ok-clause-utf8 c = ((λ e u. cc), λ no. absurd (no (c.requires.keeps.0 c.if-not-keeps.false)))
