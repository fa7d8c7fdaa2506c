use Rattle.std.proofs.Common.{ℕ, ◌≡◌, IfOk, IfSome, List, map, subst, sym}
use Rattle.std.specs.Prelude.{Err, None, Ok, Option, Result, Some}
use Rattle.regex_extract.specs.Needles.{needles_of}
use Rattle.prefilters.specs.Needles.{AreNearInShort, NearNeedles, ReachesAll}
use Rattle.prefilters.specs.declared.heads.Head.TheVariants.{Within}
use Rattle.prefilters.proofs.Joining.{inner_are_near}
use Rattle.prefilters.proofs.prefilter.Prefilter.for_inner.Goals as goal

near_in :
    {E : Type 0} (needles : List (List ℕ)) (reach most : ℕ) (r : Result (Option NearNeedles) E)
    → ReachesAll needles reach most
    → IfOk r (λ o. IfSome o (λ p. p ≡ record { needles = needles; head = Within reach }))
    → IfOk r (λ o. IfSome o (AreNearInShort needles most))
near_in needles reach most (Ok (Some p)) reaches is =
    subst (AreNearInShort needles most) (sym is) (inner_are_near needles reach most reaches)
near_in needles reach most (Ok None) reaches is = is
near_in needles reach most (Err e) reaches is = is

pub returns-clause-near : goal.returns-clause-near
returns-clause-near c =
    near_in (needles_of c.args.needles) c.reach_in-reach.result c.args.most c.new.result
    (subst (λ vs. ReachesAll (map (λ v. v.items) vs) c.reach_in-reach.result c.args.most) c.deref.ensures.value
    c.reach_in-reach.ensures) c.new.ensures
