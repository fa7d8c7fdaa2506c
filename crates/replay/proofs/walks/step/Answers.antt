use Rattle.std.proofs.Common.{◌≡◌, ◌∙◌, ℕ, ap, subst, sym}
use Rattle.automata_base.specs.declared.util.search.Direction.TheVariants.{Backward, Forward}
use Rattle.automata_hybrid.specs.Cache.Caches.{CacheView}
use Rattle.automata_hybrid.specs.Machines.Machine.{Machine}
use Rattle.replay.specs.Replies.{dfa_in}
use Rattle.replay.specs.Players.{IsCall, MakesCall}
use Rattle.replay.specs.Caches.{HasAnswered, own_of}
use Rattle.regex_automata.specs.declared.hybrid.regex.caches.Cache.{Cache}
use Rattle.replay.proofs.walks.step.Goals as goal

pub step_of-requires-in-Backward-clause-reported : goal.step_of-requires-in-Backward-clause-reported
step_of-requires-in-Backward-clause-reported c =
    let back : c.args.way ≡ Backward = c.in-Backward.is in
    subst (λ (m : Machine). (k : ℕ) × HasAnswered c.args.way m c.args.input.now c.args.state.now k)
    (ap (λ b. dfa_in b c.args.regex.now) back ∙ sym c.reverse.ensures) c.requires.reported

pub returns-in-Backward-clause-call : goal.returns-in-Backward-clause-call
returns-in-Backward-clause-call c =
    let back : c.args.way ≡ Backward = c.in-Backward.is in
    subst (λ (m : Machine). IsCall c.args.way m c.args.input.now c.args.state.now c.step_of-in-Backward.new.state
    c.step_of-in-Backward.result)
    (c.reverse.ensures ∙ sym (ap (λ b. dfa_in b c.args.regex.now) back)) c.step_of-in-Backward.ensures.call

pub step_of-requires-clause-reported : goal.step_of-requires-clause-reported
step_of-requires-clause-reported c =
    let forward : c.args.way ≡ Forward = c.in-Forward.is in
    subst (λ (m : Machine). (k : ℕ) × HasAnswered c.args.way m c.args.input.now c.args.state.now k)
    (ap (λ b. dfa_in b c.args.regex.now) forward ∙ sym c.forward.ensures) c.requires.reported

pub returns-in-Forward-clause-call : goal.returns-in-Forward-clause-call
returns-in-Forward-clause-call c =
    let forward : c.args.way ≡ Forward = c.in-Forward.is in
    subst (λ (m : Machine). IsCall c.args.way m c.args.input.now c.args.state.now c.step_of.new.state c.step_of.result)
    (c.forward.ensures ∙ sym (ap (λ b. dfa_in b c.args.regex.now) forward)) c.step_of.ensures.call

pub returns-in-Backward-clause-made : goal.returns-in-Backward-clause-made
returns-in-Backward-clause-made c =
    let back : c.args.way ≡ Backward = c.in-Backward.is in
    let new : Cache = record { forward = c.args.cache.now.forward; reverse = c.step_of-in-Backward.new.cache } in
    subst (λ b. MakesCall c.args.way (dfa_in b c.args.regex.now) c.args.input.now c.args.state.now
    (own_of b c.args.cache.now) (own_of b new) c.step_of-in-Backward.result) (sym back)
    (subst (λ (v : CacheView). MakesCall c.args.way c.args.regex.now.reverse c.args.input.now c.args.state.now v
    c.step_of-in-Backward.new.cache c.step_of-in-Backward.result) c.reverse_mut.ensures.value
    (subst (λ (m : Machine). MakesCall c.args.way m c.args.input.now c.args.state.now c.reverse_mut.result.now
    c.step_of-in-Backward.new.cache c.step_of-in-Backward.result) c.reverse.ensures c.step_of-in-Backward.ensures.made))

pub returns-in-Forward-clause-made : goal.returns-in-Forward-clause-made
returns-in-Forward-clause-made c =
    let forward : c.args.way ≡ Forward = c.in-Forward.is in
    let new : Cache = record { forward = c.step_of.new.cache; reverse = c.args.cache.now.reverse } in
    subst (λ b. MakesCall c.args.way (dfa_in b c.args.regex.now) c.args.input.now c.args.state.now
    (own_of b c.args.cache.now) (own_of b new) c.step_of.result) (sym forward)
    (subst (λ (v : CacheView). MakesCall c.args.way c.args.regex.now.forward c.args.input.now c.args.state.now v
    c.step_of.new.cache c.step_of.result) c.forward_mut.ensures.value
    (subst (λ (m : Machine). MakesCall c.args.way m c.args.input.now c.args.state.now c.forward_mut.result.now
    c.step_of.new.cache c.step_of.result) c.forward.ensures c.step_of.ensures.made))
