use Rattle.std.proofs.Common.{subst, sym, Some, None}
use Rattle.automata_hybrid.specs.Machines.Machine.{Machine}
use Rattle.automata_hybrid.specs.Pieces.State.{IsPiecesOf}
use Rattle.automata_hybrid.specs.Pieces.Walks.{EndsWith}
use Rattle.automata_hybrid.specs.Known.Pieces.{IsWalkEndRun}
use Rattle.automata_hybrid.specs.Known.Stores.{known_of}
use Rattle.patterns.specs.declared.pattern.Pattern.{Pattern}
use Rattle.lazydfa_c.specs.Streams.{WalkView}
use Rattle.lazydfa_c.proofs.walk.Walk.end.Goals as goal

pub end_walk-requires-clause-walk : goal.end_walk-requires-clause-walk
end_walk-requires-clause-walk c =
    let p = c.self.inside.walk in
    subst (λ (m : Machine). IsPiecesOf p m) (sym c.forward.ensures)
    (subst (λ (v : Pattern). IsPiecesOf p v.regex.forward) (sym c.deref.ensures) c.self.invariant)

pub returns-in-Ok-clause-ends : goal.returns-in-Ok-clause-ends
returns-in-Ok-clause-ends c =
    let w = c.self.inside.walk in let ahead = c.args.ahead in let end = c.in-Ok.end in
    subst (λ (v : WalkView). EndsWith v.machine v.walk ahead end) c.self.view_is
    (subst (λ (v : Pattern). EndsWith v.regex.forward w ahead end) c.deref.ensures
    (subst (λ (m : Machine). EndsWith m w ahead end) c.forward.ensures c.in-Ok.ensures.ends))

pub returns-in-Ok-clause-effect : goal.returns-in-Ok-clause-effect
returns-in-Ok-clause-effect c =
    let w = c.self.inside.walk in let ahead = c.args.ahead in
    let old = c.args.cache.now in let new = c.end_walk.new.cache in
    subst (λ (v : WalkView). IsWalkEndRun v.machine ahead v.walk (known_of old) (known_of new) None) c.self.view_is
    (subst (λ (v : Pattern). IsWalkEndRun v.regex.forward ahead w (known_of old) (known_of new) None) c.deref.ensures
    (subst (λ (m : Machine). IsWalkEndRun m ahead w (known_of old) (known_of new) None) c.forward.ensures
    c.in-Ok.ensures.effect))

pub returns-in-Err-clause-effect : goal.returns-in-Err-clause-effect
returns-in-Err-clause-effect c =
    let w = c.self.inside.walk in let ahead = c.args.ahead in let e = c.in-Err.error in
    let old = c.args.cache.now in let new = c.end_walk.new.cache in
    subst (λ (v : WalkView). IsWalkEndRun v.machine ahead v.walk (known_of old) (known_of new) (Some e)) c.self.view_is
    (subst (λ (v : Pattern). IsWalkEndRun v.regex.forward ahead w (known_of old) (known_of new) (Some e))
    c.deref.ensures
    (subst (λ (m : Machine). IsWalkEndRun m ahead w (known_of old) (known_of new) (Some e)) c.forward.ensures
    c.in-Err.ensures.effect))
