use Rattle.std.proofs.Common.{◌∙◌, false, subst}
use Rattle.automata_hybrid.proofs.Words.{Powerset}
use Rattle.automata_hybrid.specs.Private.Cache.Growth.{HasAdded}
use Rattle.automata_hybrid.proofs.Storage.Sound.{sound_of, sound_still}
use Rattle.automata_hybrid.proofs.cache.Cache.add_again.Goals as goal

pub returns-clause-sound : goal.returns-clause-sound
returns-clause-sound c =
    sound_of c.requires.sound (c.in_ok-id.ensures.added.of ∙ c.requires.sound.of) c.reveal_invariant.ensures.store
    c.reveal_invariant.ensures.table

pub returns-in_err-id-clause-sound : goal.returns-in_err-id-clause-sound
returns-in_err-id-clause-sound c = sound_still c.in_err-id.ensures.refused.kept c.requires.sound

pub returns-clause-added : goal.returns-clause-added
returns-clause-added c =
    subst
    (λ (q : Powerset). HasAdded c.args.self.now c.add_start.new.self (record { state = q; started = false })
    c.in_ok-id.id) c.in_ok-state.ensures.cases c.in_ok-id.ensures.added
