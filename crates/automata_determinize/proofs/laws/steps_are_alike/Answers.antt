use Rattle.automata_determinize.proofs.Powersets.Alike.{behind_alike, dead_stays}
use Rattle.automata_determinize.proofs.Powersets.AlikeClasses.{class_step}
use Rattle.automata_base.proofs.Powersets.AlikeClasses.{class_quits}
use Rattle.automata_determinize.proofs.laws.steps_are_alike.Goals as goal

pub returns-clause-classes : goal.returns-clause-classes
returns-clause-classes c = class_step

pub returns-clause-quits : goal.returns-clause-quits
returns-clause-quits c = class_quits

pub returns-clause-starts : goal.returns-clause-starts
returns-clause-starts c = behind_alike

pub returns-clause-dead : goal.returns-clause-dead
returns-clause-dead c = dead_stays
