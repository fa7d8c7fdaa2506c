use Rattle.std.proofs.Common.{inr, map}
use Rattle.patterns.specs.Patterns.{IsJoinedNfa}
use Rattle.patterns.proofs.Building.{begins_anchored, joined_is}
use Rattle.patterns.proofs.Drafting.{unjoined, within_limit}
use Rattle.patterns.proofs.compile.nfa_of.Goals as goal

joined : (c : goal.After-drop-draft-in-Ok) → IsJoinedNfa c.args.options.now c.in_ok-read.ensures.read.res c.in-Ok.nfa
joined c =
    let draft = c.in_ok-read.ensures.read in
    let made = c.in-Ok.ensures.simplified in
    joined_is c.args.options.now draft.res draft.ks made.0 c.in-Ok.nfa draft.nfas (made.1 draft.ks draft.has) made.2

pub returns-in-Ok-clause-meant : goal.returns-in-Ok-clause-meant
returns-in-Ok-clause-meant c =
    let draft = c.in_ok-read.ensures.read in (draft.res, draft.meant, joined c)

pub returns-in-Ok-clause-acyclic : goal.returns-in-Ok-clause-acyclic
returns-in-Ok-clause-acyclic c = (joined c).acyclic

pub returns-in-Ok-clause-anchored : goal.returns-in-Ok-clause-anchored
returns-in-Ok-clause-anchored c =
    let draft = c.in_ok-read.ensures.read in
    let made = c.in-Ok.ensures.simplified in
    begins_anchored c.args.options.now.size_limit c.args.options.now.utf8 draft.ks made.0 c.in-Ok.nfa
    (made.1 draft.ks draft.has) made.2

pub returns-in-Ok-clause-small : goal.returns-in-Ok-clause-small
returns-in-Ok-clause-small c =
    let draft = c.in_ok-read.ensures.read in
    let made = c.in-Ok.ensures.simplified in
    within_limit c.args.options.now (map (λ text. text.now) c.args.texts.now) c.read.new.self made.0 c.in-Ok.nfa draft
    (made.1 draft.ks draft.has) made.2

pub returns-clause-refused : goal.returns-clause-refused
returns-clause-refused c =
    let texts = map (λ text. text.now) c.args.texts.now in
    let draft = c.in_ok-read.ensures.read in
    inr (unjoined c.args.options.now texts c.read.new.self draft _ (c.in-Err.ensures.refused draft.ks draft.has))
