use Rattle.std.proofs.Common.{◌≡◌, ◌∙◌, ◌-◌, None, Option, ap, arith, suc, subst, sym}
use Rattle.automata_base.specs.Answers.Answers.{offset_in}
use Rattle.automata_base.specs.Haystacks.Matches.{HalfMatch}
use Rattle.automata_hybrid.specs.Cache.Table.{LeadsToNamed}
use Rattle.automata_hybrid.specs.Private.Searches.PassContracts.{IsKnownUpto, found_there}
use Rattle.automata_hybrid.specs.Searches.PassState.{half_at}
use Rattle.automata_hybrid.specs.Searches.Passes.{state_in}
use Rattle.automata_hybrid.proofs.Searches.Traces.{pass_is_trace}
use Rattle.automata_hybrid.proofs.search.pass.place_at.Goals as goal

pub next_known-next-requires : goal.next_known-next-requires
next_known-next-requires c = (
  c.requires.sound,
  record {
    on = record {
      trace = pass_is_trace c.args.way c.args.dfa.now c.args.input.now;
      named = c.requires.at.upto.at.at.named;
    };
    undone = c.requires.at.upto.at.undone;
    within = c.requires.at.upto.within;
    upto = omega (arith, c.last_place-last.ensures.place);
  },
)

pub returns-clause-upto : goal.returns-clause-upto
returns-clause-upto c =
    let q = state_in c.args.way c.args.dfa.now c.args.input.now c.args.from.at in
    let named = c.requires.at.upto.at.at.named in
    let one : c.args.from.at ≡ suc (c.args.from.at - 1) = omega (arith, c.if-from-eq0.false) in
    let there :
    c.requires.at.found
    ≡ half_at q.patterns (offset_in c.args.way c.args.input.now (c.args.from.at - 1)) None =
    c.requires.at.there q named ∙ ap (λ k. found_there c.args.way c.args.input.now k q.patterns) one in
    subst (λ (found : Option HalfMatch). IsKnownUpto c.args.way c.args.dfa.now c.args.cache.now.store c.args.input.now
    c.args.from.at c.args.from.id found)
    (there ∙ ap (λ n. half_at q.patterns n None) (sym c.place_offset-offset.ensures.value)
    ∙ sym (c.found_at.ensures q (LeadsToNamed named)))
    c.requires.at.upto
