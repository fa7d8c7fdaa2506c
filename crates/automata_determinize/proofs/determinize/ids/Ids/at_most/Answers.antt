use Rattle.std.proofs.Common.{arith, subst, ◌≤◌, List, ℕ, length}
use Rattle.automata_determinize.specs.Powersets.Code.{numbers, ids_of}
use Rattle.automata_determinize.proofs.Powersets.Code.Groups.{length-ids_of, length-numbers_most}
use Rattle.automata_determinize.proofs.determinize.ids.Ids.at_most.Goals as goal

pub returns : goal.returns
returns c =
    let most : length (ids_of c.self.inside.before (numbers c.self.inside.rest.now)) ≤ length c.self.inside.rest.now =
    omega (
      arith,
      length-ids_of c.self.inside.before (numbers c.self.inside.rest.now),
      length-numbers_most
          c.self.inside.rest.now,
    ) in
    subst (λ (xs : List ℕ). length xs ≤ length c.self.inside.rest.now) c.self.view_is most
