use Rattle.std.proofs.Common.{◌≡◌, ◌∙◌, Some, ap, option_map, rules}
use Rattle.lazydfa_c.specs.Requests.{found_half}
use Rattle.lazydfa_c.specs.Words.{meant_in}
use Rattle.lazydfa_c.proofs.Simulating.{ends, half_of}
use Rattle.lazydfa_c.proofs.object.Searcher.find_end_by_programs.Goals as goal

pub returns-in-Some-clause-means : goal.returns-in-Some-clause-means
returns-in-Some-clause-means c =
    let same : c.new.result ≡ half_of c.in-Some.it = search rules in record {
      result = Some (half_of c.in-Some.it);
      told = (c.of.ensures ∙ ap found_half same, c.from.ensures);
      meant =
          λ programs res is finds.
          ap (option_map half_of) (c.in-Some.ensures.meant programs res is finds)
          ∙ ends res c.args.input.now.haystack (meant_in programs.utf8 res c.args.input.now);
    }
