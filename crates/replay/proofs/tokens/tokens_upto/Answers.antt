use Rattle.automata_base.specs.Answers.Answers.{IsAnswer}
use Rattle.automata_base.specs.declared.util.search.Direction.TheVariants.{Forward}
use Rattle.automata_hybrid.specs.Searches.Passes.{IsFound, WithoutBase}
use Rattle.regex_automata.proofs.TokenLists.Tiling.{begins, found_by, free_of, tiles}
use Rattle.std.proofs.Common.{Option, subst, arith}
use Rattle.regex_automata.specs.Tokens.{AreGiven}
use Rattle.regex_automata.specs.declared.tokens.error.TokenError.{TokenError}
use Rattle.replay.proofs.tokens.tokens_upto.Goals as goal
use Rattle.automata_hybrid.specs.Machines.Machine.{engine}

pub returns-clause-of : goal.returns-clause-of
returns-clause-of c = (c.take_tokens.ensures.forward, c.take_tokens.ensures.reverse)

pub returns-clause-returned : goal.returns-clause-returned
returns-clause-returned c =
    let m = c.args.regex.now.forward in
    let input = c.args.input in
    let ts = c.take_tokens.result.0.items in
    let error = c.take_tokens.result.1 in
    let given = c.take_tokens.ensures.given in
    record {
      paths = λ cycles. found_by m input.haystack input.end (λ i. WithoutBase (IsAnswer Forward (engine m) i))
          (λ offset o returned. returned.0.answer cycles) input.start ts error given;
      beginning = begins m input.haystack input.end input.start ts error given;
      whole = λ none. tiles m input.haystack input.end input.start ts
          (subst (λ (e : Option TokenError). AreGiven m input.haystack input.end input.start ts e) none given);
      free = λ free. free_of m input.haystack input.end input.start input.start ts error (omega arith) free given;
    }

pub returns-clause-found : goal.returns-clause-found
returns-clause-found c =
    let m = c.args.regex.now.forward in
    let input = c.args.input in
    record {
      given = c.take_tokens.ensures.given;
      found =
          found_by m input.haystack input.end (λ i. WithoutBase (IsFound Forward m i)) (λ offset o returned. returned.1)
          input.start c.take_tokens.result.0.items c.take_tokens.result.1 c.take_tokens.ensures.given;
    }
