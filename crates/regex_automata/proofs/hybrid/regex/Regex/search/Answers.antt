use Rattle.std.specs.Result.{result_err}
use Rattle.std.proofs.Common.{rules, ◌∙◌, ◌≤◌, Some, None, inl, inr, refl, sym, ap, subst}
use Rattle.std.specs.Prelude.{Err}
use Rattle.automata_config.specs.declared.error.SearchError.{SearchError}
use Rattle.automata_hybrid.specs.Searches.Passes.{with_base}
use Rattle.automata_hybrid.specs.Known.Passes.{IsSearchRun}
use Rattle.automata_hybrid.specs.Known.Stores.{known_of}
use Rattle.automata_base.specs.declared.util.search.Direction.TheVariants.{Forward}
use Rattle.automata_hybrid.specs.Searches.Bounds.{LiesPast}
use Rattle.regex_automata.specs.Spans.Outcomes.{IsStartFound}
use Rattle.regex_automata.proofs.Spans.Costs.{front_none, front_some, match_of}
use Rattle.regex_automata.proofs.Spans.Costs.{match_within, start_within}
use Rattle.regex_automata.proofs.Spans.NextMatches.{some_of}
use Rattle.regex_automata.proofs.Results.{err_ok, if_ok, is_err, ok_err, same_err, same_ok}
use Rattle.automata_base.proofs.Paths.Orders.{some_none}
use Rattle.regex_automata.proofs.hybrid.regex.Regex.search.Goals as goal
use Rattle.regex_automata.specs.Spans.Runs.{FindsNoStart, IsItsOwn}

pub try_search_fwd_base-requires : goal.try_search_fwd_base-requires
try_search_fwd_base-requires c =
    c.requires.0

pub returns-in_err-front-clause-of : goal.returns-in_err-front-clause-of
returns-in_err-front-clause-of c =
    (c.try_search_fwd_base.ensures.of, c.requires.1)

pub returns-in_err-front-clause-reported : goal.returns-in_err-front-clause-reported
returns-in_err-front-clause-reported c = record {
  found = if_ok c.from_residual.result _ _ c.from_residual.ensures.1;
  within = if_ok c.from_residual.result _ _ c.from_residual.ensures.1;
  unsupported =
      λ u. is_err c.from_residual.result _ c.from_residual.ensures.1
      ∙ ap (λ (e : SearchError). Err e) (same_err (c.in_err-front.ensures.based.unsupported u));
  done = λ past. absurd (err_ok (c.in_err-front.ensures.based.done past));
}

pub returns-in_err-front-clause-effect : goal.returns-in_err-front-clause-effect
returns-in_err-front-clause-effect c =
    let error = ap result_err (is_err c.from_residual.result _ c.from_residual.ensures.1) in
    record {
      run = inl (
        subst (IsSearchRun Forward c.args.self.now.forward c.args.input.now (known_of c.args.cache.now.forward)
            (known_of c.try_search_fwd_base.new.cache)) (sym error) c.in_err-front.ensures.effect,
        refl,
        λ ok. absurd (some_none (sym error ∙ ok)),
      );
    }

pub returns-in_default-clause-of : goal.returns-in_default-clause-of
returns-in_default-clause-of c =
    (c.try_search_fwd_base.ensures.of, c.requires.1)

pub returns-in_default-clause-reported : goal.returns-in_default-clause-reported
returns-in_default-clause-reported c = record {
  found =
      front_none c.args.self.now.forward c.args.input.now c.in_ok-front.field-0 c.in_ok-front.ensures.found
      c.in_default.is;
  within = search rules;
  unsupported = λ u. absurd (ok_err (c.in_ok-front.ensures.based.unsupported u));
  done = λ past. refl;
}

pub returns-in_default-clause-effect : goal.returns-in_default-clause-effect
returns-in_default-clause-effect c =
    record {
      run =
          inl (
            c.in_ok-front.ensures.effect,
            refl,
            λ ok. front_none c.args.self.now.forward c.args.input.now
                c.in_ok-front.field-0 c.in_ok-front.ensures.found c.in_default.is,
          );
    }

pub find_start-requires-clause-of : goal.find_start-requires-clause-of
find_start-requires-clause-of c =
    c.requires.1

pub find_start-requires-clause-past : goal.find_start-requires-clause-past
find_start-requires-clause-past c =
    some_of c.in_ok-front.field-0 c.in-Some.front (λ p. LiesPast c.args.self.now.forward c.args.input.now p.0 p.1)
    c.in_ok-front.ensures.based.within c.in-Some.is

pub returns-in_err-start-clause-of : goal.returns-in_err-start-clause-of
returns-in_err-start-clause-of c =
    (c.try_search_fwd_base.ensures.of, c.find_start.ensures.of)

pub returns-in_err-start-clause-reported : goal.returns-in_err-start-clause-reported
returns-in_err-start-clause-reported c = record {
  found = if_ok c.from_residual-in_err-start.result _ _ c.from_residual-in_err-start.ensures.1;
  within = if_ok c.from_residual-in_err-start.result _ _ c.from_residual-in_err-start.ensures.1;
  unsupported = λ u. absurd (ok_err (c.in_ok-front.ensures.based.unsupported u));
  done = λ past. absurd (some_none (sym c.in-Some.is ∙ same_ok (c.in_ok-front.ensures.based.done past)));
}

pub returns-in_err-start-clause-effect : goal.returns-in_err-start-clause-effect
returns-in_err-start-clause-effect c =
    record {
      run = inr (record {
        front = c.in_ok-front.ensures.effect;
        half = with_base c.in-Some.front.0 c.in-Some.front.1;
        found =
            front_some c.args.self.now.forward c.args.input.now c.in_ok-front.field-0 c.in-Some.front.0
            c.in-Some.front.1 c.in_ok-front.ensures.found c.in-Some.is;
        failed = Some c.in_err-start.field-0.0;
        back = c.in_err-start.ensures.effect;
        told =
            IsItsOwn
            (ap result_err (is_err c.from_residual-in_err-start.result _ c.from_residual-in_err-start.ensures.1));
      });
    }

pub returns-in_default-2-clause-of : goal.returns-in_default-2-clause-of
returns-in_default-2-clause-of c =
    (c.try_search_fwd_base.ensures.of, c.find_start.ensures.of)

pub returns-in_default-2-clause-reported : goal.returns-in_default-2-clause-reported
returns-in_default-2-clause-reported c = record {
  found = search rules;
  within = search rules;
  unsupported = λ u. absurd (ok_err (c.in_ok-front.ensures.based.unsupported u));
  done = λ past. absurd (some_none (sym c.in-Some.is ∙ same_ok (c.in_ok-front.ensures.based.done past)));
}

pub returns-in_default-2-clause-effect : goal.returns-in_default-2-clause-effect
returns-in_default-2-clause-effect c =
    record {
      run = inr (record {
        front = c.in_ok-front.ensures.effect;
        half = with_base c.in-Some.front.0 c.in-Some.front.1;
        found =
            front_some c.args.self.now.forward c.args.input.now c.in_ok-front.field-0 c.in-Some.front.0
            c.in-Some.front.1 c.in_ok-front.ensures.found c.in-Some.is;
        failed = None;
        back = c.in_ok-start.ensures.effect;
        told =
            FindsNoStart refl
            (subst (IsStartFound c.args.self.now c.args.input.now (with_base c.in-Some.front.0 c.in-Some.front.1))
            c.in_default-2.is c.in_ok-start.ensures.found)
            refl;
      });
    }

pub new-requires : goal.new-requires
new-requires c =
    subst (λ n. c.in-Some-2.start ≤ n) (sym c.offset.ensures)
    (start_within (c.in-Some.front.1) (c.in-Some.front.0.offset) c.in_ok-start.field-0 c.in-Some-2.start
    c.in_ok-start.ensures.within c.in-Some-2.is).1

pub returns-clause-of : goal.returns-clause-of
returns-clause-of c =
    (c.try_search_fwd_base.ensures.of, c.find_start.ensures.of)

pub returns-clause-reported : goal.returns-clause-reported
returns-clause-reported c = record {
  found =
      match_of c.args.self.now c.args.input.now (with_base c.in-Some.front.0 c.in-Some.front.1) c.in-Some-2.start
      c.offset.result c.pattern.result c.new.result
      (front_some c.args.self.now.forward c.args.input.now c.in_ok-front.field-0 c.in-Some.front.0 c.in-Some.front.1
      c.in_ok-front.ensures.found c.in-Some.is)
      (subst (IsStartFound c.args.self.now c.args.input.now (with_base c.in-Some.front.0 c.in-Some.front.1))
      c.in-Some-2.is c.in_ok-start.ensures.found) c.pattern.ensures c.offset.ensures c.new.ensures;
  within =
      match_within c.args.self.now c.args.input.now c.in-Some.front.0 c.in-Some.front.1 c.in-Some-2.start
      c.offset.result c.pattern.result c.new.result
      (some_of c.in_ok-front.field-0 c.in-Some.front (λ p. LiesPast c.args.self.now.forward c.args.input.now p.0 p.1)
      c.in_ok-front.ensures.based.within c.in-Some.is)
      (start_within (c.in-Some.front.1) (c.in-Some.front.0.offset) c.in_ok-start.field-0 c.in-Some-2.start
      c.in_ok-start.ensures.within c.in-Some-2.is) c.pattern.ensures c.offset.ensures c.new.ensures;
  unsupported = λ u. absurd (ok_err (c.in_ok-front.ensures.based.unsupported u));
  done = λ past. absurd (some_none (sym c.in-Some.is ∙ same_ok (c.in_ok-front.ensures.based.done past)));
}

pub returns-clause-effect : goal.returns-clause-effect
returns-clause-effect c =
    record {
      run = inr (record {
        front = c.in_ok-front.ensures.effect;
        half = with_base c.in-Some.front.0 c.in-Some.front.1;
        found =
            front_some c.args.self.now.forward c.args.input.now c.in_ok-front.field-0 c.in-Some.front.0
            c.in-Some.front.1 c.in_ok-front.ensures.found c.in-Some.is;
        failed = None;
        back = c.in_ok-start.ensures.effect;
        told = IsItsOwn refl;
      });
    }
