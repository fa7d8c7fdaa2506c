use Rattle.std.proofs.Common.{◌≡◌, ◌∙◌, ◌≤◌, ◌<◌, Bool, true, false, Option, None, refl, sym, ap, subst}
use Rattle.std.specs.Prelude.{Result, Ok, Err, is_some}
use Rattle.std.specs.Result.{result_err}
use Rattle.automata_base.specs.Haystacks.Input.{Input}
use Rattle.automata_base.specs.Haystacks.Matches.{HalfMatch}
use Rattle.automata_base.specs.Nfas.Nodes.{Automaton}
use Rattle.automata_base.specs.Haystacks.Tapes.{byte_before}
use Rattle.automata_base.specs.declared.util.search.Direction.TheVariants.{Forward}
use Rattle.automata_base.specs.declared.util.search.MatchErrorKind.TheVariants.{UnsupportedAnchored as UnsupportedMode}
use Rattle.automata_determinize.specs.Answers.OfPasses.{ReportedIsRight}
use Rattle.automata_config.specs.declared.error.SearchError.{SearchError}
use Rattle.automata_config.specs.declared.error.SearchError.TheVariants as search
use Rattle.automata_hybrid.specs.Known.Passes.{IsSearchRun}
use Rattle.automata_hybrid.specs.Known.Stores.{known_of}
use Rattle.automata_hybrid.specs.Searches.Passes.{NoQuitInReach}
use Rattle.automata_hybrid.specs.Machines.StartSlots.{supports}
use Rattle.automata_hybrid.specs.Steps.Starts.{quit_behind}
use Rattle.automata_hybrid.proofs.Searches.PassState.{if_err}
use Rattle.regex_automata.proofs.Spans.Truths.{asked_from, asked_to, match_right, truth_found, truth_nearest}
use Rattle.regex_automata.proofs.Spans.Truths.{truth_reported}
use Rattle.regex_automata.proofs.Spans.Returned.{truth_returned}
use Rattle.regex_automata.proofs.Results.{err_ok, if_ok, is_err, ok_err, same_err, same_ok}
use Rattle.regex_automata.proofs.hybrid.regex.Regex.is_match.Goals as goal

pub returns-in_err-found-clause-of : goal.returns-in_err-found-clause-of
returns-in_err-found-clause-of c =
    (c.try_search_fwd.ensures.of, c.requires.1)

pub returns-in_err-found-clause-returned : goal.returns-in_err-found-clause-returned
returns-in_err-found-clause-returned c =
    truth_returned c.args.self.now c.args.input.now c.from_residual.result
    (λ cycles. if_ok c.from_residual.result _ _ c.from_residual.ensures.1)
    (λ whole. if_ok c.from_residual.result _ _ c.from_residual.ensures.1)
    (λ ahead behind mode. is_err c.from_residual.result _ c.from_residual.ensures.1
    ∙ ap (λ (e : SearchError). Err e) (same_err
    (asked_to
    (λ (i : Input). i.start ≤ i.end → quit_behind c.args.self.now.forward (byte_before i.haystack i.start) ≡ None
    → supports c.args.self.now.forward i.anchored ≡ false
    → ◌≡◌ {A = Result (Option HalfMatch) SearchError} (Err c.in_err-found.field-0.0)
    (Err (search.Match (UnsupportedMode i.anchored))))
    c.args.self.now.forward c.args.input.now c.asked-asked.result c.asked-asked.ensures.asked (λ x. x) (λ x. x)
    (λ undone clear mode. c.in_err-found.ensures.half.unsupported
    (record { undone = undone; behind = clear; mode = mode })) ahead behind mode)))
    (λ reach mode free. if_err c.from_residual.result _ _ c.from_residual.ensures.1
    (c.in_err-found.ensures.half.free (record {
      reach =
          asked_from (NoQuitInReach c.args.self.now.forward) c.args.self.now.forward c.args.input.now
          c.asked-asked.result c.asked-asked.ensures.asked reach reach;
      supported =
          asked_from (λ (i : Input). supports c.args.self.now.forward i.anchored ≡ true) c.args.self.now.forward
          c.args.input.now c.asked-asked.result c.asked-asked.ensures.asked mode mode;
      clears = free;
    })))
    (λ past. absurd
    (err_ok (asked_to
    (λ (i : Input). i.end < i.start
    → ◌≡◌ {A = Result (Option HalfMatch) SearchError} (Err c.in_err-found.field-0.0) (Ok None)) c.args.self.now.forward
    c.args.input.now c.asked-asked.result c.asked-asked.ensures.asked (λ x. x) (λ x. x)
    (λ l. c.in_err-found.ensures.half.done l) past)))

pub returns-in_err-found-clause-effect : goal.returns-in_err-found-clause-effect
returns-in_err-found-clause-effect c = record {
  asked = c.asked-asked.result;
  is = c.asked-asked.ensures.asked;
  run =
      subst (IsSearchRun Forward c.args.self.now.forward c.asked-asked.result (known_of c.args.cache.now.forward)
      (known_of c.try_search_fwd.new.cache))
      (sym (ap result_err (is_err c.from_residual.result _ c.from_residual.ensures.1))) c.in_err-found.ensures.effect;
  reverse = refl;
}

pub returns-clause-of : goal.returns-clause-of
returns-clause-of c =
    (c.try_search_fwd.ensures.of, c.requires.1)

pub returns-clause-returned : goal.returns-clause-returned
returns-clause-returned c =
    let reported =
    truth_reported c.args.self.now.forward c.args.input.now c.asked-asked.result c.asked-asked.ensures.asked
    c.in_ok-found.found c.is_some.result c.in_ok-found.ensures.found c.is_some.ensures in
    truth_returned c.args.self.now c.args.input.now (Ok c.is_some.result)
    (λ cycles. match_right c.args.self.now.forward
    (subst (λ (a : Automaton). ReportedIsRight a) c.get_nfa.ensures c.reported_is_right.ensures.answer) c.args.input.now
    c.is_some.result cycles (c.asked-asked.ensures.valid.bytes, c.asked-asked.ensures.valid.within.1)
    (truth_reported c.args.self.now.forward c.args.input.now c.asked-asked.result c.asked-asked.ensures.asked
    c.in_ok-found.found c.is_some.result c.in_ok-found.ensures.found c.is_some.ensures))
    (truth_nearest c.args.self.now.forward c.args.input.now c.asked-asked.result c.asked-asked.ensures.asked
    c.in_ok-found.found c.is_some.result c.in_ok-found.ensures.half.nearest c.is_some.ensures)
    (λ ahead behind mode. absurd (ok_err
    (asked_to
    (λ (i : Input). i.start ≤ i.end → quit_behind c.args.self.now.forward (byte_before i.haystack i.start) ≡ None
    → supports c.args.self.now.forward i.anchored ≡ false
    → ◌≡◌ {A = Result (Option HalfMatch) SearchError} (Ok c.in_ok-found.found)
    (Err (search.Match (UnsupportedMode i.anchored))))
    c.args.self.now.forward c.args.input.now c.asked-asked.result c.asked-asked.ensures.asked (λ x. x) (λ x. x)
    (λ undone clear mode. c.in_ok-found.ensures.half.unsupported
    (record { undone = undone; behind = clear; mode = mode })) ahead behind mode)))
    (λ reach mode free. tt)
    (λ past.
    let past' =
    asked_from (λ (i : Input). i.end < i.start) c.args.self.now.forward c.args.input.now c.asked-asked.result
    c.asked-asked.ensures.asked past past in
    ap (λ (b : Bool). Ok b) (c.is_some.ensures ∙ ap is_some (same_ok (c.in_ok-found.ensures.half.done past'))))

pub returns-in_err-found-clause-found : goal.returns-in_err-found-clause-found
returns-in_err-found-clause-found c =
    if_ok c.from_residual.result _ _ c.from_residual.ensures.1

pub returns-clause-found : goal.returns-clause-found
returns-clause-found c = record {
  found =
      truth_found c.args.self.now.forward c.args.input.now c.asked-asked.result c.asked-asked.ensures.asked
      c.in_ok-found.found c.is_some.result c.in_ok-found.ensures.found c.is_some.ensures;
  reported =
      truth_reported c.args.self.now.forward c.args.input.now c.asked-asked.result c.asked-asked.ensures.asked
      c.in_ok-found.found c.is_some.result c.in_ok-found.ensures.found c.is_some.ensures;
}

pub returns-clause-effect : goal.returns-clause-effect
returns-clause-effect c = record {
  asked = c.asked-asked.result;
  is = c.asked-asked.ensures.asked;
  run = c.in_ok-found.ensures.effect;
  reverse = refl;
}
