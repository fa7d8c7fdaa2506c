use Rattle.std.proofs.Common.{◌≡◌, ◌∙◌, sym, ap, subst}
use Rattle.std.specs.Prelude.{IfOk, Ok}
use Rattle.std.specs.Result.{result_err}
use Rattle.automata_base.specs.Haystacks.Input.{Input}
use Rattle.automata_base.specs.Haystacks.Matches.{Match}
use Rattle.automata_base.specs.declared.util.search.Direction.TheVariants.{Forward}
use Rattle.automata_hybrid.specs.Cache.Caches.{CacheView}
use Rattle.automata_hybrid.specs.Machines.Machine.{Machine}
use Rattle.automata_hybrid.specs.Searches.Contracts.{IsHalf}
use Rattle.automata_hybrid.specs.Searches.Passes.{IsFound, WithoutBase}
use Rattle.automata_hybrid.specs.Known.Passes.{IsSearchRun}
use Rattle.automata_hybrid.specs.Known.Stores.{known_of}
use Rattle.regex_automata.specs.Tokens.{IsGivenAt, asked, match_of, search_error}
use Rattle.regex_automata.proofs.Results.{is_err}
use Rattle.regex_automata.proofs.TokenLists.Tiling.{error_is_given, token_is_given}
use Rattle.regex_automata.proofs.TokenLists.Refusals.{error_is, no_error_is}
use Rattle.automata_base.proofs.Answers.Once.{match_is}
use Rattle.regex_automata.proofs.tokens.iterate.token_at.Goals as goal

pub returns-in_err-token-clause-item : goal.returns-in_err-token-clause-item
returns-in_err-token-clause-item c =
    let m = c.args.regex.now.forward in
    let h = c.args.haystack.now in
    let offset = c.args.offset in
    let found = c.try_search_fwd-found.result in
    let returned =
    subst (λ i. IsHalf Forward m i found × IfOk found (WithoutBase (IsFound Forward m i))) c.asked-input.ensures
    (subst (λ n. IsHalf Forward n c.asked-input.result found
    × IfOk found (WithoutBase (IsFound Forward n c.asked-input.result))) c.forward-dfa.ensures
    (c.try_search_fwd-found.ensures.half, c.try_search_fwd-found.ensures.found)) in
    let given =
    error_is_given m h c.args.end offset found c.in_err-token.field-0.0 c.requires.ahead returned
    (sym c.in_err-token.was ∙ c.item.ensures) in
    subst (IsGivenAt m h c.args.end offset) (sym (is_err c.from_residual.result _ c.from_residual.ensures.1)) given

pub returns-clause-item : goal.returns-clause-item
returns-clause-item c =
    let m = c.args.regex.now.forward in
    let found = c.try_search_fwd-found.result in
    let token = c.in_ok-token.token in
    let returned =
    subst (λ i. IsHalf Forward m i found × IfOk found (WithoutBase (IsFound Forward m i))) c.asked-input.ensures
    (subst (λ n. IsHalf Forward n c.asked-input.result found
    × IfOk found (WithoutBase (IsFound Forward n c.asked-input.result))) c.forward-dfa.ensures
    (c.try_search_fwd-found.ensures.half, c.try_search_fwd-found.ensures.found)) in
    let same : match_of c.new.result ≡ token =
    c.new.ensures.found
    ∙ match_is _ token c.pattern.ensures c.span.ensures.start c.span.ensures.end in
    token_is_given m c.args.haystack.now c.args.end c.args.offset c.new.result found c.requires.ahead returned
    (ap (λ (t : Match). Ok t) same ∙ sym c.in_ok-token.was ∙ c.item.ensures) c.new.ensures.bytes

pub returns-in_err-token-clause-effect : goal.returns-in_err-token-clause-effect
returns-in_err-token-clause-effect c =
    let new = c.try_search_fwd-found.new.cache in
    let found = c.try_search_fwd-found.result in
    let run : IsSearchRun Forward c.args.regex.now.forward (asked c.args.haystack.now c.args.end c.args.offset)
    (known_of c.args.cache.now.forward) (known_of new) (result_err found) =
    subst (λ (m : Machine). IsSearchRun Forward m (asked c.args.haystack.now c.args.end c.args.offset)
    (known_of c.args.cache.now.forward) (known_of new) (result_err found)) c.forward-dfa.ensures
    (subst (λ (i : Input). IsSearchRun Forward c.forward-dfa.result.now i (known_of c.args.cache.now.forward)
    (known_of new) (result_err found)) c.asked-input.ensures
    (subst (λ (old : CacheView). IsSearchRun Forward c.forward-dfa.result.now c.asked-input.result (known_of old)
    (known_of new) (result_err found)) c.forward_mut.ensures.value c.try_search_fwd-found.ensures.effect)) in
    subst (λ r. IsSearchRun Forward c.args.regex.now.forward (asked c.args.haystack.now c.args.end c.args.offset)
    (known_of c.args.cache.now.forward) (known_of new) (search_error r))
    (sym (is_err c.from_residual.result _ c.from_residual.ensures.1))
    (subst (IsSearchRun Forward c.args.regex.now.forward (asked c.args.haystack.now c.args.end c.args.offset)
    (known_of c.args.cache.now.forward) (known_of new))
    (error_is c.args.offset found c.in_err-token.field-0.0 (sym c.in_err-token.was ∙ c.item.ensures)) run)

pub returns-clause-effect : goal.returns-clause-effect
returns-clause-effect c =
    let new = c.try_search_fwd-found.new.cache in
    let found = c.try_search_fwd-found.result in
    let run : IsSearchRun Forward c.args.regex.now.forward (asked c.args.haystack.now c.args.end c.args.offset)
    (known_of c.args.cache.now.forward) (known_of new) (result_err found) =
    subst (λ (m : Machine). IsSearchRun Forward m (asked c.args.haystack.now c.args.end c.args.offset)
    (known_of c.args.cache.now.forward) (known_of new) (result_err found)) c.forward-dfa.ensures
    (subst (λ (i : Input). IsSearchRun Forward c.forward-dfa.result.now i (known_of c.args.cache.now.forward)
    (known_of new) (result_err found)) c.asked-input.ensures
    (subst (λ (old : CacheView). IsSearchRun Forward c.forward-dfa.result.now c.asked-input.result (known_of old)
    (known_of new) (result_err found)) c.forward_mut.ensures.value c.try_search_fwd-found.ensures.effect)) in
    subst (IsSearchRun Forward c.args.regex.now.forward (asked c.args.haystack.now c.args.end c.args.offset)
    (known_of c.args.cache.now.forward) (known_of new))
    (no_error_is c.args.offset found c.in_ok-token.token (sym c.in_ok-token.was ∙ c.item.ensures)) run
