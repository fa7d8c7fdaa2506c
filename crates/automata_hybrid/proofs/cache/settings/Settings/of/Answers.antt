use Rattle.std.proofs.Common.{◌≡◌, ◌∙◌, ap, sym}
use Rattle.automata_config.specs.Options.{minimum_bytes_per_state_of, minimum_cache_clear_count_of}
use Rattle.automata_determinize.specs.Powersets.Accounting.{fixed_cost}
use Rattle.automata_hybrid.proofs.cache.settings.Settings.of.Goals as goal

pub returns : goal.returns
returns c =
    let fixed : c.fixed_cost.result ≡ c.args.dfa.now.fixed =
    c.fixed_cost.ensures.cost ∙ (ap fixed_cost c.get_nfa.ensures ∙ sym c.requires.sizes.fixed) in
    let clears =
    c.get_minimum_cache_clear_count.ensures ∙ ap minimum_cache_clear_count_of c.get_config.ensures in
    let bytes =
    c.get_minimum_bytes_per_state.ensures ∙ ap minimum_bytes_per_state_of c.get_config-2.ensures in
    λ i. record {
      capacity = c.capacity.ensures i;
      fixed = fixed i;
      minimum_clear_count = clears i;
      minimum_bytes_per_state = bytes i;
    }
