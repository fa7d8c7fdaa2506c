use Rattle.lazydfa_c.proofs.Errors as errors
use Rattle.lazydfa_c.proofs.status.errors_differ.Goals as goal

pub returns : goal.returns
returns c = record {
  builder = errors.builder_told;
  build = errors.build_told;
  regex = errors.regex_told;
  search = errors.search_told;
  token = errors.token_told;
  begin = errors.begin_told;
}
