use Rattle.lazydfa_c.proofs.Codes as codes
use Rattle.lazydfa_c.proofs.status.codes_differ.Goals as goal

pub returns : goal.returns
returns c = codes.codes_differ
