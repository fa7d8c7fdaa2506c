-- The position of a walk in pieces, as C lays it out.
use Rattle.std.specs.Prelude.{ℕ, zero, suc, length}
use Rattle.lazydfa_c.specs.Statuses.{plain}
use Rattle.lazydfa_c.specs.Streams.{WalkView, listed, offset_of}
use Rattle.lazydfa_c.specs.declared.code.Code.TheVariants as code
use Rattle.lazydfa_c.specs.declared.status.Status.{Status}
use Rattle.lazydfa_c.specs.declared.walk.Stop.{Stop}

-- no byte was read, and no pattern matches
abbrev pub nowhere : Stop
nowhere = record { read = 0; offset = 0; patterns = 0 }

-- the position of a walk after a call that has read this many bytes of its piece
abbrev pub stop_of : (read : ℕ) → WalkView → Stop
stop_of read walk = record { read = read; offset = offset_of walk; patterns = length (listed walk) }

-- the status of a walk's call that did not fail, by how many patterns match at its position
abbrev pub stop_status : (patterns : ℕ) → Status
stop_status zero = plain code.Nothing
stop_status (suc n) = plain code.Done
