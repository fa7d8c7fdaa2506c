-- Contract of the calls that close a handle.
use Rattle.std.specs.Prelude.{◌≡◌, None}
use Rattle.lazydfa_c.specs.Statuses.{plain}
use Rattle.lazydfa_c.specs.declared.code.Code.TheVariants as code
use Rattle.lazydfa_c.specs.declared.handle.Handle.{Handle}
use Rattle.lazydfa_c.specs.declared.status.Status.{Status}

-- `lazydfa_builder_close`, `lazydfa_regex_close` and `lazydfa_cache_close`: afterwards the handle owns nothing and may
-- be opened again, and the status says whether it was open
pub record Closes (old new : Handle) (status : Status) : Type 0 where
  -- if the handle was open, the status is `LAZYDFA_OK`
  pub opened : old.live ≡ 1 → status ≡ plain code.Done
  -- if the handle was not open, the status is `LAZYDFA_CLOSED`
  pub closed : (old.live ≡ 1 → ⊥) → status ≡ plain code.Closed
  -- the handle is closed
  pub live : new.live ≡ 0
  -- it owns nothing
  pub empty : new.slot.value ≡ None
