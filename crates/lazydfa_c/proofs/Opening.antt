-- Opening a handle on a regex that was built, by the result of the opening.
use Rattle.std.proofs.Common.{◌≡◌, Ok, Err, OnErr, OnOk}
use Rattle.std.specs.Prelude.{IfErr, Result}
use Rattle.lazydfa_c.specs.Builds.{IsRegexIn, OpensRegex, LacksObject}
use Rattle.lazydfa_c.specs.Programs.{Contents}
use Rattle.lazydfa_c.specs.Statuses.{plain}
use Rattle.lazydfa_c.specs.declared.code.Code.TheVariants as code
use Rattle.lazydfa_c.specs.declared.handle.Handle.{Handle}
use Rattle.lazydfa_c.specs.declared.status.Status.{Status}

pub opens :
    (Makes : Contents → Type 0) (Refuses : Status → Type 0) (contents : Contents) (old new : Handle)
    (r : Result (Unit {0}) Status)
    → Makes contents → OnOk r (IsRegexIn contents new) → OnErr r (new ≡ old)
    → IfErr r (λ s. s ≡ plain code.Memory) → OpensRegex Makes Refuses old new r
opens Makes Refuses contents old new (Ok u) makes opened same memory =
    record { contents = contents; made = makes; opened = opened }
opens Makes Refuses contents old new (Err e) makes opened same memory = (same, LacksObject memory)
