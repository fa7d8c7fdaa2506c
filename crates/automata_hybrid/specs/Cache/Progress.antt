-- The bytes searched, and the search in progress.
use Rattle.std.specs.Prelude.{ℕ, ◌+◌, ◌-◌, ◌^◌, Option, None, Some, min, option_map}
use Rattle.automata_hybrid.specs.declared.cache.progress.Progress.{Progress}
use Rattle.automata_hybrid.specs.declared.cache.progress.Searched.{Searched}

-- how many bytes an open search has read, in either direction
abbrev pub distance : Progress → ℕ
distance p = (p.place - p.start) + (p.start - p.place)

-- a count stops at the largest 64-bit number
abbrev pub saturated : ℕ → ℕ
saturated n = min n (2 ^ 64 - 1)

-- this many bytes, plus those of the open search if there is one
abbrev pub with_open : Option Progress → ℕ → ℕ
with_open None n = n
with_open (Some p) n = saturated (n + distance p)

-- the bytes searched, including those of the open search
abbrev pub total_len : Searched → ℕ
total_len s = with_open s.running s.bytes

-- a search begins at an offset; one that was open ends where it was
abbrev pub progress_started : Searched → ℕ → Searched
progress_started s at = record { bytes = total_len s; running = Some (record { start = at; place = at }) }

-- the open search, if there is one, has reached an offset
abbrev pub progress_updated : Searched → ℕ → Searched
progress_updated s at = record {
  bytes = s.bytes;
  running = option_map (λ (p : Progress). record { start = p.start; place = at }) s.running;
}

-- the open search, if there is one, has reached an offset and ended
abbrev pub progress_finished : Searched → ℕ → Searched
progress_finished s at = record { bytes = total_len (progress_updated s at); running = None }

-- the progress after a clear: nothing was searched, and an open search begins where it is
abbrev pub progress_cleared : Searched → Searched
progress_cleared s = record {
  bytes = 0;
  running = option_map (λ (p : Progress). record { start = p.place; place = p.place }) s.running;
}
