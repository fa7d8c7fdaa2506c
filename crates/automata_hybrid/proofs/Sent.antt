-- A cache can be sent to another thread, because each of its fields can.
use Rattle.std.proofs.Common.{List, [], ◌∷◌}
use Rattle.std.proofs.Crossing.{crosses}
use Rattle.std.proofs.MapsCrossing as maps
use denote.Struct.Field.{Field}
use denote.Param.Send.{IsSend, sendable, view_send}
use denote.Param.SendFields.{FieldsHave, as_row_send, declared_send}
use Rattle.automata_determinize.specs.contracts.determinize.key.Key.{the_row as key_row}
use Rattle.automata_determinize.specs.contracts.determinize.scratch.Scratch.{the_row as scratch_row}
use Rattle.automata_determinize.specs.contracts.determinize.scratch.Scratch.TheInside as scratch
use Rattle.automata_hybrid.specs.contracts.cache.Cache.{the_row as cache_row}
use Rattle.automata_hybrid.specs.contracts.cache.Cache.TheInside as cache
use Rattle.automata_hybrid.specs.contracts.cache.row.Row.{the_row as row_row}
use Rattle.automata_hybrid.specs.contracts.cache.store.Store.{the_row as store_row}
use Rattle.automata_hybrid.specs.contracts.cache.store.Store.TheInside as store
use Rattle.automata_hybrid.specs.contracts.cache.table.Table.{the_row as table_row}
use Rattle.automata_hybrid.specs.contracts.cache.table.Table.TheInside as table

-- each of these fields can be sent
abbrev pub MayMove : List Field → Type 0
MayMove [] = Unit {0}
MayMove (F ∷ Fs) = IsSend F.row × MayMove Fs

pub fields_sent : (Fs : List Field) → MayMove Fs → FieldsHave IsSend Fs
fields_sent [] s = tt
fields_sent (F ∷ Fs) s = (as_row_send F s.0, fields_sent Fs s.1)

key_sent : IsSend key_row
key_sent = search (sendable, crosses) depth 60

row_sent : IsSend row_row
row_sent = search (sendable, crosses) depth 60

table_fields : MayMove table.the_type.parts
table_fields = (
  search (sendable, crosses) depth 60,
  (
    search (sendable, crosses) depth 60,
    (
      search (sendable, crosses) depth 60,
      (
        search (sendable, crosses) depth 60,
        (
          search (row_sent, sendable, crosses) depth 60,
          (
            search (key_sent, sendable, maps.crosses) depth 60,
            (
              search (sendable, crosses) depth 60,
              (search (sendable, crosses) depth 60, tt),
            ),
          ),
        ),
      ),
    ),
  ),
)

table_sent : IsSend table_row
table_sent =
    view_send table.the_row _ _ _ _ (declared_send table.the_type (fields_sent table.the_type.parts table_fields))

store_fields : MayMove store.the_type.parts
store_fields = (
  table_sent,
  (
    search (sendable, crosses) depth 60,
    (
      search (sendable, crosses) depth 60,
      (
        search (sendable, crosses) depth 60,
        (search (sendable, crosses) depth 60, tt),
      ),
    ),
  ),
)

store_sent : IsSend store_row
store_sent =
    view_send store.the_row _ _ _ _ (declared_send store.the_type (fields_sent store.the_type.parts store_fields))

scratch_fields : MayMove scratch.the_type.parts
scratch_fields = (
  search (sendable, crosses) depth 60,
  (
    search (sendable, crosses) depth 60,
    (
      search (sendable, crosses) depth 60,
      (
        search (sendable, crosses) depth 60,
        (
          search (sendable, crosses) depth 60,
          (
            search (sendable, crosses) depth 60,
            (
              search (sendable, crosses) depth 60,
              (search (sendable, crosses) depth 60, tt),
            ),
          ),
        ),
      ),
    ),
  ),
)

scratch_sent : IsSend scratch_row
scratch_sent =
    view_send scratch.the_row _ _ _ _
    (declared_send scratch.the_type (fields_sent scratch.the_type.parts scratch_fields))

cache_fields : MayMove cache.the_type.parts
cache_fields = (
  store_sent,
  (
    scratch_sent,
    (
      search (sendable, crosses) depth 60,
      (search (sendable, crosses) depth 60, tt),
    ),
  ),
)

pub cache_sent : IsSend cache_row
cache_sent =
    view_send cache.the_row _ _ _ _ (declared_send cache.the_type (fields_sent cache.the_type.parts cache_fields))
