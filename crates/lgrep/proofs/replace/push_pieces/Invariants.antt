use Rattle.std.proofs.Common.{◌≡◌, ◌++◌, take}
use Rattle.std.specs.Prelude.{flat_map}
use Rattle.meta.specs.Captures.{span_in}
use Rattle.lgrep.specs.Replaced.{piece_bytes}
use Rattle.lgrep.proofs.replace.push_pieces.Given as goal

abbrev pub invariant-loop-piece : goal.invariant-loop-piece
invariant-loop-piece l =
    l.bytes.items
    ≡ l.fn.bytes.items ++ flat_map (piece_bytes l.line (span_in l.captures)) (take l.piece-index l.pieces)
