use Rattle.std.proofs.Common.{◌≡◌, ◌<◌, ◌||◌, ◌&&◌, ℕ, leb, ltb, length}
use Rattle.automata_base.specs.ByteClasses.Classes.{is_quit}
use Rattle.automata_config.proofs.config.with_non_ascii.Given as goal

abbrev pub invariant-loop-byte : goal.invariant-loop-byte
invariant-loop-byte l = record {
  whole : length l.all ≡ 256;
  set : (k : ℕ) → k < 256 → is_quit l.all k ≡ (is_quit l.quits k || (leb 128 k && ltb k l.byte));
}
