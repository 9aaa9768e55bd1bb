-- The parts in which bytes are copied, and the blocks in which areas are exchanged. Assumes nothing.
use Rattle.std.specs.Prelude.{ℕ}

-- so many bytes at most are copied at a time; no promise of a public function hangs on it
abbrev pub part_size : ℕ
part_size = 2048

-- "in blocks of 64"; no promise of a public function hangs on it
abbrev pub block_size : ℕ
block_size = 64
