-- What stands for all bytes of an output.
use Rattle.std.specs.Prelude.{ℕ, ◌+◌, ◌*◌, ◌%◌}

-- the sum so far, and a byte
abbrev pub mixed : ℕ → ℕ → ℕ
mixed sum byte = sum % 4294967291 * 257 + byte
