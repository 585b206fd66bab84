-- What the contract of a private function says besides. No public contract and no law cites this file.
use Rattle.std.specs.Prelude.{ℕ, eqb}
use Rattle.hns_encoding.specs.Bytes.{choose}

-- by the form that a first byte of 253 or more begins, of two, four or eight bytes
unfoldable pub by_form : ℕ → ℕ → ℕ → ℕ → ℕ
by_form first two four eight = choose (eqb first 253) two (choose (eqb first 254) four eight)
