-- Document 01, 'Header (Header::decode)': the layout of the 236 bytes.
use Rattle.std.specs.Prelude.{List, ℕ, length, eqb}
use Rattle.hns_refusals.specs.Limits.{block_header_size}
use Rattle.hns_refusals.specs.Refusals.{header_length}
use Rattle.hns_encoding.specs.Bytes.{choose, Outcome, stop}
use Rattle.hns_encoding.specs.Format.{Format, num, raw, whole, ◌▸◌, Value, read}

-- nonce 4, time 8, previous 32, tree root 32, extra nonce 24, reserved root 32, witness root 32, merkle root 32, version 4, bits 4, mask 32
abbrev pub header : Format
header = num 4 ▸ num 8 ▸ raw 32 ▸ raw 32 ▸ raw 24 ▸ raw 32 ▸ raw 32 ▸ raw 32 ▸ num 4 ▸ num 4 ▸ raw 32

-- a header alone: 15 for any other length
unfoldable pub decode_header : List ℕ → Outcome (Value header)
decode_header s = choose (eqb (length s) block_header_size) (read header s 0) (stop (header_length (length s)))

-- a header at a place, as in a headers packet: one read of 236 bytes
unfoldable pub header_at : List ℕ → ℕ → Outcome (Value header)
header_at s at = read (whole block_header_size header) s at
