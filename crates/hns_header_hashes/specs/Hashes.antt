-- A header as four numbers and its hashes side by side: previous block 32, tree root 32, extra nonce 24, reserved root 32, witness root 32, merkle root 32, mask 32.
use Rattle.std.specs.Prelude.{ℕ, List, ◌++◌, Ok, Err}
use Rattle.hns_refusals.specs.Refusals.{Answer}
use Rattle.hns_encoding.specs.Bytes.{raw_at}
use Rattle.hns_encoding.specs.Put.{splice}
use Rattle.hns_header_consensus.specs.declared.Header.{Header}

unfoldable pub hashes_of : Header → List ℕ
hashes_of h =
    h.previous_block ++ (h.tree_root ++ (h.extra_nonce ++ (h.reserved_root ++ (h.witness_root ++ (h.merkle_root ++ h.mask)))))

-- an output after a header was read: its hashes at the front, and no byte changed where it was refused
unfoldable pub hashes_kept : Answer (Header × ℕ) → List ℕ → List ℕ
hashes_kept (Ok x) o = splice o 0 (hashes_of x.0)
hashes_kept (Err r) o = o

-- a header from its parts; a hash that is not all there is zeros
abbrev pub header_from : ℕ → ℕ → List ℕ → ℕ → ℕ → Header
header_from nonce time s version bits =
    record {
      nonce = nonce;
      time = time;
      previous_block = raw_at 32 s 0;
      tree_root = raw_at 32 s 32;
      extra_nonce = raw_at 24 s 64;
      reserved_root = raw_at 32 s 88;
      witness_root = raw_at 32 s 120;
      merkle_root = raw_at 32 s 152;
      version = version;
      bits = bits;
      mask = raw_at 32 s 184;
    }
