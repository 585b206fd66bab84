-- The code's records and answers, of what the definitions give.
use Rattle.std.specs.Prelude.{ℕ, ◌≡◌, List, length, replicate, Ok, Err}
use Rattle.hns_refusals.specs.Refusals.{Answer}
use Rattle.hns_refusals.specs.Limits.{block_header_size}
use Rattle.hns_encoding.specs.Bytes.{Bytes, Outcome, got, stop}
use Rattle.hns_encoding.specs.Format.{Value, write, Fit}
use Rattle.hns_header_consensus.specs.Layout.{header, decode_header}
use Rattle.hns_header_consensus.specs.declared.Header.{Header}

-- the fields of a header in the order of the layout
abbrev pub fields_of : Header → Value header
fields_of h = (
  h.nonce,
  (
    h.time,
    (
      h.previous_block,
      (
        h.tree_root,
        (
          h.extra_nonce,
          (h.reserved_root, (h.witness_root, (h.merkle_root, (h.version, (h.bits, h.mask))))),
        ),
      ),
    ),
  ),
)

abbrev pub header_of : Value header → Header
header_of v =
    record {
      nonce = v.0;
      time = v.1.0;
      previous_block = v.1.1.0;
      tree_root = v.1.1.1.0;
      extra_nonce = v.1.1.1.1.0;
      reserved_root = v.1.1.1.1.1.0;
      witness_root = v.1.1.1.1.1.1.0;
      merkle_root = v.1.1.1.1.1.1.1.0;
      version = v.1.1.1.1.1.1.1.1.0;
      bits = v.1.1.1.1.1.1.1.1.1.0;
      mask = v.1.1.1.1.1.1.1.1.1.1;
    }

-- the Rust's default header
abbrev pub zero_header : Header
zero_header =
    record {
      nonce = 0;
      time = 0;
      previous_block = replicate 32 0;
      tree_root = replicate 32 0;
      extra_nonce = replicate 24 0;
      reserved_root = replicate 32 0;
      witness_root = replicate 32 0;
      merkle_root = replicate 32 0;
      version = 0;
      bits = 0;
      mask = replicate 32 0;
    }

-- a header and the place after it, or the refusal
unfoldable pub decoded_of : Outcome (Value header) → Answer (Header × ℕ)
decoded_of (got v next) = Ok (header_of v, next)
decoded_of (stop r) = Err r

-- a header alone, or the refusal
unfoldable pub alone_of : Outcome (Value header) → Answer Header
alone_of (got v next) = Ok (header_of v)
alone_of (stop r) = Err r

-- ---- both round trips, proofs/RoundTrip.antt

-- `decoded_back`: every header that is encoded decodes as itself
abbrev pub DecodesBack : Type 0
DecodesBack = (h : Header) → Fit header (fields_of h) → decoded_of (decode_header (write header (fields_of h))) ≡ Ok (h, block_header_size)

-- `encoded_back`: all 236 bytes are decoded, and encoded as themselves
abbrev pub EncodesBack : Type 0
EncodesBack = (s : List ℕ) → Bytes s → length s ≡ block_header_size → (h : Header) × (decoded_of (decode_header s) ≡ Ok (h, block_header_size)) × (write header (fields_of h) ≡ s)
