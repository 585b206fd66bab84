-- The hashes of a header's 236 bytes, and what is kept of them.
use Prim.Native.Nat.{ℕ, ◌+◌, ◌≤◌, ◌<◌}
use mathlib.Core.Path.{◌≡◌, refl, sym, ap, ◌∙◌}
use mathlib.Core.List.{List, ◌++◌, append_assoc}
use native.Mathlib.Omega.{arith}
use lib.Dec.{lit≤}
use lib.ListN.{length, take, drop}
use Rattle.hns_encoding.specs.Bytes.{part, raw_at}
use Rattle.hns_encoding.specs.Format.{value_at}
use Rattle.hns_encoding.specs.Put.{splice}
use Rattle.hns_encoding.proofs.Numbers.{part_add, part_length}
use Rattle.hns_encoding.proofs.Reading.{raw_there, part_inside, array_read, array_short}
use Rattle.hns_header_consensus.specs.declared.Header.{Header}
use Rattle.hns_header_consensus.specs.Layout.{header, decode_header, header_at}
use Rattle.hns_header_consensus.specs.Answers.{header_of, decoded_of}
use Rattle.hns_header_consensus.proofs.Headers.{alone, not_236, decoded, not_decoded, placed, not_placed}
use Rattle.hns_header_hashes.specs.Hashes.{hashes_of, hashes_kept, header_from}

-- the first run, put as two arrays
pub first_run : (s : List ℕ) → length s ≡ 236 → {a b : List ℕ} → a ≡ raw_at 88 s 12 → b ≡ raw_at 96 s 100 → a ++ b ≡ raw_at 184 s 12
first_run s long f g = rw (f ∙ raw_there 88 s 12 (omega arith), g ∙ raw_there 96 s 100 (omega arith), raw_there 184 s 12 (omega arith), part_add s 12 88 96)

-- six of them before version and bits, and one after
pub two_runs : (s : List ℕ) → length s ≡ 236 → {first last : List ℕ} → first ≡ raw_at 184 s 12 → last ≡ raw_at 32 s 204 → first ++ last ≡ hashes_of (header_of (value_at header _ s 0))
unfolding hashes_of
two_runs s long f l =
    rw (f ∙ raw_there 184 s 12 (omega arith), l ∙ raw_there 32 s 204 (omega arith), part_add s 12 32 152, part_add s 44 32 120, part_add s 76 24 96, part_add s 100 32 64, part_add s 132 32 32) (simp append_assoc)

-- of a header alone
module _ (s o : List ℕ) where
  pub kept : length s ≡ 236 → {block : List ℕ} → block ≡ s → {o' : List ℕ} → o' ≡ splice o 0 (hashes_of (header_of (value_at header _ block 0))) → o' ≡ hashes_kept (decoded_of (decode_header s)) o
  unfolding hashes_kept
  kept e same put = rw (← decoded s refl (sym (alone s e same refl))) put

  pub not_kept : (length s ≡ 236 → ⊥) → o ≡ hashes_kept (decoded_of (decode_header s)) o
  unfolding hashes_kept
  not_kept ne = rw (← not_decoded s refl (sym (not_236 s ne)))

-- and of one at a place
module _ (s : List ℕ) (p : ℕ) (o : List ℕ) where
  pub kept_at : {rest block o' : List ℕ} → rest ≡ drop p s → 236 ≤ length rest → block ≡ take 236 rest → o' ≡ splice o 0 (hashes_of (header_of (value_at header _ block 0))) → o' ≡ hashes_kept (decoded_of (header_at s p)) o
  unfolding hashes_kept
  kept_at r h is put = rw (← placed s p (array_read 236 s p (rw r at h) (rw r at is)) refl refl) put

  pub not_kept_at : length (drop p s) < 236 → o ≡ hashes_kept (decoded_of (header_at s p)) o
  unfolding hashes_kept
  not_kept_at h = rw (← not_placed s p (array_short 236 s p h refl) refl)

-- a header from the first 216 bytes of its hashes
hash_inside : (s : List ℕ) → 216 ≤ length s → (n a : ℕ) → a + n ≤ 216 → raw_at n (part s 0 216) a ≡ raw_at n s a
hash_inside s long n a fits =
    let size = part_length s 0 216 (omega arith) in
    let start : 0 + a ≡ a = omega arith in
    raw_there n (part s 0 216) a (omega arith) ∙ part_inside s 0 216 a n fits ∙ ap (λ (p : ℕ). part s p n) start ∙ sym (raw_there n s a (omega arith))

pub from_block : (nonce time : ℕ) (s : List ℕ) (version bits : ℕ) → 216 ≤ length s → {block : List ℕ} → block ≡ take 216 s → {h : Header} → h ≡ header_from nonce time block version bits → h ≡ header_from nonce time s version bits
from_block nonce time s version bits long {block} is e =
    let inside = hash_inside s long in
    e ∙ ap (λ (b : List ℕ). header_from nonce time b version bits) is
    ∙ rw (inside 32 0 (lit≤ tt), inside 32 32 (lit≤ tt), inside 24 64 (lit≤ tt), inside 32 88 (lit≤ tt), inside 32 120 (lit≤ tt), inside 32 152 (lit≤ tt), inside 32 184 (lit≤ tt))
