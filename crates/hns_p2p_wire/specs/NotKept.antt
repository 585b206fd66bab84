-- Document 01, 'Not kept': reserved words, host kind, host bytes, top bits of texts, and a no-relay byte that is neither 0 nor 1. What becomes of each byte of a payload that is written again, by type.
use Rattle.std.specs.Prelude.{ℕ, zero, suc, ◌+◌, ◌≡◌, List, [], ◌∷◌, ◌++◌, map, length, get_or, replicate, eqb}
use Rattle.hns_encoding.specs.Bytes.{choose, Bytes, got, part}
use Rattle.hns_encoding.specs.Compact.{compact_at}
use Rattle.hns_encoding.specs.Format.{Format, nothing, num, raw, reserved, host, flag, text, counted, indexes, whole, tagged, ◌▸◌, Value}
use Rattle.hns_encoding.specs.Marks.{Mark, keep, clear, low, one, marked, mark_all, extent, count_of, marks}
use Rattle.hns_p2p_types.specs.Protocol.{carries_hash, Layout, read_by}
use Rattle.hns_p2p_types.specs.Packets.{layout}

-- the same bytes with whatever is not kept set to zero
abbrev pub zeroed : Layout → List ℕ → List ℕ
zeroed l s = mark_all (marks (l (length s)) s 0) s

-- ---- so many bytes, and what becomes of each

pub record Run : Type 0 where
  pub many : ℕ
  pub mark : Mark

abbrev pub run : ℕ → Mark → Run
run n m = record { many = n; mark = m }

abbrev pub kept : ℕ → Run
kept n = run n keep

abbrev pub cleared : ℕ → Run
cleared n = run n clear

-- without its top bit
abbrev pub masked : ℕ → Run
masked n = run n low

-- 1 where it was 1, else 0
abbrev pub one_or_zero : Run
one_or_zero = run 1 one

-- what s holds from a place on, once its runs are applied
abbrev pub become : List Run → List ℕ → ℕ → List ℕ
become [] s at = []
become (r ∷ rs) s at = map (marked r.mark) (part s at r.many) ++ become rs s (at + r.many)

-- ---- field by field

-- time 8 and services 4; reserved 4; host kind 1; host bytes 0 to 15, by the kind; host bytes 16 to 35; port 2 and key 33
abbrev pub address_runs : ℕ → List Run
address_runs kind = kept 12 ∷ cleared 4 ∷ cleared 1 ∷ run 16 (choose (eqb kind 0) keep clear) ∷ cleared 20 ∷ kept 35 ∷ []

-- version 4 and services 4; reserved 4; time 8; the address, whose host kind is byte 36; nonce 8 and agent length 1; the agent; height 4; no-relay 1
abbrev pub version_runs : List ℕ → List Run
version_runs s =
    kept 8 ∷ cleared 4 ∷ kept 8 ∷ (address_runs (get_or s 36 0) ++ (kept 9 ∷ masked (get_or s 116 0) ∷ kept 4 ∷ one_or_zero ∷ []))

-- type 1, code 1, reason length 1; the reason; a hash of 32, or none
abbrev pub reject_runs : List ℕ → List Run
reject_runs s = kept 3 ∷ masked (get_or s 2 0) ∷ kept (choose (carries_hash (get_or s 0 0)) 32 0) ∷ []

-- so many addresses of 88 bytes, the first at a place: its host kind is its byte 16
abbrev pub addresses_runs : ℕ → List ℕ → ℕ → List Run
addresses_runs zero s at = []
addresses_runs (suc n) s at = address_runs (get_or s (at + 16) 0) ++ addresses_runs n s (at + 88)

-- a count, and as many addresses
abbrev pub addr_runs : List ℕ → List Run
addr_runs s =
    let count = count_of (compact_at s 0) in
    let width = extent (compact_at s 0) 0 in
    kept width ∷ addresses_runs count s width

-- ---- which bytes are not kept

-- `not_kept`, proofs/NotKept.antt: types 0, 5 and 15 as their fields say; of every other type each byte is kept
pub record NotKept : Type 0 where
  pub version : (s : List ℕ) → zeroed (layout 0) s ≡ become (version_runs s) s 0
  pub addr : (s : List ℕ) → zeroed (layout 5) s ≡ become (addr_runs s) s 0
  pub reject : (s : List ℕ) → zeroed (layout 15) s ≡ become (reject_runs s) s 0
  pub others : (t : ℕ) → ¬ (t ≡ 0) → ¬ (t ≡ 5) → ¬ (t ≡ 15) → (s : List ℕ) → Bytes s → (v : Value (layout t (length s))) (last : ℕ) → read_by (layout t) s ≡ got v last
      → zeroed (layout t) s ≡ s

-- ---- the formats that keep each byte

-- a format without reserved words, hosts, flags and texts
unfoldable pub Keeping : Format → Type 0
Keeping nothing = Unit {0}
Keeping (num n) = Unit {0}
Keeping (raw n) = Unit {0}
Keeping (reserved n) = ⊥
Keeping host = ⊥
Keeping flag = ⊥
Keeping (text field) = ⊥
Keeping (counted limit field f) = Keeping f
Keeping indexes = Unit {0}
Keeping (whole n f) = Keeping f
Keeping (tagged k) = (t : ℕ) → Keeping (k t)
Keeping (f ▸ g) = Keeping f × Keeping g

-- `keeping`, proofs/NotKept.antt
abbrev pub KeepsAll : Type 0
KeepsAll = (f : Format) → Keeping f → (s : List ℕ) (p : ℕ) → marks f s p ≡ replicate (length (marks f s p)) keep
