-- Packets of the numbers at their places. Assumes nothing.
use Prim.Native.Nat.{ℕ, ◌+◌, ◌-◌, ◌≤◌, ◌<◌}
use mathlib.Core.Path.{◌≡◌, refl, ap, ◌∙◌}
use mathlib.Core.List.{List, [], ◌∷◌, ◌++◌, map}
use mathlib.Core.Logic.{⊎_elim}
use mathlib.Core.Bool.{Bool, true, false}
use native.Mathlib.Omega.{arith}
use lib.ListN.{length, length-map}
use lib.Dec.{eqb}
use lib.IntN.{ℤ}
use borrow.Author.Tests.{le-leb, lt-leb}
use Rattle.std.specs.Prelude.{Some, None, Ok, Err}
use Rattle.std.specs.Bool.{then_some}
use Rattle.hns_refusals.specs.declared.Refusal.{Refusal}
use Rattle.hns_refusals.specs.Refusals.{Answer}
use Rattle.hns_encoding.specs.Bytes.{choose, got, stop, part, number_at, to_end}
use Rattle.hns_encoding.specs.Format.{nothing, raw, read, low7, sum, short, Flat, widths_at}
use Rattle.hns_encoding.specs.Answers.{finished_of}
use Rattle.hns_encoding.proofs.Numbers.{lt_or_ge, part_length}
use Rattle.hns_encoding.proofs.Blocks.{sum_append}
use Rattle.hns_p2p_types.specs.declared.Packet.TheVariants as P
use Rattle.hns_p2p_types.specs.declared.NetAddress.{NetAddress}
use Rattle.hns_p2p_types.specs.Protocol.{version, reject, carries_hash, nonce, sendcmpct, getproof}
use Rattle.hns_p2p_types.specs.Packets.{fields_of, row, rows, signed, address_in}
use Rattle.hns_p2p_blocks.specs.Helpers.{block_end, eight_in}
use Rattle.hns_p2p_blocks.proofs.Addresses.{address_is}
use Rattle.hns_p2p_blocks.proofs.Ends.{value_got, value_stop}
use Rattle.hns_p2p_blocks.proofs.Blocks.{none_read, all_read}

-- ---- one number of eight bytes

module _ (s : List ℕ) {found : Answer (Unit {0})} (e : found ≡ finished_of (block_end (8 ∷ []) s)) where
  pub eight_refused : {r : Refusal} → found ≡ Err r → Err r ≡ eight_in s
  unfolding eight_in
  eight_refused g = rw (none_read nonce tt s e g)

  pub eight_read : {u : Unit {0}} → found ≡ Ok u → Ok (number_at 8 s 0) ≡ eight_in s
  unfolding eight_in
  eight_read g = rw (all_read nonce tt s e g).1.1

module _ (s : List ℕ) {found : Answer ℕ} (e : found ≡ eight_in s) where
  module _ {r : Refusal} (g : found ≡ Err r) where
    none : to_end (read nonce) s ≡ stop r
    unfolding eight_in
    none = value_stop (to_end (read nonce) s) e g

    pub ping_refused : Err r ≡ fields_of 2 s
    unfolding fields_of row rows
    ping_refused = rw none

    pub pong_refused : Err r ≡ fields_of 3 s
    unfolding fields_of row rows
    pong_refused = rw none

    pub feefilter_refused : Err r ≡ fields_of 21 s
    unfolding fields_of row rows
    feefilter_refused = rw none

  module _ {v : ℕ} (g : found ≡ Ok v) where
    all : (last : ℕ) × (to_end (read nonce) s ≡ got v last)
    unfolding eight_in
    all = value_got (to_end (read nonce) s) e g

    pub ping_read : Ok (P.Ping v) ≡ fields_of 2 s
    unfolding fields_of row rows
    ping_read = rw all.1

    pub pong_read : Ok (P.Pong v) ≡ fields_of 3 s
    unfolding fields_of row rows
    pong_read = rw all.1

    pub feefilter_read : {rate : ℤ} → rate ≡ signed v → Ok (P.FeeFilter rate) ≡ fields_of 21 s
    unfolding fields_of row rows
    feefilter_read h = rw (all.1, h)

-- ---- sendcmpct and getproof

module _ (s : List ℕ) {found : Answer (Unit {0})} (e : found ≡ finished_of (block_end (1 ∷ 8 ∷ []) s)) where
  pub sendcmpct_refused : {r : Refusal} → found ≡ Err r → Err r ≡ fields_of 22 s
  unfolding fields_of row rows
  sendcmpct_refused g = rw (none_read sendcmpct (tt, tt) s e g)

  pub sendcmpct_read : {u : Unit {0}} → found ≡ Ok u → Ok (P.SendCmpct (number_at 1 s 0) (number_at 8 s 1)) ≡ fields_of 22 s
  unfolding fields_of row rows
  sendcmpct_read g = rw (all_read sendcmpct (tt, tt) s e g).1.1

module _ (s : List ℕ) {found : Answer (Unit {0})} (e : found ≡ finished_of (block_end (32 ∷ 32 ∷ []) s)) where
  pub getproof_refused : {r : Refusal} → found ≡ Err r → Err r ≡ fields_of 26 s
  unfolding fields_of row rows
  getproof_refused g = rw (none_read getproof (tt, tt) s e g)

  pub getproof_read : {u : Unit {0}} → found ≡ Ok u → Ok (P.GetProof (record { root = 0; key = 32 })) ≡ fields_of 26 s
  unfolding fields_of row rows
  getproof_read g = rw (all_read getproof (tt, tt) s e g).1.1

-- ---- version

-- a text that fits is as long as its length byte says
pub text_length : (s : List ℕ) (p n : ℕ) → p + n ≤ length s → length (map low7 (part s p n)) ≡ n
text_length s p n h = length-map (part s p n) low7 ∙ part_length s p n (omega arith)

module _ (s : List ℕ) {n : ℕ} {found : Answer (Unit {0})} (en : n ≡ number_at 1 s 116)
    (e : found ≡ finished_of (block_end (4 ∷ 4 ∷ 4 ∷ 8 ∷ 8 ∷ 4 ∷ 4 ∷ 1 ∷ 36 ∷ 2 ∷ 33 ∷ 8 ∷ 1 ∷ n ∷ 4 ∷ 1 ∷ []) s)) where
  same : found ≡ finished_of (block_end (4 ∷ 4 ∷ 4 ∷ 8 ∷ 8 ∷ 4 ∷ 4 ∷ 1 ∷ 36 ∷ 2 ∷ 33 ∷ 8 ∷ 1 ∷ number_at 1 s 116 ∷ 4 ∷ 1 ∷ []) s)
  same = rw (← en) e

  pub version_refused : {r : Refusal} → found ≡ Err r → Err r ≡ fields_of 0 s
  unfolding fields_of row rows
  version_refused g = rw (none_read version _ s same g)

  pub version_read : {u : Unit {0}} → found ≡ Ok u → {relay number services time nonce height : ℕ} {remote : NetAddress}
      → number ≡ number_at 4 s 0 → services ≡ number_at 4 s 4 → time ≡ number_at 8 s 12 → remote ≡ address_in s 20 → nonce ≡ number_at 8 s 108
      → height ≡ number_at 4 s (117 + n) → relay ≡ number_at 1 s (121 + n)
      → Ok (P.Version (record {
        version = number;
        services = services;
        time = time;
        remote = remote;
        nonce = nonce;
        agent = record { start = 117; length = n };
        height = height;
        no_relay = eqb relay 1;
      }))
      ≡ fields_of 0 s
  unfolding fields_of row rows
  version_read g ev es et em eo eh er =
      let a = all_read version _ s same g in
      let h : 116 + (1 + (number_at 1 s 116 + (4 + (1 + 0)))) ≡ length s = omega (arith, a.0) in
      let long : length (map low7 (part s 117 n)) ≡ n = text_length s 117 n (omega (arith, en)) in
      let b : 116 + (1 + (n + 0)) ≡ 117 + n = omega arith in
      let c : 116 + (1 + (n + 0)) + 4 ≡ 121 + n = omega arith in
      rw (a.1.1, er, ev, es, et, em, address_is s 20 (omega arith), eo, eh, ← en, long, c, b)

-- ---- reject

hash_flat : (b : Bool) → Flat (choose b (raw 32) nothing)
hash_flat true = tt
hash_flat false = tt

pub reject_flat : Flat reject
reject_flat t = (tt, (tt, hash_flat (carries_hash t)))

-- a read of no bytes after the others ends nowhere
short_same : (ws : List ℕ) (p there : ℕ) → there < sum ws → short (ws ++ 0 ∷ []) p there ≡ short ws p there
short_same [] p there h = absurd (omega arith)
short_same (w ∷ ws) p there h = ⊎_elim (λ a. rw (lt-leb w there a)) (λ a. rw (le-leb w there a) (short_same ws (p + w) (there - w) (omega arith))) (lt_or_ge there w)

last_none : (ws s : List ℕ) → block_end (ws ++ 0 ∷ []) s ≡ block_end ws s
unfolding block_end
last_none ws s =
    let all : sum (ws ++ 0 ∷ []) ≡ sum ws = sum_append ws (0 ∷ []) ∙ omega arith in
    ⊎_elim (λ a. rw (all, lt-leb (sum ws) (length s) a, short_same ws 0 (length s) a)) (λ a. rw (all, le-leb (sum ws) (length s) a)) (lt_or_ge (length s) (sum ws))

-- the widths of a reject by whether its type carries a hash
hash_end : (b : Bool) (s : List ℕ) (n p : ℕ) → block_end (1 ∷ 1 ∷ 1 ∷ n ∷ choose b 32 0 ∷ []) s ≡ block_end (1 ∷ 1 ∷ 1 ∷ n ∷ widths_at (choose b (raw 32) nothing) s p) s
hash_end true s n p = refl
hash_end false s n p = last_none (1 ∷ 1 ∷ 1 ∷ n ∷ []) s

module _ (s : List ℕ) {t n h : ℕ} {carried : Bool} {found : Answer (Unit {0})}
    (et : t ≡ number_at 1 s 0) (en : n ≡ number_at 1 s 2) (eb : carried ≡ carries_hash t) (eh : h ≡ choose carried 32 0)
    (e : found ≡ finished_of (block_end (1 ∷ 1 ∷ 1 ∷ n ∷ h ∷ []) s)) where
  same_end : found ≡ finished_of (block_end (widths_at reject s 0) s)
  same_end = e ∙ ap finished_of (rw (eh, eb, en, et) (hash_end (carries_hash (number_at 1 s 0)) s (number_at 1 s 2) _))

  pub reject_refused : {r : Refusal} → found ≡ Err r → Err r ≡ fields_of 15 s
  unfolding fields_of row rows
  reject_refused g = rw (none_read reject reject_flat s same_end g)

  -- a hash that is carried is the last 32 bytes
  hash_place : (b : Bool) (p : ℕ) → 3 + (n + sum (widths_at (choose b (raw 32) nothing) s p)) ≡ length s → then_some b (3 + n) ≡ choose b (Some (length s - 32)) None
  hash_place true p a = ap Some (omega arith)
  hash_place false p a = refl

  pub reject_read : {u : Unit {0}} → found ≡ Ok u → {code : ℕ} → code ≡ number_at 1 s 1
      → Ok (P.Reject (record { message = t; code = code; reason = record { start = 3; length = n }; hash = then_some carried (3 + n) })) ≡ fields_of 15 s
  unfolding fields_of row rows
  reject_read g ec =
      let a = all_read reject reject_flat s same_end g in
      let total : 3 + (n + sum (widths_at (choose (carries_hash (number_at 1 s 0)) (raw 32) nothing) s (2 + (1 + (number_at 1 s 2 + 0))))) ≡ length s = omega (arith, a.0, en) in
      let long : length (map low7 (part s 3 n)) ≡ n = text_length s 3 n (omega arith) in
      rw (a.1.1, eb, et, ec, hash_place (carries_hash (number_at 1 s 0)) _ total, ← en, long)
