-- Wrong readers, each refuted by one or two payloads. Assumes nothing.
use Prim.Native.Nat.{ℕ}
use mathlib.Core.Path.{◌≡◌, refl, sym, ap, ◌∙◌}
use mathlib.Core.List.{List, [], ◌∷◌, ◌++◌}
use mathlib.Core.Bool.{Bool, true, false}
use native.Mathlib.Omega.{arith}
use lib.ListN.{replicate}
use Rattle.std.specs.Prelude.{Result, Ok, Err}
use Rattle.hns_refusals.specs.declared.Refusal.{Refusal}
use Rattle.hns_refusals.specs.Refusals.{number, unexpected_end, over_limit, address_field}
use Rattle.hns_refusals.specs.Limits.{max_addresses}
use Rattle.hns_encoding.specs.Bytes.{le, le_at, bytes_at, end_at, to_end, got}
use Rattle.hns_encoding.specs.Compact.{wide_at, compact_from, compact_at, count_at}
use Rattle.hns_encoding.specs.Format.{read}
use Rattle.hns_encoding.specs.Put.{splice}
use Rattle.hns_p2p_types.specs.declared.VersionPacket.{VersionPacket}
use Rattle.hns_p2p_types.specs.declared.Packet.{Packet}
use Rattle.hns_p2p_types.specs.declared.Packet.TheVariants as P
use Rattle.hns_p2p_types.specs.Protocol.{carries_hash, read_by}
use Rattle.hns_p2p_types.specs.Packets.{Answer, read_packet, row, rows, texted}
use Rattle.hns_p2p_laws.specs.Trials.{TrialsFail}

abbrev packet : Answer → Result Packet Refusal
packet a = a.packet

-- two pings that differ
ping : (read_packet 2 (replicate 8 0) []).packet ≡ Ok (P.Ping 0)
unfolding read_packet row rows read_by read texted le le_at bytes_at end_at to_end
ping = refl

other_ping : (read_packet 2 (1 ∷ replicate 7 0) []).packet ≡ Ok (P.Ping 1)
unfolding read_packet row rows read_by read texted le le_at bytes_at end_at to_end
other_ping = refl

-- a reject of reason 'a'
reason : (read_packet 15 (0 ∷ 0 ∷ 1 ∷ 97 ∷ []) (0 ∷ [])).text ≡ 97 ∷ []
unfolding read_packet row rows read_by read texted carries_hash le le_at bytes_at end_at to_end splice
reason = refl

-- a count of 1001 addresses, and none of them
abbrev too_many : List ℕ
too_many = 0xfd ∷ 0xe9 ∷ 0x03 ∷ []

too_many_count : compact_at too_many 0 ≡ got 1001 3
unfolding compact_at compact_from wide_at le le_at bytes_at
too_many_count = refl

too_many_refused : (read_packet 5 too_many []).packet ≡ Err (over_limit 1001 max_addresses address_field)
unfolding read_packet row rows read_by read count_at compact_at compact_from wide_at le le_at bytes_at to_end
too_many_refused = refl

-- what a version of zeros with last byte 2 reads as
abbrev two : VersionPacket
two =
    record {
      version = 0;
      services = 0;
      time = 0;
      remote = record { time = 0; services = 0; ip_first = 0; ip_last = 0; port = 0; key = 75 };
      nonce = 0;
      agent = record { start = 117; length = 0 };
      height = 0;
      no_relay = false;
    }

two_reads : (read_packet 0 (replicate 121 0 ++ (2 ∷ [])) []).packet ≡ Ok (P.Version two)
unfolding read_packet row rows read_by read texted le le_at bytes_at end_at to_end
two_reads = refl

pub trials_fail : TrialsFail
trials_fail =
    record {
      one_packet = λ read one is.
          let same : ◌≡◌ {A = Result Packet Refusal} (Ok (P.Ping 0)) (Ok (P.Ping 1)) = sym ping ∙ (sym (ap packet (is 2 (replicate 8 0) [])) ∙ (one 2 (replicate 8 0) (1 ∷ replicate 7 0) [] ∙ (ap packet (is 2 (1 ∷ replicate 7 0) []) ∙ other_ping))) in
          let z : ◌≡◌ {A = ℕ} 0 1 = cc same in
          absurd (omega arith);
      not_refuses_all = λ read refuses is.
          let r = refuses 2 (replicate 8 0) [] in
          let same : ◌≡◌ {A = Result Packet Refusal} (Ok (P.Ping 0)) (Err r.0) = sym ping ∙ (sym (ap packet (is 2 (replicate 8 0) [])) ∙ r.1) in
          let z : ◌≡◌ {A = ℕ} 0 1 = cc same in
          absurd (omega arith);
      no_text = λ read none is.
          let same : ◌≡◌ {A = List ℕ} (97 ∷ []) (0 ∷ []) = sym reason ∙ (sym (ap (λ (a : Answer). a.text) (is 15 (0 ∷ 0 ∷ 1 ∷ 97 ∷ []) (0 ∷ []))) ∙ none 15 (0 ∷ 0 ∷ 1 ∷ 97 ∷ []) (0 ∷ [])) in
          let z : ◌≡◌ {A = ℕ} 97 0 = cc same in
          absurd (omega arith);
      items_first = λ read first is.
          let r = first too_many [] 1001 3 (omega arith) too_many_count (omega arith) in
          let same : ◌≡◌ {A = Result Packet Refusal} (Err (over_limit 1001 max_addresses address_field)) (Err (unexpected_end r.0 r.1)) = sym too_many_refused ∙ (sym (ap packet (is 5 too_many [])) ∙ r.2) in
          let refusals : over_limit 1001 max_addresses address_field ≡ unexpected_end r.0 r.1 = cc same in
          let z : ◌≡◌ {A = ℕ} 7 1 = ap number refusals in
          absurd (omega arith);
      nonzero_is_true = λ read nonzero is.
          let same : ◌≡◌ {A = Bool} false true = nonzero (replicate 121 0) [] 2 two (omega arith) (ap packet (is 0 (replicate 121 0 ++ (2 ∷ [])) []) ∙ two_reads) in
          let z : ◌≡◌ {A = ℕ} 0 1 = cc same in
          absurd (omega arith);
    }
