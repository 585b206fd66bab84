-- Document 01's example stream and the examples of its refusals 4, 5, 8, 17 and 18, computed. Assumes nothing.
use Prim.Native.Nat.{ℕ}
use mathlib.Core.Path.{◌≡◌, refl}
use mathlib.Core.List.{List, [], ◌∷◌, ◌++◌}
use lib.ListN.{take, replicate}
use Rattle.hns_refusals.specs.Refusals.{magic_mismatch, payload_too_large, incomplete_frame, store_short, held_over}
use Rattle.hns_encoding.specs.Bytes.{le, le_bytes, stop}
use Rattle.hns_encoding.specs.Put.{splice}
use Rattle.hns_p2p_frame.specs.declared.NetworkMagic.TheVariants.{Mainnet, Regtest}
use Rattle.hns_p2p_frame.specs.Pushed.{Accepted, Refused}
use Rattle.hns_p2p_frame.specs.Frame.{magic, encoding, encodings, bad, same, payload_length, front, missing, exactly, decode_exact}
use Rattle.hns_p2p_frame.specs.Walk.{onwards, cut_up_to, cut, walked_for, walk}
use Rattle.hns_p2p_frame.specs.Push.{settled, passing, admitted, push}

-- a frame of type 1 with no payload and one of type 2 with eight bytes
abbrev frames : List ℕ
frames =
    0xd3 ∷ 0xf2 ∷ 0x6e ∷ 0x5b ∷ 1 ∷ 0 ∷ 0 ∷ 0 ∷ 0 ∷ 0xd3 ∷ 0xf2 ∷ 0x6e ∷ 0x5b ∷ 2 ∷ 8 ∷ 0 ∷ 0 ∷ 0 ∷ 1 ∷ 2 ∷ 3 ∷ 4 ∷ 5 ∷ 6 ∷ 7 ∷ 8 ∷ []

abbrev room : List ℕ
room = replicate 64 0

abbrev input : List ℕ
input = frames ++ (0xd3 ∷ 0xf2 ∷ [])

pub record Worked : Type 0 where
  answered : (push Mainnet room 0 input room).answer ≡ Accepted 2 26 2
  delivered : take 26 (push Mainnet room 0 input room).output ≡ frames
  held : take 2 (push Mainnet room 0 input room).store ≡ 0xd3 ∷ 0xf2 ∷ []
  refused_4 : (push Mainnet room 0 (magic Regtest ++ replicate 5 0) room).answer ≡ Refused (magic_mismatch 0x5b6ef2d3 0xae3895cf) 9
  refused_5 : front Mainnet (magic Mainnet ++ (2 ∷ 0x01 ∷ 0x12 ∷ 0x7a ∷ 0 ∷ [])) ≡ bad (payload_too_large 8000001)
  refused_8 : decode_exact Mainnet (replicate 4 0) ≡ stop (incomplete_frame 5)
  refused_17 : (push Mainnet (replicate 16 0) 10 (replicate 7 0) room).answer ≡ Refused (store_short 17) 10
  refused_18 : (push Mainnet (replicate 4 0) 5 [] room).answer ≡ Refused (held_over 5) 5

pub worked : Worked
unfolding le le_bytes splice magic encoding encodings same payload_length front missing exactly decode_exact onwards cut_up_to cut walked_for walk settled passing admitted push
worked =
    record { answered = refl; delivered = refl; held = refl; refused_4 = refl; refused_5 = refl; refused_8 = refl; refused_17 = refl; refused_18 = refl }
