-- The numbers of demand 3 are sharp: a header that says the longest payload is held with all of that payload but one byte. Assumes nothing.
use Prim.Native.Nat.{ℕ, ◌≤◌}
use mathlib.Core.Path.{◌≡◌, refl, ap, ◌∙◌}
use mathlib.Core.List.{List, [], ◌∷◌, ◌++◌}
use mathlib.Core.Logic.{⊎_elim}
use native.Mathlib.Omega.{arith}
use lib.ListN.{length, take, length-append}
use lib.Seq.{take-append-le}
use lib.Dec.{T}
use Rattle.hns_refusals.specs.Limits.{max_payload}
use Rattle.hns_encoding.specs.Bytes.{le, le_bytes, Bytes, none}
use Rattle.hns_encoding.proofs.Numbers.{bytes_append}
use Rattle.hns_p2p_frame.specs.declared.NetworkMagic.{NetworkMagic}
use Rattle.hns_p2p_frame.specs.declared.NetworkMagic.TheVariants.{Mainnet, Testnet, Regtest, Simnet}
use Rattle.hns_p2p_frame.specs.Pushed.{Accepted}
use Rattle.hns_p2p_frame.specs.Frame.{magic, encodings, not_yet, payload_length}
use Rattle.hns_p2p_frame.specs.Conditions.{FrontIs, begun}
use Rattle.hns_p2p_frame.specs.Push.{Result, push}
use Rattle.hns_p2p_frame.proofs.Tests.{large, unstored, no_room, push_is}
use Rattle.hns_p2p_stream.specs.Conditions.{accepted}
use Rattle.hns_p2p_stream.specs.Stream.{most_held, event, events, held_count, count_after, HeaderRefused, AnyHeaderRefused, Sharp}
use Rattle.hns_p2p_stream.proofs.Grown.{length_more}
use Rattle.hns_p2p_stream.proofs.Conditions.{push_exactly}
use Rattle.hns_p2p_stream.proofs.Inputs.{are_bytes, bytes_tested, zeros, length_zeros, zeros_bytes}

-- a header that says the longest payload, of type 0
header : NetworkMagic → List ℕ
header net = magic net ++ (0 ∷ le_bytes 4 max_payload)

record HeaderOf (net : NetworkMagic) (xs : List ℕ) : Type 0 where
  nine : length xs ≡ 9
  magic_good : take 4 xs ≡ magic net
  says : payload_length xs ≡ max_payload
  bytes_are : T (are_bytes xs)

header_is : (net : NetworkMagic) → HeaderOf net (header net)
unfolding header magic le_bytes payload_length le
header_is Mainnet = record { nine = refl; magic_good = refl; says = refl; bytes_are = tt }
header_is Testnet = record { nine = refl; magic_good = refl; says = refl; bytes_are = tt }
header_is Regtest = record { nine = refl; magic_good = refl; says = refl; bytes_are = tt }
header_is Simnet = record { nine = refl; magic_good = refl; says = refl; bytes_are = tt }

same_answer : {p q : Result} → p ≡ q → p.answer ≡ q.answer
same_answer e = ap (λ (p : Result). p.answer) e

-- any z one byte short of that payload, so that no check counts zeros
module _ (net : NetworkMagic) (z : List ℕ) (b : Bytes z) (n : length z ≡ 7999999) where
  one_short : List ℕ
  one_short = header net ++ z

  size : length one_short ≡ most_held
  unfolding one_short
  size = length-append (header net) z ∙ omega (arith, (header_is net).nine)

  bytes : Bytes one_short
  unfolding one_short
  bytes = bytes_append (bytes_tested (header net) (header_is net).bytes_are) b

  waits : FrontIs net one_short not_yet
  unfolding one_short
  waits =
      let h = header_is net in
      let l = size in
      let k : payload_length (header net ++ z) ≡ max_payload = length_more (header net) z (omega (arith, h.nine)) ∙ h.says in
      begun (omega arith) (take-append-le 4 (header net) z (omega (arith, h.nine)) ∙ h.magic_good) (omega arith) (omega arith)

  answered : (s o : List ℕ) → most_held ≤ length s → most_held ≤ length o → (push net s 0 one_short o).answer ≡ Accepted 0 0 most_held
  unfolding encodings
  answered s o l m =
      let w = (push_exactly net s 0 one_short o none bytes _).1 (accepted (record { held = omega arith; stream = omega (arith, size); store = omega (arith, size); output = omega (arith, size) }) [] one_short (record { all = refl; well_formed = tt }) waits) in
      same_answer w ∙ rw size

  is_sharp : Sharp net
  unfolding event events held_count count_after HeaderRefused AnyHeaderRefused
  is_sharp =
      record {
        input = one_short;
        bytes = bytes;
        held = λ s o l m. rw (answered s o l m) (⊎_elim (λ q. q) (λ q. q), refl);
        more_input = λ s x o l k. same_answer (push_is net (large (omega arith) (omega arith))) ∙ rw k;
        less_store = λ s x o l k. same_answer (push_is net (unstored (omega arith) (omega arith) (omega arith))) ∙ rw k;
        less_output = λ s x o l k m. same_answer (push_is net (no_room (omega arith) (omega arith) (omega arith) (omega arith))) ∙ rw k;
      }

pub sharp : (net : NetworkMagic) → Sharp net
sharp net = is_sharp net (zeros 7999999) (zeros_bytes 7999999) (length_zeros 7999999)
