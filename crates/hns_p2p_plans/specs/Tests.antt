-- Document 01, after its table of refusals: the tests of a writer in their order, and the plan that they leave.
use Rattle.std.specs.Prelude.{ℕ, ◌+◌, List, [], ◌∷◌, Bool, true, false, ◌&&◌, length, leb, Ok, Err}
use Rattle.hns_refusals.specs.Checks.{first}
use Rattle.hns_refusals.specs.Limits.{max_payload, max_text, max_indexes, max_index}
use Rattle.hns_refusals.specs.Refusals.{Answer, payload_too_large, output_short, over_limit, not_ascii, hash_presence, too_many_indexes, index_too_large, not_rising, reason_field}
use Rattle.hns_encoding.specs.Bytes.{choose}
use Rattle.hns_p2p_types.specs.Protocol.{carries_hash}

-- refusal 7: at most so many
unfoldable pub within : ℕ → ℕ → ℕ → Answer (Unit {0})
within n limit field = choose (leb n limit) (Ok tt) (Err (over_limit n limit field))

-- refusal 10: no byte of a text is over 127
unfoldable pub ascii : List ℕ → Bool
ascii [] = true
ascii (b ∷ bs) = leb b 127 && ascii bs

-- refusal 7, then 10
unfoldable pub text_tests : ℕ → List ℕ → Answer (Unit {0})
text_tests field t = first (within (length t) max_text field) (choose (ascii t) (Ok tt) (Err (not_ascii field)))

-- refusal 11: whether there is a hash, against whether the rejected type carries one
unfoldable pub hash_test : Bool → Bool → Answer (Unit {0})
hash_test true true = Ok tt
hash_test true false = Err hash_presence
hash_test false true = Err hash_presence
hash_test false false = Ok tt

unfoldable pub reject_tests : ℕ → List ℕ → Bool → Answer (Unit {0})
reject_tests t reason present = first (text_tests reason_field reason) (hash_test (carries_hash t) present)

-- refusal 13, then 14, at each place from the left; `base` is the least that the first index can be
unfoldable pub rising : ℕ → ℕ → List ℕ → Answer (Unit {0})
rising place base [] = Ok tt
rising place base (i ∷ is) =
    choose (leb i max_index)
    (choose (leb base i) (rising (place + 1) (i + 1) is) (Err (not_rising place)))
    (Err (index_too_large place))

-- refusal 12: at most 16,662 indexes
unfoldable pub few_indexes : ℕ → Answer (Unit {0})
few_indexes n = choose (leb n max_indexes) (Ok tt) (Err (too_many_indexes n))

unfoldable pub index_tests : List ℕ → Answer (Unit {0})
index_tests is = first (few_indexes (length is)) (rising 0 0 is)

-- refusal 5, then 16: a payload of so many bytes, and an output of so many
unfoldable pub room : ℕ → ℕ → Answer (Unit {0})
room n there =
    choose (leb n max_payload) (choose (leb n there) (Ok tt) (Err (output_short n))) (Err (payload_too_large n))

-- ---- the plan: so many bytes are to be written, or the refusal

unfoldable pub plan_of : Answer (Unit {0}) → ℕ → Answer ℕ
plan_of (Ok u) n = Ok n
plan_of (Err r) n = Err r

-- a writer's own tests, then 5 and 16
unfoldable pub planned : Answer (Unit {0}) → ℕ → ℕ → Answer ℕ
planned tests n there = plan_of (first tests (room n there)) n
