-- What the contracts of private functions say: a count and as many items of fixed size, as one block, and the fields of packets that several types share. No public contract cites this file.
use Rattle.std.specs.Prelude.{ℕ, ◌+◌, ◌*◌, ◌/◌, ◌%◌, List, leb, Ok, Err}
use Rattle.hns_refusals.specs.Refusals.{Answer}
use Rattle.hns_encoding.specs.Bytes.{choose, left, Outcome, got, stop, after, to_end}
use Rattle.hns_encoding.specs.Compact.{count_at}
use Rattle.hns_encoding.specs.Format.{sum, short, read}
use Rattle.hns_p2p_types.specs.declared.Items.{Items}
use Rattle.hns_p2p_types.specs.declared.LocatorPacket.{LocatorPacket}
use Rattle.hns_p2p_types.specs.Protocol.{locator}
use Rattle.hns_p2p_types.specs.Packets.{locator_packet}

-- n records of these widths: where they do not all fit, the bytes end in the record that begins last
unfoldable pub records_at : ℕ → List ℕ → List ℕ → ℕ → Outcome Items
records_at n ws s at =
    choose (leb (n * sum ws) (left s at))
    (got (record { count = n; first = at }) (at + n * sum ws))
    (stop (short ws (at + left s at / sum ws * sum ws) (left s at % sum ws)))

-- a count of at most so many, and as many records
unfoldable pub list_at : ℕ → ℕ → List ℕ → List ℕ → ℕ → Outcome Items
list_at limit field ws s at = after (count_at limit field s at) (λ n next. records_at n ws s next)

-- ---- the code's answers

-- what is made of the value that is read, or the refusal
abbrev pub made_of : {A B : Type 0} → (A → B) → Outcome A → Answer B
made_of f (got v last) = Ok (f v)
made_of f (stop r) = Err r

-- a list that is the whole payload
unfoldable pub whole_list : ℕ → ℕ → List ℕ → List ℕ → Answer Items
whole_list limit field ws s = made_of (λ i. i) (to_end (list_at limit field ws) s)

-- a locator, of type 9 or 10
unfoldable pub locator_of : List ℕ → Answer LocatorPacket
locator_of s = made_of (locator_packet s) (to_end (read locator) s)
