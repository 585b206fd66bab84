-- Where the values of a list stand.
use Rattle.std.specs.Prelude.{ℕ, ◌≡◌, List}
use Rattle.hns_encoding.specs.Bytes.{Bytes, got}
use Rattle.hns_encoding.specs.Format.{Format, counted, Value, read, Fixed, values_at}
use Rattle.hns_p2p_types.specs.Packets.{items_at}

-- `list_stands` of proofs/Listed.antt: the items that a list reads as are what stands from its packet's first place on
abbrev pub ListStands : Type 0
ListStands =
    (limit field : ℕ) (f : Format) (x : Fixed f) (s : List ℕ) → Bytes s → (v : List (Value f)) (last : ℕ) → read (counted limit field f) s 0 ≡ got v last → v ≡ values_at f x (items_at 0 v).count s (items_at 0 v).first
