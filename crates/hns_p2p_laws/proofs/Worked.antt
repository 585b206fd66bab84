-- Document 01's worked bytes, by computing the whole table. Assumes nothing.
use mathlib.Core.Path.{refl}
use Rattle.hns_encoding.specs.Bytes.{le, le_bytes, bytes_at, le_at, end_at, to_end}
use Rattle.hns_encoding.specs.Compact.{wide_at, compact_from, compact_at, compact_bytes, count_at}
use Rattle.hns_encoding.specs.Format.{read, write}
use Rattle.hns_p2p_types.specs.Protocol.{read_by}
use Rattle.hns_p2p_types.specs.Packets.{signed, rows, row, packet_of}
use Rattle.hns_p2p_laws.specs.Worked.{Worked}

pub worked : Worked
unfolding le le_bytes bytes_at le_at end_at to_end wide_at compact_from compact_at compact_bytes count_at read write read_by signed rows row packet_of
worked = ((refl, refl), ((refl, refl), (refl, ((refl, refl), (refl, ((refl, refl), (refl, (refl, (refl, (refl, tt))))))))))
