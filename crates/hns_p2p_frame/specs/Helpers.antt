-- What the contracts of private functions say besides. No public contract and no theorem cites this file.
use Rattle.std.specs.Prelude.{Ok, Err, length}
use Rattle.hns_refusals.specs.Refusals.{Answer}
use Rattle.hns_p2p_frame.specs.declared.NetworkMagic.{NetworkMagic}
use Rattle.hns_p2p_frame.specs.declared.Frames.{Frames}
use Rattle.hns_p2p_frame.specs.Frame.{encodings}
use Rattle.hns_p2p_frame.specs.Walk.{Walked, stopped, refused}

-- the number of frames and the length of their encodings
unfoldable pub walk_of : NetworkMagic → Walked → Answer Frames
walk_of net (stopped fs rest) = Ok (record { frames = length fs; bytes = length (encodings net fs) })
walk_of net (refused r) = Err r
