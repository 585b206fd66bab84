-- The code's answers, of what the definitions give.
use Rattle.std.specs.Prelude.{ℕ, ◌+◌, Option, Some, None, Ok, Err, length}
use Rattle.hns_refusals.specs.Limits.{header_size}
use Rattle.hns_refusals.specs.Refusals.{Answer}
use Rattle.hns_encoding.specs.Bytes.{Outcome, got, stop}
use Rattle.hns_p2p_frame.specs.declared.Prefix.{Prefix}
use Rattle.hns_p2p_frame.specs.declared.Frames.{Frames}
use Rattle.hns_p2p_frame.specs.declared.Pushed as code_pushed
use Rattle.hns_p2p_frame.specs.declared.Delivered as code_delivered
use Rattle.hns_p2p_frame.specs.Frame.{Frame, Front, not_yet, whole, bad}
use Rattle.hns_p2p_frame.specs.Pushed.{Pushed, Accepted, Refused}
use Rattle.hns_p2p_frame.specs.Delivered as D
use Rattle.hns_p2p_frame.specs.Delivered.{Delivered}

-- a frame is answered by its type, its payload's length, and how many bytes it took
abbrev pub answered : Frame → Prefix
answered f = record { packet_type = f.packet_type; length = length f.payload; taken = header_size + length f.payload }

unfoldable pub prefix_of : Front → Answer (Option Prefix)
prefix_of not_yet = Ok None
prefix_of (whole f rest) = Ok (Some (answered f))
prefix_of (bad r) = Err r

unfoldable pub exact_of : Outcome Frame → Answer Prefix
exact_of (got f next) = Ok (answered f)
exact_of (stop r) = Err r

unfoldable pub pushed_of : Pushed → code_pushed.Pushed
pushed_of (Accepted frames bytes held) = record { delivered = Ok (record { frames = frames; bytes = bytes }); held = held }
pushed_of (Refused refusal held) = record { delivered = Err refusal; held = held }

unfoldable pub delivered_of : Delivered → code_delivered.Delivered
delivered_of (D.Accepted frames bytes held) = record { frames = frames; bytes = bytes; held = held; verdict = Ok tt }
delivered_of (D.Refused refusal frames bytes held) = record { frames = frames; bytes = bytes; held = held; verdict = Err refusal }

-- a push's answer with what it delivered beside a refusal too, which is nothing
unfoldable pub beside : Answer Frames → ℕ → code_delivered.Delivered
beside (Ok f) held = record { frames = f.frames; bytes = f.bytes; held = held; verdict = Ok tt }
beside (Err refusal) held = record { frames = 0; bytes = 0; held = held; verdict = Err refusal }
