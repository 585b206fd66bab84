-- Rewriters that a reviewer tries, each right but for one slip: the claim on payloads, `Rewrites`, is refuted for each.
use Rattle.std.specs.Prelude.{◌-◌, [], ◌∷◌, ◌++◌, length, take, drop, eqb, Ok, Err}
use Rattle.hns_refusals.specs.Refusals.{output_short}
use Rattle.hns_encoding.specs.Bytes.{choose, part}
use Rattle.hns_encoding.specs.Put.{splice}
use Rattle.hns_p2p_types.specs.Packets.{layout}
use Rattle.hns_p2p_writer.specs.Writing.{exit}
use Rattle.hns_p2p_wire.specs.NotKept.{zeroed}
use Rattle.hns_p2p_wire.specs.Demand3.{Rewriter, Rewrites}

-- right but for the first reserved word of a version, which it leaves as the payload has it
abbrev pub leaves_reserved : Rewriter
leaves_reserved t s v o =
    let x = zeroed (layout t) s in
    exit (Ok (length s)) (splice o 0 (choose (eqb t 0) (take 8 x ++ (part s 8 4 ++ drop 12 x)) x))

-- right but for that word, where it leaves what the output had
abbrev pub skips_reserved : Rewriter
skips_reserved t s v o =
    let x = zeroed (layout t) s in
    exit (Ok (length s)) (splice o 0 (choose (eqb t 0) (take 8 x ++ (part o 8 4 ++ drop 12 x)) x))

-- copies the payload, of every type
abbrev pub copies : Rewriter
copies t s v o = exit (Ok (length s)) (splice o 0 s)

-- drops the last byte
abbrev pub drops_last : Rewriter
drops_last t s v o = exit (Ok (length s - 1)) (splice o 0 (take (length s - 1) (zeroed (layout t) s)))

-- drops the last byte, and answers as if it had not
abbrev pub drops_last_answers_all : Rewriter
drops_last_answers_all t s v o = exit (Ok (length s)) (splice o 0 (take (length s - 1) (zeroed (layout t) s)))

-- stores one byte past the payload's end, where the output goes on
abbrev pub writes_past_end : Rewriter
writes_past_end t s v o = exit (Ok (length s)) (splice (splice o 0 (zeroed (layout t) s)) (length s) (0 ∷ []))

-- refuses throughout
abbrev pub refuses_all : Rewriter
refuses_all t s v o = exit (Err (output_short (length s))) o

-- `trials_fail` of proofs/Trials.antt
pub record TrialsFail : Type 0 where
  pub not_leaves_reserved : ¬ Rewrites leaves_reserved
  pub not_skips_reserved : ¬ Rewrites skips_reserved
  pub copies_all : ¬ Rewrites copies
  pub not_drops_last : ¬ Rewrites drops_last
  pub not_drops_last_answers_all : ¬ Rewrites drops_last_answers_all
  pub not_writes_past_end : ¬ Rewrites writes_past_end
  pub not_refuses_all : ¬ Rewrites refuses_all
