use Rattle.hns_encoding.specs.Format.{Fit}
use Rattle.hns_header_consensus.specs.Answers.{fields_of}
use Rattle.hns_header_consensus.specs.Layout.{header}
use Rattle.hns_encoding.proofs.Blocks.{fixed_length}
use native.Mathlib.Omega.{arith}
use Rattle.hns_encoding.proofs.Puts.{put_all}
use Rattle.hns_header_consensus.proofs.Header.encode.Goals as goal

pub returns : goal.returns
returns c =
    let fit : Fit header (fields_of c.args.self) = (omega arith, (omega arith, (omega arith, (omega arith, (omega arith, (omega arith, (omega arith, (omega arith, (omega arith, (omega arith, omega arith)))))))))) in
    put_all c.new.ensures (fixed_length header _ (fields_of c.args.self) fit) c.encode_to.ensures
