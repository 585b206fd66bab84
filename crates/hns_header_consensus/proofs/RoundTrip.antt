-- Both round trips: every header that is encoded decodes as itself, and every 236 bytes that are decoded are encoded as themselves.
use mathlib.Core.Path.{◌∙◌}
use native.Mathlib.Omega.{arith}
use lib.Seq.{take_all}
use borrow.Author.Tests.{eq-eqb}
use Rattle.hns_encoding.specs.Format.{read, write, value_at}
use Rattle.hns_encoding.specs.Marks.{marks}
use Rattle.hns_encoding.proofs.Outcomes.{to_end_got}
use Rattle.hns_encoding.proofs.Back.{back, to_end_back}
use Rattle.hns_encoding.proofs.Forward.{forward, mark_keep}
use Rattle.hns_encoding.proofs.Blocks.{block_fits, fixed_length}
use Rattle.hns_header_consensus.specs.Layout.{header, decode_header}
use Rattle.hns_header_consensus.specs.Answers.{fields_of, header_of, decoded_of, DecodesBack, EncodesBack}

pub decoded_back : DecodesBack
unfolding decoded_of decode_header
decoded_back h fit =
    let size = fixed_length header _ (fields_of h) fit in
    let z = write header (fields_of h) in
    let all = to_end_got (read header) z (to_end_back (read header) z (back header (fields_of h) fit)) in
    rw (eq-eqb _ _ size, all.0, size)

pub encoded_back : EncodesBack
unfolding decoded_of decode_header marks
encoded_back s bs e =
    let fits = block_fits header _ s 0 (omega arith) in
    let wrote = forward header s bs 0 (omega arith) (value_at header _ s 0) 236 fits in
    (header_of (value_at header _ s 0), rw (eq-eqb _ _ e, fits), wrote.same ∙ (mark_keep 236 s ∙ take_all 236 s (omega arith)))
