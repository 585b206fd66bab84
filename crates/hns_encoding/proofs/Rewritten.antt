-- For every format: bytes that it reads to their end are written again, from the value read, as the same bytes with what is not kept set to zero; what is written is as long, and reads as the same value.
use mathlib.Core.Path.{◌≡◌, ap, ◌∙◌}
use native.Mathlib.Omega.{arith}
use lib.ListN.{length}
use Rattle.hns_encoding.specs.Format.{read, write}
use Rattle.hns_encoding.specs.Marks.{marks}
use Rattle.hns_encoding.specs.Laws.{Rewrites}
use Rattle.hns_encoding.proofs.Outcomes.{to_end_got}
use Rattle.hns_encoding.proofs.Back.{back, to_end_back}
use Rattle.hns_encoding.proofs.Forward.{forward, length_mark}

pub rewritten : Rewrites
rewritten f s bs v last e =
    let g = to_end_got (read f) s e in
    let w = forward f s bs 0 (omega arith) v last g.0 in
    let all : length (marks f s 0) ≡ length s = omega (arith, w.size, w.inside, g.1) in
    let long : length (write f v) ≡ length s = ap length w.same ∙ (length_mark (marks f s 0) s (omega arith) ∙ all) in
    record { zeroed = w.same; as_long = long; again = rw long at (to_end_back (read f) (write f v) (back f v w.fit)) }
