-- What the contracts of private functions say besides. No public contract and no theorem cites this file.
use Rattle.std.specs.Prelude.{ℕ, ◌≡◌, List, [], ◌∷◌, Ok, Err}
use Rattle.hns_refusals.specs.Refusals.{Answer, tally_full}
use Rattle.hns_encoding.specs.Bytes.{choose}
use Rattle.hns_p2p_frame.specs.declared.NetworkMagic.{NetworkMagic}
use Rattle.hns_p2p_frame.specs.declared.Pushed.{Pushed}
use Rattle.hns_p2p_frame.specs.declared.Delivered.{Delivered}
use Rattle.hns_p2p_frame.specs.Answers.{beside}
use Rattle.hns_p2p_frame.specs.Frame.{Frame}
use Rattle.hns_p2p_frame.specs.Walk.{cut}
use Rattle.hns_p2p_tally.specs.Tally.{frame_total, byte_total, size_of, add_at, at_type, roomy}

-- bytes that are whole frames of a network, and nothing behind them
abbrev pub Whole : NetworkMagic → List ℕ → Type 0
Whole net d = (cut net d).rest ≡ []

abbrev pub SomeWhole : List ℕ → Type 0
SomeWhole d = (net : NetworkMagic) × Whole net d

-- frames counted at their types' places alone
unfoldable pub by_type : List ℕ → List Frame → List ℕ
by_type t [] = t
by_type t (f ∷ fs) = by_type (at_type t f.packet_type (size_of f)) fs

-- n frames of b bytes more in the two totals
abbrev pub with_totals : List ℕ → ℕ → ℕ → List ℕ
with_totals t n b = add_at (add_at t frame_total n) byte_total b

-- t' has the frames that d is, on whichever network it is frames, on top of t
abbrev pub ByType : List ℕ → List ℕ → List ℕ → Type 0
ByType d t t' = (net : NetworkMagic) → Whole net d → t' ≡ by_type t (cut net d).frames

-- what is answered by a push that passed the tests, or that was turned away with this held count
unfoldable pub answered : Answer Pushed → ℕ → Delivered
answered (Ok p) h = beside p.delivered p.held
answered (Err r) h = beside (Err r) h

-- whether a tally has room for n more
unfoldable pub room_of : List ℕ → ℕ → Answer (Unit {0})
room_of t n = choose (roomy t n) (Ok tt) (Err tally_full)
