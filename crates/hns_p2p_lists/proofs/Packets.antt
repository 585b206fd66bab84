-- The packets of lists: a list or a locator is handed on as its type's packet. Assumes nothing.
use mathlib.Core.Path.{◌≡◌, ap}
use Rattle.std.specs.Prelude.{Ok, Err, MatchResult, IsOkAnd}
use Rattle.hns_refusals.specs.Refusals.{Answer}
use Rattle.hns_encoding.specs.Bytes.{Outcome, got, stop}
use Rattle.hns_p2p_types.specs.declared.Packet.{Packet}
use Rattle.hns_p2p_types.specs.Packets.{answered}
use Rattle.hns_p2p_lists.specs.Helpers.{made_of}

-- what is read, as a packet
pub as_packet : {A B : Type 0} (K : B → Packet) (f : A → B) (o : Outcome A) {read : Answer B} {packet : Answer Packet} → read ≡ made_of f o → MatchResult read (λ x. IsOkAnd packet (λ p. p ≡ K x)) (λ r. packet ≡ Err r) → packet ≡ answered (λ v. K (f v)) o
as_packet K f (got v last) {read} {packet} e m = go packet (rw e at m)
  where
    go : (p : Answer Packet) → IsOkAnd p (λ q. q ≡ K (f v)) → p ≡ Ok (K (f v))
    go (Ok q) h = ap Ok h
    go (Err r) h = absurd h
as_packet K f (stop r) {read} {packet} e m = rw e at m
