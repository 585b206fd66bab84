-- The numbers of packet types and inventory kinds, as the Rust has them.
use Rattle.std.specs.Prelude.{ℕ, ◌≡◌, List, [], ◌∷◌, get_or}
use Rattle.hns_p2p_types.specs.declared.PacketType.{PacketType}
use Rattle.hns_p2p_types.specs.declared.PacketType.TheVariants as T
use Rattle.hns_p2p_types.specs.declared.InventoryKind.{InventoryKind}
use Rattle.hns_p2p_types.specs.declared.InventoryKind.TheVariants as K

-- types 0 to 29 in order
unfoldable pub types : List PacketType
types =
    T.Version
    ∷ T.Verack
    ∷ T.Ping
    ∷ T.Pong
    ∷ T.GetAddr
    ∷ T.Addr
    ∷ T.Inv
    ∷ T.GetData
    ∷ T.NotFound
    ∷ T.GetBlocks
    ∷ T.GetHeaders
    ∷ T.Headers
    ∷ T.SendHeaders
    ∷ T.Block
    ∷ T.Tx
    ∷ T.Reject
    ∷ T.Mempool
    ∷ T.FilterLoad
    ∷ T.FilterAdd
    ∷ T.FilterClear
    ∷ T.MerkleBlock
    ∷ T.FeeFilter
    ∷ T.SendCmpct
    ∷ T.CmpctBlock
    ∷ T.GetBlockTxn
    ∷ T.BlockTxn
    ∷ T.GetProof
    ∷ T.Proof
    ∷ T.Claim
    ∷ T.Airdrop
    ∷ []

unfoldable pub type_of : ℕ → PacketType
type_of t = get_or types t (T.Unknown t)

unfoldable pub type_number : PacketType → ℕ
type_number T.Version = 0
type_number T.Verack = 1
type_number T.Ping = 2
type_number T.Pong = 3
type_number T.GetAddr = 4
type_number T.Addr = 5
type_number T.Inv = 6
type_number T.GetData = 7
type_number T.NotFound = 8
type_number T.GetBlocks = 9
type_number T.GetHeaders = 10
type_number T.Headers = 11
type_number T.SendHeaders = 12
type_number T.Block = 13
type_number T.Tx = 14
type_number T.Reject = 15
type_number T.Mempool = 16
type_number T.FilterLoad = 17
type_number T.FilterAdd = 18
type_number T.FilterClear = 19
type_number T.MerkleBlock = 20
type_number T.FeeFilter = 21
type_number T.SendCmpct = 22
type_number T.CmpctBlock = 23
type_number T.GetBlockTxn = 24
type_number T.BlockTxn = 25
type_number T.GetProof = 26
type_number T.Proof = 27
type_number T.Claim = 28
type_number T.Airdrop = 29
type_number (T.Unknown t) = t

-- kinds 1 to 6 in order; 0 has no name
unfoldable pub kinds : List InventoryKind
kinds =
    K.Unknown 0
    ∷ K.Transaction
    ∷ K.Block
    ∷ K.FilteredBlock
    ∷ K.CompactBlock
    ∷ K.Claim
    ∷ K.Airdrop
    ∷ []

unfoldable pub kind_of : ℕ → InventoryKind
kind_of k = get_or kinds k (K.Unknown k)

unfoldable pub kind_number : InventoryKind → ℕ
kind_number K.Transaction = 1
kind_number K.Block = 2
kind_number K.FilteredBlock = 3
kind_number K.CompactBlock = 4
kind_number K.Claim = 5
kind_number K.Airdrop = 6
kind_number (K.Unknown k) = k

-- `types_back` and `kinds_back` of proofs/Types.antt: a number read as a type or a kind is its number
abbrev pub TypesBack : Type 0
TypesBack = (t : ℕ) → type_number (type_of t) ≡ t

abbrev pub KindsBack : Type 0
KindsBack = (k : ℕ) → kind_number (kind_of k) ≡ k
