-- What the genesis headers differ in.
use Rattle.std.specs.Prelude.{ℕ}
use Rattle.hns_p2p_frame.specs.declared.NetworkMagic.{NetworkMagic}
use Rattle.hns_p2p_frame.specs.declared.NetworkMagic.TheVariants.{Mainnet, Testnet, Regtest, Simnet}

unfoldable pub genesis_time : NetworkMagic → ℕ
genesis_time Mainnet = 1580745078
genesis_time Testnet = 1580745079
genesis_time Regtest = 1580745080
genesis_time Simnet = 1580745081

unfoldable pub genesis_bits : NetworkMagic → ℕ
genesis_bits Mainnet = 469827583
genesis_bits Testnet = 486604799
genesis_bits Regtest = 545259519
genesis_bits Simnet = 545259519
