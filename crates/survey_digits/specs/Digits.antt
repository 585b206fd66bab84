-- Document 01, 'The exported survey': its digits.
use Rattle.std.specs.Prelude.{ℕ, zero, suc, ◌+◌, ◌/◌, ◌%◌, List, [], ◌∷◌, ◌++◌, ltb}
use Rattle.hns_encoding.specs.Bytes.{choose}

-- a hexadecimal digit, lowercase: '0' to '9' and 'a' to 'f'
unfoldable pub digit : ℕ → ℕ
digit d = choose (ltb d 10) (48 + d) (87 + d)

-- bytes, each as two digits
unfoldable pub hex : List ℕ → List ℕ
hex [] = []
hex (b ∷ bs) = digit (b / 16) ∷ digit (b % 16) ∷ hex bs

-- a number in decimal, of at most so many digits
unfoldable pub decimal_up_to : ℕ → ℕ → List ℕ
decimal_up_to zero n = []
decimal_up_to (suc k) n = choose (ltb n 10) ((48 + n) ∷ []) (decimal_up_to k (n / 10) ++ ((48 + n % 10) ∷ []))

-- twenty digits hold every 64-bit number
unfoldable pub decimal : ℕ → List ℕ
decimal n = decimal_up_to 20 n
