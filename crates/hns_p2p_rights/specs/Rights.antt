-- Document 02, T-02, rights by role: what a mask grants, and what the calls answer.
use Rattle.std.specs.Prelude.{ℕ, zero, suc, ◌+◌, ◌/◌, ◌%◌, ◌^◌, Bool, ltb, eqb, Ok, Err}
use Rattle.hns_refusals.specs.Refusals.{Answer, no_role, not_granted}
use Rattle.hns_encoding.specs.Bytes.{choose}
use Rattle.hns_p2p_rights.specs.Terms.{Terms, own_mask}

-- a bit of a mask is set
unfoldable pub bit : ℕ → ℕ → Bool
bit mask k = eqb (mask / 2 ^ k % 2) 1

-- the bit of a type: 0 to 29 are the known types, 30 is every other type byte; so bit 31 is no type's
unfoldable pub bit_of : ℕ → ℕ
bit_of t = choose (ltb t 30) t 30

unfoldable pub granted : ℕ → ℕ → Bool
granted mask t = bit mask (bit_of t)

-- how many of the numbers below n pass a test
unfoldable pub count_below : ℕ → (ℕ → Bool) → ℕ
count_below zero test = 0
count_below (suc n) test = choose (test n) 1 0 + count_below n test

-- 21, then 22
unfoldable pub may_send : Terms → ℕ → Answer (Unit {0})
may_send u t = choose (ltb u.role 8) (choose (granted (own_mask u) t) (Ok tt) (Err not_granted)) (Err no_role)

-- of the types 0 to 30, of which 30 stands for every other type byte
unfoldable pub types_granted : Terms → Answer ℕ
types_granted u = choose (ltb u.role 8) (Ok (count_below 31 (granted (own_mask u)))) (Err no_role)
