-- A flag as a byte, and the hash of a reject by the code's test. Assumes nothing.
use Prim.Native.Nat.{ℕ}
use mathlib.Core.Path.{◌≡◌, refl, ap, ◌∙◌, subst}
use mathlib.Core.List.{List, []}
use mathlib.Core.Bool.{Bool, true, false}
use mir.Val.{bool_byte}
use Rattle.std.specs.Prelude.{Option}
use Rattle.std.specs.Option.{unwrap_or}
use Rattle.std.specs.Bool.{then_some}
use Rattle.hns_encoding.specs.Bytes.{choose}
use Rattle.hns_encoding.specs.Format.{raw, nothing, write, flag_byte}
use Rattle.hns_encoding.specs.Put.{Put}
use Rattle.hns_p2p_types.specs.Protocol.{carries_hash, rejected_hash}
use Rattle.hns_p2p_block_puts.specs.Fields.{hash_if}

pub flag_is : (b : Bool) → flag_byte b ≡ bool_byte b
flag_is true = refl
flag_is false = refl

hash_bytes : (b : Bool) (hash : List ℕ) → unwrap_or (then_some b hash) [] ≡ write (choose b (raw 32) nothing) (hash_if b hash)
unfolding write
hash_bytes true hash = refl
hash_bytes false hash = refl

pub hash_put : (t : ℕ) (hash : List ℕ) {b : Bool} {carried : Option (List ℕ)} → b ≡ carries_hash t → carried ≡ then_some b hash → {o o' : List ℕ} {p p' : ℕ} → Put o p (unwrap_or carried []) o' p' → Put o p (write (rejected_hash t) (hash_if (carries_hash t) hash)) o' p'
hash_put t hash {b} e q {o} {o'} {p} {p'} put =
    let same : unwrap_or (then_some b hash) [] ≡ write (rejected_hash t) (hash_if (carries_hash t) hash) = rw e (hash_bytes (carries_hash t) hash) in
    subst (λ (xs : List ℕ). Put o p xs o' p') (ap (λ (h : Option (List ℕ)). unwrap_or h []) q ∙ same) put
