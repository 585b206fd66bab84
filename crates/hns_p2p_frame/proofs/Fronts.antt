-- The frame at the front of a list: its cases, and what they say of the bytes. Assumes nothing.
use Prim.Native.Nat.{ℕ, ◌+◌, ◌≤◌, ◌<◌}
use mathlib.Core.Path.{◌≡◌, refl, ap₂}
use mathlib.Core.List.{List, [], ◌∷◌, ◌++◌, append_assoc}
use mathlib.Core.Bool.{Bool, true, false}
use Rattle.std.proofs.lemmas.Bool.{and_parts}
use native.Mathlib.Omega.{arith}
use lib.ListN.{length, take, drop, length-drop, take-append-drop}
use lib.Seq.{drop-drop, drop-cons}
use lib.Dec.{eqb}
use borrow.Author.Tests.{le-leb, lt-leb, eqb-true, eq-eqb}
use Rattle.hns_refusals.specs.Limits.{header_size, max_payload}
use Rattle.hns_encoding.specs.Bytes.{le_bytes, Bytes, part}
use Rattle.hns_encoding.proofs.Outcomes.{choose_holds, choose_leb}
use Rattle.hns_encoding.proofs.Numbers.{bytes_drop, bytes_take, byte_below, part_bytes, part_length}
use Rattle.hns_p2p_frame.specs.declared.NetworkMagic.{NetworkMagic}
use Rattle.hns_p2p_frame.specs.declared.NetworkMagic.TheVariants.{Mainnet, Testnet, Regtest, Simnet}
use Rattle.hns_p2p_frame.specs.Frame.{magic, Frame, WellFormed, encoding, Front, whole, same, payload_length, front}
use Rattle.hns_p2p_frame.specs.Conditions.{FrontIs, few, wrong, long, begun, full, FrontExactly}

-- ---- the same bytes

pub same_true : (xs ys : List ℕ) → same xs ys ≡ true → xs ≡ ys
unfolding same
same_true [] [] e = refl
same_true [] (y ∷ ys) e = cc
same_true (x ∷ xs) [] e = cc
same_true (x ∷ xs) (y ∷ ys) e =
    let p = and_parts (eqb x y) (same xs ys) e in
    ap₂ (λ (a : ℕ) (l : List ℕ). a ∷ l) (eqb-true x y p.0) (same_true xs ys p.1)

same_refl : (xs : List ℕ) → same xs xs ≡ true
unfolding same
same_refl [] = refl
same_refl (x ∷ xs) = rw (eq-eqb x x refl) (same_refl xs)

agree : (xs ys : List ℕ) → xs ≡ ys → same xs ys ≡ true
agree xs ys e = rw e (same_refl ys)

-- ---- the cases of a front

pub same_false : (xs ys : List ℕ) → same xs ys ≡ false → ¬ (xs ≡ ys)
same_false xs ys e q = cc (agree xs ys q, e)

not_same : (xs ys : List ℕ) → ¬ (xs ≡ ys) → same xs ys ≡ false
not_same xs ys n = go (same xs ys) refl
  where
    go : (b : Bool) → same xs ys ≡ b → b ≡ false
    go true e = absurd (n (same_true xs ys e))
    go false e = refl

pub seen : (net : NetworkMagic) (xs : List ℕ) → FrontIs net xs (front net xs)
unfolding front
seen net xs =
    choose_leb (FrontIs net xs) header_size (length xs)
    (λ a. choose_holds (FrontIs net xs) (same (take 4 xs) (magic net))
    (λ b. let m = same_true (take 4 xs) (magic net) b in
    choose_leb (FrontIs net xs) (payload_length xs) max_payload
    (λ c. choose_leb (FrontIs net xs) (header_size + payload_length xs) (length xs) (λ d. full a m c d) (λ d. begun a m c d))
    (λ c. long a m c))
    (λ b. wrong a (same_false (take 4 xs) (magic net) b)))
    (λ a. few a)

-- the other way: a case's facts say which it is
pub front_is : {net : NetworkMagic} {xs : List ℕ} {g : Front} → FrontIs net xs g → front net xs ≡ g
unfolding front
front_is {xs = xs} (few a) = simp (lt-leb header_size (length xs) a)
front_is {net} {xs} (wrong a b) = simp (le-leb header_size (length xs) a, not_same (take 4 xs) (magic net) b)
front_is {net} {xs} (long a b c) = simp (le-leb header_size (length xs) a, agree (take 4 xs) (magic net) b, lt-leb (payload_length xs) max_payload c)
front_is {net} {xs} (begun a b c d) = simp (le-leb header_size (length xs) a, agree (take 4 xs) (magic net) b, le-leb (payload_length xs) max_payload c, lt-leb (header_size + payload_length xs) (length xs) d)
front_is {net} {xs} (full a b c d) = simp (le-leb header_size (length xs) a, agree (take 4 xs) (magic net) b, le-leb (payload_length xs) max_payload c, le-leb (header_size + payload_length xs) (length xs) d)

pub front_exactly : FrontExactly
front_exactly net xs g = (λ e. rw e at (seen net xs), front_is)

-- ---- what a whole frame at the front is

pub length_magic : (net : NetworkMagic) → length (magic net) ≡ 4
unfolding magic
length_magic Mainnet = refl
length_magic Testnet = refl
length_magic Regtest = refl
length_magic Simnet = refl

-- what follows the frame
pub front_rest : (net : NetworkMagic) (xs : List ℕ) (f : Frame) (rest : List ℕ) → front net xs ≡ whole f rest
    → (rest ≡ drop (9 + length f.payload) xs) × (9 + length f.payload ≤ length xs)
front_rest net xs f rest e = go (rw e at (seen net xs))
  where
    go : {g : Frame} {r : List ℕ} → FrontIs net xs (whole g r) → (r ≡ drop (9 + length g.payload) xs) × (9 + length g.payload ≤ length xs)
    go (full a b c d) = rw (part_length xs 9 (payload_length xs) (omega arith)) (refl, d)

pub front_payload : (net : NetworkMagic) (xs : List ℕ) (f : Frame) (rest : List ℕ) → front net xs ≡ whole f rest → f.payload ≡ part xs 9 (length f.payload)
front_payload net xs f rest e = go (rw e at (seen net xs))
  where
    go : {g : Frame} {r : List ℕ} → FrontIs net xs (whole g r) → g.payload ≡ part xs 9 (length g.payload)
    go (full a b c d) = rw (part_length xs 9 (payload_length xs) (omega arith))

pub front_shorter : (net : NetworkMagic) (xs : List ℕ) (f : Frame) (rest : List ℕ) → front net xs ≡ whole f rest → length rest < length xs
front_shorter net xs f rest e = let p = front_rest net xs f rest e in rw (p.0, length-drop) (omega (arith, p.1))

-- of bytes, the frame's encoding and what follows it are the list
pub record Cut (net : NetworkMagic) (xs : List ℕ) (f : Frame) (rest : List ℕ) : Type 0 where
  pub all : encoding net f ++ rest ≡ xs
  pub well_formed : WellFormed f
  pub rest_bytes : Bytes rest

pub front_cut : (net : NetworkMagic) (xs : List ℕ) → Bytes xs → (f : Frame) (rest : List ℕ) → front net xs ≡ whole f rest → Cut net xs f rest
unfolding encoding payload_length
front_cut net xs h f rest e = go (rw e at (seen net xs))
  where
    go : {g : Frame} {r : List ℕ} → FrontIs net xs (whole g r) → Cut net xs g r
    go (full a b c d) =
        let n = payload_length xs in
        let v : length (part xs 9 n) ≡ n = part_length xs 9 n (omega arith) in
        let w : le_bytes 4 n ≡ part xs 5 4 = part_bytes xs h 5 4 (omega arith) in
        let p : part xs 9 n ++ drop (9 + n) xs ≡ drop 9 xs = rw (← drop-drop n 9 xs) (take-append-drop n (drop 9 xs)) in
        let q : part xs 5 4 ++ drop 9 xs ≡ drop 5 xs = rw (← drop-drop 4 5 xs) (take-append-drop 4 (drop 5 xs)) in
        record {
          all = simp append_assoc (rw (v, w, p, q, ← drop-cons xs 4 0 (omega arith), ← b) (take-append-drop 4 xs));
          well_formed = record { type_byte = byte_below xs h 4 (omega arith); payload_bytes = bytes_take n (bytes_drop 9 h); within = rw v c };
          rest_bytes = bytes_drop (9 + n) h;
        }
