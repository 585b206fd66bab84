-- Encodings of frames: they read and walk as their frames, and determine them. Assumes nothing.
use Prim.Native.Nat.{ℕ, ◌+◌, ◌≤◌, ◌<◌, ◌^◌}
use mathlib.Core.Path.{◌≡◌, refl, sym, ap, ap₂, ◌∙◌}
use mathlib.Core.List.{List, [], ◌∷◌, ◌++◌, append_assoc, append-nil}
use native.Mathlib.Omega.{arith}
use lib.ListN.{length, take, drop, length-append}
use lib.Seq.{take-append_seam, drop-append_seam, drop-drop}
use Rattle.hns_refusals.specs.declared.Refusal.{Refusal}
use Rattle.hns_refusals.specs.Limits.{max_payload}
use Rattle.hns_encoding.specs.Bytes.{le_bytes}
use Rattle.hns_encoding.specs.Format.{All}
use Rattle.hns_encoding.proofs.Numbers.{le_le_bytes}
use Rattle.hns_p2p_frame.specs.declared.NetworkMagic.{NetworkMagic}
use Rattle.hns_p2p_frame.specs.declared.NetworkMagic.TheVariants.{Mainnet, Testnet, Regtest, Simnet}
use Rattle.hns_p2p_frame.specs.Frame.{magic, Frame, WellFormed, encoding, encodings, whole, payload_length, frame_of, front}
use Rattle.hns_p2p_frame.specs.Conditions.{few, full}
use Rattle.hns_p2p_frame.specs.Walk.{before, cut, Walked, stopped, refused, walk}
use Rattle.hns_p2p_frame.proofs.Fronts.{front_is}
use Rattle.hns_p2p_frame.proofs.Walks.{also, onward, walk_turn, cut_open, cut_frame, length_encoding}

-- how a frame's encoding, and then rest, read
record Laid (net : NetworkMagic) (f : Frame) (rest xs : List ℕ) : Type 0 where
  magic_first : take 4 xs ≡ magic net
  says : payload_length xs ≡ length f.payload
  reads : frame_of xs ≡ f
  then : drop (9 + length f.payload) xs ≡ rest
  size : length xs ≡ 9 + length f.payload + length rest

laid : (net : NetworkMagic) (f : Frame) (rest : List ℕ) → length f.payload < 2 ^ 32 → Laid net f rest (encoding net f ++ rest)
unfolding encoding magic le_bytes payload_length
laid net f rest h = go net
  where
    p : List ℕ
    p = f.payload

    -- a, b, c, d is the magic
    from : (m : NetworkMagic) (a b c d : ℕ) → magic m ≡ a ∷ b ∷ c ∷ d ∷ [] → Laid m f rest (a ∷ b ∷ c ∷ d ∷ f.packet_type ∷ (le_bytes 4 (length p) ++ p) ++ rest)
    from m a b c d e =
        let xs : List ℕ = a ∷ b ∷ c ∷ d ∷ f.packet_type ∷ (le_bytes 4 (length p) ++ p) ++ rest in
        let n : payload_length xs ≡ length p = le_le_bytes 4 (length p) h in
        record {
          magic_first = sym e;
          says = n;
          reads = rw (n, take-append_seam p rest);
          then = rw (← drop-drop (length p) 9 xs) (drop-append_seam p rest);
          size = omega (arith, length-append p rest);
        }

    go : (m : NetworkMagic) → Laid m f rest (encoding m f ++ rest)
    go Mainnet = from Mainnet 0xd3 0xf2 0x6e 0x5b refl
    go Testnet = from Testnet 0xd2 0x0d 0x52 0xb1 refl
    go Regtest = from Regtest 0xcf 0x95 0x38 0xae refl
    go Simnet = from Simnet 0xdc 0x8e 0x64 0x0e refl

pub front_encoding : (net : NetworkMagic) (f : Frame) (rest : List ℕ) → length f.payload ≤ max_payload → front net (encoding net f ++ rest) ≡ whole f rest
front_encoding net f rest h =
    let l = laid net f rest (omega arith) in
    front_is (full (omega (arith, l.size)) l.magic_first (omega (arith, l.says)) (omega (arith, l.says, l.size))) ∙ rw (l.reads, l.says, l.then)

-- an encoding determines its frame, and where it ends
pub encoding_one : (net : NetworkMagic) (f g : Frame) (xs ys : List ℕ) → length f.payload < 2 ^ 32 → length g.payload < 2 ^ 32
    → encoding net f ++ xs ≡ encoding net g ++ ys → (f ≡ g) × (xs ≡ ys)
encoding_one net f g xs ys h k e =
    let l = laid net f xs h in
    let m = laid net g ys k in
    let same-frame : f ≡ g = sym l.reads ∙ rw e m.reads in
    (same-frame, sym l.then ∙ rw (e, same-frame) m.then)

module _ (net : NetworkMagic) where
  -- the walk of these frames before another walk
  pub also_all : List Frame → Walked → Walked
  also_all [] w = w
  also_all (f ∷ fs) w = also f (also_all fs w)

  pub walk_encodings : (fs : List Frame) (rest : List ℕ) → All WellFormed fs → walk net (encodings net fs ++ rest) ≡ also_all fs (walk net rest)
  unfolding encodings onward also_all
  walk_encodings [] rest a = refl
  walk_encodings (f ∷ fs) rest a = rw (append_assoc, walk_turn net (encoding net f ++ (encodings net fs ++ rest)), front_encoding net f (encodings net fs ++ rest) a.0.within, walk_encodings fs rest a.1)

  pub also_stopped : (fs gs : List Frame) (rest : List ℕ) → also_all fs (stopped gs rest) ≡ stopped (fs ++ gs) rest
  unfolding also also_all
  also_stopped [] gs rest = refl
  also_stopped (f ∷ fs) gs rest = rw (also_stopped fs gs rest)

  pub also_refused : (fs : List Frame) (r : Refusal) → also_all fs (refused r) ≡ refused r
  unfolding also also_all
  also_refused [] r = refl
  also_refused (f ∷ fs) r = rw (also_refused fs r)

  -- and the same of the walk that always answers
  pub cut_encodings : (fs : List Frame) (rest : List ℕ) → All WellFormed fs → cut net (encodings net fs ++ rest) ≡ before fs (cut net rest)
  unfolding encodings
  cut_encodings [] rest a = refl
  cut_encodings (f ∷ fs) rest a = rw (append_assoc, cut_frame net (encoding net f ++ (encodings net fs ++ rest)) f (encodings net fs ++ rest) (front_encoding net f (encodings net fs ++ rest) a.0.within), cut_encodings fs rest a.1)

  pub frames_encodings : (fs : List Frame) → All WellFormed fs → (cut net (encodings net fs)).frames ≡ fs
  frames_encodings fs a = ap (λ (l : List ℕ). (cut net l).frames) (sym (append-nil (encodings net fs))) ∙ rw (cut_encodings fs [] a, cut_open net [] (front_is (few (omega arith))), append-nil)

  pub encodings_append : (fs gs : List Frame) → encodings net (fs ++ gs) ≡ encodings net fs ++ encodings net gs
  unfolding encodings
  encodings_append [] gs = refl
  encodings_append (f ∷ fs) gs = rw (append_assoc, encodings_append fs gs)

  -- encodings of fewer than 2^32 bytes determine their frames
  pub encodings_one : (fs gs : List Frame) → length (encodings net fs) < 2 ^ 32 → length fs ≡ length gs → encodings net fs ≡ encodings net gs → fs ≡ gs
  unfolding encodings
  encodings_one [] [] h n e = refl
  encodings_one [] (g ∷ gs) h n e = absurd (omega arith)
  encodings_one (f ∷ fs) [] h n e = absurd (omega arith)
  encodings_one (f ∷ fs) (g ∷ gs) h n e =
      let k = length-append (encoding net f) (encodings net fs) in
      let l = ap length e ∙ length-append (encoding net g) (encodings net gs) in
      let p = encoding_one net f g (encodings net fs) (encodings net gs) (omega (arith, k, length_encoding net f)) (omega (arith, l, length_encoding net g)) e in
      ap₂ (λ (x : Frame) (xs : List Frame). x ∷ xs) p.0 (encodings_one fs gs (omega (arith, k)) (omega arith) p.1)

pub all_append : (fs gs : List Frame) → All WellFormed fs → All WellFormed gs → All WellFormed (fs ++ gs)
all_append [] gs a b = b
all_append (f ∷ fs) gs a b = (a.0, all_append fs gs a.1 b)
