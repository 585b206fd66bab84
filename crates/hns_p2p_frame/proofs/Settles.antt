-- What `take_in`, `settle` and `push_held` owe at each return, on plain lists. Assumes nothing.
use Prim.Native.Nat.{ℕ, ◌+◌, ◌-◌, ◌^◌, ◌≤◌, ◌<◌}
use native.Mathlib.Nat.{min-eq_left}
use native.Mathlib.Omega.{arith}
use mathlib.Core.Path.{◌≡◌, refl, sym, ap, ◌∙◌}
use mathlib.Core.List.{List, ◌++◌, append_assoc}
use lib.ListN.{length, get_or, take, drop, length-append, take-append-drop}
use lib.Seq.{take_at, drop_at, length-take-le}
use Rattle.std.specs.Prelude.{Ok, Err}
use Rattle.hns_refusals.specs.declared.Refusal.{Refusal}
use Rattle.hns_refusals.specs.Limits.{max_stream}
use Rattle.hns_refusals.specs.Refusals.{Answer, stream_too_large, output_short, store_short, held_over}
use Rattle.hns_encoding.specs.Bytes.{part}
use Rattle.hns_encoding.specs.Put.{splice}
use Rattle.hns_encoding.proofs.Numbers.{part_length, bytes_take, bytes_known}
use borrow.Rule.Slice.PartMut.{put_mid}
use Rattle.hns_p2p_frame.specs.declared.NetworkMagic.{NetworkMagic}
use Rattle.hns_p2p_frame.specs.declared.Frames.{Frames}
use Rattle.hns_p2p_frame.specs.Frame.{Frame, encodings}
use Rattle.hns_p2p_frame.specs.Walk.{Walked, stopped, refused, walk}
use Rattle.hns_p2p_frame.specs.Push.{Result, needed, turned_away, settled, passing, admitted, push}
use Rattle.hns_p2p_frame.specs.Answers.{pushed_of}
use Rattle.hns_p2p_frame.specs.Helpers.{walk_of}
use Rattle.hns_p2p_frame.proofs.Walks.{WalkCut, walk_cut}
use Rattle.hns_p2p_frame.proofs.Tests.{Passed, over, large, unstored, no_room, fits, passing_is, passing_away, passing_taken, passed_is}
use Rattle.hns_p2p_frame.proofs.Slices.{take_held, part_put}
use Rattle.hns_p2p_frame.proofs.Turns.{counted}

-- what a function ensures that is to give this result, with the held count beside its answer
abbrev pub Gives : Result → Answer Frames → ℕ → List ℕ → List ℕ → Type 0
Gives p r h s o = record { value : r ≡ (pushed_of p.answer).delivered; held_after : h ≡ (pushed_of p.answer).held; store_after : s ≡ p.store; output_after : o ≡ p.output }

gives : {p : Result} (q : Result) {r : Answer Frames} {h : ℕ} → p ≡ q → r ≡ (pushed_of q.answer).delivered → h ≡ (pushed_of q.answer).held → Gives p r h q.store q.output
gives q e a b = record { value = rw e a; held_after = rw e b; store_after = rw e; output_after = rw e }

-- ---- once the input is appended

walked_refused : (net : NetworkMagic) {r : Refusal} (v : Walked) {w : Answer Frames} → w ≡ walk_of net v → w ≡ Err r → v ≡ refused r
unfolding walk_of
walked_refused net (stopped fs rest) q e = cc
walked_refused net (refused p) q e = cc

-- the frames and the rest that an answer of n frames and b bytes is of
record Cuts (net : NetworkMagic) (n b : ℕ) (xs : List ℕ) (v : Walked) : Type 0 where
  frames : List Frame
  rest : List ℕ
  is : v ≡ stopped frames rest
  count : length frames ≡ n
  size : length (encodings net frames) ≡ b
  all : encodings net frames ++ rest ≡ xs

walked_stopped : (net : NetworkMagic) {n b : ℕ} (v : Walked) (xs : List ℕ) {w : Answer Frames} → WalkCut net xs v → w ≡ walk_of net v → w ≡ Ok (counted n b) → Cuts net n b xs v
unfolding walk_of
walked_stopped net {n} {b} (stopped fs rest) xs c q e =
    let same : counted (length fs) (length (encodings net fs)) ≡ counted n b = cc in
    record { frames = fs; rest = rest; is = refl; count = ap (λ (w : Frames). w.frames) same; size = ap (λ (w : Frames). w.bytes) same; all = c.0 }
walked_stopped net (refused r) xs c q e = absurd (cc)

-- w is what the walk over the first t bytes of the store answered
module _ (net : NetworkMagic) (s : List ℕ) (t : ℕ) (o : List ℕ) (fits : t ≤ length s) (known : (i : ℕ) → get_or s i 0 < 256) {w : Answer Frames} (walked : w ≡ walk_of net (walk net (take t s))) where
  pub refuses : {r : Refusal} → w ≡ Err r → {v : Answer Frames} → v ≡ Err r → Gives (settled net (walk net (take t s)) s t o) v t s o
  unfolding settled pushed_of
  refuses {r} e f = gives (settled net (refused r) s t o) (rw (walked_refused net (walk net (take t s)) walked e)) f refl

  module _ {n b : ℕ} (e : w ≡ Ok (counted n b)) where
    cuts : Cuts net n b (take t s) (walk net (take t s))
    cuts = walked_stopped net (walk net (take t s)) (take t s) (walk_cut net (take t s) (bytes_take t (bytes_known s known))) walked e

    sizes : (c : Cuts net n b (take t s) (walk net (take t s))) → b + length c.rest ≡ t
    sizes c = omega (arith, c.size, sym (length-append (encodings net c.frames) c.rest) ∙ ap length c.all ∙ length-take-le t s fits)

    pub within : b ≤ t
    within = omega (arith, sizes cuts)

    pub delivers : {s' o' : List ℕ} → s' ≡ splice s 0 (part s b (t - b)) → o' ≡ splice o 0 (take b s)
        → Gives (settled net (walk net (take t s)) s t o) (Ok (counted n b)) (t - b) s' o'
    unfolding settled pushed_of
    delivers {s'} {o'} p q = go cuts
      where
        go : Cuts net n b (take t s) (walk net (take t s)) → Gives (settled net (walk net (take t s)) s t o) (Ok (counted n b)) (t - b) s' o'
        go c =
            let fs = c.frames in
            let rest = c.rest in
            let d : length rest ≡ t - b = omega (arith, sizes c) in
            let u : s ≡ encodings net fs ++ (rest ++ drop t s) = sym (take-append-drop t s) ∙ rw (← c.all, append_assoc) in
            let v : take b s ≡ encodings net fs = ap (take b) u ∙ take_at (encodings net fs) (rest ++ drop t s) b c.size in
            let y : part s b (t - b) ≡ rest = ap (λ (l : List ℕ). part l b (t - b)) u ∙ rw (drop_at (encodings net fs) (rest ++ drop t s) b c.size) (take_at rest (drop t s) (t - b) d) in
            let r : Ok (counted n b) ≡ Ok (counted (length fs) (length (encodings net fs))) = rw (c.count, c.size) in
            rw (p, q, y, v) (gives (settled net (stopped fs rest) s t o) (rw c.is) r (sym d))

-- ---- the tests of a push

module _ (s : List ℕ) (h : ℕ) (x o : List ℕ) where
  pub takes_in_18 : length s < h → Err (held_over h) ≡ passing s h x o Err (Ok (h + length x))
  takes_in_18 a = sym (passing_is (over a))

  module _ (a : h ≤ length s) (sum : h + length x < 2 ^ 64) where
    -- the sum is below 2^64
    need : needed h x ≡ h + length x
    need = min-eq_left (omega arith)

    pub takes_in_6 : max_stream < h + length x → Err (stream_too_large (h + length x)) ≡ passing s h x o Err (Ok (h + length x))
    takes_in_6 b = rw (← need) (sym (passing_is (large a b)))

    module _ (b : h + length x ≤ max_stream) where
      pub takes_in_17 : length s < h + length x → Err (store_short (h + length x)) ≡ passing s h x o Err (Ok (h + length x))
      takes_in_17 c = rw (← need) (sym (passing_is (unstored a b c)))

      module _ (c : h + length x ≤ length s) where
        pub takes_in_16 : length o < h + length x → Err (output_short (h + length x)) ≡ passing s h x o Err (Ok (h + length x))
        takes_in_16 d = rw (← need) (sym (passing_is (no_room a b c d)))

        pub takes_in_all : h + length x ≤ length o → Ok (h + length x) ≡ passing s h x o Err (Ok (h + length x))
        takes_in_all d = sym (passing_is (fits a b c d))

-- ---- a push

-- the input's place in the store
module _ (s : List ℕ) (h : ℕ) (x o : List ℕ) {a : Answer ℕ} (q : a ≡ passing s h x o Err (Ok (h + length x))) {t : ℕ} (e : a ≡ Ok t) where
  passed : (t ≡ h + length x) × Passed s h x o
  passed = passing_taken s h x o q e

  pub taken_within : (h ≤ t) × (t ≤ length s) × (t ≤ length o)
  taken_within = let p = passed in (omega (arith, p.0), omega (arith, p.0, p.1.store), omega (arith, p.0, p.1.output))

  pub taken_long : length (part s h (t - h)) ≡ length x
  taken_long = let p = passed in part_length s h (t - h) (omega (arith, p.0, p.1.store)) ∙ omega (arith, p.0)

  pub taken_put : {y : List ℕ} → y ≡ x → put_mid h (t - h) s y ≡ splice s h x
  taken_put g = let p = passed in part_put s x h t p.0 (omega (arith, p.0, p.1.store)) g

module _ (net : NetworkMagic) (s : List ℕ) (h : ℕ) (x o : List ℕ) {a : Answer ℕ} (q : a ≡ passing s h x o Err (Ok (h + length x))) where
  pub turned : {r : Refusal} → a ≡ Err r → {v : Answer Frames} → v ≡ Err r → Gives (push net s h x o) v h s o
  unfolding push admitted pushed_of
  turned {r} e f =
      gives (turned_away r s h o) (passing_away s h x o q e (λ (v : Refusal). turned_away v s h o) (settled net (walk net (take h s ++ x)) (splice s h x) (h + length x) o)) f refl

  -- s₁ is the store with the input in it
  pub settles : {t : ℕ} → a ≡ Ok t → {s₁ : List ℕ} → s₁ ≡ splice s h x → {r : Answer Frames} {k : ℕ} {s' o' : List ℕ}
      → Gives (settled net (walk net (take t s₁)) s₁ t o) r k s' o' → Gives (push net s h x o) r k s' o'
  unfolding push admitted
  settles e i g =
      let p = passing_taken s h x o q e in
      rw (passed_is (λ (v : Refusal). turned_away v s h o) (settled net (walk net (take h s ++ x)) (splice s h x) (h + length x) o) p.1) (rw (i, p.0, take_held s h x p.1.store) at g)
