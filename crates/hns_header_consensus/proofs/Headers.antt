-- Headers as values of their format. Assumes nothing.
use Prim.Native.Nat.{ℕ, ◌+◌, ◌≤◌}
use mathlib.Core.Path.{◌≡◌, refl, sym, ◌∙◌}
use mathlib.Core.List.{List}
use native.Mathlib.Omega.{arith}
use lib.Dec.{lit≤, eqb}
use lib.ListN.{length, replicate, length-replicate}
use Rattle.std.specs.Array.{AllOfLen}
use Rattle.std.proofs.lemmas.List.{ext_get_or, get_or-replicate}
use borrow.Author.Tests.{eq-eqb, eqb-true, ne_eqb}
use Rattle.std.specs.Prelude.{Ok, Err}
use Rattle.hns_refusals.specs.declared.Refusal.{Refusal}
use Rattle.hns_refusals.specs.Refusals.{Answer, header_length}
use Rattle.hns_encoding.specs.Bytes.{Outcome, got, stop, part, bytes_at, number_at, raw_at}
use Rattle.hns_encoding.specs.Format.{Value, read, whole, value_at}
use Rattle.hns_encoding.specs.Answers.{result_of}
use Rattle.hns_encoding.proofs.Outcomes.{bytes_got, choose_got}
use Rattle.hns_encoding.proofs.Reading.{raw_there, value_read, refusal_read}
use Rattle.hns_encoding.proofs.Blocks.{block_fits}
use Rattle.hns_header_consensus.specs.declared.Header.{Header}
use Rattle.hns_header_consensus.specs.Layout.{header, decode_header, header_at}
use Rattle.hns_header_consensus.specs.Answers.{header_of, zero_header, decoded_of, alone_of}

-- headers are equal by their fields
pub same_header : {n n' t t' : ℕ} {p p' r r' e e' s s' w w' m m' : List ℕ} {v v' b b' : ℕ} {k k' : List ℕ}
    → n ≡ n' → t ≡ t' → p ≡ p' → r ≡ r' → e ≡ e' → s ≡ s' → w ≡ w' → m ≡ m' → v ≡ v' → b ≡ b' → k ≡ k'
    → header_of (n, (t, (p, (r, (e, (s, (w, (m, (v, (b, k)))))))))) ≡ header_of (n', (t', (p', (r', (e', (s', (w', (m', (v', (b', k'))))))))))
same_header n t p r e s w m v b k = rw (n, t, p, r, e, s, w, m, v, b, k)

-- the header of a block by its fields
pub of_block : (s : List ℕ) → length s ≡ 236 → {n t : ℕ} {p r e v w m : List ℕ} {b i : ℕ} {k : List ℕ}
    → n ≡ number_at 4 s 0 → t ≡ number_at 8 s 4 → p ≡ raw_at 32 s 12 → r ≡ raw_at 32 s 44 → e ≡ raw_at 24 s 76 → v ≡ raw_at 32 s 100
    → w ≡ raw_at 32 s 132 → m ≡ raw_at 32 s 164 → b ≡ number_at 4 s 196 → i ≡ number_at 4 s 200 → k ≡ raw_at 32 s 204
    → header_of (n, (t, (p, (r, (e, (v, (w, (m, (b, (i, k)))))))))) ≡ header_of (value_at header _ s 0)
of_block s h n t p r e v w m b i k =
    let there : (l a : ℕ) → l + a ≤ 236 → raw_at l s a ≡ part s a l = λ l a fits. raw_there l s a (omega (arith, h)) in
    same_header n t (p ∙ there 32 12 (lit≤ tt)) (r ∙ there 32 44 (lit≤ tt)) (e ∙ there 24 76 (lit≤ tt)) (v ∙ there 32 100 (lit≤ tt)) (w ∙ there 32 132 (lit≤ tt)) (m ∙ there 32 164 (lit≤ tt)) b i (k ∙ there 32 204 (lit≤ tt))

-- the default header
abbrev Zeros : ℕ → List ℕ → Type 0
Zeros n xs = AllOfLen (λ x. x ≡ 0) xs n

zeros : {n : ℕ} {xs : List ℕ} → Zeros n xs → xs ≡ replicate n 0
zeros {n} {xs} h =
    ext_get_or 0 xs (replicate n 0) (h.long ∙ sym (length-replicate n 0)) (λ i below. h.at i 0 (omega (arith, h.long)) ∙ sym (get_or-replicate n i 0 0 (omega (arith, h.long))))

-- what the library's default of each field says
pub all_zero : {h : Header}
    → (h.nonce ≡ 0) × ((h.time ≡ 0) × (Zeros 32 h.previous_block × (Zeros 32 h.tree_root × (Zeros 24 h.extra_nonce × (Zeros 32 h.reserved_root × (Zeros 32 h.witness_root × (Zeros 32 h.merkle_root × ((h.version ≡ 0) × ((h.bits ≡ 0) × Zeros 32 h.mask)))))))))
    → h ≡ zero_header
all_zero (n, (t, (p, (r, (e, (s, (w, (m, (v, (b, k)))))))))) =
    same_header n t (zeros p) (zeros r) (zeros e) (zeros s) (zeros w) (zeros m) v b (zeros k)

-- a header alone
module _ (s : List ℕ) where
  pub alone : length s ≡ 236 → {block : List ℕ} → block ≡ s → {h : Header} → h ≡ header_of (value_at header _ block 0) → Ok h ≡ alone_of (decode_header s)
  unfolding alone_of decode_header
  alone e same is = rw (eq-eqb _ _ e, block_fits header _ s 0 (omega arith), is, same)

  pub not_236 : (length s ≡ 236 → ⊥) → Err (header_length (length s)) ≡ alone_of (decode_header s)
  unfolding alone_of decode_header
  not_236 ne = rw (ne_eqb _ _ ne)

-- with the place after it, which is always the same, or the refusal
ends_at : (s : List ℕ) {v : Value header} {next : ℕ} → decode_header s ≡ got v next → next ≡ 236
unfolding decode_header
ends_at s {v} {next} e =
    let read_it = choose_got (eqb (length s) 236) _ _ e in
    let long = eqb-true _ _ read_it.0 in
    let same : got (value_at header _ s 0) 236 ≡ got v next = sym (block_fits header _ s 0 (omega arith)) ∙ read_it.1 in
    cc same

module _ {alone_read : Answer Header} where
  with_place : (o : Outcome (Value header)) → alone_read ≡ alone_of o → {h : Header} → alone_read ≡ Ok h → ((v : Value header) (next : ℕ) → o ≡ got v next → next ≡ 236) → Ok (h, 236) ≡ decoded_of o
  unfolding alone_of decoded_of
  with_place (got v next) e {h} g place =
      let same : h ≡ header_of v = cc in
      rw (same, place v next refl)
  with_place (stop r) e g place = cc

  refusal : (o : Outcome (Value header)) → alone_read ≡ alone_of o → {r : Refusal} → alone_read ≡ Err r → Err r ≡ decoded_of o
  unfolding alone_of decoded_of
  refusal (got v next) e g = cc
  refusal (stop r) e g = cc

  module _ (s : List ℕ) (e : alone_read ≡ alone_of (decode_header s)) where
    pub decoded : {h : Header} → alone_read ≡ Ok h → Ok (h, 236) ≡ decoded_of (decode_header s)
    decoded g = with_place (decode_header s) e g (λ v next. ends_at s)

    pub not_decoded : {r : Refusal} → alone_read ≡ Err r → Err r ≡ decoded_of (decode_header s)
    not_decoded g = refusal (decode_header s) e g

-- and one at a place, of the block that is read there
module _ (s : List ℕ) (p : ℕ) {block_read : Answer (List ℕ × ℕ)} (e : block_read ≡ result_of (bytes_at 236 s p)) where
  pub placed : {block : List ℕ} {next : ℕ} → block_read ≡ Ok (block, next) → {h : Header} → h ≡ header_of (value_at header _ block 0) → Ok (h, next) ≡ decoded_of (header_at s p)
  unfolding decoded_of header_at
  placed g is =
      let b = bytes_got 236 s p (value_read (bytes_at 236 s p) e g) in
      rw (block_fits (whole 236 header) (refl, _) s p b.2, is, b.0, b.1)

  pub not_placed : {r : Refusal} → block_read ≡ Err r → Err r ≡ decoded_of (header_at s p)
  unfolding decoded_of header_at read
  not_placed g = rw (refusal_read (bytes_at 236 s p) e g)
