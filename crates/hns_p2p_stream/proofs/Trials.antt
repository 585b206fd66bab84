-- Wrong pushes, each refuted by one push, or two, of a few bytes on mainnet. Assumes nothing.
use Prim.Native.Nat.{ℕ, ◌*◌, ◌≤◌}
use mathlib.Core.Path.{◌≡◌, refl, ap, ◌∙◌}
use mathlib.Core.List.{List, [], ◌∷◌, ◌++◌, append-nil}
use mathlib.Core.Logic.{inl, ⊎_elim}
use native.Mathlib.Omega.{arith}
use native.Mathlib.Nat.{zero-add}
use lib.ListN.{length, take, replicate, length-append}
use lib.Dec.{T}
use Rattle.hns_refusals.specs.Limits.{max_stream}
use Rattle.hns_refusals.specs.Refusals.{magic_mismatch}
use Rattle.hns_encoding.specs.Bytes.{le, le_bytes, Bytes, none, byte}
use Rattle.hns_encoding.proofs.Puts.{length_splice}
use Rattle.hns_encoding.specs.Put.{splice}
use Rattle.hns_p2p_frame.specs.declared.NetworkMagic.{NetworkMagic}
use Rattle.hns_p2p_frame.specs.declared.NetworkMagic.TheVariants.{Mainnet}
use Rattle.hns_p2p_frame.specs.Frame.{magic, Frame, encoding, encodings, same, payload_length, front}
use Rattle.hns_p2p_frame.specs.Conditions.{wrong}
use Rattle.hns_p2p_frame.specs.Walk.{bad_header, ended, onwards, cut_up_to, cut, stopped, walked_for, walk}
use Rattle.hns_p2p_frame.specs.Push.{Result, settled, passing, admitted, push}
use Rattle.hns_p2p_frame.proofs.Fronts.{front_is}
use Rattle.hns_p2p_frame.proofs.Slices.{take_spliced}
use Rattle.hns_p2p_frame.proofs.Tests.{fits, passing_is}
use Rattle.hns_p2p_frame.proofs.Walks.{cut_bad, length_encoding}
use Rattle.hns_p2p_stream.specs.Stream as stream
use Rattle.hns_p2p_stream.specs.Stream.{AnyPush, Call, held_count, event, events, store_after, count_after, held_after, for_header, received, received_all, Delivers, BeginsWithFrame, HeaderRefused, AnyHeaderRefused, Demand3For}
use Rattle.hns_p2p_stream.specs.Trials.{walking, first_of, hands_out_first, hands_out_none, stores_nothing, one_more, miscounts, by_why, at_bad_header, hands_out_before, hands_out_and_holds, drains, forgets, delivers_later, TrialsFail}
use Rattle.hns_p2p_stream.proofs.Demand3.{parts}
use Rattle.hns_p2p_stream.proofs.Inputs.{are_bytes, bytes_tested, zeros, length_zeros, zeros_bytes}

-- a store, and an output, of 32 bytes
abbrev room : List ℕ
room = replicate 32 0

-- what demand 3 says of one push of x whose result is p
record OnePush (x : List ℕ) (p : Result) : Type 0 where
  delivered : (fs : List Frame) × Delivers Mainnet p.answer p.output fs
  all_bytes : (fs : List Frame) → Delivers Mainnet p.answer p.output fs → received p.answer x ≡ encodings Mainnet fs ++ take (held_count p.answer) p.store
  no_frame_held : ¬ HeaderRefused p.answer → ¬ BeginsWithFrame Mainnet (take (held_count p.answer) p.store)

one_push : (P : AnyPush) → Demand3For P → (x : List ℕ) → T (are_bytes x) → OnePush x (P Mainnet room 0 x room)
unfolding event events received_all store_after count_after held_after AnyHeaderRefused
one_push P d x b =
    let t = d Mainnet room (record { input = x; output = room } ∷ []) (bytes_tested x b, tt) in
    record {
      delivered = let q = parts t.frames_delivered.1 in (q.0, q.3);
      all_bytes = λ fs e. simp append-nil at (t.all_bytes (fs ++ []) (stream.more fs [] e stream.none));
      no_frame_held = λ n. t.no_frame_held (⊎_elim n (λ q. q));
    }

-- frames have nine bytes at least
encodings_long : (net : NetworkMagic) (fs : List Frame) → 9 * length fs ≤ length (encodings net fs)
unfolding encodings
encodings_long net [] = omega arith
encodings_long net (f ∷ fs) = let ih = encodings_long net fs in simp (length-append, length_encoding) (omega arith)

-- a frame of type 1 with no payload
abbrev verack : Frame
verack = record { packet_type = 1; payload = [] }

begins : (rest : List ℕ) → BeginsWithFrame Mainnet (encoding Mainnet verack ++ rest)
unfolding le le_bytes magic encoding payload_length
begins rest = record { header = omega arith; magic_good = refl; length_good = omega arith; payload_there = omega arith }

abbrev two : List ℕ
two = encodings Mainnet (verack ∷ verack ∷ [])

abbrev wrong_magic : List ℕ
wrong_magic = replicate 9 0

-- a wrong magic and so many bytes that more are held than the demand allows; z is any bytes, so that no check counts them
module _ (z : List ℕ) (b : Bytes z) (n : length z ≡ 8000005) (room : List ℕ) (m : length room ≡ max_stream) where
  abbrev bad : List ℕ
  bad = 0 ∷ 0 ∷ 0 ∷ 0 ∷ z

  wrong_magic_lem : ¬ (take 4 bad ≡ magic Mainnet)
  unfolding magic
  wrong_magic_lem e = let first : ◌≡◌ {A = ℕ} 0 0xd3 = cc e in omega arith

  refused : cut Mainnet bad ≡ ended bad (bad_header (magic_mismatch (le (magic Mainnet)) (le (take 4 bad))))
  refused = cut_bad Mainnet bad _ (front_is (wrong (omega arith) wrong_magic_lem))

  accepted : hands_out_before Mainnet room 0 bad room ≡ settled Mainnet (stopped [] bad) (splice room 0 bad) (length bad) room
  unfolding at_bad_header by_why admitted
  accepted = passing_is (fits (omega arith) (omega arith) (omega arith) (omega arith)) ∙ rw (refused, zero-add (length bad))

  too_many : ¬ Demand3For hands_out_before
  unfolding settled event events store_after count_after held_after held_count AnyHeaderRefused HeaderRefused
  too_many d =
      let few = (d Mainnet room (record { input = bad; output = room } ∷ []) (byte (omega arith) (byte (omega arith) (byte (omega arith) (byte (omega arith) b))), tt)).few_held in
      let held = rw (accepted) at few in
      omega (arith, held (⊎_elim (λ q. q) (λ q. q)), ap length (take_spliced (splice room 0 bad) bad (rw length_splice (omega arith))))

handed_out : ¬ Demand3For hands_out_before
handed_out = too_many (zeros 8000005) (zeros_bytes 8000005) (length_zeros 8000005) (zeros max_stream) (length_zeros max_stream)

-- the frame before a wrong magic, which the first push refuses, is delivered by the second
later_delivered : ¬ Demand3For delivers_later
unfolding le le_bytes splice magic encoding encodings same payload_length front onwards cut_up_to cut walked_for walk settled passing admitted push held_count for_header received Delivers HeaderRefused event events AnyHeaderRefused by_why delivers_later
later_delivered d =
    let first : Call = record { input = encoding Mainnet verack ++ wrong_magic; output = room } in
    let second : Call = record { input = []; output = room } in
    let e = event delivers_later Mainnet room 0 first in
    let f = event delivers_later Mainnet e.store (held_count e.answer) second in
    let t = d Mainnet room (first ∷ second ∷ []) (bytes_tested first.input tt, (none, tt)) in
    omega (arith, ap length (t.then_none (e ∷ []) (f ∷ []) refl (inl tt) (verack ∷ []) (stream.more (verack ∷ []) [] (refl, refl, omega arith) stream.none)))

pub trials : TrialsFail
unfolding le le_bytes splice magic encoding encodings same payload_length front onwards cut_up_to cut walked_for walk settled passing admitted push held_count for_header received Delivers HeaderRefused walking first_of stores_nothing one_more miscounts by_why at_bad_header
trials =
    record {
      -- the second frame is held
      first_frame_only = λ d. (one_push hands_out_first d two tt).no_frame_held (λ q. q) (begins []);
      -- both are
      none_handed_out = λ d. (one_push hands_out_none d two tt).no_frame_held (λ q. q) (begins (encoding Mainnet verack));
      -- 18 bytes received, none delivered or held
      nothing_stored = λ d. omega (arith, ap length ((one_push stores_nothing d two tt).all_bytes [] (refl, refl, omega arith)));
      -- 3 frames in 18 bytes
      count_wrong = λ d. let q = (one_push miscounts d two tt).delivered in omega (arith, q.1.0, ap length q.1.1, encodings_long Mainnet q.0);
      handed_out_before = handed_out;
      -- 18 bytes received, 9 delivered and 18 held
      handed_out_and_held = λ d. omega (arith, ap length ((one_push hands_out_and_holds d (encoding Mainnet verack ++ wrong_magic) tt).all_bytes (verack ∷ []) (refl, refl, omega arith)));
      -- 18 bytes received, none delivered and 9 held
      drained = λ d. omega (arith, ap length ((one_push drains d (encoding Mainnet verack ++ wrong_magic) tt).all_bytes [] refl));
      -- 9 bytes received, none delivered or held
      forgotten = λ d. omega (arith, ap length ((one_push forgets d wrong_magic tt).all_bytes [] refl));
      delivered_later = later_delivered;
    }
