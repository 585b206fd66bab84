-- What the struct that a push answers says of its answer. Assumes nothing.
use mathlib.Core.Path.{◌≡◌, refl, sym, ap, ◌∙◌}
use Rattle.std.specs.Prelude.{Ok, Err}
use Rattle.hns_refusals.specs.declared.Refusal.{Refusal}
use Rattle.hns_p2p_frame.specs.declared.Frames.{Frames}
use Rattle.hns_p2p_frame.specs.declared.Pushed as code
use Rattle.hns_p2p_frame.specs.Pushed.{Pushed, Accepted, Refused}
use Rattle.hns_p2p_frame.specs.Push.{delivered}
use Rattle.hns_p2p_frame.specs.Answers.{pushed_of, delivered_of, beside}

module _ (a : Pushed) {p : code.Pushed} (q : p ≡ pushed_of a) where
  says : (pushed_of a).delivered ≡ p.delivered
  says = sym (ap (λ (r : code.Pushed). r.delivered) q)

  holds : (pushed_of a).held ≡ p.held
  holds = sym (ap (λ (r : code.Pushed). r.held) q)

by_frames : (a : Pushed) {f : Frames} → (pushed_of a).delivered ≡ Ok f → a ≡ Accepted f.frames f.bytes (pushed_of a).held
unfolding pushed_of
by_frames (Accepted n b h) {f} e =
    let same : ◌≡◌ {A = Frames} (record { frames = n; bytes = b }) f = cc in
    let frames : n ≡ f.frames = ap (λ (g : Frames). g.frames) same in
    let bytes : b ≡ f.bytes = ap (λ (g : Frames). g.bytes) same in
    rw (← frames, ← bytes)
by_frames (Refused r h) e = absurd (cc)

by_refusal : (a : Pushed) {r : Refusal} → (pushed_of a).delivered ≡ Err r → a ≡ Refused r (pushed_of a).held
unfolding pushed_of
by_refusal (Accepted n b h) e = absurd (cc)
by_refusal (Refused r h) e = cc

module _ (a : Pushed) {p : code.Pushed} (q : p ≡ pushed_of a) where
  pub pushed_accepted : {f : Frames} → p.delivered ≡ Ok f → a ≡ Accepted f.frames f.bytes p.held
  pushed_accepted {f} e = by_frames a (says a q ∙ e) ∙ ap (Accepted f.frames f.bytes) (holds a q)

  pub pushed_refused : {r : Refusal} → p.delivered ≡ Err r → a ≡ Refused r p.held
  pushed_refused {r} e = by_refusal a (says a q ∙ e) ∙ ap (Refused r) (holds a q)

-- what stands beside it in a push with a tally
pub beside_is : (a : Pushed) → beside (pushed_of a).delivered (pushed_of a).held ≡ delivered_of (delivered a)
unfolding pushed_of delivered_of delivered beside
beside_is (Accepted n b h) = refl
beside_is (Refused r h) = refl
