-- What the contracts of private functions say. No public contract and no theorem cites this file.
use Rattle.std.specs.Prelude.{ℕ, ◌≡◌, List, length, Result, Ok, Err}
use Rattle.hns_refusals.specs.Refusals.{number}
use Rattle.hns_encoding.specs.Put.{splice, advance}
use Rattle.hns_p2p_frame.specs.declared.NetworkMagic.TheVariants.{Mainnet}
use Rattle.hns_p2p_frame.specs.Pushed.{Pushed, Accepted, Refused}
use Rattle.hns_p2p_frame.specs.Push.{push}
use Rattle.survey_export.specs.declared.Kept.{Kept}
use Rattle.survey_export.specs.declared.Step.{Step}
use Rattle.survey_export.specs.Text.{held_line, stop_line}
use Rattle.survey_export.specs.Survey.{lines, delivered, over}

-- what a push puts into the text, by its answer and its output, and where that ends
unfoldable pub push_text : Pushed → List ℕ → List ℕ
push_text (Accepted frames bytes h) o = lines (delivered bytes o)
push_text (Refused r h) o = stop_line (number r)

unfoldable pub placed_by : Pushed → ℕ → Result Kept ℕ
placed_by (Accepted frames bytes h) at = Ok (record { held = h; position = at })
placed_by (Refused r h) at = Err at

pub record PushesChunk (s : List ℕ) (h : ℕ) (x o t : List ℕ) (at : ℕ) (r : Result Kept ℕ) (s' o' t' : List ℕ) : Type 0 where
  pub answer : r ≡ placed_by (push Mainnet s h x o).answer (advance at (length (push_text (push Mainnet s h x o).answer (push Mainnet s h x o).output)))
  pub store : s' ≡ (push Mainnet s h x o).store
  pub output : o' ≡ (push Mainnet s h x o).output
  pub text : t' ≡ splice t at (push_text (push Mainnet s h x o).answer (push Mainnet s h x o).output)

-- the last line of a log that is over
pub record Finishes (t : List ℕ) (h at : ℕ) (r : Step) (t' : List ℕ) : Type 0 where
  pub answer : r ≡ over (advance at (length (held_line h)))
  pub text : t' ≡ splice t at (held_line h)
