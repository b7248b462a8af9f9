-- A text that goes to a run whole. Assumes nothing.
-- Of a state of the run, `rest` has the text that is still printed, by the lines that are still to come; `sound` says that the
-- run's parts have come equally far, and `paused` that it takes no more lines.
use Rattle.std.specs.Prelude.{◌≡◌, ℕ, ◌≤◌, Bool, false, List, ◌++◌, length, drop}
use Rattle.stream.specs.Lines.{lines_of}

module _ {R : Type 0} (rest : R → List (List ℕ) → List ℕ) (sound : R → Type 0) (paused : R → Bool) where
  -- The lines in the first `used` bytes were taken, in all bytes unless the run is paused: with what is now printed, the rest is
  -- what it was.
  pub record FeedingWhole (before after : R) (text out out' : List ℕ) (used : ℕ) : Type 0 where
    pub stays : sound after
    pub within : used ≤ length text
    pub all : paused after ≡ false → used ≡ length text
    pub prints : out' ++ rest after (lines_of (drop used text)) ≡ out ++ rest before (lines_of text)

  abbrev pub FedWhole : (before after : R) (text out out' : List ℕ) (used : ℕ) → Type 0
  FedWhole before after text out out' used = sound before → paused before ≡ false → FeedingWhole before after text out out' used
