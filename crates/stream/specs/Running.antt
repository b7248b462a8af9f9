-- What a run prints as it takes the lines of a text. Assumes nothing.
-- Of a state of the run, `rest` has the text that is still printed, by the lines that are still to come; `sound` says that the
-- run's parts have come equally far, and `paused` that it takes no more lines.
use Rattle.std.specs.Prelude.{◌≡◌, ℕ, ◌≤◌, Bool, true, false, List, [], ◌∷◌, ◌++◌, length, drop}
use Rattle.stream.specs.Lines.{lines_after, Unended}

-- the bytes of the longest line that any run reads, without byte 10: a letter, 8 columns, and 64 fields of 8 columns
abbrev pub longest : ℕ
longest = 521

module _ {R : Type 0} (rest : R → List (List ℕ) → List ℕ) (sound : R → Type 0) (paused : R → Bool) where
  -- a line was taken: with what is now printed, the rest is what it was, whatever lines follow
  pub record Taken (before after : R) (line out out' : List ℕ) : Type 0 where
    pub stays : sound after
    pub prints : (lines : List (List ℕ)) → out' ++ rest after lines ≡ out ++ rest before (line ∷ lines)

  abbrev pub Took : (before after : R) (line out out' : List ℕ) → Type 0
  Took before after line out out' = sound before → paused before ≡ false → Taken before after line out out'

  -- a line that begins so ends the run alike, whatever follows
  abbrev pub Refused : (before : R) (begun : List ℕ) → Type 0
  Refused before begun = sound before → paused before ≡ false →
      (more : List ℕ) (lines lines' : List (List ℕ)) → rest before ((begun ++ more) ∷ lines) ≡ rest before (begun ∷ lines')

  -- a piece of a line that has not ended is held, or the line was refused already
  pub record Holding (before after : R) (held held' piece out out' : List ℕ) : Type 0 where
    pub stays : sound after
    pub prints : (more : List ℕ) →
        out' ++ rest after (lines_after held' more) ≡ out ++ rest before (lines_after (held ++ piece) more)
    pub few : length held' ≤ longest
    pub ends : Unended (held ++ piece) → Unended held'
    pub none : paused after ≡ true → held' ≡ []

  abbrev pub Held : (before after : R) (held held' piece out out' : List ℕ) → Type 0
  Held before after held held' piece out out' =
      sound before → paused before ≡ false → Holding before after held held' piece out out'

  -- The first `used` bytes of a piece were taken, all of them unless the run is paused; `held` and `held'` are what has come of
  -- the line that has not ended.
  pub record Feeding (before after : R) (held held' bytes out out' : List ℕ) (used : ℕ) : Type 0 where
    pub stays : sound after
    pub within : used ≤ length bytes
    pub prints : (more : List ℕ) →
        out' ++ rest after (lines_after held' (drop used bytes ++ more)) ≡ out ++ rest before (lines_after held (bytes ++ more))
    -- nothing waits that the bytes decide: each line that has ended was taken, and what is held is the beginning of one
    pub all : paused after ≡ false → used ≡ length bytes
    pub few : paused after ≡ false → length held' ≤ longest
    pub ends : Unended held → Unended held'
    pub none : paused after ≡ true → held' ≡ []

  abbrev pub Fed : (before after : R) (held held' bytes out out' : List ℕ) (used : ℕ) → Type 0
  Fed before after held held' bytes out out' used =
      sound before → paused before ≡ false → Feeding before after held held' bytes out out' used

  -- the text has ended: what is held is its last line
  pub record Finishing (before after : R) (held held' out out' : List ℕ) : Type 0 where
    pub stays : sound after
    pub prints : out' ++ rest after [] ≡ out ++ rest before (lines_after held [])
    pub none : held' ≡ []

  abbrev pub Finished : (before after : R) (held held' out out' : List ℕ) → Type 0
  Finished before after held held' out out' = sound before → paused before ≡ false → Finishing before after held held' out out'
