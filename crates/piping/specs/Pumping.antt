-- What is written of an input, where the bytes that the input still has and those that the output holds are known. Assumes nothing.
use Rattle.std.specs.Prelude.{◌≡◌, ℕ, ◌<◌, Bool, true, false, List, [], ◌++◌, length, Some, Option}
use Rattle.stream.specs.Lines.{lines_of, lines_after}

module _ {R : Type 0} (rest : R → List (List ℕ) → List ℕ) (sound : R → Type 0) (paused : R → Bool) where
  -- The run was fed with the next piece of the input, if there was one: with what is now printed, the rest is what it was.
  pub record FeedingPiece (before after : R) (held held' printed printed' left : List ℕ) (left' : Option (List ℕ)) (more : Bool) : Type 0 where
    pub remains : List ℕ
    pub leaves : left' ≡ Some remains
    pub stays : sound after
    pub prints : printed' ++ rest after (lines_after held' remains) ≡ printed ++ rest before (lines_after held left)
    pub none_held : paused after ≡ true → held' ≡ []
    pub some : more ≡ true → 0 < length left
    pub over : more ≡ false → remains ≡ []
    pub going : more ≡ false → paused after ≡ false

  abbrev pub PieceFed : (before after : R) (held held' printed printed' : List ℕ) (left left' : Option (List ℕ)) (more : Bool) → Type 0
  PieceFed before after held held' printed printed' left left' more =
      sound before → paused before ≡ false → (xs : List ℕ) → left ≡ Some xs →
      FeedingPiece before after held held' printed printed' xs left' more

  -- The run took the lines of what was held and of what the input had left, until it was paused or nothing was left: with what is
  -- now written, the rest is what it was. Nothing is held or printed any more.
  pub record PumpingFrom (before after : R) (held held' printed printed' left out : List ℕ) (left' out' : Option (List ℕ)) : Type 0 where
    pub remains : List ℕ
    pub leaves : left' ≡ Some remains
    pub written : List ℕ
    pub holds : out' ≡ Some written
    pub stays : sound after
    pub prints : written ++ rest after (lines_of remains) ≡ out ++ (printed ++ rest before (lines_after held left))
    pub all : paused after ≡ false → remains ≡ []
    pub none_held : held' ≡ []
    pub none_printed : printed' ≡ []

  abbrev pub PumpedFrom : (before after : R) (held held' printed printed' : List ℕ) (left left' out out' : Option (List ℕ)) → Type 0
  PumpedFrom before after held held' printed printed' left left' out out' =
      sound before → paused before ≡ false → (xs ys : List ℕ) → left ≡ Some xs → out ≡ Some ys →
      PumpingFrom before after held held' printed printed' xs ys left' out'

  -- The same where nothing was held or printed.
  abbrev pub Pumped : (before after : R) (left left' out out' : Option (List ℕ)) → Type 0
  Pumped before after left left' out out' = PumpedFrom before after [] [] [] [] left left' out out'
