-- What a program writes of an input, where the bytes that the input still has and those that the output holds are known. Assumes
-- nothing.
use Rattle.std.specs.Prelude.{◌≡◌, ℕ, false, List, [], ◌++◌, Some, None, Option}
use Rattle.lines.specs.declared.header.Header.{Header}
use Rattle.opening.specs.declared.header.Opening.{Opening}
use Rattle.stream.specs.Lines.{lines_of}
use Rattle.opening.specs.Headed.{whole_text}
use Rattle.opening.specs.Opening.{opened, opening_rest}

-- `text` of all that the input had left is written, behind what the output held.
abbrev pub Written : (text : List ℕ → List ℕ) (left out out' : Option (List ℕ)) → Type 0
Written text left out out' = (xs ys : List ℕ) → left ≡ Some xs → out ≡ Some ys → out' ≡ Some (ys ++ text xs)

module _ (echo : Header → List ℕ) (body : Header → List (List ℕ) → List ℕ) where
  -- what lines bring after a header, or after none
  abbrev pub body_after : Option Header → List (List ℕ) → List ℕ
  body_after None lines = []
  body_after (Some header) lines = body header lines

  -- An opening has ended with its header, or with none: with what is now printed, lines still bring what they would have brought it.
  -- Where it has taken no line, none is left.
  abbrev pub OpeningEnded : {G : Type 0} (before : Opening G) (out out' : List ℕ) (header : Option Header) → Type 0
  OpeningEnded before out out' header =
      (lines : List (List ℕ)) → (opened before ≡ false → lines ≡ []) →
      out' ++ body_after header lines ≡ out ++ opening_rest echo body before lines

  -- The header of the input was read, or refused: with what is now written, what follows it is all that the input brings.
  pub record HeaderPumping (header : Option Header) (left out : List ℕ) (left' out' : Option (List ℕ)) : Type 0 where
    pub remains : List ℕ
    pub leaves : left' ≡ Some remains
    pub written : List ℕ
    pub holds : out' ≡ Some written
    pub prints : written ++ body_after header (lines_of remains) ≡ out ++ whole_text echo body left

  abbrev pub HeaderPumped : (header : Option Header) (left left' out out' : Option (List ℕ)) → Type 0
  HeaderPumped header left left' out out' =
      (xs ys : List ℕ) → left ≡ Some xs → out ≡ Some ys → HeaderPumping header xs ys left' out'
