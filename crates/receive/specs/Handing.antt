-- What is handed out with a slot: the row that falls due, its marks and its verdict. Assumes nothing.
use Rattle.std.specs.Prelude.{◌≡◌, ℕ, ◌+◌, ◌<◌, Bool, true, false, cond, List, [], ◌∷◌, Some, None, Ok, Err, Option, Result, nat_lt}
use Rattle.kinds.specs.Kind.{Kind}
use Rattle.code.specs.declared.mark.Mark.{Mark}
use Rattle.code.specs.declared.refusal.SlotRefusal.{SlotRefusal}
use Rattle.code.specs.declared.sheet.Sheet.{Sheet}
use Rattle.code.specs.Sheets.{T}
use Rattle.code.specs.Mending.{History, heard, row_of, marks_of}
use Rattle.receive.specs.declared.due.Verdict.{Verdict}
use Rattle.receive.specs.declared.due.Due.{Due}

abbrev pub is_mended : Mark → Bool
is_mended Mark.Arrived = false
is_mended Mark.Mended = true
is_mended Mark.Lost = false

abbrev pub is_lost : Mark → Bool
is_lost Mark.Arrived = false
is_lost Mark.Mended = false
is_lost Mark.Lost = true

-- how many members of a list a test picks
abbrev pub count : {X : Type 0} → (X → Bool) → List X → ℕ
count test [] = 0
count test (x ∷ xs) = cond (test x) 1 0 + count test xs

-- the place of the first that it picks
abbrev pub first : {X : Type 0} → (X → Bool) → List X → ℕ
first test [] = 0
first test (x ∷ xs) = cond (test x) 0 (1 + first test xs)

-- the verdict on a row of which so many symbols are mended and lost: lost with both counts and the first lost place, or else
-- mended with the count, or else whole
abbrev pub judged : (mended lost place : ℕ) → Verdict
judged mended lost place =
    cond (nat_lt 0 lost) (Verdict.Lost mended lost place)
    (cond (nat_lt 0 mended) (Verdict.Mended mended) Verdict.Whole)

-- the verdict on a row with these marks
abbrev pub verdict : List Mark → Verdict
verdict marks = judged (count is_mended marks) (count is_lost marks) (first is_lost marks)

abbrev pub whole_row : Verdict → Bool
whole_row Verdict.Whole = true
whole_row (Verdict.Mended m) = false
whole_row (Verdict.Lost m l f) = false

abbrev pub mended_row : Verdict → Bool
mended_row Verdict.Whole = false
mended_row (Verdict.Mended m) = true
mended_row (Verdict.Lost m l f) = false

abbrev pub lost_row : Verdict → Bool
lost_row Verdict.Whole = false
lost_row (Verdict.Mended m) = false
lost_row (Verdict.Lost m l f) = true

-- the answer of a slot call: the row that it hands out with its verdict, or none, or a refusal
abbrev pub Answer : Type 0
Answer = Result (Option Due) SlotRefusal

-- one row with such a verdict, where the answer names one
abbrev pub one : (Verdict → Bool) → Answer → ℕ
one test (Ok (Some due)) = cond (test due.verdict) 1 0
one test (Ok None) = 0
one test (Err e) = 0

-- What a slot call gives back: the place for the row and the place for the marks, before and after it, and the answer.
pub record Reply (S : Type 0) : Type 0 where
  pub row : List S
  pub row' : List S
  pub marks : List Mark
  pub marks' : List Mark
  pub answer : Answer

abbrev pub replied : {S : Type 0} → (row row' : List S) (marks marks' : List Mark) → Answer → Reply S
replied row row' marks marks' answer = record { row = row; row' = row'; marks = marks; marks' = marks'; answer = answer }

-- nothing is handed out, and both places keep what they had
pub record Waits {S : Type 0} (a : Reply S) : Type 0 where
  pub answer : a.answer ≡ Ok None
  pub row : a.row' ≡ a.row
  pub marks : a.marks' ≡ a.marks

module _ {S : Type 0} (K : Kind S) (p : Sheet) (h : History S) where
  -- row j is handed out with its marks, and the answer names it with the verdict on them
  pub record Gives (j : ℕ) (a : Reply S) : Type 0 where
    pub answer : a.answer ≡ Ok (Some (record { row = j; verdict = verdict (marks_of p (heard h) j) }))
    pub row : a.row' ≡ row_of K p h j
    pub marks : a.marks' ≡ marks_of p (heard h) j

  -- with slot t row t - T falls due; while t < T none does
  pub record Hands (t : ℕ) (a : Reply S) : Type 0 where
    pub early : t < T p → Waits a
    pub late : (j : ℕ) → j + T p ≡ t → Gives j a
