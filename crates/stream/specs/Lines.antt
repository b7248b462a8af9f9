-- A text as lines. Assumes nothing.
use Rattle.std.specs.Prelude.{◌≡◌, ℕ, ◌+◌, cond, List, [], ◌∷◌, ◌++◌, Some, None, Option, ◌==◌}
use Rattle.std.specs.Option.{option_map}

-- what stands after the last byte 10: no line where there is nothing
abbrev pub last_line : List ℕ → List (List ℕ)
last_line [] = []
last_line (c ∷ cs) = (c ∷ cs) ∷ []

-- the lines of a text that goes on a line of which `held` has come: byte 10 ends a line, and the last line may lack it
abbrev pub lines_after : List ℕ → List ℕ → List (List ℕ)
lines_after held [] = last_line held
lines_after held (c ∷ cs) = cond (c == 10) (held ∷ lines_after [] cs) (lines_after (held ++ (c ∷ [])) cs)

-- the lines of a text
abbrev pub lines_of : List ℕ → List (List ℕ)
lines_of text = lines_after [] text

-- how many bytes stand before the first byte 10, if there is one
abbrev pub line_length : List ℕ → Option ℕ
line_length [] = None
line_length (c ∷ cs) = cond (c == 10) (Some 0) (option_map (λ n. n + 1) (line_length cs))

-- no byte 10 stands in it
abbrev pub Unended : List ℕ → Type 0
Unended text = line_length text ≡ None
