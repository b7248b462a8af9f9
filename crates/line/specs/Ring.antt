-- A window read as a ring, and what a line over it holds. Assumes nothing.
use Rattle.std.specs.Prelude.{◌≡◌, ℕ, zero, suc, ◌+◌, ◌-◌, ◌<◌, ◌≤◌, ◌⊎◌, List, ◌++◌, map, reverse, length, take, drop, Some, None, Option, slice_index_or}
use Rattle.std.specs.List.{range_with_len, slice_get}
use Rattle.std.specs.Option.{unwrap_or}
use Rattle.kinds.specs.Kind.{Kind}

module _ {S : Type 0} where
  -- a window read from place h on, round its end
  abbrev pub turned : ℕ → List S → List S
  turned h w = drop h w ++ take h w

  -- the same, the latest symbol first
  abbrev pub held : ℕ → List S → List S
  held h w = reverse (turned h w)

  -- the symbols q went, one at a time, into a line that holds xs
  abbrev pub entered : List S → List S → List S
  entered q xs = take (length xs) (reverse q ++ xs)

  -- the symbol that went in so many symbols ago, 1 being the latest
  abbrev pub look : List S → ℕ → Option S
  look xs zero = None
  look xs (suc a) = slice_get xs a

  -- the same, and z where there is none
  abbrev pub symbol_back : S → List S → ℕ → S
  symbol_back z xs steps = unwrap_or (look xs steps) z

  -- the m symbols that begin so many symbols back, in the order in which they went in
  abbrev pub stretch : S → List S → ℕ → ℕ → List S
  stretch z xs steps m = map (λ i. symbol_back z xs (steps - i)) (range_with_len 0 m)

-- those symbols, each added to what a place holds
abbrev pub added : {S : Type 0} → Kind S → List S → ℕ → List S → List S
added K xs steps place =
    map (λ i. K.sum (symbol_back K.zero xs (steps - i)) (slice_index_or place i K.zero)) (range_with_len 0 (length place))

-- the oldest symbol stands at place s of a ring of len places with its head at h: a head past the end stands for the first place
abbrev pub Start : (len h s : ℕ) → Type 0
Start len h s = ((h < len) × (s ≡ h)) ⊎ ((len ≤ h) × (s ≡ 0))

-- The m symbols that begin so many symbols back lie in one piece of a ring of len places with its head at h, from place `at` on ..
abbrev pub Lies : (len h steps m at : ℕ) → Type 0
Lies len h steps m at =
    (s : ℕ) × Start len h s × (((steps ≤ s) × (at + steps ≡ s)) ⊎ ((s < steps) × (m + s ≤ steps) × (at + steps ≡ len + s)))

-- .. or they do not.
abbrev pub Piece : (len h steps m : ℕ) → Option ℕ → Type 0
Piece len h steps m (Some at) = (m ≤ steps) × (steps ≤ len) × Lies len h steps m at
Piece len h steps m None = m ≤ steps → steps ≤ len → (s : ℕ) × Start len h s × (s < steps) × (steps < m + s)
