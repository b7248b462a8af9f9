-- The piece of an input that was read last. Assumes nothing.
use Rattle.std.specs.Prelude.{ℕ, List, take, drop, vec_items}
use Rattle.piping.specs.declared.pieces.Piece.{Piece}

-- the bytes that were read and not taken yet
abbrev pub waiting : Piece → List ℕ
waiting p = drop p.from (take p.to (vec_items p.bytes))
