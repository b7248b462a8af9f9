use Rattle.std.proofs.Common.{◌≡◌, List, [], ◌∷◌, length, replicate, refl, ap₂, rules}
use Rattle.std.specs.List.{FoldsTo}
use Rattle.line.proofs.zeros.clear.Goals as goal

-- calls that each give z
all_same : {S F : Type 0} (R : F → S → F → Type 0) (z : S) (xs : List S) (f last : F) → FoldsTo R f xs last → ((f : F) (x : S) (f' : F) → R f x f' → x ≡ z) → xs ≡ replicate (length xs) z
all_same R z [] f last ran gives = refl
all_same R z (x ∷ xs) f last ran gives = ap₂ ◌∷◌ (gives f x ran.0 ran.1) (all_same R z xs ran.0 last ran.2 gives)

pub returns : goal.returns
returns g c =
    let z = g.S.Symbol.kind.zero in
    let ran = c.fill_with.ensures.ran in
    let zeros : c.fill_with.new.self ≡ replicate (length c.fill_with.new.self) z = all_same _ z _ _ ran.0 ran.1 (λ f x f' r. search rules) in
    cc
