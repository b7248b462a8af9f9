use Rattle.std.proofs.Common.{◌≡◌, ℕ, ◌+◌, ◌-◌, List, ◌++◌, length, take, drop, replicate, vec_items, sym, refl, ap, ◌∙◌, ap₂, arith}
use Rattle.std.specs.Vec.{with_items}
use Rattle.std.specs.declared.vec.Vec.{Vec}
use Rattle.std.proofs.lemmas.List.{append-nil, length-append, length-replicate, take_at, drop_at, take_all, drop_all, with_items_is}
use Rattle.runs.specs.Whole.{written_text}
use Rattle.runs.proofs.print.print_with.Goals as goal

-- a place of this length behind a text that grew by it, and what a line written there makes of both
module _ (text kept sized all : List ℕ) (start len old : ℕ) (begins : length text ≡ start) (same : old ≡ start) (stays : kept ≡ text)
    (grown : sized ≡ take (start + len) kept ++ replicate (start + len - old) 0) (same-items : all ≡ sized) where
  is : all ≡ text ++ replicate len 0
  is = same-items ∙ grown ∙ ap₂ (λ a n. a ++ replicate n 0) (ap (take (start + len)) stays ∙ take_all (start + len) text (omega arith)) (let e : start + len - old ≡ len = omega arith in e)

  behind : drop start all ≡ replicate len 0
  behind = ap (drop start) is ∙ drop_at text (replicate len 0) start begins

  left : length all - start ≡ len
  left = omega (arith, ap length is, length-append text (replicate len 0), length-replicate {A = ℕ} len 0)

  place : take (length all - start) (drop start all) ≡ replicate len 0
  place = ap₂ take left behind ∙ take_all len (replicate len 0) (omega (arith, length-replicate {A = ℕ} len 0))

  put : (line : List ℕ) → take start all ++ (line ++ drop (length all - start) (drop start all)) ≡ text ++ line
  put line =
      ap₂ (λ a b. a ++ (line ++ b)) (ap (take start) is ∙ take_at text (replicate len 0) start begins)
      (ap₂ drop left behind ∙ drop_all len (replicate len 0) (omega (arith, length-replicate {A = ℕ} len 0)))
      ∙ ap (λ x. text ++ x) (append-nil line)

  written : {Z : Type 0} (v : Vec ℕ Z) (line : List ℕ) → length line ≡ length (take (length all - start) (drop start all)) → length all ≡ v.len →
      vec_items (with_items v (take start all ++ (line ++ drop (length all - start) (drop start all)))) ≡ text ++ line
  written v line long fits =
      let e : length line ≡ len = long ∙ ap length place ∙ length-replicate len 0 in
      with_items_is v _ (omega (arith, fits, ap length (put line), length-append text line, ap length is, length-append text (replicate len 0), length-replicate {A = ℕ} len 0))
      ∙ put line

pub returns-in-Ok : goal.returns-in-Ok
returns-in-Ok g c =
    let text = vec_items c.args.out.now in
    let begins : length text ≡ c.len-start.result = omega (arith, c.args.out.now.ok.0) in
    let same : c.reserve.new.self.len ≡ c.len-start.result = omega arith in (
      c.write.result,
      c.write.new.arg2,
      record { shown = _; shows = place text _ _ _ _ c.args.len _ begins same c.reserve.ensures.items c.in_ok-resize.ensures.items c.as_mut_slice.ensures.value; left = _; met = c.write.ensures; leaves = refl },
      written text _ _ _ _ c.args.len _ begins same c.reserve.ensures.items c.in_ok-resize.ensures.items c.as_mut_slice.ensures.value c.resize.new.self c.write.new.arg2 c.write.auto.arg2 c.as_mut_slice.ensures.len
          ∙ ap (λ r. text ++ written_text r c.write.new.arg2) (sym c.in-Ok.is),
    )

pub returns-in-Err : goal.returns-in-Err
returns-in-Err g c =
    let text = vec_items c.args.out.now in
    let begins : length text ≡ c.len-start.result = omega (arith, c.args.out.now.ok.0) in
    let same : c.reserve.new.self.len ≡ c.len-start.result = omega arith in (
      c.write.result,
      c.write.new.arg2,
      record { shown = _; shows = place text _ _ _ _ c.args.len _ begins same c.reserve.ensures.items c.in_ok-resize.ensures.items c.as_mut_slice.ensures.value; left = _; met = c.write.ensures; leaves = refl },
      c.truncate.ensures.items
          ∙ ap (take c.len-start.result) (written text _ _ _ _ c.args.len _ begins same c.reserve.ensures.items c.in_ok-resize.ensures.items c.as_mut_slice.ensures.value c.resize.new.self c.write.new.arg2 c.write.auto.arg2 c.as_mut_slice.ensures.len)
          ∙ take_at text c.write.new.arg2 c.len-start.result begins
          ∙ sym (append-nil text)
          ∙ ap (λ r. text ++ written_text r c.write.new.arg2) (sym c.in-Err.is),
    )
