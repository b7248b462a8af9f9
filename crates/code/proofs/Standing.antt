-- All that holds of the code. Assumes nothing.
use Rattle.std.proofs.Common.{◌≡◌, ◌/◌, refl, ap, ◌∙◌, arith}
use Rattle.std.proofs.lemmas.Bool.{eq-eqb}
use Rattle.kinds.specs.Kind.{Kind}
use Rattle.kinds.proofs.Algebra.{sum_difference}
use Rattle.code.specs.declared.sheet.Sheet.{Sheet}
use Rattle.code.specs.Sheets.{carrier, column}
use Rattle.code.specs.Packets.{in_column}
use Rattle.code.specs.Mending.{beside}
use Rattle.code.specs.Theory.{Theory}
use Rattle.code.proofs.Numbers.{column_below, lag_below, lag_some, same_place}
use Rattle.code.proofs.Carrying.{gathered, gathered_apart, brought_own}
use Rattle.code.proofs.Soundness.{given_sound, determined}
use Rattle.code.proofs.Lossy.{undetermined}
use Rattle.code.proofs.Grouping.{bursts_mended}
use Rattle.code.proofs.Windows.{whole, looks_back, hears_back}

pub theory : {S : Type 0} (K : Kind S) (p : Sheet) → Theory K p
theory K p = record {
  cancels = sum_difference K;
  no_sooner = λ j b. omega (arith, lag_some p b);
  no_later = λ j b h. omega (arith, lag_below p b h);
  in_packet = column_below p;
  apart = λ a b e f. same_place p a b f (let g : a / p.parity ≡ b / p.parity = omega arith in g);
  plus_others = λ rows j b h.
      gathered_apart K p rows (carrier p j b) (in_column p (column p b)) p.row b h (eq-eqb (column p b) (column p b) refl)
      ∙ ap (λ x. K.sum x (gathered K p rows (carrier p j b) (beside p b) p.row)) (brought_own K p rows j b);
  whole = whole K p;
  looks_back = looks_back K p;
  hears_back = hears_back K p;
  sound = λ rows h j b below. given_sound K p rows h j b below;
  determined = determined K p;
  undetermined = undetermined K p;
  bursts_mended = bursts_mended p;
}
