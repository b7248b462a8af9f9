use Rattle.std.proofs.Common.{◌≡◌, ◌+◌, ◌≤◌, ◌++◌, length, sym, ap, ◌∙◌, rules, arith}
use Rattle.line.specs.Ring.{entered}
use Rattle.line.specs.Line.{contents}
use Rattle.line.proofs.Rings.{piece_put, piece_past, entered_twice, start_within}
use Rattle.line.proofs.Staying.{room_stays}
use Rattle.line.proofs.line.SymbolLine.push_all.Goals as goal

pub loop-rest-preserved : goal.loop-rest-preserved
loop-rest-preserved g c =
    let l = c.loop-rest.self in
    let stays = c.loop-rest.invariant.stays in
    let written = c.copy_from_slice.new.self in
    let later = c.split_at.result.1.now in
    let start = c.oldest-start.result in
    let size = c.min-size.result in
    let long : c.len-len.result ≡ length (contents l) = c.len-len.ensures ∙ sym (room_stays _ _ stays) in
    let wide : length written ≡ size = ap length c.copy_from_slice.ensures.after ∙ c.split_at.ensures.front_len in
    let room : start + size ≤ c.len-len.result = omega (arith, c.min-size.ensures, start_within _ _ _ c.oldest-start.ensures) in
    record {
      goes =
          ap (entered later) (piece_put l.window.now written l.places c.len-len.result l.head start size long c.oldest-start.ensures wide room)
          ∙ entered_twice written later (contents l)
          ∙ ap (λ q. entered q (contents l)) (ap (λ ys. ys ++ later) c.copy_from_slice.ensures.after ∙ sym c.split_at.ensures.by_index.0)
          ∙ c.loop-rest.invariant.goes;
      stays = record {
        places = search rules;
        past = piece_past l.window.now written l.places c.len-len.result l.head start size long wide room ∙ stays.past;
        long = search rules;
        same = search rules;
      };
    }
