use Rattle.std.proofs.Common.{◌≡◌, ◌+◌, ◌-◌, ◌≤◌, ◌++◌, length, replicate, sym, ap, ◌∙◌, rules, arith}
use Rattle.std.proofs.lemmas.List.{replicate-append-replicate}
use Rattle.line.specs.Ring.{entered}
use Rattle.line.specs.Line.{contents}
use Rattle.line.proofs.Rings.{piece_put, piece_past, entered_twice, start_within}
use Rattle.line.proofs.Staying.{room_stays}
use Rattle.line.proofs.line.SymbolLine.push_zeros.Goals as goal

pub loop-left-preserved : goal.loop-left-preserved
loop-left-preserved g c =
    let z = g.S.Symbol.kind.zero in
    let l = c.loop-left.self in
    let stays = c.loop-left.invariant.stays in
    let written = c.clear.new.ring in
    let start = c.oldest-start.result in
    let size = c.min-size.result in
    let left = c.loop-left.left in
    let later = replicate (left - size) z in
    let long : c.len-len.result ≡ length (contents l) = c.len-len.ensures ∙ sym (room_stays _ _ stays) in
    let room : start + size ≤ c.len-len.result = omega (arith, c.min-size.ensures, start_within _ _ _ c.oldest-start.ensures) in
    let wide : length written ≡ size = search rules in
    let zeros : written ≡ replicate size z = c.clear.ensures ∙ ap (λ n. replicate n z) (search rules) in
    let split : written ++ later ≡ replicate left z =
    ap (λ ys. ys ++ later) zeros ∙ replicate-append-replicate size (left - size) z ∙ ap (λ n. replicate n z) (let e : size + (left - size) ≡ left = omega (arith, c.min-size.ensures) in e) in
    record {
      goes =
          ap (entered later) (piece_put l.window.now written l.places c.len-len.result l.head start size long c.oldest-start.ensures wide room)
          ∙ entered_twice written later (contents l)
          ∙ ap (λ q. entered q (contents l)) split
          ∙ c.loop-left.invariant.goes;
      stays = record {
        places = search rules;
        past = piece_past l.window.now written l.places c.len-len.result l.head start size long wide room ∙ stays.past;
        long = search rules;
        same = search rules;
      };
    }
