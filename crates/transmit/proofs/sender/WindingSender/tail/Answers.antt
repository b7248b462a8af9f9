use Rattle.std.proofs.Common.{◌≡◌, ◌+◌, [], ◌++◌, length, replicate, None, sym, refl, ap, ◌∙◌, ap₂}
use Rattle.std.proofs.lemmas.List.{length-replicate, get_or-replicate}
use Rattle.transmit.specs.Refusing.{tail_refused}
use Rattle.transmit.specs.Calls.{room}
use Rattle.transmit.proofs.Passing.{passes, tail_done}
use Rattle.transmit.proofs.Allowing.{tail_allowed}
use Rattle.transmit.proofs.sender.WindingSender.tail.Goals as goal

pub returns : goal.returns
returns g c =
    let K = g.S.Symbol.kind in
    let v = c.args.self.now in
    let p = v.sheet in
    let t = v.count.rows + v.count.tails in
    let zeros = replicate p.row K.zero in
    let place = c.args.place.now in
    let allowed : tail_refused p (room v.line) t v.count.tails (length place) ≡ None = sym c.in_ok-check_tail.ensures in
    let ok = tail_allowed p (room v.line) t v.count.tails (length place) allowed in
    let front : c.clear.new.ring ≡ replicate p.row K.zero = c.clear.ensures ∙ ap (λ m. replicate m K.zero) c.split_at_mut-symbols.ensures.front_len in
    tail_done K v _ _ allowed (record {
      answer = refl;
      sheet = refl;
      rows = c.add_tail.ensures.rows;
      tails = c.add_tail.ensures.tails;
      passes =
          passes K p t v.line c.push_zeros.new.self zeros [] (length-replicate p.row K.zero) (λ b l. get_or-replicate p.row b K.zero K.zero l) ok.0 c.push_zeros.ensures.held _
          (ap₂ ◌++◌ front c.write_parities.ensures)
          c.push_zeros.ensures.kept;
    })
