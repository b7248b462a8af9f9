use Rattle.std.proofs.Common.{◌≡◌, length, drop, refl, ap, ◌∙◌}
use Rattle.std.proofs.lemmas.List.{length-replicate}
use Rattle.line.specs.Line.{fitting}
use Rattle.transmit.specs.Calls.{SenderMade}
use Rattle.transmit.proofs.Lawfulness.{lawful}
use Rattle.transmit.proofs.sender.Sender.new.Goals as goal

pub returns : goal.returns
returns g c =
    let K = g.S.Symbol.kind in
    let lent = c.args.window.now in
    let places : fitting c.window_len.result (length lent) ≡ _ = ap (λ m. fitting m (length lent)) c.window_len.ensures in
    let made : SenderMade c.args.sheet lent (record { sheet = c.args.sheet; count = c.new.result; line = c.over.result }) = record {
      sheet = refl;
      rows = c.new.ensures;
      places = c.over.ensures.places ∙ places;
      room_is = ap length c.over.ensures.held ∙ length-replicate (fitting c.window_len.result (length lent)) K.zero ∙ places;
      long = c.over.ensures.long;
      past = c.over.ensures.past ∙ ap (λ m. drop m lent) places;
    } in
    record {
      made = made;
      same = c.over.ensures.same;
      law = lawful K c.args.sheet lent _ made;
    }
