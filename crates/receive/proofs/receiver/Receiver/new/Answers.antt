use Rattle.std.proofs.Common.{ℕ, length, drop, refl, ap, ◌∙◌}
use Rattle.std.proofs.lemmas.List.{length-replicate}
use Rattle.line.specs.Line.{fitting}
use Rattle.receive.specs.Calls.{ReceiverMade}
use Rattle.receive.proofs.Lawfulness.{lawful}
use Rattle.receive.proofs.receiver.Receiver.new.Goals as goal

pub returns : goal.returns
returns g c =
    let lent = c.args.window.now in
    let none = c.new.ensures in
    let over = c.over.ensures in
    let enough = ap (λ (m : ℕ). fitting m (length lent)) c.«window_len».ensures in
    let made : ReceiverMade c.args.sheet lent _ = record {
      sheet = refl;
      slots = none.0;
      whole = none.1;
      mended = none.2;
      lost = none.3;
      places = over.places ∙ enough;
      room_is = ap length over.held ∙ length-replicate (fitting c.«window_len».result (length lent)) g.S.Symbol.kind.zero ∙ enough;
      long = over.long;
      past = over.past ∙ ap (λ (m : ℕ). drop m lent) enough;
    } in
    record { made = made; same = over.same; law = lawful g.S.Symbol.kind c.args.sheet lent _ made }
