use Rattle.std.proofs.Common.{◌≡◌, ◌++◌, length, None, sym, refl, ap₂}
use Rattle.transmit.specs.Refusing.{put_refused}
use Rattle.transmit.specs.Calls.{room}
use Rattle.transmit.proofs.Passing.{passes, put_done}
use Rattle.transmit.proofs.Allowing.{put_allowed}
use Rattle.transmit.proofs.sender.Sender.put.Goals as goal

pub returns : goal.returns
returns g c =
    let K = g.S.Symbol.kind in
    let s = c.args.self.now in
    let p = s.sheet in
    let t = s.count.rows in
    let row = c.args.row.now in
    let place = c.args.place.now in
    let allowed : put_refused p (room s.line) t (length row) (length place) ≡ None = sym c.in_ok-check_put.ensures in
    let ok = put_allowed p (room s.line) t (length row) (length place) allowed in
    put_done K s _ _ allowed (record {
      answer = refl;
      sheet = refl;
      rows = c.add_row.ensures;
      passes =
          passes K p t s.line c.push_all.new.self row row ok.2 (λ _ _. refl) ok.0 c.push_all.ensures.held _
          (ap₂ ◌++◌ c.copy_from_slice.ensures.after c.write_parities.ensures)
          c.push_all.ensures.kept;
    })
