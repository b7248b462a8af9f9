use Rattle.link.proofs.Meetings.{meet}
use Rattle.link.proofs.ends.Ends.new.Goals as goal

pub returns : goal.returns
returns g c =
    let K = g.S.Symbol.kind in
    record {
      sender = c.new.ensures.made;
      receiver = c.new-2.ensures.made;
      sends = c.new.ensures.law;
      receives = c.new-2.ensures.law;
      meet = meet K c.args.sheet c.args.near.now c.new.result c.new.ensures.law;
    }
