use Rattle.std.proofs.Common.{◌++◌, vec_items, sym, ap, ◌∙◌, arith}
use Rattle.std.proofs.lemmas.List.{drop_all}
use Rattle.stream.specs.Lines.{lines_of}
use Rattle.stream.proofs.Whole.{fed_finished, fed_paused}
use Rattle.opening.proofs.feeding.feed_whole.Goals as goal

pub returns-then-is_paused : goal.returns-then-is_paused
returns-then-is_paused g c sane begun =
    let run = g.R.LineRun in
    let fed = c.in_ok-used.ensures sane begun in record {
      stays = fed.stays;
      within = fed.within;
      all = fed.all;
      prints =
          fed_paused run.rest run.sound run.paused c.args.run.now c.feed.new.run _ _ c.args.text.now _ _ _ c.new-feed.ensures fed
          (sym c.is_paused.ensures ∙ c.if-is_paused.true);
    }

pub returns : goal.returns
returns g c sane begun =
    let run = g.R.LineRun in
    let fed = c.in_ok-used.ensures sane begun in
    let going = sym c.is_paused.ensures ∙ c.if-is_paused.false in
    let done = c.in_ok-finish.ensures fed.stays going in record {
      stays = done.stays;
      within = fed.within;
      all = λ _. fed.all going;
      prints =
          ap (λ more. vec_items c.finish.new.out ++ run.rest c.finish.new.run (lines_of more))
          (drop_all c.in_ok-used.used c.args.text.now (omega (arith, fed.all going)))
          ∙ fed_finished run.rest run.sound run.paused c.args.run.now c.feed.new.run c.finish.new.run _ _ _ c.args.text.now _ _ _ _ c.new-feed.ensures fed going done;
    }
