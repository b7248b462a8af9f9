-- A turn of the loop that feeds a run with an input, over plain values. Assumes nothing.
use Rattle.std.proofs.Common.{◌≡◌, ℕ, ◌<◌, ◌≤◌, Bool, true, false, List, [], ◌++◌, length, drop, Some, None, Option, IfSome, sym, refl, ap, ap₂, ◌∙◌, subst, append_assoc, length-append, arith}
use Rattle.std.proofs.lemmas.List.{drop-append-le}
use Rattle.std.specs.Io.{StartsWith}
use Rattle.std.specs.Io.BufRead.{DropsConsumable}
use Rattle.std.specs.Io.KnownBytes.{Appends, Keeps}
use Rattle.std.proofs.KnownBytes.{starts_with_rest}
use Rattle.stream.specs.Lines.{lines_after, lines_of}
use Rattle.stream.specs.Running.{Fed, Finished}
use Rattle.piping.specs.Pumping.{PieceFed, PumpingFrom, PumpedFrom, Pumped}

-- known bytes that grew are known
pub appended : (ys : List ℕ) (new : Option (List ℕ)) (bs : List ℕ) → Appends (Some ys) new bs → new ≡ Some (ys ++ bs)
appended ys None bs h = absurd h
appended ys (Some zs) bs h = ap Some h

-- known bytes that were kept are the same
kept : (xs : List ℕ) (new : Option (List ℕ)) → Keeps (Some xs) new → new ≡ Some xs
kept xs None h = absurd h
kept xs (Some ys) h = ap Some h

true_false : true ≡ false → ⊥
true_false e = cc

-- a part of what was shown is gone
shown_taken : (xs piece : List ℕ) (now new : Option (List ℕ)) (limit : Option ℕ) (used : ℕ) → used ≤ length piece →
    StartsWith xs piece → now ≡ Some xs → IfSome limit (λ n. length piece ≤ n) → DropsConsumable now new limit used →
    new ≡ Some (drop used piece ++ drop (length piece) xs)
shown_taken xs piece now new limit used within front is fits drops =
    let gone : new ≡ Some (drop used xs) = subst (λ o. DropsConsumable o new limit used) is drops (room limit fits) in
    gone ∙ ap Some (ap (drop used) (starts_with_rest xs piece front) ∙ drop-append-le used piece (drop (length piece) xs) within)
  where
    room : (o : Option ℕ) → IfSome o (λ n. length piece ≤ n) → IfSome o (λ n. used ≤ n)
    room None h = tt
    room (Some n) h = omega arith

module _ {R : Type 0} (rest : R → List (List ℕ) → List ℕ) (sound : R → Type 0) (paused : R → Bool) where
  -- a piece was shown, and the run was fed with it
  pub fed : {before after : R} {held held' printed printed' : List ℕ} {left left' : Option (List ℕ)} (now : Option (List ℕ)) (limit : Option ℕ)
      (piece : List ℕ) (used : ℕ) → 0 < length piece → IfSome left (λ xs. StartsWith xs piece) → Keeps left now →
      IfSome left (λ _. IfSome limit (λ n. length piece ≤ n)) → Fed rest sound paused before after held held' piece printed printed' used →
      DropsConsumable now left' limit used →
      PieceFed rest sound paused before after held held' printed printed' left left' true
  fed {before = before} {after = after} {held = held} {held' = held'} {printed = printed} {printed' = printed'} {left' = left'} now limit piece used
      some front keeps fits feeds drops s p xs l =
      let f = feeds s p in
      let starts : StartsWith xs piece = subst (λ o. IfSome o (λ x. StartsWith x piece)) l front in
      let more = drop (length piece) xs in
      let whole = starts_with_rest xs piece starts in
      record {
        remains = drop used piece ++ more;
        leaves = shown_taken xs piece now left' limit used f.within starts (kept xs now (subst (λ o. Keeps o now) l keeps))
            (subst (λ o. IfSome o (λ _. IfSome limit (λ n. length piece ≤ n))) l fits) drops;
        stays = f.stays;
        prints = f.prints more ∙ ap (λ b. printed ++ rest before (lines_after held b)) (sym whole);
        none_held = f.none;
        some = λ _. omega (arith, ap length whole, length-append piece more);
        over = λ e. absurd (true_false e);
        going = λ e. absurd (true_false e);
      }

  -- With what was written so far and what is printed, the rest is what it was.
  pub record Going (before now : R) (first held begun printed left out : List ℕ) (left' out' : Option (List ℕ)) : Type 0 where
    pub remains : List ℕ
    pub leaves : left' ≡ Some remains
    pub written : List ℕ
    pub holds : out' ≡ Some written
    pub stays : sound now
    pub none_held : paused now ≡ true → held ≡ []
    pub prints : written ++ (printed ++ rest now (lines_after held remains)) ≡ out ++ (begun ++ rest before (lines_after first left))

  pub record Goes (before now : R) (first held begun printed : List ℕ) (left left' out out' : Option (List ℕ)) : Type 0 where
    pub goes : sound before → paused before ≡ false → (xs ys : List ℕ) → left ≡ Some xs → out ≡ Some ys →
        Going before now first held begun printed xs ys left' out'

  -- what was printed is written
  pub writes : {before now : R} {first held begun printed printed' : List ℕ} {left left' out out' : Option (List ℕ)} (out'' : Option (List ℕ)) →
      Goes before now first held begun printed left left' out out' → Appends out' out'' printed → printed' ≡ [] →
      Goes before now first held begun printed' left left' out out''
  writes {now = now} {held = held} {printed = printed} {out' = out'} out'' so_far wrote none = record {
    goes = λ s p xs ys l o.
        let w = so_far.goes s p xs ys l o in
        record {
          remains = w.remains;
          leaves = w.leaves;
          written = w.written ++ printed;
          holds = appended w.written out'' printed (subst (λ x. Appends x out'' printed) w.holds wrote);
          stays = w.stays;
          none_held = w.none_held;
          prints = ap (λ x. (w.written ++ printed) ++ (x ++ rest now (lines_after held w.remains))) none
              ∙ (append_assoc w.written printed _ ∙ w.prints);
        };
  }

  -- a piece more was fed
  pub turns : {before now after : R} {first held held' begun printed printed' : List ℕ} {left left' left'' out out' : Option (List ℕ)} (more : Bool) →
      Goes before now first held begun printed left left' out out' → paused now ≡ false →
      PieceFed rest sound paused now after held held' printed printed' left' left'' more →
      Goes before after first held' begun printed' left left'' out out'
  turns more so_far still feeds = record {
    goes = λ s p xs ys l o.
        let w = so_far.goes s p xs ys l o in
        let f = feeds w.stays still w.remains w.leaves in
        record {
          remains = f.remains;
          leaves = f.leaves;
          written = w.written;
          holds = w.holds;
          stays = f.stays;
          none_held = f.none_held;
          prints = ap (λ x. w.written ++ x) f.prints ∙ w.prints;
        };
  }

  -- the run is paused
  pub stops : {before now : R} {first held begun printed : List ℕ} {left left' out out' : Option (List ℕ)} →
      Goes before now first held begun printed left left' out out' → printed ≡ [] → paused now ≡ true → sound before → paused before ≡ false →
      (xs ys : List ℕ) → left ≡ Some xs → out ≡ Some ys → PumpingFrom rest sound paused before now first held begun printed xs ys left' out'
  stops {now = now} so_far none stop s p xs ys l o =
      let w = so_far.goes s p xs ys l o in
      record {
        remains = w.remains;
        leaves = w.leaves;
        written = w.written;
        holds = w.holds;
        stays = w.stays;
        prints =
            ap₂ (λ x h. w.written ++ (x ++ rest now (lines_after h w.remains))) (sym none) (sym (w.none_held stop)) ∙ w.prints;
        all = λ going. absurd (true_false (sym stop ∙ going));
        none_held = w.none_held stop;
        none_printed = none;
      }

  -- nothing was left to read: what is held was the last line
  pub ends : {before now now' after : R} {first held held' held'' begun printed printed' printed'' last : List ℕ} {left left' left'' out out' : Option (List ℕ)}
      (out'' : Option (List ℕ)) →
      Goes before now first held begun printed left left' out out' → paused now ≡ false →
      PieceFed rest sound paused now now' held held' printed printed' left' left'' false →
      Finished rest sound paused now' after held' held'' printed' printed'' → Appends out' out'' printed'' → last ≡ [] →
      PumpedFrom rest sound paused before after first held'' begun last left left'' out out''
  ends {now' = now'} {after = after} {held' = held'} {printed' = printed'} {printed'' = printed''} out'' so_far still feeds finished wrote none s p xs ys l o =
      let w = so_far.goes s p xs ys l o in
      let f = feeds w.stays still w.remains w.leaves in
      let e = finished f.stays (f.going refl) in
      record {
        remains = f.remains;
        leaves = f.leaves;
        written = w.written ++ printed'';
        holds = appended w.written out'' printed'' (subst (λ x. Appends x out'' printed'') w.holds wrote);
        stays = e.stays;
        prints =
            ap (λ b. (w.written ++ printed'') ++ rest after (lines_of b)) (f.over refl)
            ∙ (append_assoc w.written printed'' _ ∙ (ap (λ x. w.written ++ x)
            (e.prints ∙ (ap (λ b. printed' ++ rest now' (lines_after held' b)) (sym (f.over refl)) ∙ f.prints)) ∙ w.prints));
        all = λ _. f.over refl;
        none_held = e.none;
        none_printed = none;
      }

  -- where nothing was held or printed
  pub fresh : {before after : R} {held held' printed printed' : List ℕ} {left left' out out' : Option (List ℕ)} → held ≡ [] → printed ≡ [] →
      PumpedFrom rest sound paused before after held held' printed printed' left left' out out' → Pumped rest sound paused before after left left' out out'
  fresh {before = before} none_held none_printed pumped s p xs ys l o =
      let w = pumped s p xs ys l o in
      record {
        remains = w.remains;
        leaves = w.leaves;
        written = w.written;
        holds = w.holds;
        stays = w.stays;
        prints = w.prints ∙ ap₂ (λ x h. ys ++ (x ++ rest before (lines_after h xs))) none_printed none_held;
        all = w.all;
        none_held = refl;
        none_printed = refl;
      }
