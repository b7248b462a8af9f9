-- A sender agrees with the calls that were made on it. Assumes nothing.
use Rattle.std.proofs.Common.{◌≡◌, ℕ, ◌+◌, ◌<◌, ◌≤◌, min, List, [], ◌∷◌, ◌++◌, length, get_or, take, drop, Some, None, Ok, Err, Option, Result, sym, refl, ap, ◌∙◌, subst, ap₂, inl, inr, arith}
use Rattle.std.proofs.lemmas.List.{append-nil, append_assoc, length-append, length-take, get_or_at, get_or_past}
use Rattle.std.proofs.lemmas.Bool.{cases_eq, cond-true, cond-false, eq-eqb, ne_eqb}
use Rattle.kinds.specs.Kind.{Kind}
use Rattle.code.specs.declared.refusal.PutRefusal.{PutRefusal}
use Rattle.code.specs.declared.refusal.TailRefusal.{TailRefusal}
use Rattle.code.specs.declared.sheet.Sheet.{Sheet}
use Rattle.code.specs.Sheets.{T}
use Rattle.code.specs.Packets.{Rows, packet}
use Rattle.code.proofs.Windows.{looks_back}
use Rattle.line.specs.declared.line.SymbolLine.{SymbolLine}
use Rattle.line.specs.Line.{fitting}
use Rattle.line.proofs.Rings.{held_length, fitting_within}
use Rattle.transmit.specs.declared.sender.Sender.{Sender}
use Rattle.transmit.specs.declared.sender.WindingSender.{WindingSender}
use Rattle.transmit.specs.Keeping.{need, kept, with_row}
use Rattle.transmit.specs.Refusing.{put_refused, tail_refused}
use Rattle.transmit.specs.Calls.{room, Put, Drawn, Passes, PutWith, PutAt, PutCall, WindCall, TailWith, TailAt, TailCall}
use Rattle.transmit.specs.Runs.{Standing, taking, winding, ended, Event, put, wind, tail, end, Run, stop, put_call, wind_call, tail_call, end_call}
use Rattle.transmit.specs.Law.{keep_if, rows_put, tails_given, used, list_of}

-- lists of what was put and given

keep_append : {E X : Type 0} (a : Result (Unit {0}) E) (x : X) (xs ys : List X) → keep_if a x (xs ++ ys) ≡ keep_if a x xs ++ ys
keep_append (Ok u) x xs ys = refl
keep_append (Err e) x xs ys = refl

module _ {S : Type 0} where
  pub rows_append : (es fs : List (Event S)) → rows_put (es ++ fs) ≡ rows_put es ++ rows_put fs
  rows_append [] fs = refl
  rows_append (put c ∷ es) fs = ap (keep_if c.answer c.row) (rows_append es fs) ∙ keep_append c.answer c.row (rows_put es) (rows_put fs)
  rows_append (wind ∷ es) fs = rows_append es fs
  rows_append (tail c ∷ es) fs = rows_append es fs
  rows_append (end t ∷ es) fs = rows_append es fs

  pub tails-append : (es fs : List (Event S)) → tails_given (es ++ fs) ≡ tails_given es ++ tails_given fs
  tails-append [] fs = refl
  tails-append (put c ∷ es) fs = tails-append es fs
  tails-append (wind ∷ es) fs = tails-append es fs
  tails-append (tail c ∷ es) fs = ap (keep_if c.answer c.place') (tails-append es fs) ∙ keep_append c.answer c.place' (tails_given es) (tails_given fs)
  tails-append (end t ∷ es) fs = tails-append es fs

  -- after one more event
  rows_more : (es : List (Event S)) (e : Event S) → length (rows_put (es ++ (e ∷ []))) ≡ length (rows_put es) + length (rows_put (e ∷ []))
  rows_more es e = ap length (rows_append es (e ∷ [])) ∙ length-append (rows_put es) (rows_put (e ∷ []))

  tails_more : (es : List (Event S)) (e : Event S) → length (tails_given (es ++ (e ∷ []))) ≡ length (tails_given es) + length (tails_given (e ∷ []))
  tails_more es e = ap length (tails-append es (e ∷ [])) ∙ length-append (tails_given es) (tails_given (e ∷ []))

  -- the row of a putting call is the row of its slot
  pub own_row : (past later : List (Event S)) (c : Put S) → c.answer ≡ Ok tt → get_or (rows_put (past ++ (put c ∷ later))) (length (rows_put past)) [] ≡ c.row
  own_row past later c ok =
      ap (λ x. get_or x (length (rows_put past)) []) (rows_append past (put c ∷ later) ∙ ap (λ a. rows_put past ++ keep_if a c.row (rows_put later)) ok)
      ∙ get_or_at (rows_put past) c.row (rows_put later) [] (length (rows_put past)) refl

  -- a winding sender takes no row
  pub no_rows : (K : Kind S) {v : WindingSender S} {q : Standing S} {es : List (Event S)} → Run K (winding v) es q → rows_put es ≡ []
  no_rows K stop = refl
  no_rows K (tail_call call more) = no_rows K more
  no_rows K (end_call call) = refl

module _ {S : Type 0} (K : Kind S) (p : Sheet) (lent : List S) (rows : Rows S) where
  abbrev places : ℕ
  places = fitting (need p) (length lent)

  -- a line that has passed t slots still has what is asked of it
  pub record Keeps (t : ℕ) (line : SymbolLine S) : Type 0 where
    pub runs : line.places ≡ places
    pub long : length line.window.now ≡ length lent
    pub past : drop places line.window.now ≡ drop places lent
    pub recalls : (j b : ℕ) → b < p.row → j < t → t ≤ j + T p → kept K p t line j b ≡ rows j b

  pub room_is : (t : ℕ) (line : SymbolLine S) → Keeps t line → room line ≡ places
  room_is t line a =
      held_length line.head (take line.places line.window.now) ∙ length-take line.places line.window.now ∙ ap₂ min a.runs a.long
      ∙ (let e : min places (length lent) ≡ places = omega (arith, fitting_within (need p) (length lent)) in e)

  module _ (t : ℕ) (before after : SymbolLine S) (row place' : List S) (a : Keeps t before) (own : (b : ℕ) → b < p.row → get_or row b K.zero ≡ rows t b) (x : Passes K p t before after row place') where
    pub packet_is : place' ≡ packet K p rows t
    packet_is =
        x.written ∙ looks_back K p (with_row K (kept K p t before) t row) rows t
        (λ b l. cond-true _ _ _ (eq-eqb t t refl) ∙ own b l)
        (λ j b l low high. cond-false _ _ _ (ne_eqb j t (λ e. omega (arith, p.bursts.0))) ∙ a.recalls j b l (omega (arith, p.bursts.0)) high)

    keeps_more : Keeps (t + 1) after
    keeps_more = record {
      runs = x.stays.places ∙ a.runs;
      long = x.stays.long ∙ a.long;
      past =
          ap (λ m. drop m after.window.now) (sym (x.stays.places ∙ a.runs)) ∙ x.stays.past
          ∙ ap (λ m. drop m before.window.now) a.runs ∙ a.past;
      recalls = λ j b l low high. elim (cases_eq j t) [
        | inl e ↦ ap (λ i. kept K p (t + 1) after i b) e ∙ x.latest b l ∙ own b l ∙ sym (ap (λ i. rows i b) e)
        | inr e ↦ x.earlier j b l (omega arith) (omega arith) ∙ a.recalls j b l (omega arith) (omega arith)
      ];
    }

  pub record Takes (past : List (Event S)) (s : Sender S) : Type 0 where
    pub sheet : s.sheet ≡ p
    pub count : s.count.rows ≡ used past
    pub no_tails : length (tails_given past) ≡ 0
    pub line : Keeps (used past) s.line

  pub record Winds (past : List (Event S)) (v : WindingSender S) : Type 0 where
    pub sheet : v.sheet ≡ p
    pub rows_are : v.count.rows ≡ length (rows_put past)
    pub tails_are : v.count.tails ≡ length (tails_given past)
    pub line : Keeps (used past) v.line

  -- after these events
  abbrev pub Agrees : List (Event S) → Standing S → Type 0
  Agrees past (taking s) = Takes past s
  Agrees past (winding v) = Winds past v
  Agrees past ended = Unit {0}

  pub put_at : (past : List (Event S)) (s s' : Sender S) (c : Put S) → Takes past s → PutCall K s s' c → PutAt K p places (used past) s s' c
  put_at past s s' c a call =
      subst (λ (t : ℕ). PutAt K p places t s s' c) a.count
      (subst (λ (w : ℕ). PutAt K p w s.count.rows s s' c) (room_is (used past) s.line a.line)
      (subst (λ (x : Sheet). PutAt K x (room s.line) s.count.rows s s' c) a.sheet call))

  pub tail_at : (past : List (Event S)) (v v' : WindingSender S) (c : Drawn S) → Winds past v → TailCall K v v' c → TailAt K p places (length (rows_put past)) (length (tails_given past)) v v' c
  tail_at past v v' c a call =
      subst (λ (i : ℕ). TailAt K p places (length (rows_put past)) i v v' c) a.tails_are
      (subst (λ (m : ℕ). TailAt K p places m v.count.tails v v' c) a.rows_are
      (subst (λ (w : ℕ). TailAt K p w v.count.rows v.count.tails v v' c) (room_is (used past) v.line a.line)
      (subst (λ (x : Sheet). TailAt K x (room v.line) v.count.rows v.count.tails v v' c) a.sheet call)))

  put_with : (past : List (Event S)) (s s' : Sender S) (c : Put S) (d : Option PutRefusal) → (c.answer ≡ Ok tt → (b : ℕ) → b < p.row → get_or c.row b K.zero ≡ rows (used past) b) → Takes past s → PutWith K d p (used past) s s' c → Takes (past ++ (put c ∷ [])) s'
  put_with past s s' c (Some e) own a x =
      let rs : length (rows_put (past ++ (put c ∷ []))) ≡ length (rows_put past) = omega (arith, rows_more past (put c), ap (λ r. length (keep_if r c.row [])) x.answer) in
      let ts : length (tails_given (past ++ (put c ∷ []))) ≡ length (tails_given past) = omega (arith, tails_more past (put c)) in
      let same : used (past ++ (put c ∷ [])) ≡ used past = ap₂ ◌+◌ rs ts in
      subst (λ (y : Sender S). Takes (past ++ (put c ∷ [])) y) (sym x.sender) (record {
        sheet = a.sheet;
        count = a.count ∙ sym same;
        no_tails = ts ∙ a.no_tails;
        line = subst (λ (i : ℕ). Keeps i s.line) (sym same) a.line;
      })
  put_with past s s' c None own a x =
      let rs : length (rows_put (past ++ (put c ∷ []))) ≡ length (rows_put past) + 1 = rows_more past (put c) ∙ ap (λ r. length (rows_put past) + length (keep_if r c.row [])) x.answer in
      let ts : length (tails_given (past ++ (put c ∷ []))) ≡ length (tails_given past) = omega (arith, tails_more past (put c)) in
      let more : used (past ++ (put c ∷ [])) ≡ used past + 1 = omega (arith, rs, ts) in
      record {
        sheet = x.sheet;
        count = x.rows ∙ sym more;
        no_tails = ts ∙ a.no_tails;
        line = subst (λ (i : ℕ). Keeps i s'.line) (sym more) (keeps_more (used past) s.line s'.line c.row c.place' a.line (own x.answer) x.passes);
      }

  tail_with : (past : List (Event S)) (v v' : WindingSender S) (c : Drawn S) (d : Option TailRefusal) → ((b : ℕ) → b < p.row → K.zero ≡ rows (used past) b) → Winds past v → TailWith K d p (length (rows_put past)) (length (tails_given past)) v v' c → Winds (past ++ (tail c ∷ [])) v'
  tail_with past v v' c (Some e) own a x =
      let rs : length (rows_put (past ++ (tail c ∷ []))) ≡ length (rows_put past) = omega (arith, rows_more past (tail c)) in
      let ts : length (tails_given (past ++ (tail c ∷ []))) ≡ length (tails_given past) = omega (arith, tails_more past (tail c), ap (λ r. length (keep_if r c.place' [])) x.answer) in
      subst (λ (y : WindingSender S). Winds (past ++ (tail c ∷ [])) y) (sym x.sender) (record {
        sheet = a.sheet;
        rows_are = a.rows_are ∙ sym rs;
        tails_are = a.tails_are ∙ sym ts;
        line = subst (λ (i : ℕ). Keeps i v.line) (sym (ap₂ ◌+◌ rs ts)) a.line;
      })
  tail_with past v v' c None own a x =
      let rs : length (rows_put (past ++ (tail c ∷ []))) ≡ length (rows_put past) = omega (arith, rows_more past (tail c)) in
      let ts : length (tails_given (past ++ (tail c ∷ []))) ≡ length (tails_given past) + 1 = tails_more past (tail c) ∙ ap (λ r. length (tails_given past) + length (keep_if r c.place' [])) x.answer in
      let more : used (past ++ (tail c ∷ [])) ≡ used past + 1 = omega (arith, rs, ts) in
      record {
        sheet = x.sheet;
        rows_are = x.rows ∙ sym rs;
        tails_are = x.tails ∙ sym ts;
        line = subst (λ (i : ℕ). Keeps i v'.line) (sym more) (keeps_more (used past) v.line v'.line [] c.place' a.line own x.passes);
      }

  wound : (past : List (Event S)) (s : Sender S) (v : WindingSender S) → Takes past s → WindCall K s v → Winds (past ++ (wind ∷ [])) v
  wound past s v a x =
      let rs : length (rows_put (past ++ (wind ∷ []))) ≡ length (rows_put past) = omega (arith, rows_more past wind) in
      let ts : length (tails_given (past ++ (wind ∷ []))) ≡ length (tails_given past) = omega (arith, tails_more past wind) in
      record {
        sheet = x.sheet ∙ a.sheet;
        rows_are = x.rows ∙ omega (arith, a.count, a.no_tails, rs);
        tails_are = x.tails ∙ sym (ts ∙ a.no_tails);
        line = subst (λ (l : SymbolLine S). Keeps (used (past ++ (wind ∷ []))) l) (sym x.line) (subst (λ (i : ℕ). Keeps i s.line) (sym (ap₂ ◌+◌ rs ts)) a.line);
      }

-- what rows a run has in its slots
module _ {S : Type 0} (K : Kind S) (p : Sheet) (lent : List S) (all : List (Event S)) where
  abbrev these : Rows S
  these = list_of K (rows_put all)

  pub own_put : (past later : List (Event S)) (s : Sender S) (c : Put S) → all ≡ past ++ (put c ∷ later) → Takes K p lent these past s → c.answer ≡ Ok tt → (b : ℕ) → b < p.row → get_or c.row b K.zero ≡ these (used past) b
  own_put past later s c is a ok b l =
      let slot : used past ≡ length (rows_put past) = omega (arith, a.no_tails) in
      sym (ap (λ x. get_or x b K.zero) (ap₂ (λ es i. get_or (rows_put es) i []) is slot ∙ own_row past later c ok))

  pub own_tail : (past later : List (Event S)) → all ≡ past ++ later → rows_put later ≡ [] → (b : ℕ) → b < p.row → K.zero ≡ these (used past) b
  own_tail past later is none b l =
      let short : length (rows_put all) ≡ length (rows_put past) = ap (λ es. length (rows_put es)) is ∙ ap length (rows_append past later ∙ ap (λ xs. rows_put past ++ xs) none) ∙ ap length (append-nil (rows_put past)) in
      sym (ap (λ x. get_or x b K.zero) (get_or_past (rows_put all) (used past) [] (omega (arith, short))))

  joined : {s q e : Standing S} {es fs : List (Event S)} → Run K s es q → Run K q fs e → Run K s (es ++ fs) e
  joined stop more = more
  joined (put_call call rest) more = put_call call (joined rest more)
  joined (wind_call call rest) more = wind_call call (joined rest more)
  joined (tail_call call rest) more = tail_call call (joined rest more)
  joined (end_call call) stop = end_call call

  pub agrees_run : {s q e : Standing S} {es : List (Event S)} (past later : List (Event S)) → all ≡ past ++ (es ++ later) → Run K q later e → Agrees K p lent these past s → Run K s es q → Agrees K p lent these (past ++ es) q
  agrees_run {s} past later is rest a stop = subst (λ (fs : List (Event S)). Agrees K p lent these fs s) (sym (append-nil past)) a
  agrees_run {q = q} past later is rest a (put_call {s = s} {s' = s'} {c = c} {es = es} call more) =
      let next = put_with K p lent these past s s' c (put_refused p (places K p lent these) (used past) (length c.row) (length c.place)) (own_put past (es ++ later) s c is a) a (put_at K p lent these past s s' c a call) in
      subst (λ (fs : List (Event S)). Agrees K p lent these fs q) (append_assoc past (put c ∷ []) es)
      (agrees_run (past ++ (put c ∷ [])) later (is ∙ sym (append_assoc past (put c ∷ []) (es ++ later))) rest next more)
  agrees_run {q = q} past later is rest a (wind_call {s = s} {v = v} {es = es} call more) =
      subst (λ (fs : List (Event S)). Agrees K p lent these fs q) (append_assoc past (wind ∷ []) es)
      (agrees_run (past ++ (wind ∷ [])) later (is ∙ sym (append_assoc past (wind ∷ []) (es ++ later))) rest (wound K p lent these past s v a call) more)
  agrees_run {q = q} past later is rest a (tail_call {v = v} {v' = v'} {c = c} {es = es} call more) =
      let none : rows_put (tail c ∷ (es ++ later)) ≡ [] = no_rows K (joined more rest) in
      let next = tail_with K p lent these past v v' c (tail_refused p (places K p lent these) (used past) (length (tails_given past)) (length c.place)) (own_tail past (tail c ∷ (es ++ later)) is none) a (tail_at K p lent these past v v' c a call) in
      subst (λ (fs : List (Event S)). Agrees K p lent these fs q) (append_assoc past (tail c ∷ []) es)
      (agrees_run (past ++ (tail c ∷ [])) later (is ∙ sym (append_assoc past (tail c ∷ []) (es ++ later))) rest next more)
  agrees_run past later is rest a (end_call call) = tt
