-- What a receiver remembers, read off its line. Assumes nothing.
use Rattle.std.proofs.Common.{◌≡◌, ℕ, ◌+◌, ◌-◌, ◌*◌, ◌%◌, ◌<◌, Bool, true, false, cond, ◌&&◌, get_or, is_some, Some, None, Option, sym, refl, ap, ◌∙◌, arith}
use Rattle.std.proofs.lemmas.List.FromFn.{get_or-map-range_with_len}
use Rattle.std.proofs.lemmas.Bool.{cond-true, true≢false}
use Rattle.kinds.specs.Kind.{Kind}
use Rattle.code.specs.Sheets.{n}
use Rattle.code.specs.Mending.{History, heard, got, symbol}
use Rattle.line.specs.Ring.{symbol_back, stretch}
use Rattle.line.specs.Line.{contents}
use Rattle.receive.specs.declared.receiver.Receiver.{Receiver}
use Rattle.receive.specs.declared.table.SlotState.TheVariants.{Arrived}
use Rattle.receive.specs.Memory.{came_in, remembered, memory}

some_test : {X : Type 0} (b : Bool) (x : X) → is_some (cond b (Some x) None) ≡ true → b ≡ true
some_test true x e = refl
some_test false x e = absurd (true≢false (sym e))

none_of : {X : Type 0} (o : Option X) → is_some o ≡ false → o ≡ None
none_of (Some x) e = absurd (true≢false e)
none_of None e = refl

module _ {S : Type 0} (K : Kind S) where
  -- nothing was got in a slot that was missed
  pub got_none : (h : History S) (s i : ℕ) → heard h s ≡ false → got K h s i ≡ K.zero
  got_none h s i e = ap (λ o. symbol K o i) (none_of (h s) e)

  -- a symbol of a packet that arrived
  -- the symbols of a packet that arrived lie so far back in the line
  pub got_back : (r : Receiver S) (s i : ℕ) → heard (memory K r) s ≡ true → i < n r.sheet → got K (memory K r) s i ≡ symbol_back K.zero (contents r.line) ((r.counters.slots - s) * n r.sheet - i)
  got_back r s i came below =
      ap (λ o. symbol K o i) (cond-true (remembered r.sheet r.counters.slots s && came_in (get_or r.table.states (s % 512) Arrived)) (Some (stretch K.zero (contents r.line) ((r.counters.slots - s) * n r.sheet) (n r.sheet))) None (some_test _ _ came))
      ∙ get_or-map-range_with_len (λ j. symbol_back K.zero (contents r.line) ((r.counters.slots - s) * n r.sheet - j)) 0 (n r.sheet) i i K.zero below (omega arith)

  -- counted on from the first of them
  pub read_back : (r : Receiver S) (s first steps i k : ℕ) → heard (memory K r) s ≡ true → steps ≡ (r.counters.slots - s) * n r.sheet - first → k ≡ first + i → k < n r.sheet → symbol_back K.zero (contents r.line) (steps - i) ≡ got K (memory K r) s k
  read_back r s first steps i k came at is below =
      ap (symbol_back K.zero (contents r.line)) (let e : steps - i ≡ (r.counters.slots - s) * n r.sheet - k = omega arith in e) ∙ sym (got_back r s k came below)
