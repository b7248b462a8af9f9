-- What `mend` gives of the rows that were sent obeys the law.
use Rattle.std.proofs.Common.{◌≡◌, ℕ, ◌+◌, ◌<◌, Bool, true, false, cond, not, ◌&&◌, ltb, ◌≢◌, ◌⊎◌, List, [], length, get_or, is_some, Some, None, sym, ap, inl, inr, arith}
use Rattle.std.specs.List.{All}
use Rattle.std.proofs.lemmas.List.FromFn.{fill_by_all}
use Rattle.std.proofs.lemmas.Bool.{cases_lt, lt-ltb, cond-true, and_from, not_from_false}
use Rattle.kinds.specs.Kind.{Kind}
use Rattle.code.specs.declared.mark.Mark.TheVariants.{Lost}
use Rattle.code.specs.declared.sheet.Sheet.{Sheet}
use Rattle.code.specs.Sheets.{T}
use Rattle.code.specs.Packets.{Rows, packet}
use Rattle.code.specs.Mending.{heard, mark, given, row_of}
use Rattle.code.specs.Bursts.{Missed, Bursts}
use Rattle.code.specs.Theory.{Holds}
use Rattle.code.proofs.Standing.{theory}
use Rattle.transmit.specs.Law.{list_of}
use Rattle.relay.specs.Relaying.{arriving}

-- what came, where something came
only : {X : Type 0} (b : Bool) (x y : X) → cond b (Some x) None ≡ Some y → y ≡ x
only true x y e = cc
only false x y e = let z : ◌≡◌ {A = ℕ} 0 1 = cc in absurd (omega arith)

module _ {S : Type 0} (K : Kind S) (p : Sheet) (rows : List (List S)) (missed : ℕ → Bool) where
  holds : (t : ℕ) → Holds K p (list_of K rows) (arriving K p rows missed) t
  holds t s q l e = only (ltb s (length rows + T p) && not (missed s)) (packet K p (list_of K rows) s) q e

  -- a slot that was not missed arrived
  arrives : (s : ℕ) → s < length rows + T p → missed s ≡ false → heard (arriving K p rows missed) s ≡ true
  arrives s l e =
      ap is_some (cond-true _ (Some (packet K p (list_of K rows) s)) None
      (and_from (ltb s (length rows + T p)) (not (missed s)) (lt-ltb _ _ l) (not_from_false (missed s) e)))

  pub own : (j b : ℕ) → b < p.row → mark p (heard (arriving K p rows missed)) j b ≢ Lost →
      given K p (arriving K p rows missed) j b ≡ list_of K rows j b
  own j b below kept = (theory K p).sound (list_of K rows) (arriving K p rows missed) j b below (holds (j + T p)) kept

  pub undetermined : (j b : ℕ) → j < length rows → b < p.row → mark p (heard (arriving K p rows missed)) j b ≡ Lost →
      (rows' : Rows S) × (rows' j b ≢ list_of K rows j b)
      × ((s : ℕ) → (j + T p < s) ⊎ (missed s ≡ false) → packet K p rows' s ≡ packet K p (list_of K rows) s)
  undetermined j b due below lost =
      let other = (theory K p).undetermined (list_of K rows) (heard (arriving K p rows missed)) j b below lost in (
        other.0,
        other.1,
        λ s known. elim known [
          | inl later ↦ other.2 s (inl later)
          | inr came ↦ elim (cases_lt (j + T p) s) [
            | inl later ↦ other.2 s (inl later)
            | inr sooner ↦ other.2 s (inr (arrives s (omega arith) came))
          ]
        ],
      )

  pub bursts : (group : ℕ → ℕ) → Bursts p (Missed (heard (arriving K p rows missed)) (length rows + T p)) group →
      (j b : ℕ) → j < length rows → b < p.row → mark p (heard (arriving K p rows missed)) j b ≢ Lost
  bursts group short j b due below =
      (theory K p).bursts_mended (heard (arriving K p rows missed)) (length rows + T p) j b group below (omega arith) short

  pub as_sent : All (λ row. length row ≡ p.row) rows → (group : ℕ → ℕ) →
      Bursts p (Missed (heard (arriving K p rows missed)) (length rows + T p)) group → (j : ℕ) → j < length rows →
      row_of K p (arriving K p rows missed) j ≡ get_or rows j []
  as_sent fit group short j due =
      sym (fill_by_all (given K p (arriving K p rows missed) j) (get_or rows j []) p.row K.zero
      (fit j [] due)
      (λ b below. sym (own j b below (bursts group short j b due below))))
