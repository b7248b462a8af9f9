-- What the packets that arrived hold. Assumes nothing.
use Rattle.std.proofs.Common.{◌≡◌, ℕ, zero, suc, ◌+◌, ◌-◌, ◌<◌, ◌≤◌, Bool, true, not, ◌||◌, leb, List, map, length, get_or, is_some, Some, None, Option, sym, refl, ap, ◌∙◌, inl, inr, arith}
use lib.ListN.{get_or-append}
use Rattle.std.specs.List.{range_with_len}
use Rattle.std.proofs.lemmas.List.{get_or-append_right}
use Rattle.std.proofs.lemmas.List.FromFn.{length-map-range_with_len, get_or-map-range_with_len}
use Rattle.std.proofs.lemmas.Bool.{cases_Bool, cases_eq, cond-true, cond-false, and_parts, true≢false}
use Rattle.kinds.specs.Kind.{Kind}
use Rattle.code.specs.declared.sheet.Sheet.{Sheet}
use Rattle.code.specs.Sheets.{lag}
use Rattle.code.specs.Packets.{brought, parity, packet}
use Rattle.code.specs.Mending.{History, heard, got, symbol, known, all_known}
use Rattle.code.specs.Theory.{Holds}

module _ {S : Type 0} (K : Kind S) (p : Sheet) where
  pub packet_row : (u : ℕ → ℕ → S) (t b : ℕ) (z : S) → b < p.row → get_or (packet K p u t) b z ≡ u t b
  packet_row u t b z h =
      let l : b < length (map (u t) (range_with_len 0 p.row)) = omega (arith, length-map-range_with_len (u t) 0 p.row) in
      get_or-append _ _ z b l ∙ get_or-map-range_with_len (u t) 0 p.row b b z h (omega arith)

  pub packet_parity : (u : ℕ → ℕ → S) (t c : ℕ) (z : S) → c < p.parity → get_or (packet K p u t) (p.row + c) z ≡ parity K p u t c
  packet_parity u t c z h =
      let e : (p.row + c) - p.row ≡ c = omega arith in
      get_or-append_right (map (u t) (range_with_len 0 p.row)) _ p.row (p.row + c) z (length-map-range_with_len (u t) 0 p.row) (omega arith)
      ∙ ap (λ i. get_or (map (parity K p u t) (range_with_len 0 p.parity)) i z) e
      ∙ get_or-map-range_with_len (parity K p u t) 0 p.parity c c z h (omega arith)

  -- what arrived is what was sent
  pub got_sent : (u : ℕ → ℕ → S) (h : History S) (t s i : ℕ) → Holds K p u h t → s ≤ t → heard h s ≡ true → got K h s i ≡ get_or (packet K p u s) i K.zero
  got_sent u h t s i holds l a = go (h s) refl
    where
      go : (o : Option (List S)) → h s ≡ o → got K h s i ≡ get_or (packet K p u s) i K.zero
      go (Some q) e = ap (λ o. symbol K o i) e ∙ ap (λ x. get_or x i K.zero) (holds s q l e)
      go None e = absurd (true≢false (sym a ∙ ap is_some e))

  pub known_sent : (u : ℕ → ℕ → S) (h : History S) (t s i : ℕ) → Holds K p u h t → s ≤ t → i < p.row → known p (heard h) s i ≡ true → brought K p (got K h) s i ≡ brought K p u s i
  known_sent u h t s i holds l b e = elim (cases_Bool (leb (lag p i) s)) [
    | inl w ↦
        let came : heard h (s - lag p i) ≡ true = sym (ap (λ x. not x || heard h (s - lag p i)) w) ∙ e in
        cond-true _ _ _ w ∙ got_sent u h t (s - lag p i) i holds (omega arith) came ∙ packet_row u (s - lag p i) i K.zero b ∙ sym (cond-true _ _ _ w)
    | inr w ↦ cond-false _ _ _ w ∙ sym (cond-false _ _ _ w)
  ]

pub each_known : (p : Sheet) (arrived : ℕ → Bool) (s : ℕ) (pick : ℕ → Bool) (m i : ℕ) → all_known p arrived s pick m ≡ true → i < m → pick i ≡ true → known p arrived s i ≡ true
each_known p arrived s pick zero i a l e = absurd (omega arith)
each_known p arrived s pick (suc m) i a l e =
    let parts = and_parts (not (pick m) || known p arrived s m) (all_known p arrived s pick m) a in
    elim (cases_eq i m) [
      | inl w ↦ rw w (sym (ap (λ x. not x || known p arrived s m) (sym (ap pick w) ∙ e)) ∙ parts.0)
      | inr w ↦ each_known p arrived s pick m i parts.1 (omega arith) e
    ]
