-- A loop that writes f i into each place i of a list. Assumes nothing.
use Rattle.std.proofs.Common.{◌≡◌, ℕ, ◌+◌, ◌-◌, ◌<◌, List, [], ◌∷◌, ◌++◌, map, length, get_or, drop, set, sym, ap, ◌∙◌, arith}
use Rattle.std.specs.List.{range_with_len}
use Rattle.std.proofs.lemmas.List.{get_or_read, append-nil, append_assoc, set_at, get_or-append_right, get_or-drop, drop_all, drop_more}
use Rattle.std.proofs.lemmas.List.FromFn.{length-map-range_with_len, map-range_with_len_more}

module _ {S : Type 0} (f : ℕ → S) (p : List S) where
  -- the first i places are written
  abbrev pub filled : ℕ → List S
  filled i = map f (range_with_len 0 i) ++ drop i p

  filled_at : (i : ℕ) (d : S) → get_or (filled i) i d ≡ get_or p i d
  filled_at i d =
      get_or-append_right (map f (range_with_len 0 i)) (drop i p) i i d (length-map-range_with_len f 0 i) (omega arith)
      ∙ get_or-drop i p (i - i) d ∙ ap (λ k. get_or p k d) (let e : i + (i - i) ≡ i = omega arith in e)

  -- an element that is read before its place is written
  pub filled_read : (i : ℕ) (x d : S) (ys : List S) → i < length ys → ys ≡ filled i → x ≡ get_or ys i x → x ≡ get_or p i d
  filled_read i x d ys l e is = get_or_read ys i x l is d ∙ ap (λ zs. get_or zs i d) e ∙ filled_at i d

  pub filled_more : (i : ℕ) (x : S) (ys : List S) → i < length p → ys ≡ filled i → x ≡ f i → set ys i x ≡ filled (i + 1)
  filled_more i x ys l e h =
      ap (λ zs. set zs i x) (e ∙ ap (λ zs. map f (range_with_len 0 i) ++ zs) (drop_more p i x l))
      ∙ set_at (map f (range_with_len 0 i)) (get_or p i x) (drop (i + 1) p) x i (length-map-range_with_len f 0 i)
      ∙ ap (λ y. map f (range_with_len 0 i) ++ (y ∷ drop (i + 1) p)) h
      ∙ sym (append_assoc (map f (range_with_len 0 i)) (f i ∷ []) (drop (i + 1) p))
      ∙ ap (λ zs. zs ++ drop (i + 1) p) (sym (map-range_with_len_more f 0 i i (omega arith)))

  pub filled_all : (i : ℕ) (ys : List S) → i ≡ length p → ys ≡ filled i → ys ≡ map f (range_with_len 0 (length p))
  filled_all i ys l e =
      e ∙ ap (λ zs. map f (range_with_len 0 i) ++ zs) (drop_all i p (omega arith)) ∙ append-nil (map f (range_with_len 0 i))
      ∙ ap (λ n. map f (range_with_len 0 n)) l
