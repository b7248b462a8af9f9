-- A window read as a ring. Assumes nothing.
use Rattle.std.proofs.Common.{◌≡◌, ℕ, zero, suc, ◌+◌, ◌-◌, ◌<◌, ◌≤◌, min, leb, List, [], ◌∷◌, ◌++◌, map, reverse, length, get_or, take, drop, set, replicate, Some, unwrap_or, sym, refl, ap, ◌∙◌, ap₂, subst, inl, inr, arith}
use borrow.Rule.Slice.PartMut.{put_mid}
use Rattle.std.proofs.lemmas.List.{append-nil, append_assoc, reverse-append, length-append, length-take, length-drop, length-reverse, length-take-le, take-append-drop, take_at, take_all, take-take, drop_all, drop-drop, drop-take, drop-append-le, get_or-reverse, get_or_append_left, get_or-append_right, get_or-drop, get_or-take, set_split, ext_get_or, get_or-replicate, length-replicate}
use Rattle.std.proofs.Math.Seq.{take-set-lt}
use Rattle.std.proofs.lemmas.Slice.{take-put_mid, drop-put_mid}
use Rattle.std.proofs.lemmas.Option.{slice_get-get_or}
use Rattle.std.proofs.lemmas.Bool.{cond_both, leb-true}
use Rattle.std.specs.List.{range_with_len}
use Rattle.std.proofs.lemmas.List.FromFn.{fill_by_all}
use Rattle.kinds.specs.Kind.{Kind}
use Rattle.kinds.proofs.Lists.{map_same}
use Rattle.line.specs.Line.{fitting}
use Rattle.line.specs.Ring.{turned, held, entered, look, symbol_back, stretch, added, Start, Lies}

pub start_within : (len h s : ℕ) → Start len h s → s ≤ len
start_within len h s (inl p) = omega (arith, p.0, p.1)
start_within len h s (inr p) = omega (arith, p.0, p.1)

pub start_below : (len h s : ℕ) → 0 < len → Start len h s → s < len
start_below len h s some (inl p) = omega (arith, p.0, p.1)
start_below len h s some (inr p) = omega (arith, p.0, p.1)

lies_within : (len h steps m at : ℕ) → m ≤ steps → steps ≤ len → Lies len h steps m at → at + m ≤ len
lies_within len h steps m at short within lies = elim lies.2 [
  | inl p ↦ omega (arith, p.0, p.1, start_within len h lies.0 lies.1)
  | inr p ↦ omega (arith, p.0, p.1, p.2)
]

module _ {S : Type 0} where
  pub turned-length : (h : ℕ) (w : List S) → length (turned h w) ≡ length w
  turned-length h w = omega (arith, length-append (drop h w) (take h w), length-drop h w, length-take h w)

  pub held_length : (h : ℕ) (w : List S) → length (held h w) ≡ length w
  held_length h w = length-reverse (turned h w) ∙ turned-length h w

  turned-past : (h : ℕ) (w : List S) → length w ≤ h → turned h w ≡ w
  turned-past h w p = ap₂ ◌++◌ (drop_all h w p) (take_all h w p)

  -- a head past the end stands for the first place
  pub turned_start : (w : List S) (h s : ℕ) → Start (length w) h s → turned s w ≡ turned h w
  turned_start w h s (inl p) = ap (λ i. turned i w) p.1
  turned_start w h s (inr p) = ap (λ i. turned i w) p.1 ∙ append-nil w ∙ sym (turned-past h w p.0)

  -- a piece is written where the head stands
  turned_piece : (w xs : List S) (s : ℕ) → s + length xs ≤ length w → turned (s + length xs) (put_mid s (length xs) w xs) ≡ drop (length xs) (turned s w) ++ xs
  turned_piece w xs s fits =
      let m : ℕ = length xs in
      let back : drop (s + length xs) (put_mid s (length xs) w xs) ≡ drop (s + length xs) w = drop-put_mid s m w xs (s + m) (omega arith) (omega arith) refl in
      let front : take (s + length xs) (put_mid s (length xs) w xs) ≡ take s w ++ xs = take-put_mid s m w xs (s + m) refl (omega arith) in
      let short : length xs ≤ length (drop s w) = omega (arith, length-drop s w) in
      ap₂ ◌++◌ back front ∙ sym (append_assoc (drop (s + length xs) w) (take s w) xs)
      ∙ ap (λ ys. ys ++ xs) (sym (drop-append-le (length xs) (drop s w) (take s w) short ∙ ap (λ ys. ys ++ take s w) (drop-drop (length xs) s w)))

  -- the same with the latest symbol first
  reversed_piece : (xs ys : List S) → length xs ≤ length ys → reverse (drop (length xs) ys ++ xs) ≡ entered xs (reverse ys)
  reversed_piece xs ys fits =
      let m : ℕ = length xs in
      let whole : reverse ys ≡ reverse (drop (length xs) ys) ++ reverse (take (length xs) ys) =
      ap reverse (sym (take-append-drop (length xs) ys)) ∙ reverse-append (take (length xs) ys) (drop (length xs) ys) in
      let long : length (reverse xs ++ reverse (drop (length xs) ys)) ≡ length (reverse ys) =
      length-append (reverse xs) (reverse (drop (length xs) ys)) ∙ ap₂ ◌+◌ (length-reverse xs) (length-reverse (drop (length xs) ys) ∙ length-drop (length xs) ys)
      ∙ (let e : length xs + (length ys - length xs) ≡ length ys = omega arith in e) ∙ sym (length-reverse ys) in
      reverse-append (drop (length xs) ys) xs
      ∙ sym (take_at (reverse xs ++ reverse (drop (length xs) ys)) (reverse (take (length xs) ys)) (length (reverse ys)) long)
      ∙ ap (take (length (reverse ys))) (append_assoc (reverse xs) (reverse (drop (length xs) ys)) (reverse (take (length xs) ys)) ∙ ap (λ zs. reverse xs ++ zs) (sym whole))

  pub piece_entered : (w xs : List S) (h s : ℕ) → Start (length w) h s → s + length xs ≤ length w → held (s + length xs) (put_mid s (length xs) w xs) ≡ entered xs (held h w)
  piece_entered w xs h s from fits =
      let short : length xs ≤ length (turned s w) = omega (arith, turned-length s w) in
      ap reverse (turned_piece w xs s fits) ∙ reversed_piece xs (turned s w) short ∙ ap (λ ys. entered xs (reverse ys)) (turned_start w h s from)

  pub entered-length : (xs ys : List S) → length (entered xs ys) ≡ length ys
  entered-length xs ys = length-take (length ys) (reverse xs ++ ys) ∙ (let e : min (length ys) (length (reverse xs ++ ys)) ≡ length ys = omega (arith, length-append (reverse xs) ys) in e)

  take_append_take : (n m : ℕ) (xs ys : List S) → n ≤ m → take n (xs ++ take m ys) ≡ take n (xs ++ ys)
  take_append_take zero m xs ys l = refl
  take_append_take (suc n) m [] ys l = take-take (suc n) m ys l
  take_append_take (suc n) m (x ∷ xs) ys l = ap (λ zs. x ∷ zs) (take_append_take n m xs ys (omega arith))

  -- first these, then those
  pub entered_twice : (xs ys zs : List S) → entered ys (entered xs zs) ≡ entered (xs ++ ys) zs
  entered_twice xs ys zs =
      ap (λ n. take n (reverse ys ++ entered xs zs)) (entered-length xs zs)
      ∙ take_append_take (length zs) (length zs) (reverse ys) (reverse xs ++ zs) (omega arith)
      ∙ ap (take (length zs)) (sym (append_assoc (reverse ys) (reverse xs) zs) ∙ ap (λ us. us ++ zs) (sym (reverse-append xs ys)))

  look_at : (xs : List S) (n : ℕ) (d : S) → 0 < n → n ≤ length xs → look xs n ≡ Some (get_or xs (n - 1) d)
  look_at xs zero d p q = absurd (omega arith)
  look_at xs (suc n) d p q =
      let l : n < length xs = omega arith in
      slice_get-get_or xs n d l ∙ ap (λ k. Some (get_or xs k d)) (let e : n ≡ suc n - 1 = omega arith in e)

  turned_before : (w : List S) (h i : ℕ) (d : S) → h ≤ length w → i < length w - h → get_or (turned h w) i d ≡ get_or w (h + i) d
  turned_before w h i d l m = get_or_append_left (drop h w) (take h w) d i (omega (arith, length-drop h w)) ∙ get_or-drop h w i d

  turned_after : (w : List S) (h i : ℕ) (d : S) → h ≤ length w → length w - h ≤ i → i < length w → get_or (turned h w) i d ≡ get_or w (i - (length w - h)) d
  turned_after w h i d l m n = get_or-append_right (drop h w) (take h w) (length w - h) i d (length-drop h w) m ∙ get_or-take h w (i - (length w - h)) d (omega arith)

  -- in a piece, symbol i of it is the one so many symbols back less i
  pub in_piece : (w : List S) (h steps m at i : ℕ) (d : S) → m ≤ steps → steps ≤ length w → Lies (length w) h steps m at → i < m → look (held h w) (steps - i) ≡ Some (get_or w (at + i) d)
  in_piece w h steps m at i d short within lies below =
      let s : ℕ = lies.0 in
      let low : s ≤ length w = start_within (length w) h s lies.1 in
      let long = held_length h w in
      let k : ℕ = length w - (steps - i) in
      let turn : length (turned h w) - 1 - ((steps - i) - 1) ≡ length w - (steps - i) = omega (arith, turned-length h w) in
      let there : get_or (turned s w) (length w - (steps - i)) d ≡ get_or w (at + i) d = elim lies.2 [
        | inl p ↦
            turned_after w s k d low (omega (arith, p.0)) (omega arith)
            ∙ ap (λ j. get_or w j d) (let e : (length w - (steps - i)) - (length w - s) ≡ at + i = omega (arith, p.0, p.1) in e)
        | inr p ↦
            turned_before w s k d low (omega (arith, p.0, p.1, p.2))
            ∙ ap (λ j. get_or w j d) (let e : s + (length w - (steps - i)) ≡ at + i = omega (arith, p.0, p.1, p.2) in e)
      ] in
      look_at (held h w) (steps - i) d (omega arith) (omega arith)
      ∙ ap Some (get_or-reverse (turned h w) ((steps - i) - 1) d (omega (arith, turned-length h w)) ∙ ap (λ j. get_or (turned h w) j d) turn
      ∙ sym (ap (λ ys. get_or ys k d) (turned_start w h s lies.1)) ∙ there)

  -- so the piece is those symbols
  piece_at : (w : List S) (h steps m at i : ℕ) (z : S) → m ≤ steps → steps ≤ length w → Lies (length w) h steps m at → i < m → get_or (take ((at + m) - at) (drop at w)) i z ≡ symbol_back z (held h w) (steps - i)
  piece_at w h steps m at i z short within lies below =
      get_or-take ((at + m) - at) (drop at w) i z (omega arith) ∙ get_or-drop at w i z
      ∙ sym (ap (λ o. unwrap_or o z) (in_piece w h steps m at i z short within lies below))

  pub piece_stretch : (w : List S) (h steps m at : ℕ) (z : S) → m ≤ steps → steps ≤ length w → Lies (length w) h steps m at → take ((at + m) - at) (drop at w) ≡ stretch z (held h w) steps m
  piece_stretch w h steps m at z short within lies =
      let inside : at + m ≤ length w = lies_within (length w) h steps m at short within lies in
      fill_by_all (λ i. symbol_back z (held h w) (steps - i)) (take ((at + m) - at) (drop at w)) m z
      (length-take-le ((at + m) - at) (drop at w) (omega (arith, length-drop at w)) ∙ (let e : (at + m) - at ≡ m = omega arith in e))
      (λ i below. piece_at w h steps m at i z short within lies below)

  pub piece_added : (K : Kind S) (w place : List S) (h steps at : ℕ) → length place ≤ steps → steps ≤ length w → Lies (length w) h steps (length place) at → map (λ i. K.sum (get_or (take ((at + length place) - at) (drop at w)) i K.zero) (get_or place i K.zero)) (range_with_len 0 (length place)) ≡ added K (held h w) steps place
  piece_added K w place h steps at short within lies =
      map_same _ _ (length place) K.zero (λ i below.
      ap (λ x. K.sum x (get_or place i K.zero)) (piece_at w h steps (length place) at i K.zero short within lies below))

  -- one symbol is a piece
  pub one_entered : (w : List S) (x : S) (h s : ℕ) → Start (length w) h s → s < length w → held (s + 1) (set w s x) ≡ entered (x ∷ []) (held h w)
  one_entered w x h s from within =
      let rest : drop (suc s) w ≡ drop 1 (drop s w) = ap (λ n. drop n w) (let e : suc s ≡ s + 1 = omega arith in e) ∙ sym (drop-drop 1 s w) in
      ap (held (s + 1)) (set_split w s x within ∙ ap (λ ys. take s w ++ (x ∷ ys)) rest) ∙ piece_entered w (x ∷ []) h s from (omega arith)

  -- what is written among the first places of a window is written into the list of these places
  take_put_mid : (places s : ℕ) (w xs : List S) → s + length xs ≤ places → s + length xs ≤ length w → take places (put_mid s (length xs) w xs) ≡ put_mid s (length xs) (take places w) xs
  take_put_mid places s w xs low fits =
      let end : ℕ = s + length xs in
      let more : ℕ = places - end in
      let whole : List S = put_mid s (length xs) w xs in
      let all : places ≡ end + more = omega arith in
      let front : take end (take places whole) ≡ take s (take places w) ++ xs =
      take-take end places whole low ∙ take-put_mid s (length xs) w xs end refl (omega arith) ∙ ap (λ ys. ys ++ xs) (sym (take-take s places w (omega arith))) in
      let back : drop end (take places whole) ≡ drop end (take places w) =
      ap (λ n. drop end (take n whole)) all ∙ drop-take end more whole
      ∙ ap (take more) (drop-put_mid s (length xs) w xs end (omega arith) (omega arith) refl)
      ∙ sym (drop-take end more w) ∙ ap (λ n. drop end (take n w)) (sym all) in
      sym (take-append-drop end (take places whole)) ∙ ap₂ ◌++◌ front back ∙ append_assoc (take s (take places w)) xs (drop end (take places w))
      ∙ ap (λ ys. take s (take places w) ++ (xs ++ ys)) (sym (drop-drop (length xs) s (take places w)))

  -- a line takes one symbol in ..
  pub symbol_put : (w : List S) (places len h s : ℕ) (x : S) → len ≡ length (held h (take places w)) → 0 < len → Start len h s → held (s + 1) (take places (set w s x)) ≡ entered (x ∷ []) (held h (take places w))
  symbol_put w places len h s x is some from =
      let long : len ≡ length (take places w) = is ∙ held_length h (take places w) in
      let within : s < length (take places w) = omega (arith, start_below len h s some from) in
      ap (held (s + 1)) (take-set-lt places w s x (omega (arith, length-take places w)))
      ∙ one_entered (take places w) x h s (subst (λ (n : ℕ). Start n h s) long from) within

  -- .. or a piece
  pub piece_put : (w xs : List S) (places len h s size : ℕ) → len ≡ length (held h (take places w)) → Start len h s → length xs ≡ size → s + size ≤ len → held (s + size) (take places (put_mid s ((s + size) - s) w xs)) ≡ entered xs (held h (take places w))
  piece_put w xs places len h s size is from wide fits =
      let long : len ≡ length (take places w) = is ∙ held_length h (take places w) in
      let m : (s + size) - s ≡ length xs = omega arith in
      let room : s + length xs ≤ length (take places w) = omega arith in
      ap₂ (λ n k. held (s + n) (take places (put_mid s k w xs))) (sym wide) m
      ∙ ap (held (s + length xs)) (take_put_mid places s w xs (omega (arith, length-take places w)) (omega (arith, length-take places w)))
      ∙ piece_entered (take places w) xs h s (subst (λ (n : ℕ). Start n h s) long from) room

  -- .. which leaves what lies past its places
  pub piece_past : (w xs : List S) (places len h s size : ℕ) → len ≡ length (held h (take places w)) → length xs ≡ size → s + size ≤ len → drop places (put_mid s ((s + size) - s) w xs) ≡ drop places w
  piece_past w xs places len h s size is wide fits =
      let long : len ≡ length (take places w) = is ∙ held_length h (take places w) in
      let low : s + size ≤ min places (length w) = omega (arith, length-take places w) in
      drop-put_mid s ((s + size) - s) w xs places (omega arith) (omega arith) (omega arith)

  reverse-replicate : (m : ℕ) (z : S) → reverse (replicate m z) ≡ replicate m z
  reverse-replicate m z =
      let long = length-replicate m z in
      ext_get_or z (reverse (replicate m z)) (replicate m z) (length-reverse (replicate m z)) (λ i l.
      let below : i < length (replicate m z) = omega (arith, length-reverse (replicate m z)) in
      get_or-reverse (replicate m z) i z below ∙ get_or-replicate m (length (replicate m z) - 1 - i) z z (omega arith) ∙ sym (get_or-replicate m i z z (omega arith)))

  -- a line over places of zeros holds zeros
  pub held_zeros : (w w' : List S) (places : ℕ) (z : S) → places ≤ length w → take places w' ≡ replicate (length (take places w)) z → held 0 (take places w') ≡ replicate places z
  held_zeros w w' places z fits e =
      ap (held 0) (e ∙ ap (λ n. replicate n z) (length-take-le places w fits)) ∙ ap reverse (append-nil (replicate places z)) ∙ reverse-replicate places z

pub fitting_within : (places window : ℕ) → fitting places window ≤ window
fitting_within places window = cond_both (leb places window) places 0 (λ n. n ≤ window) (λ e. leb-true places window e) (λ e. omega arith)

module _ {S : Type 0} where
  -- the symbols that went in last, and those before them
  pub look-latest : (q xs : List S) (a : ℕ) (d : S) → 0 < a → a ≤ length q → a ≤ length xs → look (entered q xs) a ≡ Some (get_or q (length q - a) d)
  look-latest q xs a d some new room =
      let long = entered-length q xs in
      look_at (entered q xs) a d some (omega arith)
      ∙ ap Some (get_or-take (length xs) (reverse q ++ xs) (a - 1) d (omega arith)
      ∙ get_or_append_left (reverse q) xs d (a - 1) (omega (arith, length-reverse q))
      ∙ get_or-reverse q (a - 1) d (omega arith) ∙ ap (λ i. get_or q i d) (let e : length q - 1 - (a - 1) ≡ length q - a = omega arith in e))

  pub look-earlier : (q xs : List S) (a : ℕ) → length q < a → a ≤ length xs → look (entered q xs) a ≡ look xs (a - length q)
  look-earlier q xs a old room =
      let long = entered-length q xs in
      let d : S = first xs (omega arith) in
      look_at (entered q xs) a d (omega arith) (omega arith)
      ∙ ap Some (get_or-take (length xs) (reverse q ++ xs) (a - 1) d (omega arith)
      ∙ get_or-append_right (reverse q) xs (length q) (a - 1) d (length-reverse q) (omega arith)
      ∙ ap (λ i. get_or xs i d) (let e : (a - 1) - length q ≡ (a - length q) - 1 = omega arith in e))
      ∙ sym (look_at xs (a - length q) d (omega arith) (omega arith))
    where
      first : (xs : List S) → 0 < length xs → S
      first [] h = absurd (omega arith)
      first (x ∷ xs) h = x
