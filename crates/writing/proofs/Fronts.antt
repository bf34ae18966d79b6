-- Idea: what stands before the place and the piece together are one front, so a second piece goes after it.
use Rattle.std.proofs.Common.{◌≡◌, ℕ, ◌+◌, ◌≤◌, List, [], ◌++◌, length, take, drop, sym, refl, ap, ◌∙◌, subst, append_assoc, add-zero, arith}
use Rattle.std.proofs.lemmas.List.{length-append, take-append-drop, length-take-le, length-drop, take_at, drop_at, drop-drop}
use Rattle.writing.specs.declared.Front.{Front}
use Rattle.writing.specs.Fronts.{put, over, Wrote, Fits, Added}

module _ {X : Type 0} where
  -- how long the front is
  front : (list : List X) (at : ℕ) (piece : List X) → at ≤ length list → length (take at list ++ piece) ≡ at + length piece
  front list at piece inside = length-append (take at list) piece ∙ ap (λ (n : ℕ). n + length piece) (length-take-le at list inside)

  pub length_put : (list : List X) (at : ℕ) (piece : List X) → at + length piece ≤ length list → length (put list at piece) ≡ length list
  length_put list at piece fits = simp (length-append, length-drop) (let e = length-take-le at list (omega arith) in omega arith)

  put_put : (list : List X) (at : ℕ) (t u : List X) → at ≤ length list → put (put list at t) (at + length t) u ≡ put list at (t ++ u)
  put_put list at t u inside =
      let F = take at list ++ t in
      let D = drop (at + length t) list in
      let whole : put list at t ≡ F ++ D = sym (append_assoc (take at list) t D) in
      let long : length F ≡ at + length t = front list at t inside in
      let before : take (at + length t) (put list at t) ≡ F = ap (take (at + length t)) whole ∙ take_at F D (at + length t) long in
      let past : drop (at + length t + length u) (put list at t) ≡ drop (at + length (t ++ u)) list =
      sym (drop-drop (length u) (at + length t) (put list at t))
      ∙ ap (λ (l : List X). drop (length u) l) (ap (drop (at + length t)) whole ∙ drop_at F D (at + length t) long)
      ∙ drop-drop (length u) (at + length t) list
      ∙ ap (λ (n : ℕ). drop n list) (let e = length-append t u in let k : at + length t + length u ≡ at + length (t ++ u) = omega arith in k) in
      ap (λ (l : List X). l ++ (u ++ drop (at + length t + length u) (put list at t))) before
      ∙ ap (λ (l : List X). F ++ (u ++ l)) past
      ∙ append_assoc (take at list) t _
      ∙ ap (λ (l : List X). take at list ++ l) (sym (append_assoc t u _))

  -- nothing written leaves the list as it is
  pub nothing : (list : List X) (at : ℕ) → Wrote list at [] list at
  nothing list at = record { list = sym (take-append-drop at list) ∙ ap (λ (n : ℕ). take at list ++ drop n list) (sym (add-zero at)); on = sym (add-zero at) }

  -- one piece after another
  pub then : (before : List X) (at : ℕ) (t u between after : List X) (m n : ℕ) → at ≤ length before → Wrote before at t between m → Wrote between m u after n → Wrote before at (t ++ u) after n
  then before at t u between after m n inside w v = record {
    list = v.list ∙ ap (λ (k : ℕ). put between k u) w.on ∙ ap (λ (p : List X). put p (at + length t) u) w.list ∙ put_put before at t u inside;
    on = let e = length-append t u in let a = w.on in let b = v.on in omega arith;
  }

  -- where both pieces fit, the first does, and after it the second
  pub room_first : (list : List X) (at : ℕ) (t u : List X) → at + length (t ++ u) ≤ length list → at + length t ≤ length list
  room_first list at t u fits = let e = length-append t u in omega arith

  pub room_next : (before : List X) (at : ℕ) (t u between : List X) (m : ℕ) → at + length (t ++ u) ≤ length before → Wrote before at t between m → m + length u ≤ length between
  room_next before at t u between m fits w =
      let e = length-append t u in
      let same = ap length w.list ∙ length_put before at t (room_first before at t u fits) in
      let next = w.on in
      omega arith

  -- the same list and the same place, under other names
  pub known_as : (before : List X) (at : ℕ) (piece after other : List X) (m n : ℕ) → other ≡ after → n ≡ m → Wrote before at piece after m → Wrote before at piece other n
  known_as before at piece after other m n e f w = record { list = e ∙ w.list; on = f ∙ w.on }

  -- a piece at the very front
  pub at_front : (before piece after : List X) (n : ℕ) → Wrote before 0 piece after n → (after ≡ over piece before) × (n ≡ length piece)
  at_front before piece after n w =
      let none : 0 + length piece ≡ length piece = omega arith in
      (w.list ∙ ap (λ (k : ℕ). piece ++ drop k before) none, w.on ∙ none)

-- Of a text that is to be written after the start, this part is left: it fits, and with it the whole is written.
pub record Left {X : Type 0} (start : Front X) (whole : List X) (now : Front X) (left : List X) : Type 0 where
  pub fits : Fits now left
  pub rest : (after : Front X) → Added now left after → Added start whole after

module _ {X : Type 0} where
  -- at first the whole is left
  pub all_left : (start : Front X) (whole : List X) → Fits start whole → Left start whole start whole
  all_left start whole fits = record { fits = fits; rest = λ after a. a }

  -- the first piece of what is left fits
  pub first_fits : (start : Front X) (whole : List X) (now : Front X) (piece left : List X) → Left start whole now (piece ++ left) → Fits now piece
  first_fits start whole now piece left l = record { room = room_first now.list.now now.len piece left l.fits.room }

  -- and once it is written, the others are left
  pub others_left : (start : Front X) (whole : List X) (now : Front X) (piece left : List X) (next : Front X) → Left start whole now (piece ++ left) → Added now piece next → Left start whole next left
  others_left start whole now piece left next l a = record {
    fits = record { room = room_next _ _ piece left _ _ l.fits.room a.wrote };
    rest = λ after b. l.rest after (record {
      same = b.same ∙ a.same;
      wrote = then _ _ piece left _ _ _ _ (let f = l.fits.room in omega arith) a.wrote b.wrote;
    });
  }

  -- what is left, in other words
  pub left_as : (start : Front X) (whole : List X) (now : Front X) (left other : List X) → left ≡ other → Left start whole now left → Left start whole now other
  left_as start whole now left other same l = subst (Left start whole now) same l

  -- nothing more is written after it
  pub added_none : (front : Front X) → Added front [] front
  added_none front = record { same = refl; wrote = nothing front.list.now front.len }

  -- once nothing is left, the whole is written
  pub written : (start : Front X) (whole : List X) (now : Front X) → Left start whole now [] → Added start whole now
  written start whole now l = l.rest now (added_none now)

  -- one piece and then another are both written
  pub both_written : (start : Front X) (first : List X) (between : Front X) (second : List X) (after : Front X) → Fits start (first ++ second) → Added start first between → Added between second after → Added start (first ++ second) after
  both_written start first between second after room a b = (others_left start (first ++ second) start first second between (all_left start (first ++ second) room) a).rest after b

  -- after a piece, what there was room for beside it fits
  pub fits_next : (start : Front X) (first : List X) (between : Front X) (second : List X) → Fits start (first ++ second) → Added start first between → Fits between second
  fits_next start first between second room a = (others_left start (first ++ second) start first second between (all_left start (first ++ second) room) a).fits

  -- what was written first is all that is written, and so long
  pub first_written : (start : Front X) (piece : List X) (after : Front X) → start.len ≡ 0 → Added start piece after → take after.len after.list.now ≡ piece
  first_written start piece after none a =
      let wrote = a.wrote in
      let at = subst (λ (n : ℕ). Wrote start.list.now n piece after.list.now after.len) none wrote in
      let shown = at_front start.list.now piece after.list.now after.len at in
      ap (take after.len) shown.0 ∙ take_at piece (drop (length piece) start.list.now) after.len (sym shown.1)

  pub first_length : (start : Front X) (piece : List X) (after : Front X) → start.len ≡ 0 → Added start piece after → after.len ≡ length piece
  first_length start piece after none a = let on = a.wrote.on in omega arith

  -- what was written to a page that was empty stands at the front of the list that was lent to it
  pub all_written : (start : Front X) (piece : List X) (after : Front X) (before list : List X) (n : ℕ) → start.len ≡ 0 → start.list.now ≡ before → Added start piece after → list ≡ after.list.now → n ≡ after.len → Wrote before 0 piece list n
  all_written start piece after before list n none lent a back long =
      known_as before 0 piece after.list.now list after.len n back long
      (subst (λ (l : List X). Wrote l 0 piece after.list.now after.len) lent (subst (λ (at : ℕ). Wrote start.list.now at piece after.list.now after.len) none a.wrote))
