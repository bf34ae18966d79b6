-- The loop over lines: what is left to read, after the entries so far, means what the whole does.
use Rattle.std.proofs.Common.{◌≡◌, ℕ, ◌+◌, ◌<◌, ◌≤◌, Bool, true, false, cond, List, [], ◌∷◌, ◌++◌, length, take, drop, set, IfOk, Some, None, Ok, Err, Option, sym, refl, ap, ◌∙◌, subst, arith}
use Rattle.std.proofs.lemmas.List.{length-take-le, length-set, length_push, take-append-drop, take_more_set, drop-set-lt, drop-drop}
use Rattle.std.specs.Option.{ok_or}
use Rattle.sheet.specs.declared.Entry.{Entry}
use Rattle.sheet.specs.declared.columns.Names.{Names}
use Rattle.sheet.specs.declared.refusals.Refusal.{Refusal}
use Rattle.sheet.specs.declared.refusals.Refusal.TheVariants.{BadNames, NoPanel}
use Rattle.sheet.specs.Format.{pieces, as_names}
use Rattle.sheet.specs.Meaning.{Reading, reading, onward, added, read_on, has_panel, answered, over, read_lines, nothing}
use Rattle.sheet.proofs.Sound.{Sound, Joins, sound_none, sound_push, sound_few, added_joins, accepted}
use Rattle.sheet.specs.Accepted.{Accepted}

pub record Sofar (names : Names) (whole : Reading) (total : ℕ) (old list : List Entry) (count : ℕ) (left : List (List ℕ)) : Type 0 where
  pub many : count + length left + 1 ≡ total
  pub long : length list ≡ length old
  pub within : count ≤ length list
  pub rest : drop count list ≡ drop count old
  pub same : read_on names (count + 2) (take count list) left ≡ whole
  pub sound : Sound (take count list)

-- which names were read, where they were
as_read : {X : Type 0} (o : Option X) (x : X) → Ok x ≡ ok_or o BadNames → o ≡ Some x
as_read None x is = cc
as_read (Some y) x is = cc

none_read : {X : Type 0} (o : Option X) (f : Refusal) → Err f ≡ ok_or o BadNames → (o ≡ None) × (f ≡ BadNames)
none_read None f is = (refl, cc)
none_read (Some y) f is = cc

-- without names, nothing is read
pub no_names : (text first : List ℕ) (left : List (List ℕ)) (f : Refusal) → pieces 10 text ≡ first ∷ left → Err f ≡ ok_or (as_names first) BadNames → (read_lines (pieces 10 text) ≡ nothing BadNames) × (f ≡ BadNames)
no_names text first left f split is =
    let none = none_read (as_names first) f is in
    (ap read_lines split ∙ ap (λ o. elim o [ None ↦ nothing BadNames | Some ns ↦ read_on ns 2 [] left ]) none.0, none.1)

-- the names are read, and no entry yet
pub start : (names : Names) (old : List Entry) (text first : List ℕ) (left : List (List ℕ)) → pieces 10 text ≡ first ∷ left → Ok names ≡ ok_or (as_names first) BadNames → Sofar names (read_lines (pieces 10 text)) (length (pieces 10 text)) old old 0 left
start names old text first left split is =
    record {
      many = let all = ap length split in omega arith;
      long = refl;
      within = omega arith;
      rest = refl;
      same = sym (ap read_lines split ∙ ap (λ o. elim o [ None ↦ nothing BadNames | Some ns ↦ read_on ns 2 [] left ]) (as_read (as_names first) names is));
      sound = sound_none;
    }

pub reads_on : (names : Names) (n : ℕ) (seen : List Entry) (line : List ℕ) (more : List (List ℕ)) (e : Entry) → added names n seen line ≡ Ok e → read_on names n seen (line ∷ more) ≡ read_on names (n + 1) (seen ++ e ∷ []) more
unfolding read_on
reads_on names n seen line more e is = ap (λ r. onward r seen (λ x. read_on names (n + 1) (seen ++ x ∷ []) more)) is

pub read_stop : (names : Names) (n : ℕ) (seen : List Entry) (line : List ℕ) (more : List (List ℕ)) (f : Refusal) → added names n seen line ≡ Err f → read_on names n seen (line ∷ more) ≡ reading seen (Some f)
unfolding read_on
read_stop names n seen line more f is = ap (λ r. onward r seen (λ x. read_on names (n + 1) (seen ++ x ∷ []) more)) is

pub read_end : (names : Names) (n : ℕ) (seen : List Entry) → read_on names n seen [] ≡ reading seen (cond (has_panel seen) None (Some NoPanel))
unfolding read_on
read_end names n seen = refl

module _ {names : Names} {whole : Reading} {total : ℕ} {old list : List Entry} {count : ℕ} {left : List (List ℕ)} (h : Sofar names whole total old list count left) where
  seen_long : length (take count list) ≡ count
  seen_long = length-take-le count list h.within

  -- the list holds the entries so far, and then what it held
  as_over : list ≡ over (take count list) old
  as_over = sym (take-append-drop count list) ∙ ap (λ r. take count list ++ r) (h.rest ∙ ap (λ n. drop n old) (sym seen_long))

module _ {names : Names} {whole : Reading} {total : ℕ} {old list : List Entry} {count : ℕ} {line : List ℕ} {left : List (List ℕ)} (h : Sofar names whole total old list count (line ∷ left)) where
  joins : (e : Entry) → added names (count + 2) (take count list) line ≡ Ok e → Joins (count + 2) (take count list) e
  joins e is = subst (λ r. IfOk r (Joins (count + 2) (take count list))) is (added_joins names (count + 2) (take count list) line)

  grown : (e : Entry) → added names (count + 2) (take count list) line ≡ Ok e → Sound (take count list ++ e ∷ [])
  grown e is = sound_push (take count list) e h.sound (subst (λ n. Joins (n + 2) (take count list) e) (sym (seen_long h)) (joins e is))

  pub room : (e : Entry) → added names (count + 2) (take count list) line ≡ Ok e → count < 256
  room e is =
      let few = sound_few (take count list ++ e ∷ []) (grown e is) in
      let long = length_push (take count list) e in
      let seen = seen_long h in
      omega arith

  pub again : (e : Entry) → added names (count + 2) (take count list) line ≡ Ok e → 256 ≤ length old → Sofar names whole total old (set list count e) (count + 1) left
  again e is wide =
      let small = room e is in
      let long = h.long in
      let inside : count < length list = omega arith in
      let front = take_more_set list count e inside in
      let add-assoc-two : count + 1 + 2 ≡ count + 2 + 1 = omega arith in
      record {
        many = let all = h.many in omega arith;
        long = length-set list count e ∙ long;
        within = subst (λ n. count + 1 ≤ n) (sym (length-set list count e)) (omega arith);
        rest = drop-set-lt (count + 1) list count e (omega arith) ∙ sym (drop-drop 1 count list) ∙ ap (drop 1) h.rest ∙ drop-drop 1 count old;
        same =
            (λ i. read_on names (add-assoc-two i) (front i) left) ∙ sym (reads_on names (count + 2) (take count list) line left e is) ∙ h.same;
        sound = subst Sound (sym front) (grown e is);
      }

  pub stop : (f : Refusal) → added names (count + 2) (take count list) line ≡ Err f → (Err f ≡ answered whole) × (list ≡ over whole.meant old)
  stop f is =
      let ends = sym (read_stop names (count + 2) (take count list) line left f is) ∙ h.same in
      (ap answered ends, as_over h ∙ ap (λ r. over r.meant old) ends)

-- nothing is left: the panel decides
module _ {names : Names} {whole : Reading} {total : ℕ} {old list : List Entry} {count : ℕ} (h : Sofar names whole total old list count []) where
  pub at_most : count ≤ 256
  at_most = let few = sound_few (take count list) h.sound in let seen = seen_long h in omega arith

  pub whole_sheet : has_panel (take count list) ≡ true → (count + 1 ≡ total) × Accepted (take count list)
  whole_sheet one = (let all = h.many in omega arith, accepted (take count list) h.sound one)

  pub full : (b : Bool) → b ≡ has_panel (take count list) → cond b (Ok count) (Err NoPanel) ≡ answered whole
  full b is = by b is (sym (read_end names (count + 2) (take count list)) ∙ h.same) where
    by : (t : Bool) → t ≡ has_panel (take count list) → reading (take count list) (cond (has_panel (take count list)) None (Some NoPanel)) ≡ whole → cond t (Ok count) (Err NoPanel) ≡ answered whole
    by true p q = ap Ok (sym (seen_long h)) ∙ ap (λ s. answered (reading (take count list) (cond s None (Some NoPanel)))) p ∙ ap answered q
    by false p q = ap (λ s. answered (reading (take count list) (cond s None (Some NoPanel)))) p ∙ ap answered q

  pub written : list ≡ over whole.meant old
  written = as_over h ∙ ap (λ r. over r.meant old) (sym (read_end names (count + 2) (take count list)) ∙ h.same)
