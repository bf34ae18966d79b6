-- Words tell of a whole line at once: bit i of word j is place 64 × j + i, the first set bit is the first place, and the first place is so many steps away.
use Rattle.std.proofs.Common.{◌≡◌, ℕ, zero, suc, ◌+◌, ◌-◌, ◌*◌, ◌/◌, ◌%◌, ◌^◌, ◌<◌, ◌≤◌, Bool, true, false, cond, not, ◌&&◌, ◌||◌, ltb, ◌⊎◌, List, [], ◌∷◌, get_or, Some, None, Option, sym, refl, ap, ◌∙◌, subst, inl, inr, arith}
use lib.Bits.{bit_and, bit_or}
use Rattle.std.proofs.lemmas.Bool.{cases_Bool, cases_lt, cases_eq, and_parts, and_from, both_ways, or_left, ltb-true, lt-ltb, le-ltb}
use Rattle.packed.specs.declared.words.Way.{Way}
use Rattle.packed.specs.declared.words.Way.TheVariants.{Forward, Backward}
use Rattle.packed.specs.declared.scans.Lines.{Lines}
use Rattle.packed.specs.Bits.{turned, bit, sooner, previous}
use Rattle.packed.specs.Scans.{seen, next_word, onward, back, opening, ends, First, Next, Scanned}
use Rattle.packed.proofs.Digits.{bit_of_and, bit_of_or, bit_not, bit_all}

-- ---- words of a line

pub seen_word : (line : List ℕ) (j i : ℕ) → j < 2 → i < 64 → seen line (suc (64 * j + i)) ≡ bit (get_or line j 0) i
unfolding seen
seen_word line j i p q =
    let within : ltb (64 * j + i) 128 ≡ true = lt-ltb (64 * j + i) 128 (omega arith) in
    let word : (64 * j + i) / 64 ≡ j = omega arith in
    let place : (64 * j + i) % 64 ≡ i = omega arith in
    rw (within, word, place)

pub seen_place : (line : List ℕ) (i : ℕ) → i < 128 → seen line (suc i) ≡ bit (get_or line (i / 64) 0) (i % 64)
unfolding seen
seen_place line i p = rw (lt-ltb i 128 p)

pub seen_outside : (line : List ℕ) (i : ℕ) → 128 ≤ i → seen line (suc i) ≡ true
unfolding seen
seen_outside line i p = rw (le-ltb i 128 p)

pub seen_before : (line : List ℕ) → seen line 0 ≡ true
unfolding seen
seen_before line = refl

-- the word that one comes from; outside all is closed
abbrev pub from_word : List ℕ → Option ℕ → ℕ
from_word line (Some j) = get_or line j 0
from_word line None = 2 ^ 64 - 1

seen_back : (line : List ℕ) (way : Way) (j i : ℕ) → j < 2 → i < 64 → seen line (back way (suc (64 * j + i))) ≡ previous way (get_or line j 0) (from_word line (next_word (turned way) j)) i
seen_back line Forward zero zero p q = seen_before line ∙ sym (bit_all 63 (omega arith))
seen_back line Forward (suc j) zero p q =
    let at : suc (64 * suc j + 0) - 1 ≡ suc (64 * j + 63) = omega arith in
    ap (seen line) at ∙ seen_word line j 63 (omega arith) (omega arith)
seen_back line Forward j (suc i) p q =
    let at : suc (64 * j + suc i) - 1 ≡ suc (64 * j + i) = omega arith in
    ap (seen line) at ∙ seen_word line j i p (omega arith)
seen_back line Backward j i p q = elim (cases_lt i 63) [
  | inl b ↦
      let at : suc (64 * j + i) + 1 ≡ suc (64 * j + (i + 1)) = omega arith in
      ap (seen line) at ∙ seen_word line j (i + 1) p (omega arith) ∙ sym (ap (λ t. cond t (bit (get_or line j 0) (i + 1)) (bit (from_word line (next_word Forward j)) 0)) (lt-ltb i 63 b))
  | inr b ↦ elim (cases_lt j 1) [
    | inl first ↦
        let at : suc (64 * j + i) + 1 ≡ suc (64 * (j + 1) + 0) = omega arith in
        ap (seen line) at ∙ seen_word line (j + 1) 0 (omega arith) (omega arith) ∙
        sym (ap (λ t. cond t (bit (get_or line j 0) (i + 1)) (bit (from_word line (next_word Forward j)) 0)) (le-ltb i 63 b) ∙
        ap (λ t. bit (from_word line (cond t (Some (j + 1)) None)) 0) (lt-ltb (j + 1) 2 (omega arith)))
    | inr second ↦
        let at : suc (64 * j + i) + 1 ≡ suc 128 = omega arith in
        ap (seen line) at ∙ seen_outside line 128 (omega arith) ∙
        sym (ap (λ t. cond t (bit (get_or line j 0) (i + 1)) (bit (from_word line (next_word Forward j)) 0)) (le-ltb i 63 b) ∙
        ap (λ t. bit (from_word line (cond t (Some (j + 1)) None)) 0) (le-ltb (j + 1) 2 (omega arith)) ∙ bit_all 0 (omega arith))
  ]
]

-- the places where a line opens up, a word at a time
pub opens_word : (line : List ℕ) (way : Way) (j i moved last : ℕ) → j < 2 → i < 64 → get_or line j 0 < 2 ^ 64 → last ≡ from_word line (next_word (turned way) j) →
    bit moved i ≡ previous way (get_or line j 0) last i → bit (bit_and moved (2 ^ 64 - 1 - get_or line j 0)) i ≡ opening line way (suc (64 * j + i))
opens_word line way j i moved last p q small is m =
    bit_of_and moved (2 ^ 64 - 1 - get_or line j 0) i ∙
    (λ z. (m ∙ ap (λ w. previous way (get_or line j 0) w i) is ∙ sym (seen_back line way j i p q)) z && (bit_not (get_or line j 0) i q small ∙ ap not (sym (seen_word line j i p q))) z)

-- the places where a scan ends, a word at a time
pub ends_word : (lines : Lines) (way : Way) (j i a b : ℕ) → j < 2 → i < 64 → bit a i ≡ opening lines.before way (suc (64 * j + i)) → bit b i ≡ opening lines.after way (suc (64 * j + i)) →
    bit (bit_or (bit_or (get_or lines.here j 0) a) b) i ≡ ends lines way (suc (64 * j + i))
ends_word lines way j i a b p q e f =
    bit_of_or (bit_or (get_or lines.here j 0) a) b i ∙
    (λ z. (bit_of_or (get_or lines.here j 0) a i ∙ (λ y. sym (seen_word lines.here j i p q) y || e y)) z || f z)

-- ---- the first place

-- what comes between two places of a word lies in that word
between : (way : Way) (at i f : ℕ) → sooner way at i ≡ true → sooner way i f ≡ true → f / 64 ≡ at / 64 → i / 64 ≡ at / 64
between Forward at i f p q e = let p' = ltb-true at i p in let q' = ltb-true i f q in omega arith
between Backward at i f p q e = let p' = ltb-true i at p in let q' = ltb-true f i q in omega arith

-- the order of the places of a word is that of its bits
same_word : (way : Way) (i f : ℕ) → i / 64 ≡ f / 64 → sooner way i f ≡ true → sooner way (i % 64) (f % 64) ≡ true
same_word Forward i f e p = let p' = ltb-true i f p in lt-ltb (i % 64) (f % 64) (omega arith)
same_word Backward i f e p = let p' = ltb-true f i p in lt-ltb (f % 64) (i % 64) (omega arith)

of_word : (way : Way) (at j : ℕ) → j < 64 → sooner way (at % 64) j ≡ true → sooner way at (64 * (at / 64) + j) ≡ true
of_word Forward at j l p = let p' = ltb-true (at % 64) j p in lt-ltb at (64 * (at / 64) + j) (omega arith)
of_word Backward at j l p = let p' = ltb-true j (at % 64) p in lt-ltb (64 * (at / 64) + j) at (omega arith)

-- where the next word is, and what lies ahead
record Ahead (way : Way) (at far : ℕ) : Type 0 where
  pub small : far < 2
  pub after : (j : ℕ) → j < 64 → sooner way at (64 * far + j) ≡ true
  pub either : (i : ℕ) → i < 128 → sooner way at i ≡ true → (i / 64 ≡ at / 64) ⊎ (i / 64 ≡ far)

ahead : (way : Way) (at far : ℕ) → at < 128 → Some far ≡ next_word way (at / 64) → Ahead way at far
ahead way at far l e = go way (at / 64) refl e
  where
    go : (way : Way) (near : ℕ) → at / 64 ≡ near → Some far ≡ next_word way near → Ahead way at far
    go Forward near n e = elim (cases_lt (near + 1) 2) [
      | inr b ↦ let is : Some far ≡ None = e ∙ ap (λ t. cond t (Some (near + 1)) None) (le-ltb (near + 1) 2 b) in let z : ◌≡◌ {A = ℕ} 0 1 = cc is in absurd (omega arith)
      | inl b ↦
          let is : Some far ≡ Some (near + 1) = e ∙ ap (λ t. cond t (Some (near + 1)) None) (lt-ltb (near + 1) 2 b) in
          let f : far ≡ near + 1 = cc is in
          record {
            small = omega arith;
            after = λ j s. lt-ltb at (64 * far + j) (omega arith);
            either = λ i s p. let p' = ltb-true at i p in elim (cases_eq (i / 64) (at / 64)) [ inl same ↦ inl same | inr other ↦ inr (omega arith) ];
          }
    ]
    go Backward zero n e = let z : ◌≡◌ {A = ℕ} 0 1 = cc e in absurd (omega arith)
    go Backward (suc near) n e =
        let f : far ≡ near = cc e in
        record {
          small = omega arith;
          after = λ j s. lt-ltb (64 * far + j) at (omega arith);
          either = λ i s p. let p' = ltb-true i at p in elim (cases_eq (i / 64) (at / 64)) [ inl same ↦ inl same | inr other ↦ inr (omega arith) ];
        }

-- where there is no next word, all that lies ahead is in the same one
last_word : (way : Way) (at : ℕ) → at < 128 → None ≡ next_word way (at / 64) → (i : ℕ) → i < 128 → sooner way at i ≡ true → i / 64 ≡ at / 64
last_word way at l e i s p = go way (at / 64) refl e p
  where
    go : (way : Way) (near : ℕ) → at / 64 ≡ near → None ≡ next_word way near → sooner way at i ≡ true → i / 64 ≡ at / 64
    go Forward near n e p = elim (cases_lt (near + 1) 2) [
      | inl b ↦ let is : None ≡ Some (near + 1) = e ∙ ap (λ t. cond t (Some (near + 1)) None) (lt-ltb (near + 1) 2 b) in let z : ◌≡◌ {A = ℕ} 0 1 = cc is in absurd (omega arith)
      | inr b ↦ let p' = ltb-true at i p in omega arith
    ]
    go Backward zero n e p = let p' = ltb-true i at p in omega arith
    go Backward (suc near) n e p = let z : ◌≡◌ {A = ℕ} 0 1 = cc e in absurd (omega arith)

module _ (lines : Lines) (way : Way) (at : ℕ) (at< : at < 128) where
  -- the word w tells where a scan ends, in word j
  abbrev Tells : ℕ → ℕ → Type 0
  Tells j w = (i : ℕ) → i < 64 → bit w i ≡ ends lines way (suc (64 * j + i))

  by_word : (w j i : ℕ) → Tells j w → i / 64 ≡ j → ends lines way (suc i) ≡ bit w (i % 64)
  by_word w j i tells e =
      let n : 64 * j + i % 64 ≡ i = omega arith in
      sym (tells (i % 64) (omega arith) ∙ ap (λ k. ends lines way (suc k)) n)

  -- the words of a line tell it, each of its own places
  module _ (first second mask : ℕ) (tells-first : Tells 0 first) (tells-second : Tells 1 second) (masked : (i : ℕ) → i < 64 → bit mask i ≡ sooner way (at % 64) i) where
    abbrev word : ℕ → ℕ
    word j = get_or (first ∷ (second ∷ [])) j 0

    abbrev w : ℕ
    w = word (at / 64)

    tells : (j : ℕ) → j < 2 → Tells j (word j)
    tells zero l = tells-first
    tells (suc zero) l = tells-second
    tells (suc (suc j)) l = absurd (omega arith)

    tells-own : Tells (at / 64) w
    tells-own = tells (at / 64) (omega arith)

    -- where the rest of the own word has no bit set up to some place, no scan ends
    clear_own : (i : ℕ) → i / 64 ≡ at / 64 → sooner way at i ≡ true → bit (bit_and w mask) (i % 64) ≡ false → ends lines way (suc i) ≡ false
    clear_own i e p none =
        by_word w (at / 64) i tells-own e ∙
        (elim (cases_Bool (bit w (i % 64))) [
          | inr f ↦ f
          | inl t ↦ absurd (both_ways _ none (bit_of_and w mask (i % 64) ∙ and_from _ _ t (masked (i % 64) (omega arith) ∙ same_word way at i (sym e) p)))
        ])

    pub in_own : (f : ℕ) → f < 64 → bit (bit_and w mask) f ≡ true → ((i : ℕ) → i < 64 → sooner way i f ≡ true → bit (bit_and w mask) i ≡ false) → First lines at way (64 * (at / 64) + f)
    in_own f l is none =
        let parts = and_parts _ _ (sym (bit_of_and w mask f) ∙ is) in
        record {
          within = omega arith;
          after = of_word way at f l (sym (masked f l) ∙ parts.1);
          ending = sym (tells-own f l) ∙ parts.0;
          none = λ i s p q.
              let word : i / 64 ≡ at / 64 = between way at i (64 * (at / 64) + f) p q (omega arith) in
              let bits : sooner way (i % 64) ((64 * (at / 64) + f) % 64) ≡ true = same_word way i (64 * (at / 64) + f) (omega arith) q in
              let place : (64 * (at / 64) + f) % 64 ≡ f = omega arith in
              clear_own i word p (none (i % 64) (omega arith) (subst (λ k. sooner way (i % 64) k ≡ true) place bits));
        }

    module _ (own : (i : ℕ) → i < 64 → bit (bit_and w mask) i ≡ false) where
      pub in_no_word : None ≡ next_word way (at / 64) → Next lines at way None
      in_no_word e i s p = clear_own i (last_word way at at< e i s p) p (own (i % 64) (omega arith))

      module _ (far : ℕ) (e : Some far ≡ next_word way (at / 64)) where
        tells-far : Tells far (word far)
        tells-far = tells far (ahead way at far at< e).small

        pub in_other : (f : ℕ) → f < 64 → bit (word far) f ≡ true → ((i : ℕ) → i < 64 → sooner way i f ≡ true → bit (word far) i ≡ false) → First lines at way (64 * far + f)
        in_other f l is none =
            let a = ahead way at far at< e in
            let small = a.small in
            record {
              within = omega arith;
              after = a.after f l;
              ending = sym (tells-far f l) ∙ is;
              none = λ i s p q. elim (a.either i s p) [
                | inl near ↦ clear_own i near p (own (i % 64) (omega arith))
                | inr there ↦
                    let bits : sooner way (i % 64) ((64 * far + f) % 64) ≡ true = same_word way i (64 * far + f) (omega arith) q in
                    let place : (64 * far + f) % 64 ≡ f = omega arith in
                    by_word (word far) far i tells-far there ∙ none (i % 64) (omega arith) (subst (λ k. sooner way (i % 64) k ≡ true) place bits)
              ];
            }

        pub in_neither : ((i : ℕ) → i < 64 → bit (word far) i ≡ false) → Next lines at way None
        in_neither none i s p = elim ((ahead way at far at< e).either i s p) [
          | inl near ↦ clear_own i near p (own (i % 64) (omega arith))
          | inr there ↦ by_word (word far) far i tells-far there ∙ none (i % 64) (omega arith)
        ]

-- ---- steps

abbrev apart : ℕ → ℕ → ℕ
apart at f = (at - f) + (f - at)

-- the place at which one is after so many steps
arrives : (way : Way) (at f : ℕ) → sooner way at f ≡ true → onward way (suc at) (suc (apart at f - 1)) ≡ suc f
arrives Forward at f p = let p' = ltb-true at f p in omega arith
arrives Backward at f p = let p' = ltb-true f at p in omega arith

-- a place on the way, after i + 1 steps, short of f
record Passed (way : Way) (at i : ℕ) : Type 0 where
  pub place : ℕ
  pub within : place < 128
  pub is : onward way (suc at) (suc i) ≡ suc place
  pub after : sooner way at place ≡ true

passed : (way : Way) (at f i : ℕ) → at < 128 → f < 128 → sooner way at f ≡ true → i < apart at f - 1 → (q : Passed way at i) × (sooner way q.place f ≡ true)
passed Forward at f i a b p l =
    let p' = ltb-true at f p in
    (record { place = at + suc i; within = omega arith; is = omega arith; after = lt-ltb at (at + suc i) (omega arith) }, lt-ltb (at + suc i) f (omega arith))
passed Backward at f i a b p l =
    let p' = ltb-true f at p in
    (record { place = at - suc i; within = omega arith; is = omega arith; after = lt-ltb (at - suc i) at (omega arith) }, lt-ltb f (at - suc i) (omega arith))

module _ (lines : Lines) (way : Way) (at : ℕ) (at< : at < 128) where
  module _ (f : ℕ) (first : First lines at way f) (b : Bool) (is : b ≡ bit (get_or lines.here (f / 64) 0) (f % 64)) where
    found : (answer : ℕ × Bool) → answer ≡ cond b (apart at f - 1, false) (suc (apart at f - 1), true) → Scanned lines at way answer
    found answer says =
        let there = arrives way at f first.after in
        record {
          steps = apart at f - 1;
          none = λ i l.
              let q = passed way at f i at< first.within first.after l in
              ap (ends lines way) q.0.is ∙ first.none q.0.place q.0.within q.0.after q.1;
          there = ap (ends lines way) there ∙ first.ending;
          says = says ∙ ap (λ t. cond t (apart at f - 1, false) (suc (apart at f - 1), true)) (is ∙ sym (seen_place lines.here f first.within) ∙ sym (ap (seen lines.here) there));
        }

    steps_on : (way : Way) → sooner way at f ≡ true → suc (apart at f - 1) ≡ apart at f
    steps_on Forward p = let p' = ltb-true at f p in omega arith
    steps_on Backward p = let p' = ltb-true f at p in omega arith

    -- closed there: one comes to the place before it
    pub found_closed : (n : ℕ) → n ≡ apart at f → b ≡ true → Scanned lines at way (n - 1, false)
    found_closed n e shut = found (n - 1, false) ((λ z. (e z - 1, false)) ∙ sym (ap (λ t. cond t (apart at f - 1, false) (suc (apart at f - 1), true)) shut))

    -- open there: a stop
    pub found_stop : (n : ℕ) → n ≡ apart at f → b ≡ false → Scanned lines at way (n, true)
    found_stop n e free = found (n, true) ((λ z. ((e ∙ sym (steps_on way first.after)) z, true)) ∙ sym (ap (λ t. cond t (apart at f - 1, false) (suc (apart at f - 1), true)) free))

-- a scan that comes to the end of the line is blocked there
blocked : (lines : Lines) (way : Way) (at k : ℕ) → seen lines.here (onward way (suc at) (suc k)) ≡ true → ((i : ℕ) → i < k → Passed way at i) → Next lines at way None → Scanned lines at way (k, false)
blocked lines way at k shut on next = record {
  steps = k;
  none = λ i l. let q = on i l in ap (ends lines way) q.is ∙ next q.place q.within q.after;
  there = or_left _ _ (or_left _ _ shut);
  says = sym (ap (λ t. cond t (k, false) (suc k, true)) shut);
}

pub runs_out_forward : (lines : Lines) (at : ℕ) → at < 128 → Next lines at Forward None → Scanned lines at Forward (127 - at, false)
runs_out_forward lines at l next =
    let end : suc at + suc (127 - at) ≡ suc 128 = omega arith in
    blocked lines Forward at (127 - at) (ap (seen lines.here) end ∙ seen_outside lines.here 128 (omega arith))
    (λ i b. record { place = at + suc i; within = omega arith; is = omega arith; after = lt-ltb at (at + suc i) (omega arith) })
    next

pub runs_out_backward : (lines : Lines) (at : ℕ) → at < 128 → Next lines at Backward None → Scanned lines at Backward (at, false)
runs_out_backward lines at l next =
    let end : suc at - suc at ≡ 0 = omega arith in
    blocked lines Backward at at (ap (seen lines.here) end ∙ seen_before lines.here)
    (λ i b. record { place = at - suc i; within = omega arith; is = omega arith; after = lt-ltb (at - suc i) at (omega arith) })
    next
