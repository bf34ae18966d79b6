-- Idea: each question is answered yes or no by its numbers, and the legs are looked through from the first, until one has a count above the limit.
use Rattle.std.proofs.Common.{◌≡◌, ℕ, suc, ◌+◌, ◌-◌, ◌<◌, ◌≤◌, ◌⊎◌, List, [], ◌∷◌, length, get_or, take, Some, None, Option, refl, ap, ◌∙◌, subst, inl, inr, arith}
use Rattle.std.specs.List.{All}
use Rattle.std.proofs.lemmas.Bool.{cases_lt}
use Rattle.std.proofs.lemmas.Bool.Decides.{nat_tests}
use Rattle.std.proofs.lemmas.List.Elements.{All-nil, All-cons}
use Rattle.floor.specs.declared.Counts.{Counts}
use Rattle.floor.specs.Tally.{none}
use Rattle.rate.specs.Laws.{limit, Within}
use Rattle.listing.specs.declared.millimetres.Refusal.{Refusal}
use Rattle.listing.specs.declared.millimetres.Refusal.TheVariants as one
use Rattle.listing.specs.declared.lines.ListingRefusal.{ListingRefusal}
use Rattle.listing.specs.declared.lines.ListingRefusal.TheVariants.{LegCount, ShortBuffer, Side, Count}
use Rattle.listing.specs.Millimetres.{refusal}
use Rattle.listing.specs.Lines.{or_later, first_refused, listing_refusal}
use Rattle.listing.specs.Faulty.{OfLoop, Ready, OfCell, Above, Faulty, Faultless}
use Rattle.listing.proofs.Listings.{legs_asked}

within_or_above : (x : Counts) → Within x ⊎ Above x
within_or_above x = elim (cases_lt limit x.straight) [
  | inl h ↦ inr (inl h)
  | inr h ↦ elim (cases_lt limit x.diagonal) [ inl k ↦ inr (inr k) | inr k ↦ inl (h, k) ]
]

of_cell_or_not : (s : ℕ) → OfCell s ⊎ ((s < 1) ⊎ (2000 < s))
of_cell_or_not s = elim (cases_lt s 1) [
  | inl h ↦ inr (inl h)
  | inr h ↦ elim (cases_lt 2000 s) [ inl k ↦ inr (inr k) | inr k ↦ inl (record { some = h; most = k }) ]
]

wrong_side : (s : ℕ) (x : Counts) → (s < 1) ⊎ (2000 < s) → refusal s x ≡ Some one.Side
wrong_side s x (inl h) = grind (arith, nat_tests)
wrong_side s x (inr h) = grind (arith, nat_tests)

right_leg : (s : ℕ) (x : Counts) → 1 ≤ s → s ≤ 2000 → x.straight ≤ limit → x.diagonal ≤ limit → refusal s x ≡ None
right_leg s x a b f g = grind (arith, nat_tests)

wrong_leg : (s : ℕ) (x : Counts) → 1 ≤ s → s ≤ 2000 → Above x → refusal s x ≡ Some one.Count
wrong_leg s x a b (inl h) = grind (arith, nat_tests)
wrong_leg s x a b (inr h) = grind (arith, nat_tests)

-- with a wrong side any leg answers the same
side_told : (s k : ℕ) (legs : List Counts) → 2 ≤ length legs → (s < 1) ⊎ (2000 < s) → first_refused s k legs ≡ Some Side
side_told s k [] some wrong = absurd (omega arith)
side_told s k (x ∷ xs) some wrong = ap (λ (o : Option Refusal). or_later k o (first_refused s (k + 1) xs)) (wrong_side s x wrong)

module _ (s : ℕ) (cell : OfCell s) where
  -- the first leg with a count above the limit is refused, where the legs are counted from k
  record Refused (k : ℕ) (legs : List Counts) : Type 0 where
    pub i : ℕ
    pub told : first_refused s k legs ≡ Some (Count (k + i))
    pub inside : i < length legs
    pub above : Above (get_or legs i none)
    pub before : All Within (take i legs)

  look_through : (k : ℕ) (legs : List Counts) → ((first_refused s k legs ≡ None) × All Within legs) ⊎ Refused k legs
  look_through k [] = inl (refl, All-nil Within)
  look_through k (x ∷ xs) =
      let later = first_refused s (k + 1) xs in
      elim (within_or_above x) [
        | inl fine ↦
            let passed = ap (λ (o : Option Refusal). or_later k o later) (right_leg s x cell.some cell.most fine.0 fine.1) in
            elim (look_through (k + 1) xs) [
              | inl all ↦ inl (passed ∙ all.0, All-cons Within x xs fine all.1)
              | inr r ↦
                  let number : k + 1 + r.i ≡ k + suc r.i = omega arith in
                  let within = r.inside in
                  inr (record {
                    i = suc r.i;
                    told = passed ∙ r.told ∙ ap (λ (n : ℕ). Some (Count n)) number;
                    inside = omega arith;
                    above = r.above;
                    before = All-cons Within x (take r.i xs) fine r.before;
                  })
            ]
        | inr above ↦
            let number : k ≡ k + 0 = omega arith in
            inr (record {
              i = 0;
              told = ap (λ (o : Option Refusal). or_later k o later) (wrong_leg s x cell.some cell.most above) ∙ ap (λ (n : ℕ). Some (Count n)) number;
              inside = omega arith;
              above = above;
              before = All-nil Within;
            })
      ]

-- what is answered, and what it says
judged : (s : ℕ) (legs : List Counts) (room : ℕ) → ((listing_refusal s legs room ≡ None) × Faultless s legs room) ⊎ ((e : ListingRefusal) × (listing_refusal s legs room ≡ Some e) × Faulty s legs room e)
judged s legs room = elim (cases_lt (length legs) 2) [
  | inl h ↦ inr (LegCount, grind (arith, nat_tests), inl h)
  | inr two ↦ elim (cases_lt 64 (length legs)) [
    | inl h ↦ inr (LegCount, grind (arith, nat_tests), inr h)
    | inr few ↦
        let loop : OfLoop legs = record { two = two; few = few } in
        elim (cases_lt room 4096) [
          | inl h ↦ inr (ShortBuffer, grind (arith, nat_tests), (loop, h))
          | inr bytes ↦
              let ready : Ready legs room = record { loop = loop; bytes = bytes } in
              let asked = legs_asked s legs room two few bytes in
              elim (of_cell_or_not s) [
                | inr wrong ↦ inr (Side, asked ∙ side_told s 1 legs two wrong, (ready, wrong))
                | inl cell ↦ elim (look_through s cell 1 legs) [
                  | inl all ↦ inl (asked ∙ all.0, record { ready = ready; cell = cell; counts = all.1 })
                  | inr r ↦
                      let inside = r.inside in
                      let back : r.i ≡ 1 + r.i - 1 = omega arith in
                      inr (
                        Count (1 + r.i),
                        asked ∙ r.told,
                        (
                          ready,
                          cell,
                          record {
                            from = omega arith;
                            to = omega arith;
                            above = subst (λ (i : ℕ). Above (get_or legs i none)) back r.above;
                            before = subst (λ (i : ℕ). All Within (take i legs)) back r.before;
                          },
                        ),
                      )
                ]
              ]
        ]
  ]
]

-- what is refused is faulty
pub faulty : (s : ℕ) (legs : List Counts) (room : ℕ) (e : ListingRefusal) → listing_refusal s legs room ≡ Some e → Faulty s legs room e
faulty s legs room e told = elim (judged s legs room) [
  | inl fine ↦ let none = fine.0 in absurd (let z : ◌≡◌ {A = ℕ} 0 1 = cc in omega arith)
  | inr f ↦ let other = f.1 in let same : f.0 ≡ e = cc in subst (Faulty s legs room) same f.2
]

-- and what is not has no fault
pub faultless : (s : ℕ) (legs : List Counts) (room : ℕ) → listing_refusal s legs room ≡ None → Faultless s legs room
faultless s legs room told = elim (judged s legs room) [
  | inl fine ↦ fine.1
  | inr f ↦ let other = f.1 in absurd (let z : ◌≡◌ {A = ℕ} 0 1 = cc in omega arith)
]
