-- What the search keeps at each of its steps, over a state that is a function from places to marks.
use Rattle.std.proofs.Common.{◌≡◌, ℕ, ◌+◌, ◌<◌, ◌≤◌, Bool, ◌⊎◌, Some, Option, sym, refl, ap, ◌∙◌, subst, inl, inr, arith}
use Rattle.std.proofs.lemmas.Bool.{cases_eq}
use Rattle.floor.specs.declared.Counts.{Counts}
use Rattle.floor.specs.Tally.{none, plus, steps, blocks}
use Rattle.floor.proofs.Walks.{none_plus}
use Rattle.rate.specs.declared.Comparison.{Comparison}
use Rattle.rate.specs.Laws.{at_least, Within, Lawful}
use Rattle.rate.specs.Facts.{LessThan, Facts}
use Rattle.rate.proofs.Derived.{facts}
use Rattle.search.specs.declared.graph.Position.{Position}
use Rattle.search.specs.declared.graph.Position.TheVariants.{Start, Place}
use Rattle.search.specs.declared.graph.Edge.{Edge}
use Rattle.search.specs.declared.entry.Reached.{Reached}
use Rattle.search.specs.Chain.{most, Fits, Chain, start, step}
use Rattle.search.specs.Mark.{Mark, Unmet, Waits, Done, reached, standing, is_done, Becomes}
use Rattle.search.specs.Search.{NoDearer, Seen, Made, Followed, Search, Noted, wrote, no_gain, settled}
use Rattle.search.proofs.Marks.{same_done, same_waits, never_both, not_waits, not_done, undone_is}

module _ (n : ℕ) (out : Position → ℕ → Option Edge) (fits : (p : Position) (t : ℕ) (e : Edge) → out p t ≡ Some e → Fits n e) (order : Counts → Counts → Comparison) (law : Lawful order) where
  derived : Facts order
  derived = facts order law

  like : (x : Counts) → NoDearer order x x
  like x = ap at_least (derived.itself x)

  chain : (x y z : Counts) → NoDearer order x y → NoDearer order y z → NoDearer order x z
  chain x y z h k = law.passes z y x k h

  longer : (x z : Counts) → NoDearer order x (plus x z)
  longer x z = derived.longer x z

  -- Where a chain of counts c to z has got: z is finished, or something waits that costs no more.
  pub data Frontier (s : ℕ → Mark) (z : Position) (c : Counts) : Type 0 where
    behind : (r : Reached) → standing s z ≡ Done r → NoDearer order r.counts c → Frontier s z c
    ahead : (k : ℕ) (r : Reached) → s k ≡ Waits r → NoDearer order r.counts c → Frontier s z c

  module _ (s : ℕ → Mark) (q : Position) (base : Reached) (turn : ℕ) (i : Search out order s q base turn) where
    pub bounded : (p : Position) (r : Reached) → standing s p ≡ Done r → steps r.counts ≤ most
    bounded Start r e =
        let z : reached none Start ≡ r = same_done _ _ r refl e in
        let h : steps r.counts ≡ 0 = ap (λ x. steps x.counts) (sym z) in
        omega arith
    bounded (Place k) r e = (i.made k r (inr e)).bound

    -- The counts of the position whose edges are followed are few steps, and so are those of its next edge.
    pub few_steps : (e : Edge) → out q turn ≡ Some e → (steps base.counts ≤ most) × (steps e.counts ≤ most)
    few_steps e is = (bounded q base i.here, (fits q turn e is).few)

    pub done_chain : (p : Position) (r : Reached) → standing s p ≡ Done r → Chain out p r.counts
    done_chain Start r e = subst (λ (x : Reached). Chain out Start x.counts) (same_done _ _ r refl e) start
    done_chain (Place k) r e = i.chained k r (inr e)

  module _ (s : ℕ → Mark) (q : Position) (base : Reached) (i : Search out order s q base 8) where
    pub frontier : {z : Position} {c : Counts} → Chain out z c → blocks c ≤ most → Frontier s z c
    frontier start w = behind _ refl (like none)
    frontier (step p c t e ch one is) w = elim (frontier ch (omega arith)) [
      | behind r done cheap ↦
          let few : steps e.counts ≤ most = (fits p t e is).few in
          let b : steps r.counts ≤ most = bounded s q base 8 i p r done in
          let wr : Within (plus r.counts e.counts) = (omega arith, omega arith) in
          let wc : Within (plus c e.counts) = (omega arith, omega arith) in
          let sum : NoDearer order (plus r.counts e.counts) (plus c e.counts) = ap at_least (law.shifts c r.counts e.counts wc wr) ∙ cheap in
          let room = derived.few_steps (plus r.counts e.counts) (plus c e.counts) wr wc sum in
          let f = i.closed p r t e done (λ _. one) one is (omega arith) in
          elim f.seen [
            | inl h ↦ ahead e.to f.by h (chain _ _ _ f.cheap sum)
            | inr h ↦ behind f.by h (chain _ _ _ f.cheap sum)
          ]
      | ahead k r waits cheap ↦ ahead k r waits (chain _ _ _ cheap (longer c e.counts))
    ]

    -- q' waits, and nothing that waits is cheaper: no chain to it is.
    pub cheapest : (k : ℕ) (r : Reached) (c : Counts) → s k ≡ Waits r → ((j : ℕ) (b : Reached) → s j ≡ Waits b → NoDearer order r.counts b.counts)
        → Chain out (Place k) c → blocks c ≤ most → NoDearer order r.counts c
    cheapest k r c waits least ch w = elim (frontier ch w) [
      | behind b done cheap ↦ absurd (never_both (s k) r b waits done)
      | ahead j b w' cheap ↦ chain _ _ _ (least j b w') cheap
    ]

    -- Every place that has a cheaper chain than it is finished.
    pub passed : (k : ℕ) (r : Reached) → ((j : ℕ) (b : Reached) → s j ≡ Waits b → NoDearer order r.counts b.counts)
        → (j : ℕ) (c : Counts) → Chain out (Place j) c → blocks c ≤ most → LessThan order c r.counts → (b : Reached) × (s j ≡ Done b)
    passed k r least j c ch w dear = elim (frontier ch w) [
      | behind b done cheap ↦ (b, done)
      | ahead h b w' cheap ↦ absurd (derived.apart _ _ dear (chain _ _ _ (least h b w') cheap))
    ]

    -- Nothing waits: every place that has a chain is finished.
    pub all_done : ((j : ℕ) (b : Reached) → s j ≡ Waits b → ⊥) → (j : ℕ) (c : Counts) → Chain out (Place j) c → blocks c ≤ most → (b : Reached) × (s j ≡ Done b)
    all_done idle j c ch w = elim (frontier ch w) [
      | behind b done cheap ↦ (b, done)
      | ahead k b w' cheap ↦ absurd (idle k b w')
    ]

  -- A place that waits, than which none is cheaper, is marked finished.
  module _ (s s' : ℕ → Mark) (q : Position) (base : Reached) (i : Search out order s q base 8)
      (k : ℕ) (r : Reached) (waits : s k ≡ Waits r) (least : (j : ℕ) (b : Reached) → s j ≡ Waits b → NoDearer order r.counts b.counts)
      (new : Becomes s s' k (Done r)) where
    done_still : (p : Position) (b : Reached) → standing s p ≡ Done b → standing s' p ≡ Done b
    done_still Start b e = e
    done_still (Place j) b e = new.off j (λ same. never_both (s k) r b waits (ap s (sym same) ∙ e)) ∙ e

    seen_before : (j : ℕ) (b : Reached) → Seen s' j b → Seen s j b
    seen_before j b h = elim (cases_eq j k) [
      | inl same ↦ elim h [
        | inl w ↦ absurd (never_both (s' k) b r (ap s' (sym same) ∙ w) new.at)
        | inr f ↦ inl (ap s same ∙ waits ∙ ap Waits (same_done (s' k) r b new.at (ap s' (sym same) ∙ f)))
      ]
      | inr apart ↦ elim h [ inl w ↦ inl (sym (new.off j apart) ∙ w) | inr f ↦ inr (sym (new.off j apart) ∙ f) ]
    ]

    seen_after : (j : ℕ) (b : Reached) → Seen s j b → Seen s' j b
    seen_after j b h = elim (cases_eq j k) [
      | inl same ↦ elim h [
        | inl w ↦ inr (ap s' same ∙ new.at ∙ ap Done (same_waits (s k) r b waits (ap s (sym same) ∙ w)))
        | inr f ↦ absurd (never_both (s k) r b waits (ap s (sym same) ∙ f))
      ]
      | inr apart ↦ elim h [ inl w ↦ inl (new.off j apart ∙ w) | inr f ↦ inr (new.off j apart ∙ f) ]
    ]

    waits_before : (j : ℕ) (b : Reached) → s' j ≡ Waits b → s j ≡ Waits b
    waits_before j b w = elim (cases_eq j k) [
      | inl same ↦ absurd (never_both (s' k) b r (ap s' (sym same) ∙ w) new.at)
      | inr apart ↦ sym (new.off j apart) ∙ w
    ]

    -- what is finished is k, or was
    finished_by : (P : ℕ → Reached → Type 0) → P k r → ((j : ℕ) (b : Reached) → s j ≡ Done b → P j b) → (j : ℕ) (b : Reached) → s' j ≡ Done b → P j b
    finished_by P one others j b f = elim (cases_eq j k) [
      | inl same ↦
          let e : r ≡ b = same_done (s' k) r b new.at (ap s' (sym same) ∙ f) in
          subst (λ m. P m b) (sym same) (subst (λ x. P k x) e one)
      | inr apart ↦ others j b (sym (new.off j apart) ∙ f)
    ]

    followed_still : (b : Reached) (e : Edge) → Followed order s b e → Followed order s' b e
    followed_still b e f = record { by = f.by; seen = seen_after e.to f.by f.seen; cheap = f.cheap }

    still_closed : (p : Position) (b : Reached) (t : ℕ) (e : Edge) → standing s' p ≡ Done b → (p ≡ Place k → t < 0) → t < 8 → out p t ≡ Some e → steps (plus b.counts e.counts) ≤ most → Followed order s' b e
    still_closed Start b t e f skip one is low = followed_still b e (i.closed Start b t e f (λ _. one) one is low)
    still_closed (Place j) b t e f skip one is low = elim (cases_eq j k) [
      | inl same ↦ absurd (let z : t < 0 = skip (ap Place same) in omega arith)
      | inr apart ↦ followed_still b e (i.closed (Place j) b t e (sym (new.off j apart) ∙ f) (λ _. one) one is low)
    ]

    pub taken : Search out order s' (Place k) r 0
    taken = record {
      here = new.at;
      top = finished_by (λ j b. NoDearer order b.counts r.counts) (like r.counts) (λ j b f. i.ordered k j r b waits f);
      made = λ j b h. let m = i.made j b (seen_before j b h) in
          record { base = m.base; done = done_still b.from m.base m.done; turn = m.turn; one_of = m.one_of; edge = m.edge; is = m.is; to = m.to; sum = m.sum; bound = m.bound };
      chained = λ j b h. i.chained j b (seen_before j b h);
      closed = still_closed;
      ordered = λ j m a b w f. finished_by (λ _ x. NoDearer order x.counts a.counts) (least j a (waits_before j a w)) (λ h x g. i.ordered j h a x (waits_before j a w) g) m b f;
      best = λ j b c f. finished_by (λ h x. Chain out (Place h) c → blocks c ≤ most → NoDearer order x.counts c) (λ ch w. cheapest s q base i k r c waits least ch w) (λ h x g ch w. i.best h x c g ch w) j b f;
      passed = λ j c ch w dear. let p = passed s q base i k r least j c ch w dear in (p.0, done_still (Place j) p.0 p.1);
    }

  same_position : (p q : Position) → (p ≡ q) ⊎ (p ≡ q → ⊥)
  same_position Start Start = inl refl
  same_position Start (Place k) = inr (λ e. let z : ◌≡◌ {A = ℕ} 0 1 = cc in omega arith)
  same_position (Place j) Start = inr (λ e. let z : ◌≡◌ {A = ℕ} 0 1 = cc in omega arith)
  same_position (Place j) (Place k) = elim (cases_eq j k) [
    | inl e ↦ inl (ap Place e)
    | inr ne ↦ inr (λ e. ne (let z : j ≡ k = cc in z))
  ]

  -- The edge of this turn, if there is one within the most, has been followed.
  pub onward : (s : ℕ → Mark) (q : Position) (base : Reached) (turn : ℕ) → Search out order s q base turn
      → ((e : Edge) → out q turn ≡ Some e → steps (plus base.counts e.counts) ≤ most → Followed order s base e) → Search out order s q base (turn + 1)
  onward s q base turn i f = record {
    here = i.here;
    top = i.top;
    made = i.made;
    chained = i.chained;
    ordered = i.ordered;
    best = i.best;
    passed = i.passed;
    closed = λ p b t e done sofar one is low. elim (cases_eq t turn) [
      | inl same ↦ elim (same_position p q) [
        | inl pq ↦
            let eb : base ≡ b = same_done (standing s q) base b i.here (ap (standing s) (sym pq) ∙ done) in
            let is' : out q turn ≡ Some e = (λ h. out (sym pq h) (sym same h)) ∙ is in
            subst (λ x. Followed order s x e) eb (f e is' (subst (λ (x : Reached). steps (plus x.counts e.counts) ≤ most) (sym eb) low))
        | inr differ ↦ i.closed p b t e done (λ pq. absurd (differ pq)) one is low
      ]
      | inr apart ↦ i.closed p b t e done (λ pq. let h : t < turn + 1 = sofar pq in omega arith) one is low
    ];
  }

  -- The edge e of this turn leads to a place that is not finished, and that it makes no dearer.
  module _ (s s' : ℕ → Mark) (q : Position) (base : Reached) (turn : ℕ) (i : Search out order s q base turn)
      (e : Edge) (one : turn < 8) (is : out q turn ≡ Some e) (low : steps (plus base.counts e.counts) ≤ most)
      (unfinished : (b : Reached) → s e.to ≡ Done b → ⊥)
      (better : (b : Reached) → s e.to ≡ Waits b → NoDearer order (plus base.counts e.counts) b.counts)
      (new : Becomes s s' e.to (Waits (reached (plus base.counts e.counts) q))) where
    done_kept : (p : Position) (b : Reached) → standing s p ≡ Done b → standing s' p ≡ Done b
    done_kept Start b f = f
    done_kept (Place j) b f = new.off j (λ same. unfinished b (ap s (sym same) ∙ f)) ∙ f

    done_was : (p : Position) (b : Reached) → standing s' p ≡ Done b → standing s p ≡ Done b
    done_was Start b f = f
    done_was (Place j) b f = sym (new.off j (λ same. never_both (s' e.to) _ b new.at (ap s' (sym same) ∙ f))) ∙ f

    -- what is seen is this place as it is now, or was seen
    seen_by : (P : ℕ → Reached → Type 0) → P e.to (reached (plus base.counts e.counts) q) → ((j : ℕ) (b : Reached) → Seen s j b → P j b) → (j : ℕ) (b : Reached) → Seen s' j b → P j b
    seen_by P here others j b h = elim (cases_eq j e.to) [
      | inl same ↦ elim h [
        | inl w ↦ subst (λ m. P m b) (sym same) (subst (λ x. P e.to x) (same_waits (s' e.to) _ b new.at (ap s' (sym same) ∙ w)) here)
        | inr f ↦ absurd (never_both (s' e.to) _ b new.at (ap s' (sym same) ∙ f))
      ]
      | inr apart ↦ elim h [ inl w ↦ others j b (inl (sym (new.off j apart) ∙ w)) | inr f ↦ others j b (inr (sym (new.off j apart) ∙ f)) ]
    ]

    followed_kept : (b : Reached) (a : Edge) → Followed order s b a → Followed order s' b a
    followed_kept b a f = elim (cases_eq a.to e.to) [
      | inl same ↦ elim f.seen [
        | inl w ↦ record { by = reached (plus base.counts e.counts) q; seen = inl (ap s' same ∙ new.at); cheap = chain _ _ _ (better f.by (ap s (sym same) ∙ w)) f.cheap }
        | inr g ↦ absurd (unfinished f.by (ap s (sym same) ∙ g))
      ]
      | inr apart ↦ record { by = f.by; seen = elim f.seen [ inl w ↦ inl (new.off a.to apart ∙ w) | inr g ↦ inr (new.off a.to apart ∙ g) ]; cheap = f.cheap }
    ]

    kept_made : (j : ℕ) (b : Reached) → Made out s j b → Made out s' j b
    kept_made j b m = record { base = m.base; done = done_kept b.from m.base m.done; turn = m.turn; one_of = m.one_of; edge = m.edge; is = m.is; to = m.to; sum = m.sum; bound = m.bound }

    was_made : Made out s' e.to (reached (plus base.counts e.counts) q)
    was_made = record { base = base; done = done_kept q base i.here; turn = turn; one_of = one; edge = e; is = is; to = refl; sum = refl; bound = low }

    before_edge : Search out order s' q base turn
    before_edge = record {
      here = done_kept q base i.here;
      top = λ j b f. i.top j b (done_was (Place j) b f);
      made = seen_by (Made out s') was_made (λ j b h. kept_made j b (i.made j b h));
      chained = seen_by (λ j b. Chain out (Place j) b.counts) (step q base.counts turn e (done_chain s q base turn i q base i.here) one is) i.chained;
      closed = λ p b t a done sofar h g l. followed_kept b a (i.closed p b t a (done_was p b done) sofar h g l);
      ordered = λ j m a b w f.
          let g = done_was (Place m) b f in
          elim (cases_eq j e.to) [
            | inl same ↦
                let x = same_waits (s' e.to) _ a new.at (ap s' (sym same) ∙ w) in
                subst (λ (y : Reached). NoDearer order b.counts y.counts) x (chain _ _ _ (i.top m b g) (longer base.counts e.counts))
            | inr apart ↦ i.ordered j m a b (sym (new.off j apart) ∙ w) g
          ];
      best = λ j b c f. i.best j b c (done_was (Place j) b f);
      passed = λ j c ch w dear. let p = i.passed j c ch w dear in (p.0, done_kept (Place j) p.0 p.1);
    }

    pub noted : Search out order s' q base (turn + 1)
    noted = onward s' q base turn before_edge (λ a is' _.
        let ea : e ≡ a = (let h : Some e ≡ Some a = sym is ∙ is' in cc) in
        subst (λ x. Followed order s' base x) ea (record { by = reached (plus base.counts e.counts) q; seen = inl new.at; cheap = like _ }))

  none_least : (c : Counts) → NoDearer order none c
  none_least c = subst (λ x. NoDearer order none x) (none_plus c) (longer none c)

  -- Nothing is seen yet.
  pub begins : (s : ℕ → Mark) → ((k : ℕ) → s k ≡ Unmet) → Search out order s Start (reached none Start) 0
  begins s clean = record {
    here = refl;
    top = λ k r f. absurd (not_done (s k) r (clean k) f);
    made = λ k r h. absurd (unseen k r h);
    chained = λ k r h. absurd (unseen k r h);
    closed = first_closed;
    ordered = λ k j r b w f. absurd (not_done (s j) b (clean j) f);
    best = λ k r c f. absurd (not_done (s k) r (clean k) f);
    passed = λ k c ch w dear. absurd (derived.apart _ _ dear (none_least c));
  }
    where
      unseen : (k : ℕ) (r : Reached) → Seen s k r → ⊥
      unseen k r h = elim h [ inl w ↦ not_waits (s k) r (clean k) w | inr f ↦ not_done (s k) r (clean k) f ]

      first_closed : (p : Position) (b : Reached) (t : ℕ) (e : Edge) → standing s p ≡ Done b → (p ≡ Start → t < 0) → t < 8 → out p t ≡ Some e → steps (plus b.counts e.counts) ≤ most → Followed order s b e
      first_closed Start b t e f skip one is low = absurd (let z : t < 0 = skip refl in omega arith)
      first_closed (Place k) b t e f skip one is low = absurd (not_done (s k) b (clean k) f)

  -- An edge need not be noted to a place that was seen and costs no more.
  pub seen_cheaper : (s : ℕ → Mark) (q : Position) (base : Reached) (turn : ℕ) (e : Edge) (r : Reached) → Search out order s q base turn → out q turn ≡ Some e → Seen s e.to r
      → NoDearer order r.counts (plus base.counts e.counts) → Search out order s q base (turn + 1)
  seen_cheaper s q base turn e r i is seen cheap = onward s q base turn i (λ a is' low.
      let ea : e ≡ a = (let h : Some e ≡ Some a = sym is ∙ is' in cc) in
      subst (λ x. Followed order s base x) ea (record { by = r; seen = seen; cheap = cheap }))

  pub seen_finished : (s : ℕ → Mark) (q : Position) (base : Reached) (turn : ℕ) (e : Edge) (r : Reached) → Search out order s q base turn → out q turn ≡ Some e → s e.to ≡ Done r
      → steps (plus base.counts e.counts) ≤ most → Search out order s q base (turn + 1)
  seen_finished s q base turn e r i is f low = seen_cheaper s q base turn e r i is (inr f) (chain _ _ _ (i.top e.to r f) (longer base.counts e.counts))

  -- An edge that would lead too far need not be noted.
  pub too_far : (s : ℕ → Mark) (q : Position) (base : Reached) (turn : ℕ) (e : Edge) → Search out order s q base turn → out q turn ≡ Some e → most < steps (plus base.counts e.counts) → Search out order s q base (turn + 1)
  too_far s q base turn e i is far = onward s q base turn i (λ a is' low.
      let ea : e ≡ a = (let h : Some e ≡ Some a = sym is ∙ is' in cc) in
      let near : steps (plus base.counts e.counts) ≤ most = subst (λ (x : Edge). steps (plus base.counts x.counts) ≤ most) (sym ea) low in
      absurd (let y : ⊥ = omega arith in y))

  -- The edge of this turn has been noted.
  pub follow : (s s' : ℕ → Mark) (q : Position) (base : Reached) (turn : ℕ) (e : Edge) → Search out order s q base turn → turn < 8 → out q turn ≡ Some e
      → steps (plus base.counts e.counts) ≤ most → Noted order s s' e.to (reached (plus base.counts e.counts) q) → Search out order s' q base (turn + 1)
  follow s s' q base turn e i one is low (wrote unfinished better new) = noted s s' q base turn i e one is low unfinished better new
  follow s s' q base turn e i one is low (no_gain same r w c) = subst (λ x. Search out order x q base (turn + 1)) (sym same) (seen_cheaper s q base turn e r i is (inl w) c)
  follow s s' q base turn e i one is low (settled same r f) = subst (λ x. Search out order x q base (turn + 1)) (sym same) (seen_finished s q base turn e r i is f low)

pub noted_finished : (order : Counts → Counts → Comparison) (s s' : ℕ → Mark) (p : ℕ) (new : Reached) → Noted order s s' p new → ◌≡◌ {A = ℕ → Bool} (λ k. is_done (s' k)) (λ k. is_done (s k))
noted_finished order s s' p new (wrote unfinished better b) = λ i k. each k i
  where
    each : (k : ℕ) → is_done (s' k) ≡ is_done (s k)
    each k = elim (cases_eq k p) [
      | inl e ↦ ap (λ x. is_done (s' x)) e ∙ ap is_done b.at ∙ sym (undone_is (s p) unfinished) ∙ ap (λ x. is_done (s x)) (sym e)
      | inr ne ↦ ap is_done (b.off k ne)
    ]
noted_finished order s s' p new (no_gain same r w c) = λ i k. is_done (same i k)
noted_finished order s s' p new (settled same r f) = λ i k. is_done (same i k)
