-- Walking back: each label put right hands its seed on to the cell a step back, and a walk that ends leaves none.
use Rattle.std.proofs.Common.{◌≡◌, ℕ, ◌-◌, ◌<◌, ◌≤◌, Bool, true, ◌⊎◌, List, [], ◌∷◌, ◌++◌, length, Some, None, sym, ap, ◌∙◌, subst, inl, inr, arith}
use borrow.Author.Differences.{ints}
use Rattle.std.proofs.lemmas.List.{append_assoc}
use Rattle.floor.specs.declared.Cell.{Cell}
use Rattle.floor.specs.declared.Heading.{Heading}
use Rattle.floor.specs.declared.Heading.TheVariants.{North, NorthEast, East, SouthEast, South, SouthWest, West, NorthWest}
use Rattle.floor.specs.declared.Side.TheVariants.{Left, Right}
use Rattle.floor.specs.Plane.{Point, point, number, turn, opposite, diagonal, step}
use Rattle.floor.specs.Plans.{opens}
use Rattle.floor.specs.Steps.{Stepped}
use Rattle.floor.proofs.Numbers.{number_below, number_same}
use Rattle.source.specs.Few.{Few}
use Rattle.table.specs.Layout.{plan_of, needed}
use Rattle.table.specs.Equations.{live, label_of_point, due, Holds, HoldsBut, Seed, seed, Mended, Relabelled, Mends, Written}
use Rattle.table.proofs.Spoiled.{quiet_step, loud_step, settled}
use Rattle.table.proofs.Places.{Inside, inside_from, Off, on_or_off, off_holds, label_put, label_kept, relabelled_put, relabelled_none, relabelled_on, same_plan}

module _ (rows cols : ℕ) where
  pub mends_none : (a : List ℕ) (ss : List Seed) → Mends rows cols a ss a ss
  mends_none a ss = record { leaves = λ w m. m; kept = relabelled_none rows cols a }

  pub mends_on : (a b c : List ℕ) (ss ts us : List Seed) → Mends rows cols a ss b ts → Mends rows cols b ts c us → Mends rows cols a ss c us
  mends_on a b c ss ts us p q = record { leaves = λ w m. q.leaves w (p.leaves w m); kept = relabelled_on rows cols a b c p.kept q.kept }

  -- other seeds may wait meanwhile
  pub mends_beside : (a b : List ℕ) (ss ts us : List Seed) → Mends rows cols a ss b ts → Mends rows cols a (ss ++ us) b (ts ++ us)
  mends_beside a b ss ts us p = record {
    leaves = λ w m. subst (Mended rows cols b) (sym (append_assoc ts us w)) (p.leaves (us ++ w) (subst (Mended rows cols a) (append_assoc ss us w) m));
    kept = p.kept;
  }

  -- a seed at which the equation holds
  pub mends_settled : (a : List ℕ) (x : Point) (h : Heading) → Holds (opens (plan_of rows cols a)) (label_of_point rows cols a) x h → Mends rows cols a (seed x h ∷ []) a []
  unfolding Mended
  mends_settled a x h k = record {
    leaves = λ w m. settled (opens (plan_of rows cols a)) (label_of_point rows cols a) x h w k m;
    kept = relabelled_none rows cols a;
  }

  pub mends_off : (a : List ℕ) (x : Point) (h : Heading) → Off rows cols x → Mends rows cols a (seed x h ∷ []) a []
  mends_off a x h off = mends_settled a x h (off_holds rows cols a x h off)

  -- a step that leads to no cell leads off the plan
  pub off_end : Few rows cols → (c : Cell) (h : Heading) → Stepped c h None → Off rows cols (step h (point c))
  off_end few c h none = elim (on_or_off rows cols (step h (point c))) [
    | inr off ↦ off
    | inl on ↦ absurd (none on.cell (omega (arith, on.inside.in_rows, few.0)) (omega (arith, on.inside.in_cols, few.1)) on.is_cell)
  ]

  -- ---- one label written

  module _ (a b : List ℕ) (c : Cell) (h : Heading) (fits : needed rows cols ≤ length a) (written : Written rows cols a c h b) where
    abbrev new_label : ℕ
    new_label = due (opens (plan_of rows cols a)) (label_of_point rows cols a) (point c) h

    inside : Inside rows cols c
    inside = inside_from rows cols c written.within

    only_labels : Relabelled rows cols a b
    only_labels = subst (Relabelled rows cols a) (sym written.put) (relabelled_put rows cols a c inside fits h new_label)

    abbrev free : Point → Bool
    free = opens (plan_of rows cols a)

    same_free : opens (plan_of rows cols b) ≡ free
    same_free = ap opens (same_plan rows cols a b only_labels)

    put : label_of_point rows cols b (point c) h ≡ new_label
    put = ap (λ l. label_of_point rows cols l (point c) h) written.put ∙ label_put rows cols a c inside fits h new_label

    kept : (y : Point) (g : Heading) → (y ≡ point c → g ≡ h → ⊥) → label_of_point rows cols b y g ≡ label_of_point rows cols a y g
    kept y g n =
        ap (λ l. label_of_point rows cols l y g) written.put ∙
        label_kept rows cols a c inside fits (number h) new_label (omega (arith, number_below h)) y g (λ e f. n e (number_same g h f))

    -- nobody beside looks at the label, or it stayed live or dead
    abbrev pub Unseen : Type 0
    Unseen = (diagonal h ≡ true) ⊎ (live (label_of_point rows cols a (point c) h) ≡ live new_label)

    -- its seed goes a step back
    pub mends_back : Unseen → Mends rows cols a (seed (point c) h ∷ []) b (seed (step (opposite h) (point c)) h ∷ [])
    unfolding Mended
    mends_back q = record {
      leaves = λ w m. subst (λ f. HoldsBut f (label_of_point rows cols b) (seed (step (opposite h) (point c)) h ∷ w)) (sym same_free)
          (quiet_step free (label_of_point rows cols a) (label_of_point rows cols b) (point c) h put kept
          (elim q [ inl d ↦ inl d | inr e ↦ inr (e ∙ sym (ap live put)) ]) w m);
      kept = only_labels;
    }

    -- and two more begin, where it is looked at
    pub mends_seen : Mends rows cols a (seed (point c) h ∷ []) b
        (seed (step (opposite (turn Left h)) (point c)) (turn Left h) ∷ seed (step (opposite (turn Right h)) (point c)) (turn Right h) ∷ seed (step (opposite h) (point c)) h ∷ [])
    unfolding Mended
    mends_seen = record {
      leaves = λ w m. subst (λ f. HoldsBut f (label_of_point rows cols b)
          (seed (step (opposite (turn Left h)) (point c)) (turn Left h) ∷ seed (step (opposite (turn Right h)) (point c)) (turn Right h) ∷ seed (step (opposite h) (point c)) h ∷ w))
          (sym same_free) (loud_step free (label_of_point rows cols a) (label_of_point rows cols b) (point c) h put kept w m);
      kept = only_labels;
    }

  -- ---- walks end

  -- how far a heading leads from a cell inside
  unfoldable pub ahead_of : Heading → Cell → ℕ
  ahead_of North c = c.row
  ahead_of NorthEast c = c.row
  ahead_of East c = cols - c.col
  ahead_of SouthEast c = rows - c.row
  ahead_of South c = rows - c.row
  ahead_of SouthWest c = rows - c.row
  ahead_of West c = c.col
  ahead_of NorthWest c = c.row

  pub ahead_less : (h : Heading) (c d : Cell) → Inside rows cols c → Stepped c h (Some d) → ahead_of h d < ahead_of h c
  unfolding ahead_of step
  ahead_less North c d i e = omega (arith, ints, ap (λ (y : Point). y.row) e)
  ahead_less NorthEast c d i e = omega (arith, ints, ap (λ (y : Point). y.row) e)
  ahead_less East c d i e = omega (arith, ints, ap (λ (y : Point). y.col) e)
  ahead_less SouthEast c d i e = omega (arith, ints, ap (λ (y : Point). y.row) e)
  ahead_less South c d i e = omega (arith, ints, ap (λ (y : Point). y.row) e)
  ahead_less SouthWest c d i e = omega (arith, ints, ap (λ (y : Point). y.row) e)
  ahead_less West c d i e = omega (arith, ints, ap (λ (y : Point). y.col) e)
  ahead_less NorthWest c d i e = omega (arith, ints, ap (λ (y : Point). y.row) e)
