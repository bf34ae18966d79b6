-- A step of a straight heading moves the index of a cell by one stride as long as there is room, and leads outside where there is none.
use Rattle.std.proofs.Common.{◌≡◌, ℕ, zero, suc, ◌+◌, ◌*◌, ◌^◌, ◌<◌, false, refl, ap, arith, true≢false}
use borrow.Author.Differences.{ints}
use Rattle.std.proofs.lemmas.Nat.{mul-le}
use Rattle.floor.specs.declared.Cell.{Cell}
use Rattle.floor.specs.declared.Heading.{Heading}
use Rattle.floor.specs.declared.Heading.TheVariants.{North, NorthEast, East, SouthEast, South, SouthWest, West, NorthWest}
use Rattle.floor.specs.declared.Side.{Side}
use Rattle.floor.specs.declared.Side.TheVariants.{Left}
use Rattle.floor.specs.Plane.{Point, point, turn, diagonal, step}
use Rattle.floor.proofs.Plane.{at, both_sides}
use Rattle.source.specs.Few.{Few}
use Rattle.source.proofs.Indices.{index_below}
use Rattle.octets.specs.Reaches.{CanMove, moved, reach_of}

module _ (rows cols : ℕ) where
  abbrev pub Inside : Cell → Type 0
  Inside d = (d.row < rows) × (d.col < cols)

  abbrev pub index : Cell → ℕ
  index d = d.row * cols + d.col

  pub below : (d : Cell) → Inside d → index d < rows * cols
  below d i = index_below rows cols d.row d.col i.0 i.1

  -- To either side of the heading e has the reaches of d.
  abbrev Level : Heading → Cell → Cell → Side → Type 0
  Level h d e s = reach_of rows cols e (turn s (turn s h)) ≡ reach_of rows cols d (turn s (turn s h))

  -- the cell one step from d
  pub record Next (h : Heading) (d : Cell) : Type 0 where
    pub cell : Cell
    pub is_next : point cell ≡ step h (point d)
    pub inside : Inside cell
    pub can : CanMove (reach_of rows cols d h).stride (index d)
    pub moves : moved (reach_of rows cols d h).stride (index d) ≡ index cell
    pub room : (reach_of rows cols d h).room ≡ suc (reach_of rows cols cell h).room
    pub stride : (reach_of rows cols cell h).stride ≡ (reach_of rows cols d h).stride
    pub level : (s : Side) → Level h d cell s

  -- where there is no room, a step leads outside
  pub outside : (h : Heading) → diagonal h ≡ false → (d e : Cell) → Inside d → Inside e → point e ≡ step h (point d) → (reach_of rows cols d h).room ≡ 0 → ⊥
  unfolding step
  outside North s d e i j p z = omega (arith, ints, ap (λ (x : Point). x.row) p)
  outside East s d e i j p z = omega (arith, ints, i.1, j.1, ap (λ (x : Point). x.col) p)
  outside South s d e i j p z = omega (arith, ints, i.0, j.0, ap (λ (x : Point). x.row) p)
  outside West s d e i j p z = omega (arith, ints, ap (λ (x : Point). x.col) p)
  outside NorthEast s d e i j p z = absurd (true≢false s)
  outside SouthEast s d e i j p z = absurd (true≢false s)
  outside SouthWest s d e i j p z = absurd (true≢false s)
  outside NorthWest s d e i j p z = absurd (true≢false s)

  abbrev cell : ℕ → ℕ → Cell
  cell r c = record { row = r; col = c }

  module _ (few : Few rows cols) where
    pub small : rows * cols < 2 ^ 64
    small = omega (arith, mul-le rows cols 128 128 few.0 few.1)

    -- where there is room, a step leads one stride on
    pub next : (h : Heading) → diagonal h ≡ false → (r c : ℕ) → Inside (cell r c) → 0 < (reach_of rows cols (cell r c) h).room → Next h (cell r c)
    unfolding step
    next North s zero c i l = absurd (omega arith)
    next North s (suc r) c i l = record {
      cell = cell r c;
      is_next = at (omega (arith, ints)) (omega (arith, ints));
      inside = (omega (arith, i.0), i.1);
      can = omega arith;
      moves = omega arith;
      room = refl;
      stride = refl;
      level = both_sides Left (Level North (cell (suc r) c) (cell r c)) refl refl;
    }
    next East s r c i l = record {
      cell = cell r (suc c);
      is_next = at (omega (arith, ints)) (omega (arith, ints));
      inside = (i.0, omega arith);
      can = omega (arith, small, below (cell r (suc c)) (i.0, omega arith));
      moves = omega arith;
      room = omega arith;
      stride = refl;
      level = both_sides Left (Level East (cell r c) (cell r (suc c))) refl refl;
    }
    next South s r c i l = record {
      cell = cell (suc r) c;
      is_next = at (omega (arith, ints)) (omega (arith, ints));
      inside = (omega arith, i.1);
      can = omega (arith, small, below (cell (suc r) c) (omega arith, i.1));
      moves = omega arith;
      room = omega arith;
      stride = refl;
      level = both_sides Left (Level South (cell r c) (cell (suc r) c)) refl refl;
    }
    next West s r zero i l = absurd (omega arith)
    next West s r (suc c) i l = record {
      cell = cell r c;
      is_next = at (omega (arith, ints)) (omega (arith, ints));
      inside = (i.0, omega (arith, i.1));
      can = omega arith;
      moves = omega arith;
      room = refl;
      stride = refl;
      level = both_sides Left (Level West (cell r (suc c)) (cell r c)) refl refl;
    }
    next NorthEast s r c i l = absurd (true≢false s)
    next SouthEast s r c i l = absurd (true≢false s)
    next SouthWest s r c i l = absurd (true≢false s)
    next NorthWest s r c i l = absurd (true≢false s)
