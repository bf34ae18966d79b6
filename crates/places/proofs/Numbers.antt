-- A place is known by its number, and an open point by its cell.
use Rattle.std.proofs.Common.{◌≡◌, ℕ, ◌+◌, ◌*◌, ◌/◌, ◌%◌, ◌<◌, true, Some, None, Option, sym, ap, ◌∙◌, subst, mul_comm, arith}
use Rattle.std.proofs.lemmas.Nat.{div-mul-add, mod-mul-add, div-add-mod', mod_below, mul-le}
use Rattle.std.proofs.lemmas.Bool.{and_parts, and_from, eqb-true, eq-eqb}
use Rattle.floor.specs.declared.Cell.{Cell}
use Rattle.floor.specs.declared.Heading.{Heading}
use Rattle.floor.specs.declared.Heading.TheVariants.{North}
use Rattle.floor.specs.Plane.{point, number, heading}
use Rattle.floor.specs.Places.{Position, start, place, spot, place_number}
use Rattle.floor.proofs.Numbers.{numbered, number_below, heading_at}
use Rattle.floor.proofs.Cells.{cell_known}
use Rattle.search.specs.declared.graph.Position as graph
use Rattle.search.specs.declared.graph.Position.TheVariants.{Start, Place}
use Rattle.places.specs.Leaps.{cell_of, heading_of, stands, same_cell}

-- ---- cells

pub same_point : {c d : Cell} → c.row ≡ d.row → c.col ≡ d.col → c ≡ d
same_point p q = λ i. record { row = p i; col = q i }

pub same_cell_is : (c d : Cell) → same_cell c d ≡ true → c ≡ d
same_cell_is c d e = let h = and_parts _ _ e in same_point (eqb-true c.row d.row h.0) (eqb-true c.col d.col h.1)

pub same_cell_from : (c d : Cell) → c ≡ d → same_cell c d ≡ true
same_cell_from c d e = and_from _ _ (eq-eqb c.row d.row (ap (λ z. z.row) e)) (eq-eqb c.col d.col (ap (λ z. z.col) e))

-- ---- places

-- the heading that is found, if one is
abbrev known : Option Heading → Heading
known o = elim o as (λ _. Heading) [ Some h ↦ h | None ↦ North ]

module _ (cols : ℕ) (c : Cell) (h : Heading) where
  eighth : place_number cols c h / 8 ≡ c.row * cols + c.col
  eighth = ap (λ n. (n + number h) / 8) (mul_comm 8 (c.row * cols + c.col)) ∙ div-mul-add (c.row * cols + c.col) 8 (number h) (number_below h)

  pub cell_back : c.col < cols → cell_of cols (place_number cols c h) ≡ c
  cell_back l =
      same_point
      (ap (λ n. n / cols) eighth ∙ div-mul-add c.row cols c.col l)
      (ap (λ n. n % cols) eighth ∙ mod-mul-add c.row cols c.col l)

  pub heading_back : heading_of (place_number cols c h) ≡ h
  heading_back =
      let e : place_number cols c h % 8 ≡ number h = ap (λ n. (n + number h) % 8) (mul_comm 8 (c.row * cols + c.col)) ∙ mod-mul-add (c.row * cols + c.col) 8 (number h) (number_below h) in
      ap (λ n. known (heading n)) e ∙ ap known (numbered h)

  pub number_fits : (rows : ℕ) → c.row < rows → c.col < cols → place_number cols c h < 8 * (rows * cols)
  number_fits rows r l =
      let m = mul-le (c.row + 1) cols rows cols (omega arith) (omega arith) in
      let f = number_below h in
      omega arith

-- the number of a heading by its number
named : (r : ℕ) → r < 8 → number (known (heading r)) ≡ r
named r l = let h = heading_at r l in subst (λ k. number (known (heading k)) ≡ k) h.1 (ap (λ o. number (known o)) (numbered h.0))

pub number_back : (cols k : ℕ) → place_number cols (cell_of cols k) (heading_of k) ≡ k
number_back cols k =
    let a : k / 8 / cols * cols + k / 8 % cols ≡ k / 8 = div-add-mod' (k / 8) cols in
    let b : k / 8 * 8 + k % 8 ≡ k = div-add-mod' k 8 in
    let c : number (heading_of k) ≡ k % 8 = named (k % 8) (mod_below k 8 (omega arith)) in
    omega arith

-- the heading of arrival, where a position is a place
abbrev pub facing : Position → Heading
facing (start x) = North
facing (place x h) = h

-- a position of the graph is known by where it stands
pub position_known : (cols : ℕ) (s : Cell) (q : graph.Position) (x : Cell) (h : Heading) → stands cols s q ≡ place (point x) h → q ≡ Place (place_number cols x h)
position_known cols s Start x h e = absurd (let z : ◌≡◌ {A = ℕ} 0 1 = cc in omega arith)
position_known cols s (Place k) x h e =
    let c : cell_of cols k ≡ x = cell_known (ap spot e) in
    let g : heading_of k ≡ h = ap facing e in
    ap Place (sym (number_back cols k) ∙ (λ i. place_number cols (c i) (g i)))
